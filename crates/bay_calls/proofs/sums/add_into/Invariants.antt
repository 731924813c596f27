use Rattle.std.proofs.Common.{◌≡◌, ℕ, ◌<◌, ◌≤◌, get_or}
use Rattle.bay_calls.proofs.sums.add_into.Given as goal

-- below the index the reception is added, and from there on the sums are as they were
abbrev pub invariant-loop-i : goal.invariant-loop-i
invariant-loop-i g l =
    let m = g.S.Sample in
    ((k : ℕ) → k < l.i → get_or l.sums k m.zeroed ≡ m.added (get_or l.initial.sums k m.zeroed) (get_or l.reception k m.zeroed))
    × ((k : ℕ) → l.i ≤ k → get_or l.sums k m.zeroed ≡ get_or l.initial.sums k m.zeroed)
