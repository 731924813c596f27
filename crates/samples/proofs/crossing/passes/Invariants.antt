-- The passes so far are made, and h is the half of the next block.
use Rattle.std.proofs.Common.{◌≡◌, ℕ, ◌^◌, ◌<◌, length}
use Rattle.samples.specs.Passes.{after}
use Rattle.samples.specs.Sizes.{at}
use Rattle.samples.proofs.crossing.passes.Given as goal

abbrev pub invariant-loop : goal.invariant-loop
invariant-loop g l =
    let m = g.S.Sample in
    (l.h ≡ 2 ^ l.counter)
    × ((v : ℕ) → v < length l.initial.w → at m l.w v ≡ after m l.initial.w l.counter v)
