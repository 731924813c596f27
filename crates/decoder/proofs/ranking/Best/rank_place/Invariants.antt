use Rattle.std.proofs.Common.{◌≡◌, ℕ, ◌+◌, ◌<◌, ◌≤◌, ℤ}
use Rattle.samples.specs.Kind.{limit}
use Rattle.decoder.specs.Visits.{Ranked, Apart, Here, times}
use Rattle.decoder.proofs.ranking.Best.rank_place.Given as goal

abbrev pub invariant-loop-symbol : goal.invariant-loop-symbol
invariant-loop-symbol g l =
    let m = g.S.Sample in
    let k = l.symbol-index in record {
      turned : l.x ≡ times m k l.initial.x;
      ranked : (n : ℕ) (f : ℕ → ℤ) (key : ℕ → ℕ) (t : ℕ) → Ranked n f key t l.initial.self → Apart n key → (m.means l.initial.x).size ≤ limit →
          ((e : ℕ) → e < 4 → Here n f key t l.base (m.means l.initial.x) e) → Ranked n f key (t + k) l.self;
    }
