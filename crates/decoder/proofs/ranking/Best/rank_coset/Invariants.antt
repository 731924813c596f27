use Rattle.std.proofs.Common.{◌≡◌, ℕ, ◌+◌, ◌*◌, ◌<◌, length, ℤ}
use Rattle.samples.specs.Kind.{limit}
use Rattle.samples.specs.Sizes.{Within}
use Rattle.samples.specs.Transform.{reading_at}
use Rattle.kerdock.specs.Code.{Row, size, messages}
use Rattle.kerdock.specs.Sound.{Sound}
use Rattle.decoder.specs.Cosets.{message}
use Rattle.decoder.specs.Visits.{Ranked, visit}
use Rattle.decoder.proofs.ranking.Best.rank_coset.Given as goal

abbrev pub invariant-loop-v : goal.invariant-loop-v
invariant-loop-v g l =
    let m = g.S.Sample in
    (row : Row) (f : ℕ → ℤ) → Sound row → length l.work ≡ size row → l.u < size row →
    Ranked (messages row) f (visit row) (4 * (l.u * size row)) l.initial.self → Within m limit l.work →
    ((v e : ℕ) → v < size row → e < 4 → f (message row e l.u v) ≡ reading_at m l.work v e) →
    Ranked (messages row) f (visit row) (4 * (l.u * size row + l.v)) l.self
