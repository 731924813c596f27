use Rattle.std.proofs.Common.{ℕ, ◌<◌, ◌≤◌}
use Rattle.samples.specs.Sizes.{seen_size}
use Rattle.samples.proofs.sizes.first_above.Given as goal

abbrev pub invariant-loop-i : goal.invariant-loop-i
invariant-loop-i g l = (k : ℕ) → k < l.i → seen_size g.S.Sample l.samples k ≤ l.limit
