-- The parts of the samples below i, and those below k of sample i, are allowed.
use Rattle.std.proofs.Common.{ℕ, ◌+◌, ◌*◌, ◌<◌, ◌≤◌, nat_abs}
use Rattle.reception_file.specs.Layout.{allowed}
use Rattle.reception_file.specs.Write.{part_of}
use Rattle.reception_file.proofs.writing.check_samples.Given as goal

abbrev pub invariant-loop-i : goal.invariant-loop-i
invariant-loop-i g l = (j : ℕ) → j < l.i * g.S.Stored.width → nat_abs (part_of g.S.Sample g.S.Stored l.samples j) ≤ allowed

abbrev pub invariant-loop-k : goal.invariant-loop-k
invariant-loop-k g l = (j : ℕ) → j < l.i * g.S.Stored.width + l.k → nat_abs (part_of g.S.Sample g.S.Stored l.samples j) ≤ allowed
