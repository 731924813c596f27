-- The samples below i are read.
use Rattle.std.proofs.Common.{◌≡◌, ℕ, ◌+◌, ◌*◌, ◌<◌}
use Rattle.reception_file.specs.Pairs.{part_in}
use Rattle.reception_file.specs.Pick.{sample_at}
use Rattle.reception_file.proofs.picking.read_samples.Given as goal

abbrev pub invariant-loop-i : goal.invariant-loop-i
invariant-loop-i g l = (n k : ℕ) → n < l.i → k < g.S.Stored.width → g.S.Stored.part (sample_at g.S.Sample g.S.Stored l.memory n) k ≡ part_in l.parts (n * g.S.Stored.width + k)
