-- The parts below k are read.
use Rattle.std.proofs.Common.{◌≡◌, ℕ, ◌<◌}
use Rattle.reception_file.specs.Pairs.{part_in}
use Rattle.reception_file.proofs.picking.sample_from.Given as goal

abbrev pub invariant-loop-k : goal.invariant-loop-k
invariant-loop-k g l = (k : ℕ) → k < l.k → g.S.Stored.part l.sample k ≡ part_in l.parts k
