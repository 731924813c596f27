-- The blocks below n are crossed, and all beyond is as it was.
use Rattle.samples.proofs.Blocks.{Crossing}
use Rattle.samples.proofs.crossing.pass.Given as goal

abbrev pub invariant-loop-n : goal.invariant-loop-n
invariant-loop-n g l = Crossing g.S.Sample l.h l.n l.initial.w l.w
