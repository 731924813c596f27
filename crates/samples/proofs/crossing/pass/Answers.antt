use Rattle.samples.proofs.Blocks.{one_more}
use Rattle.samples.proofs.crossing.pass.Goals as goal

pub loop-n-preserved : goal.loop-n-preserved
loop-n-preserved g c = one_more g.S.Sample c.args.h c.loop-n.n c.args.w.now c.loop-n.w c.cross_block.new.w c.loop-n.invariant c.cross_block.ensures
