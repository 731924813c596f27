use Rattle.bay.proofs.Replaying.{carries}
use Rattle.bay.proofs.laws.runs_carry_the_law.Goals as goal

pub returns : goal.returns
returns c = carries
