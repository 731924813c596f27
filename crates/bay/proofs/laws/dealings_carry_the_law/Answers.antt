use Rattle.bay.proofs.Replaying.{only_the_score}
use Rattle.bay.proofs.laws.dealings_carry_the_law.Goals as goal

pub returns : goal.returns
returns c = only_the_score
