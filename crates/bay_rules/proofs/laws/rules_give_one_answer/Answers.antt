use Rattle.bay_rules.proofs.OneAnswer.{one_answer}
use Rattle.bay_rules.proofs.laws.rules_give_one_answer.Goals as goal

pub returns : goal.returns
returns c = one_answer
