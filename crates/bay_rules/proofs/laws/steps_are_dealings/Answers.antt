use Rattle.bay_rules.proofs.Living.{deals}
use Rattle.bay_rules.proofs.laws.steps_are_dealings.Goals as goal

pub returns : goal.returns
returns c = deals
