use Rattle.bay.proofs.Living.{deals}
use Rattle.bay.proofs.laws.steps_are_dealings.Goals as goal

pub returns : goal.returns
returns c = deals
