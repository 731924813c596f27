use Rattle.bay.proofs.Whole.{law}
use Rattle.bay.proofs.laws.law_stands.Goals as goal

pub returns : goal.returns
returns c = law
