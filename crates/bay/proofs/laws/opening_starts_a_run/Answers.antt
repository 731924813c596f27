use Rattle.bay.proofs.Starting.{starts}
use Rattle.bay.proofs.laws.opening_starts_a_run.Goals as goal

pub returns : goal.returns
returns c = starts
