-- A bay as an opening leaves it has lived the run of no dealings.
use Rattle.bay.specs.Rules.{Opening}
use Rattle.bay.specs.Rules.Run.{Opened}
use Rattle.bay.proofs.Starting.{starts as plainly_starts}
use Rattle.bay_rules.specs.Lived.{State, plain, Lived}
use Rattle.bay_rules.specs.Steps.{Opens}

pub starts : (o : Opening) (b : State) → Opens o b → Lived o Opened b
starts o b s = record { plainly = plainly_starts o (plain b) s.plainly; book = s.book }
