use Rattle.bay.proofs.ShutRuns.{denied_by_one}
use Rattle.bay.proofs.laws.shut_bays_deny.Goals as goal

pub returns : goal.returns
returns c = denied_by_one
