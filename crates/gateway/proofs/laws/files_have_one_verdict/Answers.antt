use Rattle.gateway.proofs.OneOutcome.{one_outcome}
use Rattle.gateway.proofs.laws.files_have_one_verdict.Goals as goal

pub returns : goal.returns
returns c = one_outcome
