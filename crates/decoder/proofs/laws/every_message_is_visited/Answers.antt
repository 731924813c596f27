use Rattle.decoder.proofs.VisitOrder.{visits_all}
use Rattle.decoder.proofs.laws.every_message_is_visited.Goals as goal

pub returns : goal.returns
returns c = visits_all
