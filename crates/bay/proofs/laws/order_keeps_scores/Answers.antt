use Rattle.bay.proofs.Orders.{scores_shuffled}
use Rattle.bay.proofs.laws.order_keeps_scores.Goals as goal

pub returns : goal.returns
returns c = scores_shuffled
