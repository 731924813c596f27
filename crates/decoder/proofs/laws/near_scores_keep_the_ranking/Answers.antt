use Rattle.decoder.proofs.Rankings.{near_scores}
use Rattle.decoder.proofs.laws.near_scores_keep_the_ranking.Goals as goal

pub returns : goal.returns
returns c = near_scores
