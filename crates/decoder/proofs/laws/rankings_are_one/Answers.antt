use Rattle.decoder.proofs.Rankings.{one_ranking}
use Rattle.decoder.proofs.laws.rankings_are_one.Goals as goal

pub returns : goal.returns
returns c = one_ranking
