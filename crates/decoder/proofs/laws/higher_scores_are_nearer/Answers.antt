use Rattle.decoder.proofs.Distances.{nearest}
use Rattle.decoder.proofs.laws.higher_scores_are_nearer.Goals as goal

pub returns : goal.returns
returns c = λ row _. nearest row
