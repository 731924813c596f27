use Rattle.decoder.proofs.CosetScores.{coset_scores}
use Rattle.decoder.proofs.laws.coset_readings_are_scores.Goals as goal

pub returns : goal.returns
returns c = coset_scores
