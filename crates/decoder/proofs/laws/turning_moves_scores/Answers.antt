use Rattle.decoder.proofs.Turns.{turned_scores}
use Rattle.decoder.proofs.laws.turning_moves_scores.Goals as goal

pub returns : goal.returns
returns c = turned_scores
