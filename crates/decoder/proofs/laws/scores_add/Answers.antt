use Rattle.decoder.proofs.Totals.{scores_add}
use Rattle.decoder.proofs.laws.scores_add.Goals as goal

pub returns : goal.returns
returns c = scores_add
