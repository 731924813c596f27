use Rattle.kerdock.proofs.Published.{published}
use Rattle.kerdock.proofs.table.published_form_holds.Goals as goal

pub returns : goal.returns
returns c = published
