use Rattle.kerdock.proofs.Words.{words}
use Rattle.kerdock.proofs.table.words_obey.Goals as goal

pub returns : goal.returns
returns c = words
