use Rattle.kerdock.proofs.Fills.{all_zeros}
use Rattle.kerdock.proofs.books.CodeBook.blank.Goals as goal

pub returns : goal.returns
returns c = λ k. (all_zeros 127 k, all_zeros 128 k)
