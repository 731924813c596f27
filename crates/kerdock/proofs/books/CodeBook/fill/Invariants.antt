use Rattle.std.proofs.Common.{◌≡◌, ℕ, suc, ◌<◌, get_or}
use Rattle.kerdock.specs.Code.{place}
use Rattle.kerdock.specs.Table.{row_of}
use Rattle.kerdock.proofs.books.CodeBook.fill.Given as goal

abbrev pub invariant-loop-j : goal.invariant-loop-j
invariant-loop-j l = (k : ℕ) → k < l.j → get_or l.place-items k 0 ≡ place (row_of l.code.row.degree) (suc k)
