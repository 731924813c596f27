use Rattle.std.proofs.Common.{◌≡◌, ℕ, ◌<◌, get_or}
use Rattle.kerdock.specs.Code.{symbol}
use Rattle.kerdock.specs.Table.{row_of}
use Rattle.kerdock.proofs.code.Code.write_word.Given as goal

abbrev pub invariant-loop-index : goal.invariant-loop-index
invariant-loop-index l = (i : ℕ) → i < l.index → get_or l.word i 0 ≡ symbol (row_of l.self.row.degree) l.message i
