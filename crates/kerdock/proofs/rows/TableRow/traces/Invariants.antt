use Rattle.std.proofs.Common.{◌≡◌, ℕ, ◌<◌, get_or}
use Rattle.kerdock.specs.Code.{t}
use Rattle.kerdock.specs.Table.{row_of}
use Rattle.kerdock.proofs.rows.TableRow.traces.Given as goal

abbrev pub invariant-loop-j : goal.invariant-loop-j
invariant-loop-j l = (k : ℕ) → k < l.j → get_or l.traces k 0 ≡ t (row_of l.self.degree) k
