-- The sums stand below p, and the row from p on is as it was.
use Rattle.std.proofs.Common.{◌≡◌, ℕ, ◌+◌, ◌%◌, ◌<◌, ◌≤◌, get_or}
use Rattle.decoder.proofs.tables.sum_of.Given as goal

abbrev pub invariant-loop-p : goal.invariant-loop-p
invariant-loop-p l = record {
  done : (p : ℕ) → p < l.p → get_or l.symbol-items p 0 ≡ (get_or l.fn.row p 0 + get_or l.unit p 0) % 4;
  rest : (p : ℕ) → l.p ≤ p → get_or l.symbol-items p 0 ≡ get_or l.fn.row p 0;
}
