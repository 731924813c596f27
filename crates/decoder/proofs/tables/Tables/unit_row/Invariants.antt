-- The array has its length, every entry is a symbol, of a lawful book those below p are the leader's, and those from p on are still 0.
use Rattle.std.proofs.Common.{◌≡◌, ℕ, ◌^◌, ◌<◌, ◌≤◌, length, get_or}
use Rattle.kerdock.specs.Code.{Row, symbol}
use Rattle.kerdock.specs.Sound.{Sound}
use Rattle.kerdock.specs.Books.{Lawful}
use Rattle.decoder.specs.Cosets.{message}
use Rattle.decoder.proofs.tables.Tables.unit_row.Given as goal

abbrev pub invariant-loop-p : goal.invariant-loop-p
invariant-loop-p l = record {
  long : length l.unit ≡ 128;
  small : (p : ℕ) → get_or l.unit p 0 < 4;
  is : (row : Row) → Sound row → row.degree ≡ l.self.degree → Lawful row l.book → (p : ℕ) → p < l.p → get_or l.unit p 0 ≡ symbol row (message row 0 (2 ^ l.k) 0) (get_or l.self.at p 0);
  rest : (p : ℕ) → l.p ≤ p → get_or l.unit p 0 ≡ 0;
}
