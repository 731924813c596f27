-- The array has its length, every entry is an index, and of a lawful book the indices below i stand at their places.
use Rattle.std.proofs.Common.{◌≡◌, ℕ, ◌<◌, length, get_or}
use Rattle.kerdock.specs.Code.{Row, size, place}
use Rattle.kerdock.specs.Sound.{Sound}
use Rattle.kerdock.specs.Books.{Lawful}
use Rattle.decoder.proofs.tables.indices.Given as goal

abbrev pub invariant-loop-i : goal.invariant-loop-i
invariant-loop-i l = record {
  long : length l.at ≡ 256;
  below : (p : ℕ) → get_or l.at p 0 < l.n;
  found : (row : Row) → Sound row → size row ≡ l.n → Lawful row l.book → (i : ℕ) → i < l.i → get_or l.at (place row i) 0 ≡ i;
}
