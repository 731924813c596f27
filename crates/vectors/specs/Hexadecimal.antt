-- Bytes as they are written in hexadecimal, two digits a byte, the high one first.
--   digit    the character of a digit: 0 to 9, then a to f
--   high     the digits of a byte
--   low
--   Writes   a text writes bytes
use Rattle.std.specs.Prelude.{◌≡◌, ℕ, ◌+◌, ◌*◌, ◌/◌, ◌%◌, ◌<◌, cond, List, length, nat_lt, slice_index}

abbrev pub digit : ℕ → ℕ
digit d = cond (nat_lt d 10) (48 + d) (87 + d)

abbrev pub high : ℕ → ℕ
high b = digit (b / 16)

abbrev pub low : ℕ → ℕ
low b = digit (b % 16)

abbrev pub Writes : List ℕ → List ℕ → Type 0
Writes text bytes =
    (length text ≡ 2 * length bytes)
    × ((k : ℕ) → k < length bytes →
    (slice_index text (2 * k) ≡ high (slice_index bytes k)) × (slice_index text (2 * k + 1) ≡ low (slice_index bytes k)))
