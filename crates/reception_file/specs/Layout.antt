-- The layout of a reception file: the bytes of a content, and the content of the bytes.
--
-- Glossary
--   at           the byte at a place, 0 past the end
--   GoodKind, GoodDegree, GoodCount   the numbers that a head may have
--   samples_of   how many samples a reception has: 2 to the degree
--   parts_of     how many parts a sample has: 2 of the complex kind, 4 of the phase kind
--   total        how many parts the whole file has
--   size         how many bytes the whole file has
--   place_of     the place of the first byte of a part, the parts numbered through from 0
--   raw          a part as a number of 16 bits, in two's complement
--   signed       the part that such a number stands for
--   head_bytes   the first eight bytes of a file
--   Lays         a list is the file of a content: the bytes of a content
--   part_at      the part of a number in a file; with bytes 5, 6 and 7: the content of the bytes
--   allowed      the largest absolute value of a part
use Rattle.std.specs.Prelude.{◌≡◌, ℕ, ◌+◌, ◌-◌, ◌*◌, ◌/◌, ◌%◌, ◌^◌, ◌<◌, ◌≤◌, cond, ◌⊎◌, List, [], ◌∷◌, length, take, ℤ, pos, negsuc, ◌==◌, nat_lt, slice_index}

abbrev pub at : List ℕ → ℕ → ℕ
at bs i = slice_index bs i

abbrev pub GoodKind : ℕ → Type 0
GoodKind k = (k ≡ 1) ⊎ (k ≡ 2)

abbrev pub GoodDegree : ℕ → Type 0
GoodDegree d = (d ≡ 3) ⊎ ((d ≡ 5) ⊎ (d ≡ 7))

abbrev pub GoodCount : ℕ → Type 0
GoodCount c = (1 ≤ c) × (c ≤ 16)

abbrev pub samples_of : ℕ → ℕ
samples_of degree = 2 ^ degree

abbrev pub parts_of : ℕ → ℕ
parts_of kind = cond (kind == 1) 2 4

abbrev pub total : ℕ → ℕ → ℕ → ℕ
total kind degree count = count * samples_of degree * parts_of kind

-- eight bytes of head, and two for each part
abbrev pub size : ℕ → ℕ → ℕ → ℕ
size kind degree count = 8 + 2 * total kind degree count

abbrev pub place_of : ℕ → ℕ
place_of j = 8 + 2 * j

-- Two's complement: a number from 0 up stands for itself, and -(n + 1) stands as 65,536 more.
abbrev pub raw : ℤ → ℕ
raw (pos n) = n
raw (negsuc n) = 65535 - n

abbrev pub signed : ℕ → ℤ
signed n = cond (nat_lt n 32768) (pos n) (negsuc (65535 - n))

-- The mark, the version, the kind, the degree and the count of receptions.
abbrev pub head_bytes : ℕ → ℕ → ℕ → List ℕ
head_bytes kind degree count = 0x4B ∷ 0x57 ∷ 0x52 ∷ 0 ∷ 1 ∷ kind ∷ degree ∷ count ∷ []

-- The bytes of a content: the head, and the parts in their order, each with its high byte first; and nothing behind them.
pub record Lays (kind degree count : ℕ) (part : ℕ → ℤ) (bs : List ℕ) : Type 0 where
  pub long : length bs ≡ size kind degree count
  pub opens : take 8 bs ≡ head_bytes kind degree count
  pub high : (j : ℕ) → j < total kind degree count → at bs (place_of j) ≡ raw (part j) / 256
  pub low : (j : ℕ) → j < total kind degree count → at bs (place_of j + 1) ≡ raw (part j) % 256

-- The content of the bytes: its kind, degree and count are bytes 5, 6 and 7, and its parts are these.
abbrev pub part_at : List ℕ → ℕ → ℤ
part_at bs j = signed (256 * at bs (place_of j) + at bs (place_of j + 1))

-- A part of -32,768 is in no file.
abbrev pub allowed : ℕ
allowed = 32767
