-- Scores: what a word gathers from receptions. A sample stands here by its meaning alone, so that one statement serves every
-- kind of samples, and two kinds together.
--   Reception  samples by index, each by its meaning
--   score      a message's score over one reception
--   scores     the same over several: the scores add
--   Added      one reception reads the sum of others
--   Turned     a reception turned forward along a word
--   distance   the squared distance of a word from a complex reception at an amplitude
--   distances  the same over several: the distances add
use Rattle.std.specs.Prelude.{◌≡◌, ℕ, zero, suc, ◌+◌, ◌%◌, ◌<◌, List, [], ◌∷◌, ℤ, pos, negsuc, ◌+ℤ◌, ◌-ℤ◌, ◌*ℤ◌, neg_ℤ, slice_index_or}
use Rattle.samples.specs.Meaning.{Meaning, reads, silence, over}
use Rattle.kerdock.specs.Code.{Row, size, symbol}

abbrev pub Reception : Type 0
Reception = List Meaning

-- the sum over all indices of the reading at the word's symbol
unfoldable pub score : Row → Reception → ℕ → ℤ
score row r m = over (size row) (λ i. reads (slice_index_or r i silence) (symbol row m i))

abbrev pub scores : Row → List Reception → ℕ → ℤ
scores row [] m = pos 0
scores row (r ∷ rs) m = score row r m +ℤ scores row rs m

-- the sum of the readings of one symbol at one index
abbrev pub readings : List Reception → ℕ → ℕ → ℤ
readings [] i s = pos 0
readings (r ∷ rs) i s = reads (slice_index_or r i silence) s +ℤ readings rs i s

-- x reads, at each index below n and each symbol, the sum of what the receptions read
abbrev pub Added : ℕ → List Reception → Reception → Type 0
Added n rs x = (i s : ℕ) → i < n → s < 4 → reads (slice_index_or x i silence) s ≡ readings rs i s

-- the second reception is the first, turned forward along the word of v: the reading of symbol s stands at s plus the word's symbol
abbrev pub Turned : Row → ℕ → Reception → Reception → Type 0
Turned row v r x =
    (i s : ℕ) → i < size row → s < 4 → reads (slice_index_or x i silence) ((s + symbol row v i) % 4) ≡ reads (slice_index_or r i silence) s

-- a complex sample: symbol 2 reads the opposite of symbol 0, and symbol 3 that of symbol 1
pub record IsComplex (x : Meaning) : Type 0 where
  pub opposite0 : x.read2 ≡ neg_ℤ x.read0
  pub opposite1 : x.read3 ≡ neg_ℤ x.read1

-- the point that a symbol stands for: (1, 0), (0, 1), (-1, 0), (0, -1)
abbrev pub point_re : ℕ → ℤ
point_re zero = pos 1
point_re (suc zero) = pos 0
point_re (suc (suc zero)) = negsuc 0
point_re (suc (suc (suc n))) = pos 0

abbrev pub point_im : ℕ → ℤ
point_im zero = pos 0
point_im (suc zero) = pos 1
point_im (suc (suc zero)) = pos 0
point_im (suc (suc (suc n))) = negsuc 0

abbrev pub square : ℤ → ℤ
square z = z *ℤ z

-- (re - g a)² + (im - g b)²: a complex sample's re is its reading of symbol 0, its im that of symbol 1
abbrev pub far : ℕ → ℕ → Meaning → ℤ
far g s x = square (x.read0 -ℤ (pos g *ℤ point_re s)) +ℤ square (x.read1 -ℤ (pos g *ℤ point_im s))

unfoldable pub distance : Row → ℕ → Reception → ℕ → ℤ
distance row g r m = over (size row) (λ i. far g (symbol row m i) (slice_index_or r i silence))

abbrev pub distances : Row → ℕ → List Reception → ℕ → ℤ
distances row g [] m = pos 0
distances row g (r ∷ rs) m = distance row g r m +ℤ distances row g rs m
