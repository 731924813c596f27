-- What a reception file reads: the receptions that are handed on are those of the file, and no others.
--
-- Glossary
--   samples_at     how many samples a reception of the file has
--   sample_part    the part of a number, of one sample of one reception
--   by_symbols     what the two parts of a complex sample read for a symbol
--   file_reading   what the file reads for a symbol, at one sample of one reception, by its kind
--   Gathered       a list of receptions is exactly that of the file
use Rattle.std.specs.Prelude.{◌≡◌, ℕ, zero, suc, ◌+◌, ◌*◌, ◌<◌, cond, List, [], length, ℤ, neg_ℤ, ◌==◌, slice_index_or}
use Rattle.samples.specs.Meaning.{reads, silence}
use Rattle.decoder.specs.Scores.{Reception}
use Rattle.reception_file.specs.Layout.{at, samples_of, parts_of, part_at}

abbrev pub samples_at : List ℕ → ℕ
samples_at bs = samples_of (at bs 6)

-- The samples of all receptions are numbered through from 0, and a sample's parts stand together.
abbrev pub sample_part : List ℕ → ℕ → ℕ → ℕ → ℤ
sample_part bs r i k = part_at bs ((r * samples_at bs + i) * parts_of (at bs 5) + k)

-- Part 0 is re and part 1 is im: symbols 0 and 1 read them, and symbols 2 and 3 their opposites.
abbrev pub by_symbols : (ℕ → ℤ) → ℕ → ℤ
by_symbols part zero = part 0
by_symbols part (suc zero) = part 1
by_symbols part (suc (suc zero)) = neg_ℤ (part 0)
by_symbols part (suc (suc (suc n))) = neg_ℤ (part 1)

-- Kind 1 is the complex kind; of the other, the phase kind, each symbol reads the part of its own number.
abbrev pub file_reading : List ℕ → ℕ → ℕ → ℕ → ℤ
file_reading bs r i s = cond (at bs 5 == 1) (by_symbols (sample_part bs r i) s) (sample_part bs r i s)

-- As many receptions as the file counts, in the file's order, each with one sample for each index, and each sample reads what
-- the file reads there.
pub record Gathered (bs : List ℕ) (rs : List Reception) : Type 0 where
  pub many : length rs ≡ at bs 7
  pub long : (r : ℕ) → r < at bs 7 → length (slice_index_or rs r []) ≡ samples_at bs
  pub reads_as : (r i s : ℕ) → r < at bs 7 → i < samples_at bs → s < 4 → reads (slice_index_or (slice_index_or rs r []) i silence) s ≡ file_reading bs r i s
