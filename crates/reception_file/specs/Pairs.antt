-- The parts of a file as pairs of bytes, the high one first.
--
-- Glossary
--   pair_part   the part that two bytes stand for
--   part_in     the part of a number in a list of pairs
--   PairsOf     pairs are those of the parts of a file
use Rattle.std.specs.Prelude.{◌≡◌, ℕ, ◌+◌, ◌*◌, ◌<◌, List, [], length, ℤ, slice_index, slice_index_or}
use Rattle.reception_file.specs.Layout.{signed, part_at}

abbrev pub pair_part : List ℕ → ℤ
pair_part p = signed (256 * slice_index p 0 + slice_index p 1)

abbrev pub part_in : List (List ℕ) → ℕ → ℤ
part_in ps j = pair_part (slice_index_or ps j [])

abbrev pub PairsOf : List ℕ → List (List ℕ) → Type 0
PairsOf bs ps = (j : ℕ) → j < length ps → part_in ps j ≡ part_at bs j
