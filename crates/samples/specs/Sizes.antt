-- Lists of samples: the sample and the size at an index, and the first sample that is too large.
--
-- Glossary
--   Above        an index is the first whose size is above a bound
--   at           the sample at an index
--   size_at      the size of the sample at an index
--   seen_size    that size as the call `size` answers it: the largest u32 where it is larger still
--   Within       every sample's size is at most a bound
--   FirstAbove   what is answered to the search for the first sample above a bound
use Rattle.std.specs.Prelude.{ℕ, ◌<◌, ◌≤◌, min, List, length, Some, None, Option, slice_index_or}
use Rattle.samples.specs.declared.sample.Sample.{Ghosts}

-- Of so many indices, i is the first whose size is above the bound.
pub record Above (size : ℕ → ℕ) (count bound i : ℕ) : Type 0 where
  pub inside : i < count
  pub above : bound < size i
  pub first : (k : ℕ) → k < i → size k ≤ bound

module _ {S : Type 0} (m : Ghosts S) where
  -- The sample at an index; past the end, the zero sample.
  abbrev pub at : List S → ℕ → S
  at xs k = slice_index_or xs k m.zeroed

  -- The size at an index.
  abbrev pub size_at : List S → ℕ → ℕ
  size_at xs k = (m.means (at xs k)).size

  -- The size at an index, as the call `size` answers it.
  abbrev pub seen_size : List S → ℕ → ℕ
  seen_size xs k = min (size_at xs k) 4294967295

  -- No sample is larger than the bound.
  abbrev pub Within : ℕ → List S → Type 0
  Within bound xs = (k : ℕ) → k < length xs → size_at xs k ≤ bound

  -- What a search for the first sample above the bound answers. No size is seen above 4,294,967,295, so at that
  -- bound the answer is always none.
  abbrev pub FirstAbove : ℕ → List S → Option ℕ → Type 0
  FirstAbove bound xs (Some i) = Above (seen_size xs) (length xs) bound i
  FirstAbove bound xs None = (k : ℕ) → k < length xs → seen_size xs k ≤ bound
