-- What a kind of samples shows so that a file can hold it.
--
-- Glossary
--   code     the kind's number in a file
--   width    how many parts a sample has
--   part     the part of a number of a sample
--   put      the sample with one of its parts changed
--   laws     what ties these, as one record
use Rattle.std.specs.Prelude.{◌≡◌, ℕ, ◌<◌, ℤ, ◌≢◌}
use Rattle.reception_file.specs.Layout.{GoodKind, parts_of}

-- The whole list of what a storable kind shows.
pub record StoredLaws {S : Type 0} (code width : ℕ) (part : S → ℕ → ℤ) (put : S → ℕ → ℤ → S) : Type 0 where
  -- the number is one that a file may have, and says how many parts a sample has
  pub known : GoodKind code
  pub counted : width ≡ parts_of code
  -- put changes the part that it is told to, and no other
  pub put_same : (x : S) (k : ℕ) (v : ℤ) → k < width → part (put x k v) k ≡ v
  pub put_other : (x : S) (k j : ℕ) (v : ℤ) → k < width → j < width → (j ≢ k) → part (put x k v) j ≡ part x j
  -- samples with the same parts are the same
  pub alike : (x y : S) → ((k : ℕ) → k < width → part x k ≡ part y k) → x ≡ y
