-- What a kind of sample owes.
--
-- Glossary
--   kind      a type of samples, with a meaning for each and steps on them
--   limit     the size up to which the steps are promised to be exact
--   zeroed    the sample that the call `zero` answers
--   added     what `add` answers, by the two samples
--   turned    what `turn` answers, by the sample
--   fronted   what `front` answers, by the sample
--   laws      what ties these to the meanings, as one record
use Rattle.std.specs.Prelude.{◌≡◌, ℕ, ◌+◌, ◌%◌, ◌<◌, ◌≤◌, ℤ, pos, ◌+ℤ◌}
use Rattle.samples.specs.Meaning.{Meaning, reads}

-- The size up to which a kind's steps are exact: 128 samples of size 524,272.
abbrev pub limit : ℕ
limit = 67106816

-- The whole list of what a kind shows. Above the limit a step may answer any sample.
pub record KindLaws {S : Type 0} (means : S → Meaning) (zeroed : S) (added : S → S → S) (turned : S → S) (fronted : S → ℤ) : Type 0 where
  -- zero reads 0 at every symbol, and its size is 0
  pub zero_reads : (s : ℕ) → s < 4 → reads (means zeroed) s ≡ pos 0
  pub zero_size : (means zeroed).size ≡ 0
  -- add adds the readings symbol by symbol, and the size is at most the sum of the sizes
  pub add_reads : (a b : S) (s : ℕ) → s < 4 → (means a).size + (means b).size ≤ limit → reads (means (added a b)) s ≡ reads (means a) s +ℤ reads (means b) s
  pub add_size : (a b : S) → (means a).size + (means b).size ≤ limit → (means (added a b)).size ≤ (means a).size + (means b).size
  -- turn moves the reading of symbol s to symbol s + 1 modulo 4, and keeps the size
  pub turn_reads : (x : S) (s : ℕ) → s < 4 → (means x).size ≤ limit → reads (means (turned x)) ((s + 1) % 4) ≡ reads (means x) s
  pub turn_size : (x : S) → (means x).size ≤ limit → (means (turned x)).size ≡ (means x).size
  -- front is the reading of symbol 0
  pub front_reads : (x : S) → (means x).size ≤ limit → fronted x ≡ reads (means x) 0
