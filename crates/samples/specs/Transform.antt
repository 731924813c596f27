-- The transform of a list of samples.
--
-- Glossary
--   place         an index of a list of samples, taken as a number in binary
--   parity v p    1 where v and p share an odd number of one bits, else 0
--   reading_at    the reading of a symbol at a place
--   summed        the sum over all places p of the sample at p, turned twice where v and p have parity 1
--   Transformed   each place v of a second list reads what is summed for v over a first
--   Fitting       the lengths that have a transform
--   loudest       the size up to which a sample is let into a transform
use Rattle.std.specs.Prelude.{◌≡◌, ℕ, ◌+◌, ◌*◌, ◌%◌, ◌<◌, ◌⊎◌, List, length, ℤ, bit_and, count_ones}
use Rattle.samples.specs.Meaning.{reads, over}
use Rattle.samples.specs.Sizes.{at, Within}
use Rattle.samples.specs.declared.sample.Sample.{Ghosts}

-- Whether two places share an odd number of one bits, as 1 or 0.
abbrev pub parity : ℕ → ℕ → ℕ
parity v p = count_ones (bit_and v p) % 2

-- The largest size that a sample may have before a transform: 128 of them stay within the limit of a kind.
abbrev pub loudest : ℕ
loudest = 524272

-- A list has a transform where its length is 8, 32 or 128.
abbrev pub Fitting : ℕ → Type 0
Fitting n = (n ≡ 8) ⊎ ((n ≡ 32) ⊎ (n ≡ 128))

module _ {S : Type 0} (m : Ghosts S) where
  -- The reading of symbol s at place p.
  abbrev pub reading_at : List S → ℕ → ℕ → ℤ
  reading_at w p s = reads (m.means (at m w p)) s

  -- What place v is to read at symbol s: a sample turned twice reads there what it read at s + 2 modulo 4.
  abbrev pub summed : List S → ℕ → ℕ → ℤ
  summed w v s = over (length w) (λ p. reading_at w p ((s + 2 * parity v p) % 4))

  -- The second list is the transform of the first.
  pub record Transformed (old new : List S) : Type 0 where
    -- there are as many samples as before
    pub long : length new ≡ length old
    -- each place reads its sum
    pub places : (v s : ℕ) → v < length old → s < 4 → reading_at new v s ≡ summed old v s
    -- no size is above the length times the largest size before
    pub sizes : (b : ℕ) → Within m b old → Within m (length old * b) new
