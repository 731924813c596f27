-- How far a file is written.
--
-- Glossary
--   Laid    the parts of the numbers below one are written, and all else is as it was
use Rattle.std.specs.Prelude.{◌≡◌, ℕ, ◌+◌, ◌/◌, ◌%◌, ◌<◌, List, length, take, drop, ℤ}
use Rattle.reception_file.specs.Layout.{at, place_of, raw}

pub record Laid (part : ℕ → ℤ) (j : ℕ) (before after : List ℕ) : Type 0 where
  pub long : length after ≡ length before
  pub high : (k : ℕ) → k < j → at after (place_of k) ≡ raw (part k) / 256
  pub low : (k : ℕ) → k < j → at after (place_of k + 1) ≡ raw (part k) % 256
  pub front : take 8 after ≡ take 8 before
  pub behind : drop (place_of j) after ≡ drop (place_of j) before
