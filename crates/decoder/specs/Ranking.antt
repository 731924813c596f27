-- The ranking of words: which word is delivered, and its lead. A relation; no way to find the word is in it.
--   OtherWord  two messages have different words
--   Ranking    a message leads all words of a row, by the scores f, with a margin
--   Leads      the same by messages; different messages have different words, so both say the same
use Rattle.std.specs.Prelude.{◌≡◌, ℕ, ◌<◌, ◌≤◌, ℤ, pos, ◌+ℤ◌, ◌≤ℤ◌, ◌≢◌}
use Rattle.kerdock.specs.Code.{Row, size, messages, symbol}

-- the words differ at some index
abbrev pub OtherWord : Row → ℕ → ℕ → Type 0
OtherWord row k m = (i : ℕ) × (i < size row) × (symbol row k i ≢ symbol row m i)

pub record Ranking (row : Row) (f : ℕ → ℤ) (m margin : ℕ) : Type 0 where
  pub within : m < messages row
  -- no word of the degree scores higher
  pub best : (k : ℕ) → k < messages row → f k ≤ℤ f m
  -- on equal scores no message is smaller
  pub smallest : (k : ℕ) → k < messages row → f k ≡ f m → m ≤ k
  -- every other word is behind by the margin at least, and one by the margin exactly
  pub behind : (k : ℕ) → k < messages row → OtherWord row k m → (f k +ℤ pos margin) ≤ℤ f m
  pub reached : (k : ℕ) × (k < messages row) × OtherWord row k m × (f k +ℤ pos margin ≡ f m)

pub record Leads (n : ℕ) (f : ℕ → ℤ) (m margin : ℕ) : Type 0 where
  pub within : m < n
  pub best : (k : ℕ) → k < n → f k ≤ℤ f m
  pub smallest : (k : ℕ) → k < n → f k ≡ f m → m ≤ k
  pub behind : (k : ℕ) → k < n → (k ≢ m) → (f k +ℤ pos margin) ≤ℤ f m
  pub reached : (k : ℕ) × (k < n) × (k ≢ m) × (f k +ℤ pos margin ≡ f m)
