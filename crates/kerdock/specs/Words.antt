-- Laws of the words of one row.
--   Words  what holds of the words of every sound row
use Rattle.std.specs.Prelude.{◌≡◌, ℕ, suc, ◌+◌, ◌*◌, ◌/◌, ◌%◌, ◌^◌, ◌<◌}
use Rattle.kerdock.specs.Code.{Row, size, messages, digit, symbol, place, sum_of}

pub record Words (row : Row) : Type 0 where
  pub small : (m i : ℕ) → symbol row m i < 4
  -- the word of a sum of messages is the sum of their words, index by index
  pub adds : (m v i : ℕ) → symbol row (sum_of row m v) i ≡ (symbol row m i + symbol row v i) % 4
  pub sum_within : (m v : ℕ) → sum_of row m v < messages row
  -- at the index whose place is 2 ^ k, a symbol modulo 2 is e + L(k) modulo 2
  pub odd_at : (m i k : ℕ) → i < size row → k < row.degree → place row i ≡ 2 ^ k → symbol row m i % 2 ≡ (digit m 0 + digit m (suc k)) % 2
  -- at that index the upper bit of L(k) adds 2 to the symbol of the message n that has m's e and the lower bits of m's L
  pub even_at : (m n i k : ℕ) → i < size row → k < row.degree → place row i ≡ 2 ^ k → digit n 0 ≡ digit m 0
      → ((l : ℕ) → l < row.degree → digit n (suc l) ≡ digit m (suc l) % 2)
      → symbol row m i ≡ (symbol row n i + 2 * (digit m (suc k) / 2)) % 4
  -- a message in range is known by its digits
  pub by_digits : (m n : ℕ) → m < messages row → n < messages row → ((k : ℕ) → k < suc row.degree → digit m k ≡ digit n k) → m ≡ n
  -- different messages have different words
  pub apart : (m n : ℕ) → m < messages row → n < messages row → ((i : ℕ) → i < size row → symbol row m i ≡ symbol row n i) → m ≡ n
