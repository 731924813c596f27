-- What is shown of every row of the table.
--   Sound      the facts of one row that everything above the table rests on
--   Published  the word by the relative trace in the ring, as the code is published
use Rattle.std.specs.Prelude.{◌≡◌, ℕ, suc, ◌+◌, ◌*◌, ◌%◌, ◌<◌, ◌≤◌, length, slice_index}
use Rattle.kerdock.specs.Ring.{zeros, number, plus, power, combination, frobenius, product, relative}
use Rattle.kerdock.specs.Code.{Row, size, period, ring_trace, t, sum_to, digit, symbol, place, leader}

pub record Sound (row : Row) : Type 0 where
  pub some : 1 < row.degree
  pub few : row.degree ≤ 7
  -- as many coefficients, first traces and recurrence coefficients as the degree says
  pub coefficients : length row.h ≡ row.degree
  pub begins : length row.first ≡ row.degree
  pub rules : length row.rule ≡ row.degree
  pub rule_small : (k : ℕ) → slice_index row.rule k < 4
  -- h of r is 0: r is a root
  pub root : plus (combination row.h row.h (power row.h)) (power row.h row.degree) ≡ zeros row.h
  -- the Frobenius map squares every power of r
  pub squares : (k : ℕ) → frobenius row.h (power row.h k) ≡ power row.h (2 * k)
  -- the trace of every power is a number, the first are the table's, the recurrence gives the others, and they repeat
  pub numbers : (j : ℕ) → ring_trace row j ≡ number row.h (t row j)
  pub symbols : (j : ℕ) → t row j < 4
  pub first_is : (k : ℕ) → k < row.degree → slice_index row.first k ≡ t row k
  pub follows : (j : ℕ) → t row (j + row.degree) ≡ sum_to (λ k. slice_index row.rule k * t row (j + k)) row.degree % 4
  pub repeats : (j : ℕ) → t row (j + period row) ≡ t row j
  -- each number below N is the place of exactly one index
  pub within : (i : ℕ) → i < size row → place row i < size row
  pub onto : (p : ℕ) → p < size row → (i : ℕ) × (i < size row) × (place row i ≡ p)
  pub apart : (i k : ℕ) → i < size row → k < size row → place row i ≡ place row k → i ≡ k

-- With λ the ring element whose coefficients are L(0) to L(d-1): the relative trace of λ × r ^ j is a number, and the
-- symbol at index j + 1 is e plus that number.
pub record Published (row : Row) : Type 0 where
  pub numbers : (m j : ℕ) →
      relative row.h row.degree (product row.h (leader row m) (power row.h j))
      ≡ number row.h (slice_index (relative row.h row.degree (product row.h (leader row m) (power row.h j))) 0)
  pub symbols : (m j : ℕ) →
      symbol row m (suc j)
      ≡ (digit m 0 + slice_index (relative row.h row.degree (product row.h (leader row m) (power row.h j))) 0) % 4
