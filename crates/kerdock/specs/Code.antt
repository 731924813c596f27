-- The Z4 Kerdock code of one degree d: messages, and their words of N = 2 ^ d symbols modulo 4.
--   row         one degree's line of the table: h, the first traces, the recurrence
--   ring_trace  the trace of r ^ j, in the ring
--   t           the same as a number
--   digit       a base-4 digit of a message: digit 0 is e, digit k + 1 is L(k)
--   symbol      the word of a message, index by index
--   place       the place of an index
--   size        N
--   messages    how many messages there are
use Rattle.std.specs.Prelude.{ℕ, zero, suc, ◌+◌, ◌-◌, ◌*◌, ◌/◌, ◌%◌, ◌^◌, List, [], ◌∷◌, slice_index}
use Rattle.kerdock.specs.Ring.{power, total}

-- A line of the table. All lists are lowest first; coefficients are modulo 4.
pub record Row : Type 0 where
  pub degree : ℕ
  -- h, below its leading 1
  pub h : List ℕ
  -- t(0), .., t(d-1)
  pub first : List ℕ
  -- the coefficients of t(j), .., t(j+d-1) in t(j+d)
  pub rule : List ℕ

-- N, the number of indices
abbrev pub size : Row → ℕ
size row = 2 ^ row.degree

-- N - 1, after which the traces repeat
abbrev pub period : Row → ℕ
period row = 2 ^ row.degree - 1

-- messages are the numbers below this
abbrev pub messages : Row → ℕ
messages row = 4 * size row * size row

-- the trace of r ^ j: the sum of r ^ (j × 2 ^ i) for i below d
abbrev pub ring_trace : Row → ℕ → List ℕ
ring_trace row j = total row.h (λ i. power row.h (j * 2 ^ i)) row.degree

-- t(j), the number that this element is
unfoldable pub t : Row → ℕ → ℕ
t row j = slice_index (ring_trace row j) 0

-- f 0 + .. + f (n - 1)
abbrev pub sum_to : (ℕ → ℕ) → ℕ → ℕ
sum_to f zero = 0
sum_to f (suc n) = sum_to f n + f n

-- the base-4 digit k of a message
abbrev pub digit : ℕ → ℕ → ℕ
digit m k = m / 4 ^ k % 4

-- The trace rule: e at index 0, and at index j + 1 e plus the sum over k of L(k) × t(j + k).
unfoldable pub symbol : Row → ℕ → ℕ → ℕ
symbol row m zero = digit m 0
symbol row m (suc j) = (digit m 0 + sum_to (λ k. digit m (suc k) * t row (j + k)) row.degree) % 4

-- The place of an index: 0 for index 0, and for index j + 1 the number whose bit k is t(j + k) modulo 2.
unfoldable pub place : Row → ℕ → ℕ
place row zero = 0
place row (suc j) = sum_to (λ k. 2 ^ k * (t row (j + k) % 2)) row.degree

-- The sum of two messages of a row: digit by digit modulo 4, without carry.
abbrev pub sum_of : Row → ℕ → ℕ → ℕ
sum_of row m v = sum_to (λ k. 4 ^ k * ((digit m k + digit v k) % 4)) (suc row.degree)

-- f 0, .., f (n - 1) as a list
abbrev pub listed : (ℕ → ℕ) → ℕ → List ℕ
listed f zero = []
listed f (suc n) = f 0 ∷ listed (λ k. f (suc k)) n

-- λ, the ring element with the coefficients L(0), .., L(d-1) of a message
abbrev pub leader : Row → ℕ → List ℕ
leader row m = listed (λ k. digit m (suc k)) row.degree
