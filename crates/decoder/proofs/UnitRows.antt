-- The leader of a coset 2 ^ k is the traces from k on, and that of the coset 0 is 0 everywhere.
use Rattle.std.proofs.Common.{◌≡◌, ℕ, zero, suc, ◌+◌, ◌-◌, ◌*◌, ◌%◌, ◌^◌, ◌<◌, ◌≤◌, get_or, sym, refl, ap, ◌∙◌, mod-eq_of_lt, one-mul, zero-mul, arith}
use native.Mathlib.Nat.{zero-div}
use lib.Bits.{bit_and}
use Rattle.kerdock.specs.Code.{Row, period, t, digit, symbol}
use Rattle.kerdock.specs.Sound.{Sound}
use Rattle.kerdock.specs.Books.{Lawful}
use Rattle.kerdock.specs.declared.books.CodeBook.{CodeBook}
use Rattle.kerdock.proofs.Sums.{sum_none, sum_one}
use Rattle.kerdock.proofs.Digits.{bit_here, bit_elsewhere}
use Rattle.kerdock.proofs.Symbols.{symbol_first, symbol_after}
use Rattle.decoder.specs.Cosets.{message, bit}
use Rattle.decoder.proofs.Cosets.{message_digit}
use Rattle.decoder.proofs.Writes.{low_bits}

-- the digit L(l) of a leader is bit l of its coset
leader_digit : (row : Row) (u l : ℕ) → l < row.degree → digit (message row 0 u 0) (suc l) ≡ bit u l
leader_digit row u l b =
    let d = message_digit row 0 u 0 (suc l) (omega arith) (omega arith) in
    let n = zero-div (2 ^ l) in omega arith

-- a leader's digit e is 0
leader_first : (row : Row) (u : ℕ) → digit (message row 0 u 0) 0 ≡ 0
leader_first row u = message_digit row 0 u 0 0 (omega arith) (omega arith)

-- at index 0 a leader has the symbol 0
pub leader_start : (row : Row) (u i : ℕ) → i ≡ 0 → symbol row (message row 0 u 0) i ≡ 0
leader_start row u i e =
    let m = message row 0 u 0 in
    let f = leader_first row u in
    let g = symbol_first row m i e in
    let d = symbol_first row m 0 refl in omega arith

-- at index j + 1 the leader of 2 ^ k has the trace j + k
pub unit_after : (row : Row) → Sound row → (k i : ℕ) → k < row.degree → 0 < i → symbol row (message row 0 (2 ^ k) 0) i ≡ t row (i - 1 + k)
unit_after row s k i b h =
    let m = message row 0 (2 ^ k) 0 in
    let f : ℕ → ℕ = λ l. digit m (suc l) * t row (i - 1 + l) in
    let here : f k ≡ t row (i - 1 + k) =
    ap (λ (x : ℕ). x * t row (i - 1 + k)) (leader_digit row (2 ^ k) k b ∙ bit_here k) ∙ one-mul (t row (i - 1 + k)) in
    let other : (l : ℕ) → l < row.degree → (l ≡ k → ⊥) → f l % 4 ≡ 0 =
    λ l c n. ap (λ (x : ℕ). (x * t row (i - 1 + l)) % 4) (leader_digit row (2 ^ k) l c ∙ bit_elsewhere k l n) ∙ ap (λ (x : ℕ). x % 4) (zero-mul (t row (i - 1 + l))) in
    let one = sum_one 4 f row.degree k b other in
    let e = leader_first row (2 ^ k) in
    let small = s.symbols (i - 1 + k) in
    let after = symbol_after row m i h in omega arith

-- the leader of coset 0 is 0 everywhere
pub none_led : (row : Row) (i : ℕ) → symbol row (message row 0 0 0) i ≡ 0
none_led row zero = leader_start row 0 0 refl
none_led row (suc j) =
    let m = message row 0 0 0 in
    let f : ℕ → ℕ = λ l. digit m (suc l) * t row (suc j - 1 + l) in
    let none = sum_none 4 f row.degree (λ l c.
    ap (λ (x : ℕ). (x * t row (suc j - 1 + l)) % 4) (leader_digit row 0 l c ∙ ap (λ (x : ℕ). x % 2) (zero-div (2 ^ l))) ∙ ap (λ (x : ℕ). x % 4) (zero-mul (t row (suc j - 1 + l)))) in
    let e = leader_first row 0 in
    let after = symbol_after row m (suc j) (omega arith) in omega arith

module _ (row : Row) (sound : Sound row) (book : CodeBook) (lawful : Lawful row book) where
  -- a trace of the first period, as a lawful book has it
  pub trace_read : (j : ℕ) → j < period row → bit_and (get_or book.traces j 0) 3 ≡ t row j
  trace_read j h =
      low_bits (get_or book.traces j 0) ∙ ap (λ (x : ℕ). x % 4) (lawful.traces j h) ∙ mod-eq_of_lt (sound.symbols j)

  -- a trace of the second period, read round
  pub trace_round : (j : ℕ) → period row ≤ j → j - period row < period row → bit_and (get_or book.traces (j - period row) 0) 3 ≡ t row j
  trace_round j h c =
      let e : j - period row + period row ≡ j = omega arith in
      trace_read (j - period row) c ∙ sym (sound.repeats (j - period row)) ∙ ap (t row) e
