-- Symbols and digits as the code works them out.
use Rattle.std.proofs.Common.{◌≡◌, ℕ, zero, suc, ◌+◌, ◌-◌, ◌*◌, ◌%◌, ◌<◌, sym, ap, div-one, arith}
use Rattle.kerdock.specs.Code.{Row, t, sum_to, digit, symbol}

pub digit_first : (m : ℕ) → m % 4 ≡ digit m 0
digit_first m = ap (λ (x : ℕ). x % 4) (sym (div-one m))

pub symbol_first : (row : Row) (m i : ℕ) → i ≡ 0 → m % 4 ≡ symbol row m i
unfolding symbol
symbol_first row m zero e = digit_first m
symbol_first row m (suc i) e = absurd (omega arith)

pub symbol_after : (row : Row) (m i : ℕ) → 0 < i →
    (digit m 0 + sum_to (λ k. digit m (suc k) * t row (i - 1 + k)) row.degree) % 4 ≡ symbol row m i
unfolding symbol
symbol_after row m zero h = absurd (omega arith)
symbol_after row m (suc j) h =
    let e : suc j - 1 ≡ j = omega arith in
    ap (λ (x : ℕ). (digit m 0 + sum_to (λ k. digit m (suc k) * t row (x + k)) row.degree) % 4) e
