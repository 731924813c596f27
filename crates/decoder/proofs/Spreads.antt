-- The number of a message, from the bits of u and v as base-4 digits.
use Rattle.std.proofs.Common.{◌≡◌, ℕ, zero, suc, ◌+◌, ◌*◌, ◌/◌, ◌^◌, ◌<◌, ◌≤◌, sym, ap, ◌∙◌, inl, inr, mul-zero, mul-add, mul_left_comm, arith, pow_mono}
use native.Mathlib.Nat.{div-eq_of_lt}
use Rattle.std.proofs.lemmas.Bool.{cases_lt}
use Rattle.kerdock.specs.Code.{Row, size, sum_to}
use Rattle.kerdock.proofs.Sums.{sum_same, sum_plus}
use Rattle.decoder.specs.Cosets.{bit, message}
use Rattle.decoder.proofs.Bits.{sum_times}

-- the lowest seven bits of a number, as base-4 digits
abbrev pub spread_of : ℕ → ℕ
spread_of x = sum_to (λ k. 4 ^ k * bit x k) 7

-- a number below 2 ^ d has no bit from d up
no_bit : (d x k : ℕ) → x < 2 ^ d → d ≤ k → bit x k ≡ 0
no_bit d x k h l = let p : 2 ^ d ≤ 2 ^ k = pow_mono l in let z : x / 2 ^ k ≡ 0 = div-eq_of_lt (omega arith) in omega arith

-- terms that are 0 from d up add nothing
sum_cut : (f : ℕ → ℕ) (d n : ℕ) → d ≤ n → ((k : ℕ) → d ≤ k → f k ≡ 0) → sum_to f n ≡ sum_to f d
sum_cut f d zero l z = let e : d ≡ 0 = omega arith in ap (sum_to f) (sym e)
sum_cut f d (suc n) l z =
    elim (cases_lt n d) [
      | inl a ↦ let e : suc n ≡ d = omega arith in ap (sum_to f) e
      | inr a ↦ let e = sum_cut f d n a z in let y = z n a in omega arith
    ]

-- the bits of a number below 2 ^ d, as d base-4 digits
spread_cut : (d x : ℕ) → d ≤ 7 → x < 2 ^ d → spread_of x ≡ sum_to (λ k. 4 ^ k * bit x k) d
spread_cut d x l h = sum_cut (λ k. 4 ^ k * bit x k) d 7 l (λ k b. ap (λ (y : ℕ). 4 ^ k * y) (no_bit d x k h b) ∙ mul-zero (4 ^ k))

-- the message of e, u and v
pub message_spread : (row : Row) (e u v : ℕ) → row.degree ≤ 7 → u < size row → v < size row →
    4 * (spread_of u + 2 * spread_of v) + e ≡ message row e u v
unfolding message
message_spread row e u v few a b =
    let d = row.degree in
    let p = spread_cut d u few a in
    let q = spread_cut d v few b in
    let parts : sum_to (λ k. 4 ^ k * (bit u k + 2 * bit v k)) d ≡ sum_to (λ k. 4 ^ k * bit u k) d + 2 * sum_to (λ k. 4 ^ k * bit v k) d =
    sum_same _ (λ k. 4 ^ k * bit u k + 2 * (4 ^ k * bit v k)) d (λ k l.
    mul-add (4 ^ k) (bit u k) (2 * bit v k) ∙ ap (λ (y : ℕ). 4 ^ k * bit u k + y) (mul_left_comm (4 ^ k) 2 (bit v k)))
    ∙ sum_plus (λ k. 4 ^ k * bit u k) (λ k. 2 * (4 ^ k * bit v k)) d
    ∙ ap (λ (y : ℕ). sum_to (λ k. 4 ^ k * bit u k) d + y) (sum_times 2 (λ k. 4 ^ k * bit v k) d) in
    omega arith
