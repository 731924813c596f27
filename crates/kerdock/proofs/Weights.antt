-- Sums of digits to a base b, each times its weight, as loops build them.
use Rattle.std.proofs.Common.{◌≡◌, ℕ, zero, suc, ◌+◌, ◌*◌, ◌%◌, ◌^◌, ◌<◌, ◌≤◌, sym, refl, ap, ◌∙◌, mul_comm, mul-le-mul_left, mod-eq_of_lt, pow-suc, mul-one, mul-suc, add-one, arith, pow_pos}
use native.Mathlib.Nat.{pow-le-pow_right, one-le-pow}

-- what one more digit x of weight w, the k-th and not past the n-th, does to a number s of the digits below it
pub record Weighed (b n w s x k : ℕ) : Type 0 where
  pub light : w ≤ b ^ n
  pub within : w * x + w ≤ w * b
  pub room : s + w * x < b ^ (k + 1)
  pub next : w * b ≡ b ^ (k + 1)

pub weighed : (b n w s x k : ℕ) → w ≡ b ^ k → s < b ^ k → x < b → 0 < b → k ≤ n → Weighed b n w s x k
weighed b n w s x k e h c p d =
    let up : w * b ≡ b ^ (k + 1) = ap (λ (y : ℕ). y * b) e ∙ sym (pow-suc b k) ∙ ap (λ (y : ℕ). b ^ y) (sym (add-one k)) in
    let less : b ^ k ≤ b ^ n = pow-le-pow_right p d in
    let times : w * suc x ≤ w * b = mul-le-mul_left w c in
    let parts = mul-suc w x in
    record { light = omega arith; within = omega arith; room = omega arith; next = up }

pub bit_times : (w x : ℕ) → x < 2 → w * x ≤ w
bit_times w x h =
    let one : x ≤ 1 = omega arith in
    let p : w * x ≤ w * 1 = mul-le-mul_left w one in
    let q = mul-one w in omega arith

-- a base-4 place is two bits
pub two_bits : (k : ℕ) → 2 ^ (2 * k) ≡ 4 ^ k
two_bits zero = refl
two_bits (suc k) =
    let up : 2 * suc k ≡ suc (suc (2 * k)) = omega arith in
    let a = pow-suc 2 (suc (2 * k)) in
    let b = pow-suc 2 (2 * k) in
    let c = pow-suc 4 k in
    let before = two_bits k in
    ap (λ (x : ℕ). 2 ^ x) up ∙ (omega arith)

-- a digit moved up to its place in 32 bits
pub digit_moved : (x k : ℕ) → x < 4 → k ≤ 7 → x * 2 ^ (2 * k) % 4294967296 ≡ 4 ^ k * x
digit_moved x k h d =
    let m = weighed 4 7 (4 ^ k) 0 x k refl (one-le-pow k 4 (omega arith)) h (omega arith) d in
    let top = m.light in
    let within = m.within in
    let c = mul_comm x (4 ^ k) in
    rw (two_bits k, c) (mod-eq_of_lt (omega arith))

-- a bit moved up to its place in 8 bits
pub bit_moved : (x k : ℕ) → x < 2 → k ≤ 6 → x * 2 ^ k % 256 ≡ 2 ^ k * x
bit_moved x k h d =
    let m = weighed 2 6 (2 ^ k) 0 x k refl (pow_pos k) h (omega arith) d in
    let top = m.light in
    let within = m.within in
    let c = mul_comm x (2 ^ k) in
    rw c (mod-eq_of_lt (omega arith))
