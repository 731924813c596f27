-- Numbers by their digits to a base b, lowest first.
use Rattle.std.proofs.Common.{◌≡◌, ℕ, zero, suc, ◌+◌, ◌-◌, ◌*◌, ◌/◌, ◌%◌, ◌^◌, ◌<◌, ◌≤◌, ◌⊎◌, sym, ap, ◌∙◌, subst, inl, inr, mod-eq_of_lt, mul_assoc, mul_comm, add_comm, zero-add, arith, pow_pos, pow-add}
use native.Mathlib.Nat.{pow-zero, pow-succ', one-le-pow, mod-one, div-eq_of_lt, div_self, mul-div_right, add-mul-div_left, add-mul-mod_self_left, mul-mod_right}
use lib.Arith.{digits_lt, mod-mul}
use lib.Pow.{pow-lt}
use Rattle.std.proofs.lemmas.Bool.{cases_lt}
use Rattle.kerdock.specs.Code.{sum_to}
use Rattle.kerdock.proofs.Sums.{sum_same}

-- the number with the digits f 0, .., f (n - 1)
abbrev pub made : ℕ → (ℕ → ℕ) → ℕ → ℕ
made b f n = sum_to (λ i. b ^ i * f i) n

-- a higher power is b times a multiple of a lower one
pub power_above : (b l k : ℕ) → l < k → b ^ k ≡ b ^ l * (b * b ^ (k - suc l))
power_above b l k h =
    let e : k ≡ l + suc (k - suc l) = omega arith in
    ap (λ (x : ℕ). b ^ x) e ∙ pow-add b l (suc (k - suc l)) ∙ ap (λ (x : ℕ). b ^ l * x) (pow-succ' b (k - suc l))

-- a number of n digits is below b ^ n
pub made_below : (b : ℕ) (f : ℕ → ℕ) (n : ℕ) → ((k : ℕ) → k < n → f k < b) → made b f n < b ^ n
made_below b f zero h = rw (pow-zero b) (omega arith)
made_below b f (suc n) h =
    let p : f n * b ^ n + made b f n < b * b ^ n = digits_lt (h n (omega arith)) (made_below b f n (λ k c. h k (omega arith))) in
    let c = mul_comm (f n) (b ^ n) in
    rw (pow-succ' b n) (omega arith)

-- the digits of a number made from digits
pub digit_made : (b : ℕ) → 0 < b → (f : ℕ → ℕ) (n k : ℕ) → k < n → ((l : ℕ) → l < n → f l < b) → made b f n / b ^ k % b ≡ f k
digit_made b z f zero k c h = absurd (omega arith)
digit_made b z f (suc n) k c h =
    elim (cases_lt k n) [
      | inl d ↦
          let r = b ^ (n - suc k) in
          let e : b ^ n * f n ≡ b ^ k * (b * (r * f n)) =
          ap (λ (x : ℕ). x * f n) (power_above b k n d) ∙ mul_assoc (b ^ k) (b * r) (f n) ∙ ap (λ (x : ℕ). b ^ k * x) (mul_assoc b r (f n)) in
          ap (λ (x : ℕ). (made b f n + x) / b ^ k % b) e
          ∙ ap (λ (x : ℕ). x % b) (add-mul-div_left (made b f n) (b * (r * f n)) (one-le-pow k b z))
          ∙ add-mul-mod_self_left (made b f n / b ^ k) b (r * f n)
          ∙ digit_made b z f n k d (λ l m. h l (omega arith))
      | inr d ↦
          let e : n ≡ k = omega arith in
          subst (λ (x : ℕ). made b f (suc n) / b ^ x % b ≡ f x) e
          (ap (λ (x : ℕ). x % b) (add-mul-div_left (made b f n) (f n) (one-le-pow n b z)
          ∙ ap (λ (x : ℕ). x + f n) (div-eq_of_lt (made_below b f n (λ l m. h l (omega arith)))) ∙ zero-add (f n))
          ∙ mod-eq_of_lt (h n (omega arith)))
    ]

-- the number made from the lowest n digits of m
pub made_mod : (b : ℕ) → 0 < b → (m n : ℕ) → made b (λ i. m / b ^ i % b) n ≡ m % b ^ n
made_mod b z m zero = rw (pow-zero b) (sym (mod-one m))
made_mod b z m (suc n) =
    ap (λ (x : ℕ). x + b ^ n * (m / b ^ n % b)) (made_mod b z m n)
    ∙ add_comm (m % b ^ n) (b ^ n * (m / b ^ n % b))
    ∙ ap (λ (x : ℕ). x + m % b ^ n) (mul_comm (b ^ n) (m / b ^ n % b))
    ∙ sym (mod-mul m z (one-le-pow n b z))
    ∙ ap (λ (x : ℕ). m % x) (sym (pow-succ' b n))

-- a number below b ^ n is known by its n digits
pub by_digits : (b : ℕ) → 0 < b → (n x y : ℕ) → x < b ^ n → y < b ^ n → ((k : ℕ) → k < n → x / b ^ k % b ≡ y / b ^ k % b) → x ≡ y
by_digits b z n x y p q h =
    sym (mod-eq_of_lt p)
    ∙ sym (made_mod b z x n)
    ∙ sum_same _ _ n (λ k c. ap (λ (a : ℕ). b ^ k * a) (h k c))
    ∙ made_mod b z y n
    ∙ mod-eq_of_lt q

-- 2 ^ k has bit k
pub bit_here : (k : ℕ) → 2 ^ k / 2 ^ k % 2 ≡ 1
bit_here k = rw (div_self (pow_pos k))

-- 2 ^ k has no other bit
pub bit_elsewhere : (k l : ℕ) → (l ≡ k → ⊥) → 2 ^ k / 2 ^ l % 2 ≡ 0
bit_elsewhere k l h = pick (cases_lt k l)
  where
    -- a larger power leaves 0, and a smaller one leaves an even number
    pick : (k < l) ⊎ (l ≤ k) → 2 ^ k / 2 ^ l % 2 ≡ 0
    pick (inl c) = rw (div-eq_of_lt (pow-lt c))
    pick (inr c) =
        let d : l < k = omega arith in
        ap (λ (x : ℕ). x / 2 ^ l % 2) (power_above 2 l k d)
        ∙ ap (λ (x : ℕ). x % 2) (mul-div_right (2 * 2 ^ (k - suc l)) (pow_pos l))
        ∙ mul-mod_right 2 (2 ^ (k - suc l))
