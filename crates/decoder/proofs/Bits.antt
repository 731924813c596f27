-- Numbers by their bits: the bits that two numbers share, a power of 2 added, and sums and numbers by their first term.
use Rattle.std.proofs.Common.{◌≡◌, ℕ, zero, suc, ◌+◌, ◌-◌, ◌*◌, ◌/◌, ◌%◌, ◌^◌, ◌<◌, ◌≤◌, min, ◌⊎◌, sym, refl, ap, ◌∙◌, subst, ap₂, inl, inr, mod-lt, mul_assoc, one-mul, mul-zero, mul-add, arith, pow_pos}
use native.Mathlib.Nat.{pow-zero, pow-succ', div-div-eq-div-mul, add-div_right, add-mul-div_left}
use lib.Bits.{bit_and, and_step, and_zero_r}
use lib.Count.{ones, ones_in, ones_step}
use Rattle.std.proofs.lemmas.Bool.{cases_lt}
use Rattle.kerdock.specs.Code.{sum_to}
use Rattle.kerdock.proofs.Sums.{sum_same}
use Rattle.kerdock.proofs.Digits.{made, power_above, bit_here, bit_elsewhere}
use Rattle.decoder.specs.Cosets.{bit}

-- a sum is its first term plus the others
pub sum_front : (f : ℕ → ℕ) (n : ℕ) → sum_to f (suc n) ≡ f 0 + sum_to (λ k. f (suc k)) n
sum_front f zero = omega arith
sum_front f (suc n) = let e = sum_front f n in omega arith

-- a factor of every term is a factor of the sum
pub sum_times : (a : ℕ) (f : ℕ → ℕ) (n : ℕ) → sum_to (λ k. a * f k) n ≡ a * sum_to f n
sum_times a f zero = sym (mul-zero a)
sum_times a f (suc n) = let e = sum_times a f n in let p = mul-add a (sum_to f n) (f n) in omega arith

-- a number is its lowest digit plus b times the number of the others
pub made_front : (b : ℕ) (f : ℕ → ℕ) (n : ℕ) → made b f (suc n) ≡ f 0 + b * made b (λ k. f (suc k)) n
made_front b f n =
    sum_front (λ k. b ^ k * f k) n
    ∙ ap₂ ◌+◌ (rw (pow-zero b) (one-mul (f 0)))
    (sum_same _ (λ k. b * (b ^ k * f (suc k))) n (λ k h. rw (pow-succ' b k) (mul_assoc b (b ^ k) (f (suc k))))
    ∙ sum_times b (λ k. b ^ k * f (suc k)) n)

-- the bits of a half are those from bit 1 up
pub bit_half : (v k : ℕ) → bit (v / 2) k ≡ bit v (suc k)
bit_half v k = ap (λ (x : ℕ). x % 2) (div-div-eq-div-mul v 2 (2 ^ k) ∙ ap (λ (x : ℕ). v / x) (sym (pow-succ' 2 k)))

-- the lesser of two bits is their product
min_bits : (a b : ℕ) → a < 2 → b < 2 → min a b ≡ a * b
min_bits zero b p q = omega arith
min_bits (suc zero) zero p q = refl
min_bits (suc zero) (suc zero) p q = refl
min_bits (suc zero) (suc (suc b)) p q = absurd (omega arith)
min_bits (suc (suc a)) b p q = absurd (omega arith)

-- the shared ones are the shared lowest bit and the ones that the halves share
ones_halves : (v p : ℕ) → ones (bit_and v p) ≡ v % 2 * (p % 2) + ones (bit_and (v / 2) (p / 2))
ones_halves v p =
    let m = min_bits (v % 2) (p % 2) (mod-lt v (omega arith)) (mod-lt p (omega arith)) in
    let s = and_step v p in
    let l : min (v % 2) (p % 2) < 2 = omega arith in
    let y : bit_and v p % 2 ≡ v % 2 * (p % 2) = omega arith in
    let z : bit_and v p / 2 ≡ bit_and (v / 2) (p / 2) = omega arith in
    ones_step (bit_and v p) ∙ rw (y, z)

-- nothing is shared with 0
pub none_shared : (v : ℕ) → ones (bit_and v 0) ≡ 0
unfolding ones ones_in
none_shared v = rw (and_zero_r v)

-- the ones that v shares with a number of d bits, bit by bit
pub ones_shared : (d v p : ℕ) → p < 2 ^ d → ones (bit_and v p) ≡ sum_to (λ k. bit v k * bit p k) d
ones_shared zero v p h = let e : p ≡ 0 = omega arith in rw e (none_shared v)
ones_shared (suc d) v p h =
    let s = pow-succ' 2 d in
    let a : p / 2 < 2 ^ d = omega arith in
    ones_halves v p
    ∙ ap₂ ◌+◌ lowest (ones_shared d (v / 2) (p / 2) a ∙ sum_same _ _ d (λ k b. ap₂ ◌*◌ (bit_half v k) (bit_half p k)))
    ∙ sym (sum_front (λ k. bit v k * bit p k) d)
  where
    -- the lowest bits are those at 0
    lowest : v % 2 * (p % 2) ≡ bit v 0 * bit p 0
    lowest = let i : v ≡ v / 2 ^ 0 = omega arith in let j : p ≡ p / 2 ^ 0 = omega arith in ap₂ (λ (x y : ℕ). x % 2 * (y % 2)) i j

-- the bits of u with 2 ^ k added, where u has no bit k
pub bit_added : (u k l : ℕ) → bit u k ≡ 0 → bit (u + 2 ^ k) l ≡ bit u l + bit (2 ^ k) l
bit_added u k l z = pick (cases_lt k l) (cases_lt l k)
  where
    -- one more block of 2 ^ k
    one_more : (u + 2 ^ k) / 2 ^ k ≡ u / 2 ^ k + 1
    one_more = add-div_right u (pow_pos k)

    -- blocks of a higher power, by blocks of 2 ^ k
    above : (x : ℕ) → k < l → x / 2 ^ l ≡ x / 2 ^ k / 2 / 2 ^ (l - suc k)
    above x c =
        ap (λ (y : ℕ). x / y) (power_above 2 k l c)
        ∙ sym (div-div-eq-div-mul x (2 ^ k) (2 * 2 ^ (l - suc k)))
        ∙ sym (div-div-eq-div-mul (x / 2 ^ k) 2 (2 ^ (l - suc k)))

    -- above k and below it nothing changes, and bit k becomes 1
    pick : (k < l) ⊎ (l ≤ k) → (l < k) ⊎ (k ≤ l) → bit (u + 2 ^ k) l ≡ bit u l + bit (2 ^ k) l
    pick (inl c) w =
        let h : (u / 2 ^ k + 1) / 2 ≡ u / 2 ^ k / 2 = omega arith in
        let n = bit_elsewhere k l (λ e. omega arith) in
        let s : (u + 2 ^ k) / 2 ^ l ≡ u / 2 ^ l =
        above (u + 2 ^ k) c ∙ ap (λ (y : ℕ). y / 2 / 2 ^ (l - suc k)) one_more ∙ ap (λ (y : ℕ). y / 2 ^ (l - suc k)) h ∙ sym (above u c) in
        rw (s, n) (omega arith)
    pick (inr b) (inl c) =
        let n = bit_elsewhere k l (λ e. omega arith) in
        let r = 2 ^ (k - suc l) in
        let s : (u + 2 ^ k) / 2 ^ l ≡ u / 2 ^ l + 2 * r =
        ap (λ (y : ℕ). (u + y) / 2 ^ l) (power_above 2 l k c) ∙ add-mul-div_left u (2 * r) (pow_pos l) in
        rw (s, n) (omega arith)
    pick (inr b) (inr c) =
        let e : k ≡ l = omega arith in
        let n = bit_here k in
        let m = one_more in
        let g : bit (u + 2 ^ k) k ≡ bit u k + bit (2 ^ k) k = omega arith in
        subst (λ (x : ℕ). bit (u + 2 ^ k) x ≡ bit u x + bit (2 ^ k) x) e g
