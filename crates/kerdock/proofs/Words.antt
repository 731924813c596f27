-- The words of a row obey the laws.
use Rattle.std.proofs.Common.{◌≡◌, ℕ, zero, suc, ◌+◌, ◌*◌, ◌/◌, ◌%◌, ◌^◌, ◌<◌, sym, refl, ap, ◌∙◌, ap₂, mod-lt, mul_assoc, add-mul, mul-add, mul_left_comm, arith, pow_pos}
use native.Mathlib.Nat.{mul-mul-mul_comm, pow-succ', mod-add-div, mod-add-mod, add-mod}
use lib.Pow.{pow-lt}
use Rattle.kerdock.specs.Code.{Row, size, messages, t, sum_to, digit, symbol, place, sum_of}
use Rattle.kerdock.specs.Sound.{Sound}
use Rattle.kerdock.specs.Words.{Words}
use Rattle.kerdock.proofs.Sums.{sum_same, sum_mod, sum_plus, sum_one, mod_times}
use Rattle.kerdock.proofs.Digits.{made_below, digit_made, by_digits, bit_here, bit_elsewhere}

-- the sum over k of a k times the trace of j + k
abbrev pub mixed : Row → ℕ → (ℕ → ℕ) → ℕ
mixed row j a = sum_to (λ k. a k * t row (j + k)) row.degree

-- a symbol is a number modulo 4
symbol_small : (row : Row) (m i : ℕ) → symbol row m i < 4
unfolding symbol
symbol_small row m zero = mod-lt _ (omega arith)
symbol_small row m (suc j) = mod-lt _ (omega arith)

-- a product by the lower bit of its second factor
pub times_bit : (a x : ℕ) → a * x ≡ a * (x % 2) + 2 * (a * (x / 2))
times_bit a x =
    ap (λ (n : ℕ). a * n) (sym (mod-add-div x 2)) ∙ mul-add a (x % 2) (2 * (x / 2)) ∙ ap (λ (n : ℕ). a * (x % 2) + n) (mul_left_comm a 2 (x / 2))

-- the digits of a sum of messages
sum_digit : (row : Row) (m v k : ℕ) → k < suc row.degree → digit (sum_of row m v) k ≡ (digit m k + digit v k) % 4
sum_digit row m v k h = digit_made 4 (omega arith) (λ l. (digit m l + digit v l) % 4) (suc row.degree) k h (λ l b. mod-lt _ (omega arith))

-- the traces mixed by the digits of a sum of messages
mixed_adds : (row : Row) (m v j : ℕ) →
    mixed row j (λ k. digit (sum_of row m v) (suc k)) % 4
    ≡ (mixed row j (λ k. digit m (suc k)) + mixed row j (λ k. digit v (suc k))) % 4
mixed_adds row m v j =
    sum_mod 4 _ (λ k. digit m (suc k) * t row (j + k) + digit v (suc k) * t row (j + k)) row.degree (λ k b.
    ap (λ (x : ℕ). (x * t row (j + k)) % 4) (sum_digit row m v (suc k) (omega arith))
    ∙ mod_times (digit m (suc k) + digit v (suc k)) (t row (j + k))
    ∙ ap (λ (x : ℕ). x % 4) (add-mul (digit m (suc k)) (digit v (suc k)) (t row (j + k))))
    ∙ ap (λ (x : ℕ). x % 4) (sum_plus (λ k. digit m (suc k) * t row (j + k)) (λ k. digit v (suc k) * t row (j + k)) row.degree)

-- the sum of two symbols, from the sum of what they are made of
sum_of_symbols : (a b x y z : ℕ) → z % 4 ≡ (x + y) % 4 → ((a + b) % 4 + z) % 4 ≡ ((a + x) % 4 + (b + y) % 4) % 4
sum_of_symbols a b x y z h =
    let e : (a + b + z) % 4 ≡ (a + x + (b + y)) % 4 = omega arith in
    mod-add-mod (a + b) 4 z ∙ e ∙ add-mod (a + x) (b + y) 4

-- the word of a sum is the sum of the words
symbol_adds : (row : Row) (m v i : ℕ) → symbol row (sum_of row m v) i ≡ (symbol row m i + symbol row v i) % 4
unfolding symbol
symbol_adds row m v zero = sum_digit row m v 0 (omega arith)
symbol_adds row m v (suc j) =
    ap (λ (x : ℕ). (x + mixed row j (λ k. digit (sum_of row m v) (suc k))) % 4) (sum_digit row m v 0 (omega arith))
    ∙ sum_of_symbols (digit m 0) (digit v 0) _ _ _ (mixed_adds row m v j)

-- a power of 4 is the square of a power of 2
four_pow : (n : ℕ) → 4 ^ n ≡ 2 ^ n * 2 ^ n
four_pow zero = refl
four_pow (suc n) =
    pow-succ' 4 n
    ∙ ap (λ (x : ℕ). 4 * x) (four_pow n)
    ∙ mul-mul-mul_comm 2 2 (2 ^ n) (2 ^ n)
    ∙ ap₂ ◌*◌ (sym (pow-succ' 2 n)) (sym (pow-succ' 2 n))

-- a message has d + 1 digits
pub messages_are : (row : Row) → messages row ≡ 4 ^ suc row.degree
messages_are row =
    mul_assoc 4 (size row) (size row) ∙ ap (λ (x : ℕ). 4 * x) (sym (four_pow row.degree)) ∙ sym (pow-succ' 4 row.degree)

-- a sum of messages is a message
sum_below : (row : Row) (m v : ℕ) → sum_of row m v < messages row
sum_below row m v =
    rw (messages_are row) (made_below 4 (λ l. (digit m l + digit v l) % 4) (suc row.degree) (λ l b. mod-lt _ (omega arith)))

-- messages with the same digits
same_digits : (row : Row) (m n : ℕ) → m < messages row → n < messages row → ((k : ℕ) → k < suc row.degree → digit m k ≡ digit n k) → m ≡ n
same_digits row m n p q h = by_digits 4 (omega arith) (suc row.degree) m n (rw (messages_are row) at p) (rw (messages_are row) at q) h

-- the bits of a place
pub place_bit : (row : Row) (j l : ℕ) → l < row.degree → place row (suc j) / 2 ^ l % 2 ≡ t row (j + l) % 2
unfolding place
place_bit row j l h = digit_made 2 (omega arith) (λ k. t row (j + k) % 2) row.degree l h (λ k b. mod-lt _ (omega arith))

-- the index whose place is a power of 2 is not 0
index_zero : (row : Row) (k : ℕ) → place row 0 ≡ 2 ^ k → ⊥
unfolding place
index_zero row k e = let z = pow_pos k in omega arith

-- At the index j + 1 whose place is 2 ^ k.
module _ (row : Row) (j k : ℕ) (b : k < row.degree) (e : place row (suc j) ≡ 2 ^ k) where
  -- the trace of j + k is odd
  odd_here : t row (j + k) % 2 ≡ 1
  odd_here = sym (place_bit row j k b) ∙ ap (λ (x : ℕ). x / 2 ^ k % 2) e ∙ bit_here k

  -- and the other traces are even
  even_elsewhere : (l : ℕ) → l < row.degree → (l ≡ k → ⊥) → t row (j + l) % 2 ≡ 0
  even_elsewhere l h d = sym (place_bit row j l h) ∙ ap (λ (x : ℕ). x / 2 ^ l % 2) e ∙ bit_elsewhere k l d

  -- mixed traces modulo 2 are the factor k modulo 2
  mixed_odd : (a : ℕ → ℕ) → mixed row j a % 2 ≡ a k % 2
  mixed_odd a =
      sum_one 2 (λ l. a l * t row (j + l)) row.degree k b (λ l h d.
      let p = rw (even_elsewhere l h d) at (times_bit (a l) (t row (j + l))) in omega arith)
      ∙ (let p = rw odd_here at (times_bit (a k) (t row (j + k))) in omega arith)

  -- traces mixed by even factors modulo 4 are twice the half of factor k
  mixed_even : (a : ℕ → ℕ) → mixed row j (λ l. 2 * a l) % 4 ≡ (2 * a k) % 4
  mixed_even a =
      sum_one 4 (λ l. 2 * a l * t row (j + l)) row.degree k b (λ l h d.
      let p = rw (even_elsewhere l h d) at (times_bit (a l) (t row (j + l))) in
      let q = mul_assoc 2 (a l) (t row (j + l)) in omega arith)
      ∙ (let p = rw odd_here at (times_bit (a k) (t row (j + k))) in
      let q = mul_assoc 2 (a k) (t row (j + k)) in omega arith)

  -- the upper bit of factor k adds 2 to the traces mixed by the lower bits
  mixed_upper : (a : ℕ → ℕ) → mixed row j a % 4 ≡ (mixed row j (λ l. a l % 2) + 2 * (a k / 2)) % 4
  mixed_upper a =
      let s = sum_same (λ l. a l * t row (j + l)) (λ l. a l % 2 * t row (j + l) + 2 * (a l / 2) * t row (j + l)) row.degree (λ l h.
      ap (λ (x : ℕ). x * t row (j + l)) (sym (mod-add-div (a l) 2)) ∙ add-mul (a l % 2) (2 * (a l / 2)) (t row (j + l))) in
      let p = sum_plus (λ l. a l % 2 * t row (j + l)) (λ l. 2 * (a l / 2) * t row (j + l)) row.degree in
      let q = mixed_even (λ l. a l / 2) in
      omega arith

-- a symbol modulo 2 at the place 2 ^ k
symbol_odd : (row : Row) (m i k : ℕ) → i < size row → k < row.degree → place row i ≡ 2 ^ k → symbol row m i % 2 ≡ (digit m 0 + digit m (suc k)) % 2
unfolding symbol
symbol_odd row m zero k h b e = absurd (index_zero row k e)
symbol_odd row m (suc j) k h b e = odd_sum (digit m 0) (digit m (suc k)) _ (mixed_odd row j k b e (λ l. digit m (suc l)))
  where
    -- a sum modulo 2, by its parts modulo 2
    odd_sum : (x y z : ℕ) → z % 2 ≡ y % 2 → (x + z) % 4 % 2 ≡ (x + y) % 2
    odd_sum x y z p = omega arith

-- a symbol at the place 2 ^ k, from that of the lower bits
symbol_upper : (row : Row) (m n i k : ℕ) → i < size row → k < row.degree → place row i ≡ 2 ^ k → digit n 0 ≡ digit m 0 →
    ((l : ℕ) → l < row.degree → digit n (suc l) ≡ digit m (suc l) % 2) →
    symbol row m i ≡ (symbol row n i + 2 * (digit m (suc k) / 2)) % 4
unfolding symbol
symbol_upper row m n zero k h b e f g = absurd (index_zero row k e)
symbol_upper row m n (suc j) k h b e f g =
    upper_sum (digit m 0) (digit n 0) _ _ (2 * (digit m (suc k) / 2)) f
    (mixed_upper row j k b e (λ l. digit m (suc l))
    ∙ ap (λ (x : ℕ). (x + 2 * (digit m (suc k) / 2)) % 4) (sym (sum_same _ _ row.degree (λ l c. ap (λ (x : ℕ). x * t row (j + l)) (g l c)))))
  where
    -- the same added to both sides, modulo 4
    upper_sum : (x y z w u : ℕ) → y ≡ x → z % 4 ≡ (w + u) % 4 → (x + z) % 4 ≡ ((y + w) % 4 + u) % 4
    upper_sum x y z w u f p = omega arith

-- some index has the place 2 ^ k, and it is not 0
index_of : (row : Row) → Sound row → (k : ℕ) → k < row.degree → (j : ℕ) × (suc j < size row) × (place row (suc j) ≡ 2 ^ k)
index_of row s k b = let o = s.onto (2 ^ k) (pow-lt b) in above_zero o.0 o.1 o.2
  where
    -- the index is one more than another
    above_zero : (i : ℕ) → i < size row → place row i ≡ 2 ^ k → (j : ℕ) × (suc j < size row) × (place row (suc j) ≡ 2 ^ k)
    above_zero zero h e = absurd (index_zero row k e)
    above_zero (suc j) h e = (j, h, e)

-- adding 2 changes a number modulo 4
two_more : (u : ℕ) → (u + 2 * 0) % 4 ≡ (u + 2 * 1) % 4 → ⊥
two_more u h =
    let e : 2 * (u / 4) + 1 ≡ 2 * ((u + 2) / 4) = omega arith in
    let p : (2 * (u / 4) + 1) % 2 ≡ (2 * ((u + 2) / 4)) % 2 = ap (λ (x : ℕ). x % 2) e in
    omega arith

-- a bit that adds 2 modulo 4 is known by what it gives
same_upper : (u x y : ℕ) → x < 2 → y < 2 → (u + 2 * x) % 4 ≡ (u + 2 * y) % 4 → x ≡ y
same_upper u zero zero p q h = refl
same_upper u zero (suc zero) p q h = absurd (two_more u h)
same_upper u (suc zero) zero p q h = absurd (two_more u (sym h))
same_upper u (suc x) (suc y) p q h = omega arith
same_upper u zero (suc (suc y)) p q h = absurd (omega arith)
same_upper u (suc (suc x)) zero p q h = absurd (omega arith)

-- Two messages with the same word.
module _ (row : Row) (s : Sound row) (m n : ℕ) (same : (i : ℕ) → i < size row → symbol row m i ≡ symbol row n i) where
  -- the same e
  same_first : digit m 0 ≡ digit n 0
  unfolding symbol
  same_first = same 0 (pow_pos row.degree)

  -- the same mixed traces modulo 4
  same_mixed : (j : ℕ) → suc j < size row → mixed row j (λ l. digit m (suc l)) % 4 ≡ mixed row j (λ l. digit n (suc l)) % 4
  unfolding symbol
  same_mixed j h = cancelled (digit m 0) (digit n 0) _ _ same_first (same (suc j) h)
    where
      -- the same taken from both sides, modulo 4
      cancelled : (x y z w : ℕ) → x ≡ y → (x + z) % 4 ≡ (y + w) % 4 → z % 4 ≡ w % 4
      cancelled x y z w e h = omega arith

  -- the same lower bits
  same_lower : (k : ℕ) → k < row.degree → digit m (suc k) % 2 ≡ digit n (suc k) % 2
  same_lower k b =
      let o = index_of row s k b in
      let p = mixed_odd row o.0 k b o.2 (λ l. digit m (suc l)) in
      let q = mixed_odd row o.0 k b o.2 (λ l. digit n (suc l)) in
      let r = same_mixed o.0 o.1 in
      omega arith

  -- the same digits
  same_digit : (k : ℕ) → k < suc row.degree → digit m k ≡ digit n k
  same_digit zero b = same_first
  same_digit (suc k) b =
      let c : k < row.degree = omega arith in
      let o = index_of row s k c in
      let u = mixed row o.0 (λ l. digit m (suc l) % 2) in
      let w : mixed row o.0 (λ l. digit n (suc l) % 2) ≡ u =
      sum_same _ _ row.degree (λ l h. ap (λ (x : ℕ). x * t row (o.0 + l)) (sym (same_lower l h))) in
      let h = same_upper u (digit m (suc k) / 2) (digit n (suc k) / 2) (omega arith) (omega arith)
      (sym (mixed_upper row o.0 k c o.2 (λ l. digit m (suc l)))
      ∙ same_mixed o.0 o.1
      ∙ mixed_upper row o.0 k c o.2 (λ l. digit n (suc l))
      ∙ ap (λ (x : ℕ). (x + 2 * (digit n (suc k) / 2)) % 4) w) in
      let g = same_lower k c in omega arith

-- every sound row has the laws
pub words : (row : Row) → Sound row → Words row
words row s = record {
  small = symbol_small row;
  adds = symbol_adds row;
  sum_within = sum_below row;
  odd_at = symbol_odd row;
  even_at = symbol_upper row;
  by_digits = same_digits row;
  apart = λ m n p q h. same_digits row m n p q (same_digit row s m n h);
}
