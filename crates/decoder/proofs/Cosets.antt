-- Every sound row has its cosets.
use Rattle.std.proofs.Common.{◌≡◌, ℕ, zero, suc, ◌+◌, ◌*◌, ◌/◌, ◌%◌, ◌^◌, ◌<◌, sym, refl, ap, ◌∙◌, subst, mod-lt, mod-eq_of_lt, mul_assoc, add-mul, mul-add, mul_left_comm, arith}
use native.Mathlib.Nat.{add-mul-mod_self_left, mod-add-div, zero-div}
use Rattle.kerdock.specs.Code.{Row, size, messages, t, sum_to, digit, symbol, place, sum_of}
use Rattle.kerdock.specs.Sound.{Sound}
use Rattle.kerdock.proofs.Sums.{sum_same, sum_mod, sum_plus}
use Rattle.kerdock.proofs.Digits.{made, made_below, digit_made, made_mod}
use Rattle.kerdock.proofs.Words.{words}
use Rattle.samples.specs.Transform.{parity}
use Rattle.decoder.specs.Cosets.{Cosets, bit, message, lows, highs}
use Rattle.decoder.proofs.Bits.{sum_times, made_front, none_shared, ones_shared, bit_added}

-- the digits that a message is made from
abbrev pub digit_of : ℕ → ℕ → ℕ → ℕ → ℕ
digit_of e u v zero = e
digit_of e u v (suc k) = bit u k + 2 * bit v k

-- they are digits to base 4
digit_of_small : (e u v k : ℕ) → e < 4 → digit_of e u v k < 4
digit_of_small e u v zero h = h
digit_of_small e u v (suc k) h = omega arith

-- a message is made from them
message_made : (row : Row) (e u v : ℕ) → message row e u v ≡ made 4 (digit_of e u v) (suc row.degree)
unfolding message
message_made row e u v = sym (made_front 4 (digit_of e u v) row.degree)

-- and so they are its digits
pub message_digit : (row : Row) (e u v k : ℕ) → e < 4 → k < suc row.degree → digit (message row e u v) k ≡ digit_of e u v k
message_digit row e u v k h b =
    ap (λ (x : ℕ). digit x k) (message_made row e u v)
    ∙ digit_made 4 (omega arith) (digit_of e u v) (suc row.degree) k b (λ l c. digit_of_small e u v l h)

-- a message whose digits are the sums of those of m and n is the sum of m and n
message_sum : (row : Row) (e u v m n : ℕ) → ((k : ℕ) → k < suc row.degree → digit_of e u v k ≡ (digit m k + digit n k) % 4)
    → message row e u v ≡ sum_of row m n
message_sum row e u v m n h = message_made row e u v ∙ sum_same _ _ (suc row.degree) (λ k b. ap (λ (x : ℕ). 4 ^ k * x) (h k b))

-- a message is in range, as the sum of itself and 0
message_below : (row : Row) → Sound row → (e u v : ℕ) → e < 4 → message row e u v < messages row
message_below row s e u v h =
    let m = message row e u v in
    let sum : m ≡ sum_of row m 0 =
    message_sum row e u v m 0 (λ k b.
    let d = message_digit row e u v k h b in
    let z = zero-div (4 ^ k) in omega arith) in
    subst (λ (x : ℕ). x < messages row) (sym sum) ((words row s).sum_within m 0)

-- lows are below N
lows_below : (row : Row) (m : ℕ) → lows row m < size row
unfolding lows
lows_below row m = made_below 2 (λ k. digit m (suc k) % 2) row.degree (λ k b. mod-lt _ (omega arith))

-- highs are below N
highs_below : (row : Row) (m : ℕ) → highs row m < size row
unfolding highs
highs_below row m = made_below 2 (λ k. digit m (suc k) / 2) row.degree (λ k b. omega arith)

-- the bits of lows
lows_bit : (row : Row) (m k : ℕ) → k < row.degree → bit (lows row m) k ≡ digit m (suc k) % 2
unfolding lows
lows_bit row m k b = digit_made 2 (omega arith) (λ l. digit m (suc l) % 2) row.degree k b (λ l c. mod-lt _ (omega arith))

-- the bits of highs
highs_bit : (row : Row) (m k : ℕ) → k < row.degree → bit (highs row m) k ≡ digit m (suc k) / 2
unfolding highs
highs_bit row m k b = digit_made 2 (omega arith) (λ l. digit m (suc l) / 2) row.degree k b (λ l c. omega arith)

-- a message in range is that of its first digit, its lows and its highs
message_splits : (row : Row) → Sound row → (m : ℕ) → m < messages row → m ≡ message row (digit m 0) (lows row m) (highs row m)
message_splits row s m h =
    let e : digit m 0 < 4 = mod-lt _ (omega arith) in
    (words row s).by_digits m _ h (message_below row s (digit m 0) (lows row m) (highs row m) e)
    (λ k b. same k b ∙ sym (message_digit row (digit m 0) (lows row m) (highs row m) k e b))
  where
    -- digit by digit
    same : (k : ℕ) → k < suc row.degree → digit m k ≡ digit_of (digit m 0) (lows row m) (highs row m) k
    same zero b = refl
    same (suc k) b =
        let c : k < row.degree = omega arith in
        let l = lows_bit row m k c in
        let g = highs_bit row m k c in omega arith

-- the lows of a message are u
message_lows : (row : Row) (e u v : ℕ) → e < 4 → u < size row → lows row (message row e u v) ≡ u
unfolding lows
message_lows row e u v h b =
    sum_same _ _ row.degree (λ k c. let d = message_digit row e u v (suc k) h (omega arith) in
    let p : digit (message row e u v) (suc k) % 2 ≡ bit u k = omega arith in ap (λ (x : ℕ). 2 ^ k * x) p)
    ∙ made_mod 2 (omega arith) u row.degree
    ∙ mod-eq_of_lt b

-- the highs of a message are v
message_highs : (row : Row) (e u v : ℕ) → e < 4 → v < size row → highs row (message row e u v) ≡ v
unfolding highs
message_highs row e u v h b =
    sum_same _ _ row.degree (λ k c. let d = message_digit row e u v (suc k) h (omega arith) in
    let p : digit (message row e u v) (suc k) / 2 ≡ bit v k = omega arith in ap (λ (x : ℕ). 2 ^ k * x) p)
    ∙ made_mod 2 (omega arith) v row.degree
    ∙ mod-eq_of_lt b

-- the leader of u with a bit added
leader_added : (row : Row) → Sound row → (u k i : ℕ) → k < row.degree → bit u k ≡ 0 →
    symbol row (message row 0 (u + 2 ^ k) 0) i ≡ (symbol row (message row 0 u 0) i + symbol row (message row 0 (2 ^ k) 0) i) % 4
leader_added row s u k i b z =
    ap (λ (x : ℕ). symbol row x i) (message_sum row 0 (u + 2 ^ k) 0 (message row 0 u 0) (message row 0 (2 ^ k) 0) same)
    ∙ (words row s).adds (message row 0 u 0) (message row 0 (2 ^ k) 0) i
  where
    -- digit by digit
    same : (l : ℕ) → l < suc row.degree → digit_of 0 (u + 2 ^ k) 0 l ≡ (digit (message row 0 u 0) l + digit (message row 0 (2 ^ k) 0) l) % 4
    same zero c = let p = message_digit row 0 u 0 0 (omega arith) c in let q = message_digit row 0 (2 ^ k) 0 0 (omega arith) c in omega arith
    same (suc l) c =
        let p = message_digit row 0 u 0 (suc l) (omega arith) c in
        let q = message_digit row 0 (2 ^ k) 0 (suc l) (omega arith) c in
        let a = bit_added u k l z in
        let n = zero-div (2 ^ l) in omega arith

-- the sum over k of a k times the trace of j + k
abbrev mixed : Row → ℕ → (ℕ → ℕ) → ℕ
mixed row j a = sum_to (λ k. a k * t row (j + k)) row.degree

-- the parity that v has with a place is that of the traces mixed by the bits of v
place_parity : (row : Row) (v j : ℕ) → parity v (place row (suc j)) ≡ mixed row j (bit v) % 2
unfolding place
place_parity row v j =
    ap (λ (x : ℕ). x % 2)
    (ones_shared row.degree v (place row (suc j)) (made_below 2 (λ k. t row (j + k) % 2) row.degree (λ k b. mod-lt _ (omega arith))))
    ∙ sum_mod 2 _ _ row.degree (λ k b.
    ap (λ (x : ℕ). (bit v k * x) % 2)
    (digit_made 2 (omega arith) (λ l. t row (j + l) % 2) row.degree k b (λ l c. mod-lt _ (omega arith)))
    ∙ lower_bit (bit v k) (t row (j + k)))
  where
    -- a product modulo 2, by the lower bit of its second factor
    lower_bit : (a x : ℕ) → (a * (x % 2)) % 2 ≡ (a * x) % 2
    lower_bit a x =
        let e : a * x ≡ a * (x % 2) + 2 * (a * (x / 2)) =
        ap (λ (n : ℕ). a * n) (sym (mod-add-div x 2)) ∙ mul-add a (x % 2) (2 * (x / 2)) ∙ ap (λ (n : ℕ). a * (x % 2) + n) (mul_left_comm a 2 (x / 2)) in
        omega arith

-- the traces mixed by the digits of a message: those of its leader, and twice those mixed by the bits of v
mixed_coset : (row : Row) (e u v j : ℕ) → e < 4 →
    mixed row j (λ k. digit (message row e u v) (suc k)) ≡ mixed row j (λ k. digit (message row 0 u 0) (suc k)) + 2 * mixed row j (bit v)
mixed_coset row e u v j h =
    let lead : ℕ → ℕ = λ k. digit (message row 0 u 0) (suc k) in
    sum_same _ (λ k. lead k * t row (j + k) + 2 * (bit v k * t row (j + k))) row.degree (λ k b.
    let d = message_digit row e u v (suc k) h (omega arith) in
    let l = message_digit row 0 u 0 (suc k) (omega arith) (omega arith) in
    let n = zero-div (2 ^ k) in
    let p : digit (message row e u v) (suc k) ≡ lead k + 2 * bit v k = omega arith in
    ap (λ (x : ℕ). x * t row (j + k)) p
    ∙ add-mul (lead k) (2 * bit v k) (t row (j + k))
    ∙ ap (λ (x : ℕ). lead k * t row (j + k) + x) (mul_assoc 2 (bit v k) (t row (j + k))))
    ∙ sum_plus (λ k. lead k * t row (j + k)) (λ k. 2 * (bit v k * t row (j + k))) row.degree
    ∙ ap (λ (x : ℕ). mixed row j lead + x) (sum_times 2 (λ k. bit v k * t row (j + k)) row.degree)

-- the word of a message, from its leader's
coset_word : (row : Row) (e u v i : ℕ) → e < 4 →
    symbol row (message row e u v) i ≡ (e + symbol row (message row 0 u 0) i + 2 * parity v (place row i)) % 4
unfolding symbol place
coset_word row e u v zero h =
    let d = message_digit row e u v 0 h (omega arith) in
    let l = message_digit row 0 u 0 0 (omega arith) (omega arith) in
    let n = none_shared v in omega arith
coset_word row e u v (suc j) h =
    coset_sum (digit (message row e u v) 0) e (digit (message row 0 u 0) 0) _ _ _ _
    (message_digit row e u v 0 h (omega arith)) (message_digit row 0 u 0 0 (omega arith) (omega arith)) (mixed_coset row e u v j h) (place_parity row v j)
  where
    -- a symbol's sum, from the parts that make it
    coset_sum : (a e l x y z p : ℕ) → a ≡ e → l ≡ 0 → x ≡ y + 2 * z → p ≡ z % 2 → (a + x) % 4 ≡ (e + (l + y) % 4 + 2 * p) % 4
    coset_sum a e l x y z p f g m n =
        let w : a + x ≡ e + (l + y) % 4 + 2 * p + 4 * ((l + y) / 4 + z / 2) = omega arith in
        rw w (add-mul-mod_self_left (e + (l + y) % 4 + 2 * p) 4 ((l + y) / 4 + z / 2))

-- every sound row has its cosets
pub cosets : (row : Row) → Sound row → Cosets row
cosets row s = record {
  words = λ e u v i h b. coset_word row e u v i h;
  within = message_below row s;
  lows_within = lows_below row;
  highs_within = highs_below row;
  splits = message_splits row s;
  e_is = λ e u v h. message_digit row e u v 0 h (omega arith);
  u_is = message_lows row;
  v_is = message_highs row;
  leader_bit = leader_added row s;
}
