-- The algebra of ring elements, as lists of coefficients modulo 4.
--   entries       what one coefficient does modulo 4
--   lengths       the operations keep the number of coefficients
--   plus, scaled  the laws of sums and multiples
--   combination   it is linear in its coefficients and in its family
--   number        sums, multiples and combinations of numbers
use Rattle.std.proofs.Common.{◌≡◌, ℕ, zero, suc, ◌+◌, ◌*◌, ◌%◌, ◌<◌, List, [], ◌∷◌, length, get_or, sym, refl, ap, ◌∙◌, ap₂, not-suc-le-zero, mul_assoc, mul_comm, add-mul, mul-add, arith}
use native.Mathlib.Nat.{add-mod}
use Rattle.kerdock.specs.Ring.{zeros, number, plus, scaled, raised, power, total, combination}
use Rattle.kerdock.specs.Code.{sum_to, listed}
use Rattle.kerdock.proofs.Sums.{sum_front, mod_times}

-- modulo 4, a right factor may be taken modulo 4
times_mod : (a n : ℕ) → (a * (n % 4)) % 4 ≡ (a * n) % 4
times_mod a n = rw (mul_comm a (n % 4), mul_comm a n) (mod_times n a)

-- the middle two of four numbers change places
entry_exchange : (a b c d : ℕ) → ((a + b) % 4 + (c + d) % 4) % 4 ≡ ((a + c) % 4 + (b + d) % 4) % 4
entry_exchange a b c d =
    let e : a + b + (c + d) ≡ a + c + (b + d) = omega arith in
    sym (add-mod (a + b) (c + d) 4) ∙ ap (λ (x : ℕ). x % 4) e ∙ add-mod (a + c) (b + d) 4

-- a sum of factors times a number
entry_add_mul : (a b x : ℕ) → ((a + b) % 4 * x) % 4 ≡ ((a * x) % 4 + (b * x) % 4) % 4
entry_add_mul a b x =
    mod_times (a + b) x ∙ ap (λ (y : ℕ). y % 4) (add-mul a b x) ∙ add-mod (a * x) (b * x) 4

-- a factor times a sum of numbers
entry_mul_add : (a x y : ℕ) → (a * ((x + y) % 4)) % 4 ≡ ((a * x) % 4 + (a * y) % 4) % 4
entry_mul_add a x y =
    times_mod a (x + y) ∙ ap (λ (z : ℕ). z % 4) (mul-add a x y) ∙ add-mod (a * x) (a * y) 4

-- a product of factors times a number
entry_mul_mul : (a b x : ℕ) → ((a * b) % 4 * x) % 4 ≡ (a * ((b * x) % 4)) % 4
entry_mul_mul a b x =
    mod_times (a * b) x ∙ ap (λ (y : ℕ). y % 4) (mul_assoc a b x) ∙ sym (times_mod a (b * x))

-- the element 0 has as many coefficients as its list
length_zeros : (h : List ℕ) → length (zeros h) ≡ length h
length_zeros [] = refl
length_zeros (x ∷ h) = ap suc (length_zeros h)

-- a number, as an element, has as many coefficients as its list
length_number : (h : List ℕ) (a : ℕ) → length (number h a) ≡ length h
length_number [] a = refl
length_number (x ∷ h) a = ap suc (length_zeros h)

-- a multiple has as many coefficients as the element
length_scaled : (a : ℕ) (p : List ℕ) → length (scaled a p) ≡ length p
length_scaled a [] = refl
length_scaled a (x ∷ p) = ap suc (length_scaled a p)

-- a sum of two elements of n coefficients has n
length_plus : (p q : List ℕ) (n : ℕ) → length p ≡ n → length q ≡ n → length (plus p q) ≡ n
length_plus [] q n e f = e
length_plus (a ∷ p) [] n e f = f
length_plus (a ∷ p) (b ∷ q) zero e f = absurd (omega arith)
length_plus (a ∷ p) (b ∷ q) (suc n) e f = ap suc (length_plus p q n (omega arith) (omega arith))

-- moving the coefficients up keeps their number
length_raised : (top c : ℕ) (p h : List ℕ) → length p ≡ length h → length (raised top c p h) ≡ length h
length_raised top c [] h e = e
length_raised top c (a ∷ p) [] e = refl
length_raised top c (a ∷ p) (x ∷ h) e = ap suc (length_raised top a p h (omega arith))

-- a power of the root has as many coefficients as h
pub length_power : (h : List ℕ) (k : ℕ) → length (power h k) ≡ length h
length_power h zero = length_number h 1
length_power h (suc k) = length_raised _ 0 (power h k) h (length_power h k)

-- a combination of elements with as many coefficients as h has as many
length_combination : (h p : List ℕ) (f : ℕ → List ℕ) → ((k : ℕ) → length (f k) ≡ length h) →
    length (combination h p f) ≡ length h
length_combination h [] f e = length_zeros h
length_combination h (a ∷ p) f e =
    length_plus (scaled a (f 0)) (combination h p (λ k. f (suc k))) (length h) (length_scaled a (f 0) ∙ e 0)
    (length_combination h p (λ k. f (suc k)) (λ k. e (suc k)))

-- 0 + 0 is 0
plus_zeros : (h : List ℕ) → plus (zeros h) (zeros h) ≡ zeros h
plus_zeros [] = refl
plus_zeros (x ∷ h) = ap (λ (p : List ℕ). 0 ∷ p) (plus_zeros h)

-- a multiple of 0 is 0
scaled_zeros : (a : ℕ) (h : List ℕ) → scaled a (zeros h) ≡ zeros h
scaled_zeros a [] = refl
scaled_zeros a (x ∷ h) =
    let z : (a * 0) % 4 ≡ 0 = omega arith in
    ap₂ ◌∷◌ z (scaled_zeros a h)

-- 0 times an element is 0
scaled_by_zero : (p h : List ℕ) → length p ≡ length h → scaled 0 p ≡ zeros h
scaled_by_zero [] [] e = refl
scaled_by_zero [] (y ∷ h) e = absurd (omega arith)
scaled_by_zero (x ∷ p) [] e = absurd (omega arith)
scaled_by_zero (x ∷ p) (y ∷ h) e =
    let z : (0 * x) % 4 ≡ 0 = omega arith in
    ap₂ ◌∷◌ z (scaled_by_zero p h (omega arith))

-- the middle two of four elements change places
plus_exchange : (p q r s : List ℕ) → plus (plus p q) (plus r s) ≡ plus (plus p r) (plus q s)
plus_exchange [] q r s = refl
plus_exchange (a ∷ p) [] [] s = refl
plus_exchange (a ∷ p) [] (c ∷ r) s = refl
plus_exchange (a ∷ p) (b ∷ q) [] s = refl
plus_exchange (a ∷ p) (b ∷ q) (c ∷ r) [] = refl
plus_exchange (a ∷ p) (b ∷ q) (c ∷ r) (d ∷ s) = ap₂ ◌∷◌ (entry_exchange a b c d) (plus_exchange p q r s)

-- a sum of factors times an element
scaled_by_sum : (a b : ℕ) (p : List ℕ) → scaled ((a + b) % 4) p ≡ plus (scaled a p) (scaled b p)
scaled_by_sum a b [] = refl
scaled_by_sum a b (x ∷ p) = ap₂ ◌∷◌ (entry_add_mul a b x) (scaled_by_sum a b p)

-- a factor times a sum of elements
scaled_plus : (a : ℕ) (p q : List ℕ) → scaled a (plus p q) ≡ plus (scaled a p) (scaled a q)
scaled_plus a [] q = refl
scaled_plus a (x ∷ p) [] = refl
scaled_plus a (x ∷ p) (y ∷ q) = ap₂ ◌∷◌ (entry_mul_add a x y) (scaled_plus a p q)

-- a product of factors times an element
scaled_by_product : (a b : ℕ) (p : List ℕ) → scaled ((a * b) % 4) p ≡ scaled a (scaled b p)
scaled_by_product a b [] = refl
scaled_by_product a b (x ∷ p) = ap₂ ◌∷◌ (entry_mul_mul a b x) (scaled_by_product a b p)

-- with all coefficients 0 a combination is 0
combination_by_zeros : (h g : List ℕ) (f : ℕ → List ℕ) → ((k : ℕ) → length (f k) ≡ length h) →
    combination h (zeros g) f ≡ zeros h
combination_by_zeros h [] f e = refl
combination_by_zeros h (x ∷ g) f e =
    ap₂ plus (scaled_by_zero (f 0) h (e 0)) (combination_by_zeros h g (λ k. f (suc k)) (λ k. e (suc k))) ∙ plus_zeros h

-- a combination by a sum of coefficients is the sum of the combinations
combination_by_sum : (h p q : List ℕ) (f : ℕ → List ℕ) → length p ≡ length q →
    combination h (plus p q) f ≡ plus (combination h p f) (combination h q f)
combination_by_sum h [] [] f e = sym (plus_zeros h)
combination_by_sum h [] (b ∷ q) f e = absurd (omega arith)
combination_by_sum h (a ∷ p) [] f e = absurd (omega arith)
combination_by_sum h (a ∷ p) (b ∷ q) f e =
    let g : ℕ → List ℕ = λ k. f (suc k) in
    ap₂ plus (scaled_by_sum a b (f 0)) (combination_by_sum h p q g (omega arith))
    ∙ plus_exchange (scaled a (f 0)) (scaled b (f 0)) (combination h p g) (combination h q g)

-- a combination by a multiple of coefficients is the multiple of the combination
combination_by_multiple : (h : List ℕ) (a : ℕ) (p : List ℕ) (f : ℕ → List ℕ) →
    combination h (scaled a p) f ≡ scaled a (combination h p f)
combination_by_multiple h a [] f = sym (scaled_zeros a h)
combination_by_multiple h a (x ∷ p) f =
    let g : ℕ → List ℕ = λ k. f (suc k) in
    ap₂ plus (scaled_by_product a x (f 0)) (combination_by_multiple h a p g)
    ∙ sym (scaled_plus a (scaled x (f 0)) (combination h p g))

-- a combination of zeros is 0
combination_of_zeros : (h p : List ℕ) → combination h p (λ k. zeros h) ≡ zeros h
combination_of_zeros h [] = refl
combination_of_zeros h (a ∷ p) = ap₂ plus (scaled_zeros a h) (combination_of_zeros h p) ∙ plus_zeros h

-- a combination of sums is the sum of the combinations
combination_of_sums : (h p : List ℕ) (f g : ℕ → List ℕ) →
    combination h p (λ k. plus (f k) (g k)) ≡ plus (combination h p f) (combination h p g)
combination_of_sums h [] f g = sym (plus_zeros h)
combination_of_sums h (a ∷ p) f g =
    let u : ℕ → List ℕ = λ k. f (suc k) in
    let v : ℕ → List ℕ = λ k. g (suc k) in
    ap₂ plus (scaled_plus a (f 0) (g 0)) (combination_of_sums h p u v)
    ∙ plus_exchange (scaled a (f 0)) (scaled a (g 0)) (combination h p u) (combination h p v)

-- a combination whose coefficients are a combination is the combination of the combinations
pub combination_by_combination : (h p : List ℕ) (f g : ℕ → List ℕ) →
    ((k : ℕ) → length (f k) ≡ length h) → ((k : ℕ) → length (g k) ≡ length h) →
    combination h (combination h p f) g ≡ combination h p (λ k. combination h (f k) g)
combination_by_combination h [] f g e d = combination_by_zeros h h g d
combination_by_combination h (a ∷ p) f g e d =
    let u : ℕ → List ℕ = λ k. f (suc k) in
    let l = length_combination h p u (λ k. e (suc k)) in
    combination_by_sum h (scaled a (f 0)) (combination h p u) g (length_scaled a (f 0) ∙ e 0 ∙ sym l)
    ∙ ap₂ plus (combination_by_multiple h a (f 0) g) (combination_by_combination h p u g (λ k. e (suc k)) d)

-- a total of combinations is the combination of the totals
pub total_of_combinations : (h p : List ℕ) (f : ℕ → ℕ → List ℕ) (n : ℕ) →
    total h (λ i. combination h p (f i)) n ≡ combination h p (λ k. total h (λ i. f i k) n)
total_of_combinations h p f zero = sym (combination_of_zeros h p)
total_of_combinations h p f (suc n) =
    ap (λ (x : List ℕ). plus x (combination h p (f n))) (total_of_combinations h p f n)
    ∙ sym (combination_of_sums h p (λ k. total h (λ i. f i k) n) (f n))

-- the number 0 is the element 0
number_zero : (h : List ℕ) → number h 0 ≡ zeros h
number_zero [] = refl
number_zero (x ∷ h) = refl

-- a sum of numbers is a number
plus_numbers : (h : List ℕ) (a b : ℕ) → plus (number h a) (number h b) ≡ number h ((a + b) % 4)
plus_numbers [] a b = refl
plus_numbers (x ∷ h) a b = ap (λ (p : List ℕ). (a + b) % 4 ∷ p) (plus_zeros h)

-- a multiple of a number is a number
scaled_number : (h : List ℕ) (a b : ℕ) → scaled a (number h b) ≡ number h ((a * b) % 4)
scaled_number [] a b = refl
scaled_number (x ∷ h) a b = ap (λ (p : List ℕ). (a * b) % 4 ∷ p) (scaled_zeros a h)

-- the first coefficient of a number, as an element, is the number
pub number_at : (h : List ℕ) (a : ℕ) → 0 < length h → get_or (number h a) 0 0 ≡ a
number_at [] a e = absurd (not-suc-le-zero e)
number_at (x ∷ h) a e = refl

-- a combination of numbers is a number: the sum of the products
pub combination_of_numbers : (h : List ℕ) (a u : ℕ → ℕ) (n : ℕ) →
    combination h (listed a n) (λ k. number h (u k)) ≡ number h (sum_to (λ k. a k * u k) n % 4)
combination_of_numbers h a u zero = sym (number_zero h)
combination_of_numbers h a u (suc n) =
    let s = sum_to (λ k. a (suc k) * u (suc k)) n in
    let e : ((a 0 * u 0) % 4 + s % 4) % 4 ≡ sum_to (λ k. a k * u k) (suc n) % 4 =
    sym (add-mod (a 0 * u 0) s 4) ∙ ap (λ (x : ℕ). x % 4) (sym (sum_front (λ k. a k * u k) n)) in
    ap₂ plus (scaled_number h (a 0) (u 0)) (combination_of_numbers h (λ k. a (suc k)) (λ k. u (suc k)) n)
    ∙ plus_numbers h ((a 0 * u 0) % 4) (s % 4) ∙ ap (number h) e
