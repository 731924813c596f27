-- The Galois ring modulo 4 of a monic polynomial h of degree d, and one root r of h.
--   element      a ring element: its d coefficients, each 0 to 3, lowest power of r first
--   h            the polynomial, by its d coefficients below the leading 1, lowest first
--   number       a whole number from 0 to 3 as an element
--   times_root   r times an element
--   power        r ^ k
--   combination  a linear combination of elements
--   frobenius    the Frobenius map, which takes r to r ^ 2
--   product      the product of two elements
--   relative     the relative trace of an element: the sum over the powers of the Frobenius map
use Rattle.std.specs.Prelude.{ℕ, zero, suc, ◌+◌, ◌-◌, ◌*◌, ◌%◌, List, [], ◌∷◌}

-- f done k times, from x on
abbrev pub iterate : {A : Type 0} → (A → A) → A → ℕ → A
iterate f x zero = x
iterate f x (suc k) = f (iterate f x k)

-- the element 0, of as many coefficients as the list has entries
abbrev pub zeros : List ℕ → List ℕ
zeros [] = []
zeros (x ∷ h) = 0 ∷ zeros h

-- the number a as an element
abbrev pub number : List ℕ → ℕ → List ℕ
number [] a = []
number (x ∷ h) a = a ∷ zeros h

-- the sum of two elements
abbrev pub plus : List ℕ → List ℕ → List ℕ
plus [] q = []
plus (a ∷ p) [] = []
plus (a ∷ p) (b ∷ q) = ((a + b) % 4) ∷ plus p q

-- a number times an element
abbrev pub scaled : ℕ → List ℕ → List ℕ
scaled a [] = []
scaled a (x ∷ p) = ((a * x) % 4) ∷ scaled a p

-- the last entry, or a where there is none
abbrev pub last_or : ℕ → List ℕ → ℕ
last_or a [] = a
last_or a (b ∷ p) = last_or b p

-- the coefficients moved up by one, c coming in below, less top times h
abbrev pub raised : ℕ → ℕ → List ℕ → List ℕ → List ℕ
raised top c [] h = []
raised top c (a ∷ p) [] = []
raised top c (a ∷ p) (x ∷ h) = ((c + (4 - x) * top) % 4) ∷ raised top a p h

-- r times an element: r ^ d is the opposite of what h has below its leading 1
abbrev pub times_root : List ℕ → List ℕ → List ℕ
times_root h p = raised (last_or 0 p) 0 p h

-- r ^ k
abbrev pub power : List ℕ → ℕ → List ℕ
power h k = iterate (times_root h) (number h 1) k

-- f 0 + .. + f (n - 1)
abbrev pub total : List ℕ → (ℕ → List ℕ) → ℕ → List ℕ
total h f zero = zeros h
total h f (suc n) = plus (total h f n) (f n)

-- the sum over k of entry k of the list times f k
abbrev pub combination : List ℕ → List ℕ → (ℕ → List ℕ) → List ℕ
combination h [] f = zeros h
combination h (a ∷ p) f = plus (scaled a (f 0)) (combination h p (λ k. f (suc k)))

-- The Frobenius map, on coefficients: the sum over k of coefficient k times r ^ (2 × k).
abbrev pub frobenius : List ℕ → List ℕ → List ℕ
frobenius h p = combination h p (λ k. power h (2 * k))

-- p × q: the sum over k of coefficient k of p times r ^ k × q
abbrev pub product : List ℕ → List ℕ → List ℕ → List ℕ
product h p q = combination h p (λ k. iterate (times_root h) q k)

-- The relative trace, in a ring of degree d: x + frobenius x + .. , d of them.
abbrev pub relative : List ℕ → ℕ → List ℕ → List ℕ
relative h d x = total h (λ i. iterate (frobenius h) x i) d
