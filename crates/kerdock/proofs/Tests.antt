-- Tests that the checker computes, and what a passed test says.
use Rattle.std.proofs.Common.{◌≡◌, ℕ, zero, suc, ◌<◌, Bool, true, false, T, eqb, ltb, ◌⊎◌, List, [], ◌∷◌, get_or, sym, refl, subst, inl, inr, not-suc-le-zero, arith, eqb→eq, ltb→lt}

abbrev pub both : Bool → Bool → Bool
both true b = b
both false b = false

pub left : (a b : Bool) → T (both a b) → T a
left true b h = tt
left false b h = h

pub right : (a b : Bool) → T (both a b) → T b
right true b h = h
right false b h = absurd h

-- every test of the list passes
abbrev pub all : List Bool → Bool
all [] = true
all (b ∷ bs) = both b (all bs)

pub passed : (bs : List Bool) → T (all bs) → (k : ℕ) → T (get_or bs k true)
passed [] h k = tt
passed (b ∷ bs) h zero = left b (all bs) h
passed (b ∷ bs) h (suc k) = passed bs (right b (all bs) h) k

-- two lists are the same
abbrev pub same : List ℕ → List ℕ → Bool
same [] [] = true
same [] (b ∷ q) = false
same (a ∷ p) [] = false
same (a ∷ p) (b ∷ q) = both (eqb a b) (same p q)

pub same→eq : (p q : List ℕ) → T (same p q) → p ≡ q
same→eq [] [] h = refl
same→eq [] (b ∷ q) h = absurd h
same→eq (a ∷ p) [] h = absurd h
same→eq (a ∷ p) (b ∷ q) h =
    let e = eqb→eq a b (left (eqb a b) (same p q) h) in
    let r = same→eq p q (right (eqb a b) (same p q) h) in cc

-- every entry is below 4
abbrev pub all_small : List ℕ → Bool
all_small [] = true
all_small (x ∷ xs) = both (ltb x 4) (all_small xs)

pub small_at : (xs : List ℕ) → T (all_small xs) → (k : ℕ) → get_or xs k 0 < 4
small_at [] h k = omega arith
small_at (x ∷ xs) h zero = ltb→lt x 4 (left (ltb x 4) (all_small xs) h)
small_at (x ∷ xs) h (suc k) = small_at xs (right (ltb x 4) (all_small xs) h) k

last_or_before : (k n : ℕ) → k < suc n → (k ≡ n) ⊎ (k < n)
last_or_before k n b = grind arith

-- the test passes at each number below n
abbrev pub upto : (ℕ → Bool) → ℕ → Bool
upto f zero = true
upto f (suc n) = both (f n) (upto f n)

pub upto_at : (f : ℕ → Bool) (n : ℕ) → T (upto f n) → (k : ℕ) → k < n → T (f k)
upto_at f zero h k b = absurd (not-suc-le-zero b)
upto_at f (suc n) h k b =
    elim (last_or_before k n b) [
      | inl e ↦ subst (λ (x : ℕ). T (f x)) (sym e) (left (f n) (upto f n) h)
      | inr l ↦ upto_at f n (right (f n) (upto f n) h) k l
    ]
