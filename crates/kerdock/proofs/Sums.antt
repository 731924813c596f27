-- Laws of sum_to, f 0 + .. + f (n - 1), and of products modulo 4.
use Rattle.std.proofs.Common.{◌≡◌, ℕ, zero, suc, ◌+◌, ◌*◌, ◌/◌, ◌%◌, ◌<◌, ◌≤◌, List, [], ◌∷◌, length, get_or, sym, refl, ap, ◌∙◌, ap₂, inl, inr, add-zero, mul_assoc, add-mul, zero-add, add-one, mul-suc, arith}
use native.Mathlib.Nat.{add-mod, add-mod-mod, mod-add-mod, mod-add-div, zero-mod}
use Rattle.std.proofs.lemmas.Bool.{cases_lt}
use Rattle.std.proofs.lemmas.List.Sums.{sum_by-cons}
use Rattle.std.proofs.lemmas.List.{get_or_default}
use Rattle.std.proofs.lemmas.List.FromFn.{length-enumerate_from, get_or-enumerate_from}
use Rattle.std.specs.List.{zip, sum_by, range_with_len, enumerate_from}
use Rattle.kerdock.specs.Code.{sum_to}

-- equal terms, equal sums
pub sum_same : (f g : ℕ → ℕ) (n : ℕ) → ((k : ℕ) → k < n → f k ≡ g k) → sum_to f n ≡ sum_to g n
sum_same f g zero h = refl
sum_same f g (suc n) h = ap₂ ◌+◌ (sum_same f g n (λ k b. h k (omega arith))) (h n (omega arith))

-- terms equal modulo b, sums equal modulo b
pub sum_mod : (b : ℕ) (f g : ℕ → ℕ) (n : ℕ) → ((k : ℕ) → k < n → f k % b ≡ g k % b) → sum_to f n % b ≡ sum_to g n % b
sum_mod b f g zero h = refl
sum_mod b f g (suc n) h =
    add-mod (sum_to f n) (f n) b
    ∙ ap₂ (λ (x y : ℕ). (x + y) % b) (sum_mod b f g n (λ k l. h k (omega arith))) (h n (omega arith))
    ∙ sym (add-mod (sum_to g n) (g n) b)

-- a sum of sums, term by term
pub sum_plus : (f g : ℕ → ℕ) (n : ℕ) → sum_to (λ k. f k + g k) n ≡ sum_to f n + sum_to g n
sum_plus f g zero = refl
sum_plus f g (suc n) = let e = sum_plus f g n in omega arith

-- a sum whose terms are all 0 modulo b is 0 modulo b
pub sum_none : (b : ℕ) (f : ℕ → ℕ) (n : ℕ) → ((k : ℕ) → k < n → f k % b ≡ 0) → sum_to f n % b ≡ 0
sum_none b f zero h = zero-mod b
sum_none b f (suc n) h =
    add-mod (sum_to f n) (f n) b ∙ ap₂ (λ (x y : ℕ). (x + y) % b) (sum_none b f n (λ k l. h k (omega arith))) (h n (omega arith)) ∙ zero-mod b

-- a sum whose other terms are all 0 modulo b is the term k modulo b
pub sum_one : (b : ℕ) (f : ℕ → ℕ) (n k : ℕ) → k < n → ((l : ℕ) → l < n → (l ≡ k → ⊥) → f l % b ≡ 0) → sum_to f n % b ≡ f k % b
sum_one b f zero k c h = absurd (omega arith)
sum_one b f (suc n) k c h =
    elim (cases_lt k n) [
      | inl d ↦
          sym (add-mod-mod (sum_to f n) (f n) b)
          ∙ ap (λ (x : ℕ). (sum_to f n + x) % b) (h n (omega arith) (λ e. omega arith))
          ∙ ap (λ (x : ℕ). x % b) (add-zero (sum_to f n))
          ∙ sum_one b f n k d (λ l m. h l (omega arith))
      | inr d ↦
          let e : n ≡ k = omega arith in
          sym (mod-add-mod (sum_to f n) b (f n))
          ∙ ap (λ (x : ℕ). (x + f n) % b) (sum_none b f n (λ l m. h l (omega arith) (λ i. omega arith)))
          ∙ ap (λ (x : ℕ). x % b) (zero-add (f n))
          ∙ ap (λ (x : ℕ). f x % b) e
    ]

-- a sum by its first term and the others
pub sum_front : (f : ℕ → ℕ) (n : ℕ) → sum_to f (suc n) ≡ f 0 + sum_to (λ k. f (suc k)) n
sum_front f zero = omega arith
sum_front f (suc n) = let e = sum_front f n in omega arith

-- one turn of a loop that sums
pub sum_step : (f : ℕ → ℕ) (s k : ℕ) → s ≡ sum_to f k → s + f k ≡ sum_to f (k + 1)
sum_step f s k h = rw (add-one k) (ap (λ (x : ℕ). x + f k) h)

-- modulo 4, a left factor may be taken modulo 4
pub mod_times : (n x : ℕ) → (n % 4 * x) % 4 ≡ (n * x) % 4
mod_times n x =
    let e : n * x ≡ n % 4 * x + 4 * (n / 4 * x) =
    ap (λ (y : ℕ). y * x) (sym (mod-add-div n 4)) ∙ add-mul (n % 4) (4 * (n / 4)) x
    ∙ ap (λ (y : ℕ). n % 4 * x + y) (mul_assoc 4 (n / 4) x) in
    omega arith

-- terms of at most m, so many times m at most
pub sum_most : (m : ℕ) (f : ℕ → ℕ) (n : ℕ) → ((k : ℕ) → k < n → f k ≤ m) → sum_to f n ≤ m * n
sum_most m f zero h = omega arith
sum_most m f (suc n) h =
    let before = sum_most m f n (λ k b. h k (omega arith)) in
    let last = h n (omega arith) in
    let more = mul-suc m n in omega arith

-- the products of two lists of one length, entry by entry, and their sum
abbrev pub products : List ℕ → List ℕ → ℕ → ℕ
products xs ys k = get_or xs k 0 * get_or ys k 0

pub sum_of_products : (xs ys : List ℕ) → length ys ≡ length xs → sum_by (λ (p : ℕ × ℕ). p.0 * p.1) (zip xs ys) ≡ sum_to (products xs ys) (length xs)
sum_of_products [] ys e = refl
sum_of_products (x ∷ xs) [] e = absurd (omega arith)
sum_of_products (x ∷ xs) (y ∷ ys) e =
    sum_by-cons (λ (p : ℕ × ℕ). p.0 * p.1) (x, y) (zip xs ys)
    ∙ ap (λ (s : ℕ). x * y + s) (sum_of_products xs ys (omega arith))
    ∙ sym (sum_front (products (x ∷ xs) (y ∷ ys)) (length xs))

-- the sum of the numbers below n, each taken by f
pub sum_of_range : (f : ℕ → ℕ) (a n : ℕ) → sum_by f (range_with_len a n) ≡ sum_to (λ k. f (a + k)) n
sum_of_range f a zero = refl
sum_of_range f a (suc n) =
    let e = sum_front (λ k. f (a + k)) n in
    let z = ap f (add-zero a) in
    sum_by-cons f a (range_with_len (a + 1) n)
    ∙ ap (λ (s : ℕ). f a + s) (sum_of_range f (a + 1) n ∙ sum_same (λ k. f (a + 1 + k)) (λ k. f (a + suc k)) n (λ k b. ap f (omega arith)))
    ∙ (omega arith)

-- a sum over a list whose entries are numbered from a on
pub sum_of_numbered : (f : ℕ × ℕ → ℕ) (xs : List ℕ) (a n : ℕ) → n ≤ length xs → sum_by f (zip xs (range_with_len a n)) ≡ sum_to (λ k. f (get_or xs k 0, a + k)) n
sum_of_numbered f [] a zero h = refl
sum_of_numbered f [] a (suc n) h = absurd (omega arith)
sum_of_numbered f (x ∷ xs) a zero h = refl
sum_of_numbered f (x ∷ xs) a (suc n) h =
    sum_by-cons f (x, a) (zip xs (range_with_len (a + 1) n))
    ∙ ap₂ (λ (y s : ℕ). y + s) (ap (λ (y : ℕ). f (x, y)) (sym (add-zero a)))
    (sum_of_numbered f xs (a + 1) n (omega arith)
    ∙ sum_same (λ k. f (get_or xs k 0, a + 1 + k)) (λ k. f (get_or xs k 0, a + suc k)) n (λ k b. ap (λ (y : ℕ). f (get_or xs k 0, y)) (omega arith)))
    ∙ sym (sum_front (λ k. f (get_or (x ∷ xs) k 0, a + k)) n)

-- a sum over a list whose entries are counted from a on
pub sum_of_counted : (f : ℕ × ℕ → ℕ) (xs : List ℕ) (a : ℕ) → sum_by f (enumerate_from a xs) ≡ sum_to (λ k. f (a + k, get_or xs k 0)) (length xs)
sum_of_counted f [] a = refl
sum_of_counted f (x ∷ xs) a =
    sum_by-cons f (a, x) (enumerate_from (a + 1) xs)
    ∙ ap₂ (λ (y s : ℕ). y + s) (ap (λ (y : ℕ). f (y, x)) (sym (add-zero a)))
    (sum_of_counted f xs (a + 1)
    ∙ sum_same (λ k. f (a + 1 + k, get_or xs k 0)) (λ k. f (a + suc k, get_or xs k 0)) (length xs) (λ k b. ap (λ (y : ℕ). f (y, get_or xs k 0)) (omega arith)))
    ∙ sym (sum_front (λ k. f (a + k, get_or (x ∷ xs) k 0)) (length xs))

-- an entry of a list, counted from 0 on
pub counted : (xs : List ℕ) (x y k : ℕ) → k < length (enumerate_from 0 xs) → ◌≡◌ {A = ℕ × ℕ} (y, x) (get_or (enumerate_from 0 xs) k (y, x)) →
    (x ≡ get_or xs y 0) × (y < length xs)
counted xs x y k h e =
    let l = length-enumerate_from 0 xs in
    let b : k < length xs = omega arith in
    let at = e ∙ get_or-enumerate_from 0 xs k (y, x) b in
    let number : y ≡ k = ap (λ (p : ℕ × ℕ). p.0) at ∙ (omega arith) in
    (ap (λ (p : ℕ × ℕ). p.1) at ∙ get_or_default xs k x 0 b ∙ ap (λ (i : ℕ). get_or xs i 0) (sym number), omega arith)
