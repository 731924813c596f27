-- A function done again and again, and tables of what it gives.
use Rattle.std.proofs.Common.{◌≡◌, ℕ, zero, suc, ◌+◌, ◌*◌, ◌/◌, ◌%◌, ◌<◌, List, [], ◌∷◌, length, get_or, sym, refl, ap, ◌∙◌, le_of_suc-le-suc, not-suc-le-zero, add-zero, add-suc, suc-mul, zero-mul, arith}
use native.Mathlib.Nat.{mod-add-div'}
use Rattle.kerdock.specs.Ring.{iterate}
use Rattle.kerdock.specs.Code.{listed}

module _ {A : Type 0} where
  pub iterate_inner : (f : A → A) (x : A) (k : ℕ) → iterate f (f x) k ≡ f (iterate f x k)
  iterate_inner f x zero = refl
  iterate_inner f x (suc k) = ap f (iterate_inner f x k)

  -- a function done j times and k times more is done j + k times
  pub iterate_add : (f : A → A) (x : A) (j k : ℕ) → iterate f (iterate f x j) k ≡ iterate f x (j + k)
  iterate_add f x j zero = rw (add-zero j)
  iterate_add f x j (suc k) = rw (add-suc j k) (ap f (iterate_add f x j k))

  -- what comes back to x after n comes back after each multiple of n
  pub iterate_rounds : (f : A → A) (x : A) (n : ℕ) → iterate f x n ≡ x → (k q : ℕ) → iterate f x (k + q * n) ≡ iterate f x k
  iterate_rounds f x n h k zero = rw (zero-mul n, add-zero k)
  iterate_rounds f x n h k (suc q) =
      let e : k + suc q * n ≡ n + (k + q * n) = rw (suc-mul q n) (omega arith) in
      ap (iterate f x) e ∙ sym (iterate_add f x n (k + q * n)) ∙ ap (λ (y : A). iterate f y (k + q * n)) h ∙ iterate_rounds f x n h k q

  pub iterate_mod : (f : A → A) (x : A) (n : ℕ) → iterate f x n ≡ x → (k : ℕ) → iterate f x k ≡ iterate f x (k % n)
  iterate_mod f x n h k = ap (iterate f x) (sym (mod-add-div' k n)) ∙ iterate_rounds f x n h (k % n) (k / n)

  -- x, f x, .., n of them
  abbrev pub orbit : (A → A) → ℕ → A → List A
  orbit f zero x = []
  orbit f (suc n) x = x ∷ orbit f n (f x)

  pub orbit_at : (f : A → A) (n : ℕ) (x : A) (o : A) (k : ℕ) → k < n → get_or (orbit f n x) k o ≡ iterate f x k
  orbit_at f zero x o k h = absurd (not-suc-le-zero h)
  orbit_at f (suc n) x o zero h = refl
  orbit_at f (suc n) x o (suc k) h = orbit_at f n (f x) o k (le_of_suc-le-suc h) ∙ iterate_inner f x k

pub listed_at : (f : ℕ → ℕ) (n k : ℕ) → k < n → get_or (listed f n) k 0 ≡ f k
listed_at f zero k h = absurd (not-suc-le-zero h)
listed_at f (suc n) zero h = refl
listed_at f (suc n) (suc k) h = listed_at (λ i. f (suc i)) n k (le_of_suc-le-suc h)

pub listed_long : (f : ℕ → ℕ) (n : ℕ) → length (listed f n) ≡ n
listed_long f zero = refl
listed_long f (suc n) = ap suc (listed_long (λ i. f (suc i)) n)
