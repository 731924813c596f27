-- Writes into arrays, and what they keep.
use Rattle.std.proofs.Common.{◌≡◌, ℕ, zero, suc, ◌%◌, ◌<◌, List, [], ◌∷◌, get_or, set, replicate, arith}
use lib.Bits.{bit_and}
use Rattle.std.proofs.lemmas.Nat.{and_mask}
use Rattle.kerdock.proofs.Fills.{all_zeros}

-- a number's two lowest bits are the number modulo 4
pub low_bits : (x : ℕ) → bit_and x 3 ≡ x % 4
low_bits x = and_mask x 2

-- in an array of zeros every entry is below any bound above 0
pub zeros_below : (b n k : ℕ) → 0 < b → get_or {A = ℕ} (replicate n 0) k 0 < b
zeros_below b n k h = let z = all_zeros n k in omega arith

-- what holds of every entry, and of one that is written, holds of every entry after
pub write_keeps : {A : Type 0} (P : A → Type 0) (d : A) (xs : List A) (i : ℕ) (x : A) → ((k : ℕ) → P (get_or xs k d)) → P x → (k : ℕ) → P (get_or (set xs i x) k d)
write_keeps P d [] i x h l k = h k
write_keeps P d (y ∷ ys) zero x h l zero = l
write_keeps P d (y ∷ ys) zero x h l (suc k) = h (suc k)
write_keeps P d (y ∷ ys) (suc i) x h l zero = h zero
write_keeps P d (y ∷ ys) (suc i) x h l (suc k) = write_keeps P d ys i x (λ j. h (suc j)) l k

-- a write of a number below a bound leaves every entry below it
pub write_below : (b : ℕ) (xs : List ℕ) (i x : ℕ) → ((k : ℕ) → get_or xs k 0 < b) → x < b → (k : ℕ) → get_or (set xs i x) k 0 < b
write_below b xs i x h l = write_keeps (λ (y : ℕ). y < b) 0 xs i x h l

-- in an array of arrays of zeros every entry is below any bound above 0
pub zeros_set : (b n m : ℕ) → 0 < b → (u p : ℕ) → get_or {A = ℕ} (get_or (replicate n (replicate m 0)) u []) p 0 < b
zeros_set b zero m h u p = h
zeros_set b (suc n) m h zero p = zeros_below b m p h
zeros_set b (suc n) m h (suc u) p = zeros_set b n m h u p
