-- Arrays that are filled entry by entry.
use Rattle.std.proofs.Common.{◌≡◌, ℕ, zero, suc, ◌+◌, ◌-◌, ◌≤◌, ◌≢◌, List, ◌++◌, length, drop, get_or, set, replicate, refl, ◌∙◌, arith, get_or-set_other}
use Rattle.std.proofs.lemmas.List.{get_or-drop}
use Rattle.std.proofs.Math.Seq.{get_or-append_right}

-- every entry of an array of zeros is 0, and so is what is read past its end
pub all_zeros : (n k : ℕ) → get_or {A = ℕ} (replicate n 0) k 0 ≡ 0
all_zeros zero k = refl
all_zeros (suc n) zero = refl
all_zeros (suc n) (suc k) = all_zeros n k

-- a write at i leaves what stands past it
pub past_more : (xs : List ℕ) (i x : ℕ) → ((k : ℕ) → i ≤ k → get_or xs k 0 ≡ 0) → (k : ℕ) → i + 1 ≤ k → get_or (set xs i x) k 0 ≡ 0
past_more xs i x h k b = let other : k ≢ i = omega arith in rw get_or-set_other (h k (omega arith))

-- a list written over the front of zeros leaves zeros past it
pub past_front : (xs : List ℕ) (n m k : ℕ) → length xs ≤ k → get_or (xs ++ drop m (replicate n 0)) k 0 ≡ 0
past_front xs n m k h =
    get_or-append_right xs (drop m (replicate n 0)) k 0 h ∙ get_or-drop m (replicate n 0) (k - length xs) 0 ∙ all_zeros n (m + (k - length xs))
