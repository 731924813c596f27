-- Sums over indices: term by term, and in two parts.
use Rattle.std.proofs.Common.{◌≡◌, ℕ, zero, suc, ◌+◌, ◌<◌, ℤ, ◌+ℤ◌, sym, refl, ap, ◌∙◌, ap₂, add-zero, add-suc, arith}
use lib.IntN.{+ℤ_assoc, +ℤ_idr}
use Rattle.samples.specs.Meaning.{over}

-- Sums of equal terms are equal.
pub over_same : (n : ℕ) (f g : ℕ → ℤ) → ((k : ℕ) → k < n → f k ≡ g k) → over n f ≡ over n g
over_same zero f g h = refl
over_same (suc n) f g h = ap₂ ◌+ℤ◌ (over_same n f g (λ k b. h k (omega arith))) (h n (omega arith))

-- The first h terms, and the n after them.
pub over_parts : (h n : ℕ) (f : ℕ → ℤ) → over (h + n) f ≡ over h f +ℤ over n (λ k. f (h + k))
over_parts h zero f = rw (add-zero h) (sym (+ℤ_idr (over h f)))
over_parts h (suc n) f = rw (add-suc h n) (ap (λ x. x +ℤ f (h + n)) (over_parts h n f) ∙ +ℤ_assoc (over h f) (over n (λ k. f (h + k))) (f (h + n)))
