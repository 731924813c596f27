-- A sum over indices in another order: what the indices are moved by reaches each index below the number exactly once.
use Rattle.std.proofs.Common.{◌≡◌, ℕ, zero, suc, ◌<◌, cond, eqb, ℤ, pos, ◌+ℤ◌, sym, refl, ap, ◌∙◌, ap₂, inl, inr, arith}
use lib.IntN.{+ℤ_idl, +ℤ_idr}
use Rattle.std.proofs.lemmas.Bool.{cases_eq, eq-eqb, ne_eqb}
use Rattle.samples.specs.Meaning.{over}
use Rattle.samples.proofs.Sums.{over_same}
use Rattle.decoder.proofs.Totals.{over_none, over_plus}

-- a sum of sums, by the second index first
over_swap : (n m : ℕ) (f : ℕ → ℕ → ℤ) → over n (λ i. over m (λ p. f i p)) ≡ over m (λ p. over n (λ i. f i p))
over_swap zero m f = sym (over_none m)
over_swap (suc n) m f =
    ap (λ (x : ℤ). x +ℤ over m (λ p. f n p)) (over_swap n m f)
    ∙ sym (over_plus m (λ p. over n (λ i. f i p)) (λ p. f n p))

-- a sum whose terms are 0 but at j is its term at j
over_alone : (n j : ℕ) (f : ℕ → ℤ) → j < n → ((i : ℕ) → i < n → (i ≡ j → ⊥) → f i ≡ pos 0) → over n f ≡ f j
over_alone zero j f b none = absurd (omega arith)
over_alone (suc n) j f b none =
    elim (cases_eq n j) [
      | inl e ↦ ap₂ ◌+ℤ◌ (over_same n f (λ i. pos 0) (λ i l. none i (omega arith) (λ d. omega arith)) ∙ over_none n) (ap f e) ∙ +ℤ_idl (f j)
      | inr d ↦ ap₂ ◌+ℤ◌ (over_alone n j f (omega arith) (λ i l. none i (omega arith))) (none n (omega arith) d) ∙ +ℤ_idr (f j)
    ]

-- x where a is b, and 0 elsewhere
abbrev only : ℕ → ℕ → ℤ → ℤ
only a b x = cond (eqb a b) x (pos 0)

-- x, where they are equal
only_here : (a b : ℕ) (x : ℤ) → a ≡ b → only a b x ≡ x
only_here a b x e = rw (eq-eqb a b e)

-- 0, where they differ
only_elsewhere : (a b : ℕ) (x : ℤ) → (a ≡ b → ⊥) → only a b x ≡ pos 0
only_elsewhere a b x d = rw (ne_eqb a b d)

-- A sum is unchanged when its indices are moved: each term stands in a square of i and p where p is i moved, and the square
-- is summed by i and by p.
pub over_moved : (n : ℕ) (moved : ℕ → ℕ) → ((i : ℕ) → i < n → moved i < n) → ((p : ℕ) → p < n → (i : ℕ) × (i < n) × (moved i ≡ p))
    → ((i k : ℕ) → i < n → k < n → moved i ≡ moved k → i ≡ k) → (f : ℕ → ℤ) → over n (λ i. f (moved i)) ≡ over n f
over_moved n moved within onto apart f =
    over_same n (λ i. f (moved i)) (λ i. over n (λ p. only p (moved i) (f p))) (λ i b.
    sym (over_alone n (moved i) (λ p. only p (moved i) (f p)) (within i b) (λ p l d. only_elsewhere p (moved i) (f p) d)
    ∙ only_here (moved i) (moved i) (f (moved i)) refl))
    ∙ over_swap n n (λ i p. only p (moved i) (f p))
    ∙ over_same n (λ p. over n (λ i. only p (moved i) (f p))) f (λ p b.
    let o = onto p b in
    over_alone n o.0 (λ i. only p (moved i) (f p)) o.1 (λ i l d.
    only_elsewhere p (moved i) (f p) (λ e. d (apart i o.0 l o.1 (sym e ∙ sym o.2))))
    ∙ only_here p (moved o.0) (f p) (sym o.2))
