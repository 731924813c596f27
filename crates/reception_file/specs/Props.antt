-- What a checked file keeps has one proof at most.
--
-- Glossary
--   Accepted-prop   that a file is accepted
--   Heads-prop      that a head is that of a file
use Rattle.std.specs.Prelude.{◌≡◌, ℕ, ◌⊎◌, List}
use Rattle.std.proofs.Common.{inl, inr, ap, arith}
use Rattle.std.proofs.Math.Nat.{ℕ_set}
use Rattle.std.proofs.Props.{props}
use Rattle.reception_file.specs.Layout.{GoodKind, GoodDegree}
use Rattle.reception_file.specs.Check.{Accepted, Heads}
use Rattle.reception_file.specs.declared.head.Head.{Head}

-- a number is at most one of two
one_of : {A B : Type 0} → IsProp A → IsProp B → (A → B → ⊥) → IsProp (A ⊎ B)
one_of a b not (inl x) (inl y) = ap inl (a x y)
one_of a b not (inl x) (inr y) = absurd (not x y)
one_of a b not (inr x) (inl y) = absurd (not y x)
one_of a b not (inr x) (inr y) = ap inr (b x y)

GoodKind-prop : (k : ℕ) → IsProp (GoodKind k)
GoodKind-prop k = one_of (ℕ_set k 1) (ℕ_set k 2) (λ a b. omega arith)

GoodDegree-prop : (d : ℕ) → IsProp (GoodDegree d)
GoodDegree-prop d =
    one_of (ℕ_set d 3) (one_of (ℕ_set d 5) (ℕ_set d 7) (λ a b. omega arith)) (λ (a : d ≡ 3) (b : (d ≡ 5) ⊎ (d ≡ 7)). elim b [ inl e ↦ omega arith | inr e ↦ omega arith ])

pub Accepted-prop : (bs : List ℕ) → IsProp (Accepted bs)
Accepted-prop bs = Prim.hlevel (GoodKind-prop, GoodDegree-prop, props)

pub Heads-prop : (bs : List ℕ) (h : Head) → IsProp (Heads bs h)
Heads-prop bs h = Prim.hlevel props
