-- The greatest of what a chain of iterators gave.
use Rattle.std.proofs.Common.{◌≡◌, ℕ, ◌<◌, false, ℤ, ◌≤ℤ◌, ◌<ℤ◌, Option, Some, None, MatchOption, IfSome, IsSomeAnd, refl, arith}
use borrow.Author.Differences.{ints}
use Rattle.std.specs.Option.{option_map}
use Rattle.std.specs.Ordering.{MatchOrdering, int_cmp, is_gt}
use Rattle.std.specs.declared.cmp.Ordering.{Ordering}
use Rattle.std.specs.declared.cmp.Ordering.TheVariants.{Less, Equal, Greater}
use Rattle.std.proofs.lemmas.Bool.{false≢true}
use Rattle.std.proofs.lemmas.Cmp.{int_ranked}

-- a number that does not compare as greater is not above
not_above_by : (z m : ℤ) (r : Ordering) → MatchOrdering r (z <ℤ m) (z ≡ m) (m <ℤ z) → is_gt r ≡ false → z ≤ℤ m
not_above_by z m Less h e = omega (arith, ints)
not_above_by z m Equal h e = omega (arith, ints)
not_above_by z m Greater h e = absurd (false≢true (cc))

-- of some items, the greatest is there
pub greatest : (r : Option ℤ) (len : ℕ) (P : ℤ → Type 0) → 0 < len → MatchOption r (len ≡ 0) P → (m : ℤ) × (r ≡ Some m) × P m
greatest None len P b h = absurd (omega arith)
greatest (Some m) len P b h = (m, refl, h)

-- what was given for an item, and is no greater than the greatest
pub record Given {A X : Type 0} (now : A → X) (R : A → ℤ → Type 0) (m : ℤ) (x : X) : Type 0 where
  pub item : A
  pub value : ℤ
  pub is : now item ≡ x
  pub gave : R item value
  pub below : value ≤ℤ m

pub given : {A X : Type 0} (now : A → X) (R : A → ℤ → Type 0) (m : ℤ) (x : X) (q : Option A) (p : Option ℤ) → option_map now q ≡ Some x →
    IfSome q (λ y. IsSomeAnd p (R y)) → IfSome p (λ z. is_gt (int_cmp z m) ≡ false) → Given now R m x
given {A} {X} now R m x None p e r h = let f : ◌≡◌ {A = Option X} None (Some x) = e in let z : ◌≡◌ {A = ℕ} 0 1 = cc in absurd (omega arith)
given now R m x (Some y) None e r h = absurd r
given now R m x (Some y) (Some z) e r h = record { item = y; value = z; is = cc; gave = r; below = not_above_by z m (int_cmp z m) (int_ranked z m (int_cmp z m) refl) h }
