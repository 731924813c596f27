-- The rows of a table of leaders, as the doubling loop builds them.
--   Led    the rows that stand so far
--   Sizes  the sizes at one turn
use Rattle.std.proofs.Common.{◌≡◌, ℕ, ◌+◌, ◌*◌, ◌%◌, ◌^◌, ◌<◌, ◌≤◌, ◌≢◌, List, [], length, get_or, set, replicate, sym, ap, ◌∙◌, ap₂, inl, inr, pow-suc, add-one, arith, pow_mono, get_or-set_other, get_or-set_same}
use native.Mathlib.Nat.{div-eq_of_lt}
use Rattle.std.proofs.lemmas.Bool.{cases_lt}
use Rattle.kerdock.specs.Code.{Row, symbol}
use Rattle.kerdock.specs.Sound.{Sound}
use Rattle.kerdock.specs.Books.{Lawful}
use Rattle.kerdock.specs.declared.books.CodeBook.{CodeBook}
use Rattle.kerdock.proofs.Fills.{all_zeros}
use Rattle.decoder.specs.Cosets.{message, bit}
use Rattle.decoder.proofs.Cosets.{cosets}
use Rattle.decoder.proofs.UnitRows.{none_led}
use Rattle.decoder.proofs.Powers.{shifted}

-- of a lawful book, the rows below a bound hold the leaders, by place; `at` is the index of each place
pub record Led (book : CodeBook) (degree : ℕ) (at : List ℕ) (bound : ℕ) (rows : List (List ℕ)) : Type 0 where
  pub is : (row : Row) → Sound row → row.degree ≡ degree → Lawful row book → (u p : ℕ) → u < bound → p < 2 ^ degree →
      get_or (get_or rows u []) p 0 ≡ symbol row (message row 0 u 0) (get_or at p 0)

-- the turn at bit k
pub record Sizes (degree k : ℕ) : Type 0 where
  pub next : 2 ^ k + 2 ^ k ≡ 2 ^ (k + 1)
  pub half : 1 * 2 ^ k % 18446744073709551616 ≡ 2 ^ k
  pub light : 2 ^ k ≤ 64

-- every turn has these sizes
pub sizes : (degree k : ℕ) → degree ≤ 7 → k < degree → Sizes degree k
sizes degree k seven b =
    let last : k ≤ 6 = omega arith in
    let most : 2 ^ k ≤ 2 ^ 6 = pow_mono last in
    let up = pow-suc 2 k in
    record { next = rw (add-one k) (omega arith); half = shifted k (omega arith); light = omega arith }

module _ (book : CodeBook) (degree : ℕ) (at : List ℕ) where
  -- a first row of zeros is the leader of coset 0
  pub led_none : (m : ℕ) (rows : List (List ℕ)) → 0 < length rows → Led book degree at 1 (set rows 0 (replicate m 0))
  led_none m rows some = record {
    is = λ row s d l u p h c.
        let z : 0 ≡ u = omega arith in
        ap (λ (x : ℕ). get_or (get_or (set rows 0 (replicate m 0)) x []) p 0) (sym z)
        ∙ rw get_or-set_same (all_zeros m p)
        ∙ sym (none_led row (get_or at p 0))
        ∙ ap (λ (x : ℕ). symbol row (message row 0 x 0) (get_or at p 0)) z;
  }

  -- one row more: that of u plus the unit row is the leader of u with bit k added
  pub led_more : (k u half : ℕ) (unit sum : List ℕ) (rows : List (List ℕ)) → half ≡ 2 ^ k → k < degree → u < half → half + u < length rows
      → ((row : Row) → Sound row → row.degree ≡ degree → Lawful row book → (p : ℕ) → p < 2 ^ degree →
      get_or unit p 0 ≡ symbol row (message row 0 (2 ^ k) 0) (get_or at p 0))
      → ((p : ℕ) → get_or sum p 0 ≡ (get_or (get_or rows u []) p 0 + get_or unit p 0) % 4)
      → Led book degree at (half + u) rows
      → Led book degree at (half + (u + 1)) (set rows (half + u) sum)
  led_more k u half unit sum rows e b below room one here led = record {
    is = λ row s d l v p h c.
        elim (cases_lt v (half + u)) [
          | inl f ↦
              let other : v ≢ half + u = λ e. omega arith in
              rw get_or-set_other (led.is row s d l v p f c)
          | inr f ↦
              let last : half + u ≡ v = omega arith in
              let its-coset : u + 2 ^ k ≡ v = omega arith in
              let within : k < row.degree = omega arith in
              let lower : u < 2 ^ k = omega arith in
              let none : bit u k ≡ 0 = ap (λ (x : ℕ). x % 2) (div-eq_of_lt lower) in
              ap (λ (x : ℕ). get_or (get_or (set rows (half + u) sum) x []) p 0) (sym last)
              ∙ rw get_or-set_same (here p)
              ∙ ap₂ (λ (x y : ℕ). (x + y) % 4) (led.is row s d l u p (omega arith) c) (one row s d l p c)
              ∙ sym ((cosets row s).leader_bit u k (get_or at p 0) within none)
              ∙ ap (λ (x : ℕ). symbol row (message row 0 x 0) (get_or at p 0)) its-coset
        ];
  }
