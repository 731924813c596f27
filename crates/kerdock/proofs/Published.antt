-- The word by the relative trace in the ring, as the code is published, is the word by the traces of the powers.
use Rattle.std.proofs.Common.{◌≡◌, ℕ, zero, suc, ◌+◌, ◌*◌, ◌%◌, ◌^◌, ◌<◌, List, length, get_or, sym, ap, ◌∙◌, mul-one, mul_left_comm, arith}
use mathlib.Core.Path.{fun_ext}
use native.Mathlib.Nat.{pow-succ', add-mod-mod}
use Rattle.kerdock.specs.Ring.{iterate, number, times_root, power, total, combination, frobenius, product, relative}
use Rattle.kerdock.specs.Code.{Row, t, sum_to, digit, symbol, leader}
use Rattle.kerdock.specs.Sound.{Sound, Published}
use Rattle.kerdock.proofs.Elements.{length_power, combination_by_combination, total_of_combinations, number_at, combination_of_numbers}
use Rattle.kerdock.proofs.Iterate.{iterate_add}

module _ (row : Row) (s : Sound row) where
  -- the Frobenius map done i times raises each power of a combination to the power 2 ^ i
  frobenius_of_powers : (p : List ℕ) (g : ℕ → ℕ) (i : ℕ) →
      iterate (frobenius row.h) (combination row.h p (λ k. power row.h (g k))) i
      ≡ combination row.h p (λ k. power row.h (g k * 2 ^ i))
  frobenius_of_powers p g zero =
      ap (combination row.h p) (fun_ext (λ k. ap (power row.h) (sym (mul-one (g k)))))
  frobenius_of_powers p g (suc i) =
      let doubled : (k : ℕ) → 2 * (g k * 2 ^ i) ≡ g k * 2 ^ suc i =
      λ k. mul_left_comm 2 (g k) (2 ^ i) ∙ ap (λ (x : ℕ). g k * x) (sym (pow-succ' 2 i)) in
      ap (frobenius row.h) (frobenius_of_powers p g i)
      ∙ combination_by_combination row.h p (λ k. power row.h (g k * 2 ^ i)) (λ k. power row.h (2 * k))
      (λ k. length_power row.h (g k * 2 ^ i)) (λ k. length_power row.h (2 * k))
      ∙ ap (combination row.h p)
      (fun_ext (λ k. s.squares (g k * 2 ^ i) ∙ ap (power row.h) (doubled k)))

  -- the relative trace of a combination of powers is the combination of their traces
  relative_of_powers : (p : List ℕ) (g : ℕ → ℕ) →
      relative row.h row.degree (combination row.h p (λ k. power row.h (g k)))
      ≡ combination row.h p (λ k. number row.h (t row (g k)))
  relative_of_powers p g =
      ap (λ (f : ℕ → List ℕ). total row.h f row.degree) (fun_ext (frobenius_of_powers p g))
      ∙ total_of_combinations row.h p (λ i k. power row.h (g k * 2 ^ i)) row.degree
      ∙ ap (combination row.h p) (fun_ext (λ k. s.numbers (g k)))

  -- a product by a power is a combination of the powers from it on
  product_with_power : (p : List ℕ) (j : ℕ) →
      product row.h p (power row.h j) ≡ combination row.h p (λ k. power row.h (j + k))
  product_with_power p j =
      ap (combination row.h p) (fun_ext (λ k. iterate_add (times_root row.h) (number row.h 1) j k))

  -- the relative trace of λ × r ^ j is the number that the trace rule has
  relative_is : (m j : ℕ) →
      relative row.h row.degree (product row.h (leader row m) (power row.h j))
      ≡ number row.h (sum_to (λ k. digit m (suc k) * t row (j + k)) row.degree % 4)
  relative_is m j =
      ap (relative row.h row.degree) (product_with_power (leader row m) j)
      ∙ relative_of_powers (leader row m) (λ k. j + k)
      ∙ combination_of_numbers row.h (λ k. digit m (suc k)) (λ k. t row (j + k)) row.degree

  -- the first coefficient of the relative trace is that number
  relative_at : (m j : ℕ) →
      get_or (relative row.h row.degree (product row.h (leader row m) (power row.h j))) 0 0
      ≡ sum_to (λ k. digit m (suc k) * t row (j + k)) row.degree % 4
  relative_at m j =
      let d : 0 < length row.h = omega arith in
      ap (λ (x : List ℕ). get_or x 0 0) (relative_is m j)
      ∙ number_at row.h (sum_to (λ k. digit m (suc k) * t row (j + k)) row.degree % 4) d

  -- the symbol is e plus the relative trace
  symbol_is : (m j : ℕ) →
      symbol row m (suc j)
      ≡ (digit m 0 + get_or (relative row.h row.degree (product row.h (leader row m) (power row.h j))) 0 0) % 4
  unfolding symbol
  symbol_is m j =
      sym (add-mod-mod (digit m 0) (sum_to (λ k. digit m (suc k) * t row (j + k)) row.degree) 4)
      ∙ ap (λ (x : ℕ). (digit m 0 + x) % 4) (sym (relative_at m j))

-- a sound row has the published form
pub published : (row : Row) → Sound row → Published row
published row s = record {
  numbers = λ m j. relative_is row s m j ∙ ap (number row.h) (sym (relative_at row s m j));
  symbols = symbol_is row s;
}
