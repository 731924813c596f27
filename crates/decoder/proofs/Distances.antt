-- For complex samples the squared distance of a word falls as its score rises.
use Rattle.std.proofs.Common.{◌≡◌, ℕ, zero, suc, ◌*◌, List, [], ◌∷◌, get_or, ℤ, pos, ◌+ℤ◌, ◌*ℤ◌, sym, refl, ◌∙◌, arith}
use borrow.Author.Differences.{ints}
use Rattle.std.specs.List.{AllByRecursion}
use Rattle.samples.specs.Meaning.{silence, over}
use Rattle.kerdock.specs.Code.{Row, size, symbol}
use Rattle.decoder.specs.Scores.{Reception, score, scores, IsComplex, square, distance, distances}
use Rattle.decoder.specs.Laws.{Nearest}
use Rattle.decoder.proofs.Totals.{all_at}
use Rattle.decoder.proofs.Squares.{times_sum, times_order, far_balance}

-- silence is complex
silence_complex : IsComplex silence
silence_complex = record { opposite0 = refl; opposite1 = refl }

-- terms that balance have sums that balance
over_balance : (n : ℕ) (a : ℤ) (f r e : ℕ → ℤ) → ((i : ℕ) → f i +ℤ (a *ℤ r i) ≡ e i) → over n f +ℤ (a *ℤ over n r) ≡ over n e
over_balance zero a f r e h = omega (arith, ints)
over_balance (suc n) a f r e h =
    let p = over_balance n a f r e h in
    let q = h n in
    let s = times_sum (over n r) (r n) a in
    omega (arith, ints)

-- what a reception gives to the squared distance of every word alike
power : Row → ℕ → Reception → ℤ
power row g r = over (size row) (λ i. (square (get_or r i silence).read0 +ℤ square (get_or r i silence).read1) +ℤ square (pos g))

-- the same of several receptions
powers : Row → ℕ → List Reception → ℤ
powers row g [] = pos 0
powers row g (r ∷ rs) = power row g r +ℤ powers row g rs

-- a squared distance plus 2 g times the score is the same for every word
distance_balance : (row : Row) (g m : ℕ) (r : Reception) → AllByRecursion IsComplex r → distance row g r m +ℤ (pos (2 * g) *ℤ score row r m) ≡ power row g r
unfolding power distance score
distance_balance row g m r h =
    over_balance (size row) (pos (2 * g)) _ _ _ (λ i. far_balance g (symbol row m i) (get_or r i silence) (all_at IsComplex silence silence_complex r h i))

-- the same over several receptions
distances_balance : (row : Row) (g m : ℕ) (rs : List Reception) → AllByRecursion (AllByRecursion IsComplex) rs →
    distances row g rs m +ℤ (pos (2 * g) *ℤ scores row rs m) ≡ powers row g rs
unfolding powers
distances_balance row g m [] h = omega (arith, ints)
distances_balance row g m (r ∷ rs) h =
    let p = distance_balance row g m r h.0 in
    let q = distances_balance row g m rs h.1 in
    let s = times_sum (score row r m) (scores row rs m) (pos (2 * g)) in
    omega (arith, ints)

-- so a score that is not lower is a distance that is not larger
pub nearest : (row : Row) → Nearest row
nearest row = record {
  balance = λ rs complex g m k. distances_balance row g m rs complex ∙ sym (distances_balance row g k rs complex);
  nearer = λ rs complex g one m k h.
      let p = distances_balance row g m rs complex in
      let q = distances_balance row g k rs complex in
      let s = times_order (2 * g) (scores row rs k) (scores row rs m) h in
      omega (arith, ints);
}
