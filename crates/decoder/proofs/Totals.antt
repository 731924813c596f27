-- Totals over indices and receptions: scores add, and a reception of small samples moves a score little.
use Rattle.std.proofs.Common.{◌≡◌, ℕ, zero, suc, ◌*◌, ◌<◌, ◌≤◌, List, [], ◌∷◌, get_or, ℤ, pos, ◌+ℤ◌, nat_abs, refl, ap, ◌∙◌, suc-mul, arith}
use borrow.Author.Differences.{ints}
use Rattle.std.specs.List.{AllByRecursion}
use Rattle.samples.specs.Meaning.{Meaning, reads, silence, over}
use Rattle.samples.proofs.Sums.{over_same}
use Rattle.kerdock.specs.Code.{Row, size, symbol}
use Rattle.kerdock.specs.Sound.{Sound}
use Rattle.kerdock.proofs.Words.{words}
use Rattle.decoder.specs.Scores.{Reception, score, scores, readings, Added}
use Rattle.decoder.specs.Laws.{ScoresAdd}

-- what holds of every element and of the default holds at every index, past the end too
pub all_at : {X : Type 0} (P : X → Type 0) (d : X) → P d → (xs : List X) → AllByRecursion P xs → (i : ℕ) → P (get_or xs i d)
all_at P d p [] h i = p
all_at P d p (x ∷ xs) h zero = h.0
all_at P d p (x ∷ xs) h (suc i) = all_at P d p xs h.1 i

-- a sum of terms 0 is 0
pub over_none : (n : ℕ) → over n (λ i. pos 0) ≡ pos 0
over_none zero = refl
over_none (suc n) = let e = over_none n in omega (arith, ints)

-- a sum of sums, term by term
pub over_plus : (n : ℕ) (f g : ℕ → ℤ) → over n (λ i. f i +ℤ g i) ≡ over n f +ℤ over n g
over_plus zero f g = refl
over_plus (suc n) f g = let e = over_plus n f g in omega (arith, ints)

-- n terms of absolute value s at most have a sum of absolute value n × s at most
over_within : (n s : ℕ) (f : ℕ → ℤ) → ((i : ℕ) → i < n → nat_abs (f i) ≤ s) → nat_abs (over n f) ≤ n * s
over_within zero s f h = omega arith
over_within (suc n) s f h =
    let a = over_within n s f (λ i l. h i (omega arith)) in
    let b = h n (omega arith) in
    rw suc-mul (omega (arith, ints))

-- no reading's absolute value is above the size
reads_within : (x : Meaning) (s : ℕ) → nat_abs (reads x s) ≤ x.size
reads_within x zero = x.within0
reads_within x (suc zero) = x.within1
reads_within x (suc (suc zero)) = x.within2
reads_within x (suc (suc (suc n))) = x.within3

-- the scores over receptions, index by index
over_readings : (row : Row) (rs : List Reception) (m : ℕ) → over (size row) (λ i. readings rs i (symbol row m i)) ≡ scores row rs m
unfolding score
over_readings row [] m = over_none (size row)
over_readings row (r ∷ rs) m =
    over_plus (size row) (λ i. reads (get_or r i silence) (symbol row m i)) (λ i. readings rs i (symbol row m i))
    ∙ ap (λ (z : ℤ). score row r m +ℤ z) (over_readings row rs m)

-- the score over a sum of receptions is the sum of the scores
score_added : (row : Row) → Sound row → (rs : List Reception) (x : Reception) → Added (size row) rs x → (m : ℕ) → score row x m ≡ scores row rs m
unfolding score
score_added row sound rs x added m =
    over_same (size row) _ _ (λ i l. added i (symbol row m i) l ((words row sound).small m i)) ∙ over_readings row rs m

-- a score over samples of size s at most has an absolute value of N × s at most
score_within : (row : Row) (r : Reception) (s : ℕ) → AllByRecursion (λ x. x.size ≤ s) r → (m : ℕ) → nat_abs (score row r m) ≤ size row * s
unfolding score
score_within row r s small m =
    over_within (size row) s _ (λ i l.
    let a = reads_within (get_or r i silence) (symbol row m i) in
    let b : (get_or r i silence).size ≤ s = all_at (λ x. x.size ≤ s) silence (omega arith) r small i in
    omega arith)

-- scores add, and small samples move them little
pub scores_add : (row : Row) → Sound row → ScoresAdd row
scores_add row sound = record {
  one = score_added row sound;
  small = λ r s small m. let a = score_within row r s small m in (omega (arith, ints), omega (arith, ints));
}
