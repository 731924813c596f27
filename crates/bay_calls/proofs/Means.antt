-- Samples of a kind, by their meanings.
use Rattle.std.proofs.Common.{◌≡◌, ℕ, zero, suc, ◌+◌, ◌<◌, ◌≤◌, List, [], ◌∷◌, length, get_or, Some, None, sym, refl, ap, ◌∙◌, arith, le-leb}
use lib.ListN.{length-map}
use borrow.Author.Tests.{lt-leb}
use Rattle.std.proofs.lemmas.List.{get_or-map}
use Rattle.samples.specs.Meaning.{silence}
use Rattle.samples.specs.Sizes.{FirstAbove, size_at}
use Rattle.samples.specs.declared.sample.Sample.{Ghosts}
use Rattle.decoder.specs.Search.{meanings, Zeros}
use Rattle.bay.specs.Rules.{deny, too_large}
use Rattle.bay.specs.Steps.{Adds, Zeroed}
use Rattle.bay_calls.specs.Sums.{Summed}

module _ {S : Type 0} (m : Ghosts S) where
  -- as many meanings as samples
  pub as_many : (xs : List S) → length (meanings m xs) ≡ length xs
  as_many xs = length-map xs m.means

  pub meaning_at : (xs : List S) (i : ℕ) → i < length xs → m.means (get_or xs i m.zeroed) ≡ get_or (meanings m xs) i silence
  meaning_at xs i lt = sym (get_or-map m.means xs i m.zeroed silence lt)

  -- sums with a reception added, by the laws of the kind
  pub added_means : (xs r ys : List S) → length r ≡ length xs → Summed m xs r ys → Adds (meanings m xs) (meanings m r) (meanings m ys)
  added_means xs r ys same s =
      let lx = as_many xs in
      let ly = s.long in
      record {
        long = as_many ys ∙ s.long ∙ sym lx;
        reads_as = λ i k lt four.
            rw (sym (meaning_at xs i (omega arith)), sym (meaning_at r i (omega arith)), sym (meaning_at ys i (omega arith)), s.each i (omega arith))
            (m.laws.add_reads (get_or xs i m.zeroed) (get_or r i m.zeroed) k four);
        grows = λ i lt.
            rw (sym (meaning_at xs i (omega arith)), sym (meaning_at r i (omega arith)), sym (meaning_at ys i (omega arith)), s.each i (omega arith))
            (m.laws.add_size (get_or xs i m.zeroed) (get_or r i m.zeroed));
      }

  -- zero samples read 0
  pub zero_means : (xs ys : List S) → Zeros m xs ys → Zeroed (meanings m xs) (meanings m ys)
  zero_means xs ys z =
      let lx = as_many xs in
      let ly = z.long in
      record {
        long = as_many ys ∙ z.long ∙ sym lx;
        reads_as = λ i k lt four. rw (sym (meaning_at ys i (omega arith)), z.each i (omega arith)) (m.laws.zero_reads k four);
        none = λ i lt. rw (sym (meaning_at ys i (omega arith)), z.each i (omega arith)) m.laws.zero_size;
      }

  none_large : (j : ℕ) (r : List S) → ((k : ℕ) → k < length r → size_at m r k ≤ 32767) → too_large j (meanings m r) ≡ None
  none_large j [] h = refl
  none_large j (x ∷ xs) h = rw (le-leb (m.means x).size 32767 (h 0 (omega arith))) (none_large (suc j) xs (λ k lt. h (suc k) (omega arith)))

  first_large : (j i : ℕ) (r : List S) → i < length r → 32767 < size_at m r i → ((k : ℕ) → k < i → size_at m r k ≤ 32767) →
      too_large j (meanings m r) ≡ deny 4 (j + i)
  first_large j i [] lt big h = absurd (omega arith)
  first_large j zero (x ∷ xs) lt big h = let e : j ≡ j + 0 = omega arith in rw (lt-leb (m.means x).size 32767 big) (ap (deny 4) e)
  first_large j (suc i) (x ∷ xs) lt big h =
      let e : suc j + i ≡ j + suc i = omega arith in
      rw (le-leb (m.means x).size 32767 (h 0 (omega arith)))
      (first_large (suc j) i xs (omega arith) big (λ k l. h (suc k) (omega arith)) ∙ ap (deny 4) e)

  -- no sample is found too large, so none is
  pub no_large : (r : List S) → FirstAbove m 32767 r None → too_large 0 (meanings m r) ≡ None
  no_large r h = none_large 0 r (λ k lt. let q = h k lt in omega arith)

  -- the sample that is found is the first that is too large
  pub one_large : (r : List S) (i : ℕ) → FirstAbove m 32767 r (Some i) → too_large 0 (meanings m r) ≡ deny 4 i
  one_large r i h =
      let e : 0 + i ≡ i = omega arith in
      let big = h.above in
      first_large 0 i r h.inside (omega arith) (λ k l. let q = h.first k l in omega arith) ∙ ap (deny 4) e
