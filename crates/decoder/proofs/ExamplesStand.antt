-- A worked example that passes its test stands; so do all of the list.
use Rattle.std.proofs.Common.{◌≡◌, ℕ, zero, suc, ◌+◌, ◌*◌, ◌%◌, ◌<◌, ◌≤◌, Bool, true, false, T, eqb, ltb, leb, ◌⊎◌, List, [], ◌∷◌, get_or, ℤ, pos, ◌+ℤ◌, ◌≤ℤ◌, ◌<ℤ◌, refl, ap, subst, ap₂, inl, inr, arith, eqb→eq, ltb→lt, leb→le}
use mathlib.Core.Path.{fun_ext}
use borrow.Author.Differences.{ints}
use lib.Signed.{le_z, lt_z, le_z_yes, lt_z_yes}
use Rattle.std.specs.List.{AllByRecursion}
use Rattle.samples.specs.Meaning.{reads, silence}
use Rattle.samples.specs.ComplexKind.{complex_turned}
use Rattle.samples.proofs.Sums.{over_same}
use Rattle.kerdock.specs.Code.{size, messages, t, symbol, place, digit, listed}
use Rattle.kerdock.specs.Table.{known}
use Rattle.kerdock.specs.Sound.{Sound}
use Rattle.kerdock.proofs.Tests.{both, left, right, same→eq, upto, upto_at}
use Rattle.kerdock.proofs.Iterate.{listed_at}
use Rattle.kerdock.proofs.Sums.{sum_same}
use Rattle.kerdock.proofs.RowFacts.{known_sound}
use Rattle.decoder.specs.Scores.{Reception, score, scores}
use Rattle.decoder.specs.Ranking.{Ranking, Leads}
use Rattle.decoder.specs.Examples.{row, Example, traces, places, word, turned, decided, Stands, examples}
use Rattle.decoder.proofs.Rankings.{one_ranking}
use Rattle.decoder.proofs.ExampleTests.{either, some, same_number, trace_list, symbol_by, scores_by, stays, attains, leads, passes, all_pass}
use Rattle.decoder.proofs.ExamplesPass.{computed}

-- what the tests say

one_of : (a b : Bool) → T (either a b) → T a ⊎ T b
one_of true b h = inl tt
one_of false b h = inr h

some_at : (f : ℕ → Bool) (n : ℕ) → T (some f n) → (k : ℕ) × (k < n) × T (f k)
some_at f zero h = absurd h
some_at f (suc n) h =
    elim (one_of (f n) (some f n) h) [
      | inl p ↦ (n, omega arith, p)
      | inr q ↦ let found = some_at f n q in (found.0, omega arith, found.2)
    ]

same_number→eq : (a b : ℤ) → T (same_number a b) → a ≡ b
same_number→eq a b h =
    let p : a ≤ℤ b = le_z_yes (left (le_z a b) (le_z b a) h) in
    let q : b ≤ℤ a = le_z_yes (right (le_z a b) (le_z b a) h) in
    omega (arith, ints)

-- what holds of a message k of score a below a leader m of score b
record Stays (m : ℕ) (b : ℤ) (margin k : ℕ) (a : ℤ) : Type 0 where
  best : a ≤ℤ b
  smallest : a ≡ b → m ≤ k
  behind : (k ≡ m → ⊥) → (a +ℤ pos margin) ≤ℤ b

stays_is : (m : ℕ) (b : ℤ) (margin k : ℕ) (a : ℤ) → (k ≡ m → a ≡ b) → T (stays m b margin k a) → Stays m b margin k a
stays_is m b margin k a own h =
    let gap = le_z (a +ℤ pos margin) b in
    let order = either (leb m k) (lt_z a b) in
    elim (one_of (eqb k m) (both gap order) h) [
      | inl p ↦
          let e = eqb→eq k m p in
          let f = own e in
          record { best = omega (arith, ints); smallest = λ _. omega arith; behind = λ other. absurd (other e) }
      | inr q ↦
          let g : (a +ℤ pos margin) ≤ℤ b = le_z_yes (left gap order q) in
          record {
            best = omega (arith, ints);
            smallest = λ e. elim (one_of (leb m k) (lt_z a b) (right gap order q)) [
              | inl l ↦ leb→le m k l
              | inr l ↦ let below : a <ℤ b = lt_z_yes l in absurd (omega (arith, ints))
            ];
            behind = λ _. g;
          }
    ]

other_than : (m k : ℕ) → T (either (ltb k m) (ltb m k)) → k ≡ m → ⊥
other_than m k h e =
    elim (one_of (ltb k m) (ltb m k) h) [
      | inl l ↦ let b = ltb→lt k m l in omega arith
      | inr l ↦ let b = ltb→lt m k l in omega arith
    ]

module _ (n : ℕ) (f : ℕ → ℤ) (m margin : ℕ) (pass : T (leads n f m (f m) margin)) where
  abbrev stays_at : ℕ → Bool
  stays_at k = stays m (f m) margin k (f k)

  abbrev attains_at : ℕ → Bool
  attains_at k = attains m (f m) margin k (f k)

  pass_others : T (both (upto stays_at n) (some attains_at n))
  pass_others = right (ltb m n) (both (upto stays_at n) (some attains_at n)) pass

  all_stay : (k : ℕ) → k < n → Stays m (f m) margin k (f k)
  all_stay k l =
      stays_is m (f m) margin k (f k) (λ e. ap f e)
      (upto_at stays_at n (left (upto stays_at n) (some attains_at n) pass_others) k l)

  one_attains : (k : ℕ) × (k < n) × (k ≡ m → ⊥) × (f k +ℤ pos margin ≡ f m)
  one_attains =
      let found = some_at attains_at n (right (upto stays_at n) (some attains_at n) pass_others) in
      let k = found.0 in
      let other = either (ltb k m) (ltb m k) in
      let exact = same_number (f k +ℤ pos margin) (f m) in
      (k, found.1, other_than m k (left other exact found.2), same_number→eq (f k +ℤ pos margin) (f m) (right other exact found.2))

  leads_is : Leads n f m margin
  leads_is = record {
    within = ltb→lt m n (left (ltb m n) (both (upto stays_at n) (some attains_at n)) pass);
    best = λ k l. (all_stay k l).best;
    smallest = λ k l. (all_stay k l).smallest;
    behind = λ k l. (all_stay k l).behind;
    reached = one_attains;
  }

-- the symbols and scores from the list of traces are those of the definitions

symbol_is : (m i : ℕ) → i < size row → symbol_by trace_list m i ≡ symbol row m i
unfolding symbol
symbol_is m zero l = refl
symbol_is m (suc j) l =
    ap (λ (x : ℕ). (digit m 0 + x) % 4)
    (sum_same (λ k. digit m (suc k) * get_or trace_list (j + k) 0) (λ k. digit m (suc k) * t row (j + k)) row.degree
    (λ k b. ap (λ (x : ℕ). digit m (suc k) * x) (listed_at (t row) (size row + row.degree) (j + k) (omega arith))))

scores_are : (rs : List Reception) (m : ℕ) → scores_by trace_list rs m ≡ scores row rs m
unfolding score
scores_are [] m = refl
scores_are (r ∷ rs) m =
    ap₂ ◌+ℤ◌
    (over_same (size row) (λ i. reads (get_or r i silence) (symbol_by trace_list m i)) (λ i. reads (get_or r i silence) (symbol row m i))
    (λ i l. ap (reads (get_or r i silence)) (symbol_is m i l)))
    (scores_are rs m)

row_sound : Sound row
unfolding known
row_sound = (known_sound 3 tt).0

-- the examples

passed_stands : (x : Example) → T (passes trace_list x) → Stands x
passed_stands (traces xs) h = same→eq (listed (t row) 7) xs h
passed_stands (places xs) h = same→eq (listed (place row) 8) xs h
passed_stands (word m xs) h = same→eq (listed (symbol row m) 8) xs h
passed_stands (turned x y) h =
    let z = complex_turned x in
    let first = same_number z.re y.re in
    let second = same_number z.im y.im in
    ap₂ (λ (a b : ℤ). record { re = a; im = b }) (same_number→eq z.re y.re (left first second h))
    (same_number→eq z.im y.im (right first second h))
passed_stands (decided rs m s margin) h =
    let f = scores_by trace_list rs in
    let led = leads (messages row) f m (f m) margin in
    let right-score = same_number (f m) s in
    subst (λ (g : ℕ → ℤ). Ranking row g m margin × (g m ≡ s)) (fun_ext (scores_are rs)) (
      (one_ranking row row_sound).by_words f m margin (leads_is (messages row) f m margin (left led right-score h)),
      same_number→eq (f m) s (right led right-score h),
    )

all_stand : (xs : List Example) → T (all_pass trace_list xs) → AllByRecursion Stands xs
all_stand [] h = tt
all_stand (x ∷ xs) h =
    (passed_stands x (left (passes trace_list x) (all_pass trace_list xs) h), all_stand xs (right (passes trace_list x) (all_pass trace_list xs) h))

pub examples_stand : AllByRecursion Stands examples
examples_stand = all_stand examples computed
