-- A row that passes the test is sound; so is every row of the table.
use Rattle.std.proofs.Common.{◌≡◌, ℕ, zero, suc, ◌+◌, ◌*◌, ◌/◌, ◌%◌, ◌^◌, ◌<◌, true, T, eqb, List, [], ◌∷◌, length, get_or, sym, refl, ap, ◌∙◌, subst, inl, inr, mod-lt, add-mul, mul_right_comm, arith, eqb→eq, ltb→lt}
use mathlib.Core.Path.{fun_ext}
use native.Mathlib.Nat.{mod-add-div', mod-add-mod, add-mod_right, add-mod}
use Rattle.kerdock.specs.Ring.{zeros, number, plus, times_root, power, total, combination, frobenius}
use Rattle.kerdock.specs.Code.{Row, size, period, ring_trace, t, sum_to, place}
use Rattle.kerdock.specs.Table.{Among, rows}
use Rattle.kerdock.specs.Sound.{Sound}
use Rattle.kerdock.proofs.Tests.{left, right, all, passed, same→eq, small_at, upto_at}
use Rattle.kerdock.proofs.Iterate.{iterate_mod, iterate_rounds, orbit_at, listed_at}
use Rattle.kerdock.proofs.Sums.{sum_same}
use Rattle.kerdock.proofs.Check.{powers, tabled, traces, round, places, seek, shapes, squares_at, trace_at, place_at, parts, checks, all_check}
use Rattle.kerdock.proofs.Computed.{computed}

-- an exponent less a multiple of n
spread : (j n p : ℕ) → j * p ≡ j % n * p + j / n * p * n
spread j n p =
    ap (λ (x : ℕ). x * p) (sym (mod-add-div' j n)) ∙ add-mul (j % n) (j / n * n) p
    ∙ ap (λ (x : ℕ). j % n * p + x) (mul_right_comm (j / n) n p)

-- twice k modulo n, from k modulo n
mod_double : (k n : ℕ) → (2 * (k % n)) % n ≡ (2 * k) % n
mod_double k n =
    let twice : 2 * (k % n) ≡ k % n + k % n = omega arith in
    let both : k + k ≡ 2 * k = omega arith in
    ap (λ (x : ℕ). x % n) twice ∙ sym (add-mod k k n) ∙ ap (λ (x : ℕ). x % n) both

module _ (row : Row) (pass : T (checks row)) where
  abbrev ps : List (List ℕ)
  ps = powers row

  abbrev ts : List ℕ
  ts = traces row ps

  abbrev pl : List ℕ
  pl = places row ts

  shaped : (k : ℕ) → T (get_or (shapes row) k true)
  shaped = passed (shapes row) (passed (parts row ps ts pl) pass 0)

  n_some : 0 < period row
  n_some = ltb→lt 0 (period row) (shaped 6)

  whole : size row ≡ suc (period row)
  whole = eqb→eq (size row) (suc (period row)) (shaped 7)

  again : power row.h (period row) ≡ number row.h 1
  again = same→eq (power row.h (period row)) (number row.h 1) (shaped 8)

  -- the powers repeat, so each is read off the table
  power_at : (k : ℕ) → get_or ps (k % period row) [] ≡ power row.h k
  power_at k =
      orbit_at (times_root row.h) (period row) (number row.h 1) [] (k % period row) (mod-lt k n_some)
      ∙ sym (iterate_mod (times_root row.h) (number row.h 1) (period row) again k)

  tabled_is : (j : ℕ) → tabled row ps j ≡ ring_trace row j
  tabled_is j =
      ap (λ (f : ℕ → List ℕ). total row.h f row.degree) (fun_ext (λ i. power_at (j * 2 ^ i)))

  trace_mod : (j : ℕ) → ring_trace row j ≡ ring_trace row (j % period row)
  trace_mod j =
      ap (λ (f : ℕ → List ℕ). total row.h f row.degree)
      (fun_ext (λ i. ap (power row.h) (spread j (period row) (2 ^ i))
      ∙ iterate_rounds (times_root row.h) (number row.h 1) (period row) again (j % period row * 2 ^ i) (j / period row * 2 ^ i)))

  t_mod : (j : ℕ) → t row j ≡ t row (j % period row)
  unfolding t
  t_mod j = ap (λ (x : List ℕ). get_or x 0 0) (trace_mod j)

  -- the table of traces has them all, counted round
  low_is : (j : ℕ) → j < period row → get_or ts j 0 ≡ t row j
  unfolding t
  low_is j b =
      listed_at (λ j. get_or (tabled row ps j) 0 0) (period row) j b ∙ ap (λ (x : List ℕ). get_or x 0 0) (tabled_is j)

  round_is : (k : ℕ) → round row ts k ≡ t row k
  round_is k = low_is (k % period row) (mod-lt k n_some) ∙ sym (t_mod k)

  traced : (j : ℕ) → j < period row → (k : ℕ) → T (get_or (trace_at row ps ts j) k true)
  traced j b =
      passed (trace_at row ps ts j)
      (upto_at (λ j. all (trace_at row ps ts j)) (period row) (passed (parts row ps ts pl) pass 2) j b)

  numbers : (j : ℕ) → ring_trace row j ≡ number row.h (t row j)
  numbers j =
      let i = j % period row in
      let b : i < period row = mod-lt j n_some in
      trace_mod j ∙ sym (tabled_is i) ∙ same→eq (tabled row ps i) (number row.h (get_or ts i 0)) (traced i b 0)
      ∙ ap (number row.h) (round_is j)

  symbols : (j : ℕ) → t row j < 4
  symbols j =
      let b : j % period row < period row = mod-lt j n_some in
      subst (λ (x : ℕ). x < 4) (round_is j) (ltb→lt (get_or ts (j % period row) 0) 4 (traced (j % period row) b 1))

  -- a shift by k counts from j as from j modulo the period
  shifted : (j k : ℕ) → round row ts (j % period row + k) ≡ t row (j + k)
  shifted j k = ap (λ (x : ℕ). get_or ts x 0) (mod-add-mod j (period row) k) ∙ round_is (j + k)

  follows : (j : ℕ) → t row (j + row.degree) ≡ sum_to (λ k. get_or row.rule k 0 * t row (j + k)) row.degree % 4
  follows j =
      let i = j % period row in
      let b : i < period row = mod-lt j n_some in
      sym (shifted j row.degree)
      ∙ eqb→eq (round row ts (i + row.degree)) (sum_to (λ k. get_or row.rule k 0 * round row ts (i + k)) row.degree % 4) (traced i b 2)
      ∙ ap (λ (x : ℕ). x % 4) (sum_same (λ k. get_or row.rule k 0 * round row ts (i + k)) (λ k. get_or row.rule k 0 * t row (j + k)) row.degree
      (λ k c. ap (λ (x : ℕ). get_or row.rule k 0 * x) (shifted j k)))

  repeats : (j : ℕ) → t row (j + period row) ≡ t row j
  repeats j = t_mod (j + period row) ∙ ap (t row) (add-mod_right j (period row)) ∙ sym (t_mod j)

  first_is : (k : ℕ) → k < row.degree → get_or row.first k 0 ≡ t row k
  first_is k b =
      eqb→eq (get_or row.first k 0) (round row ts k)
      (upto_at (λ k. eqb (get_or row.first k 0) (round row ts k)) row.degree (passed (parts row ps ts pl) pass 3) k b)
      ∙ round_is k

  squares : (k : ℕ) → frobenius row.h (power row.h k) ≡ power row.h (2 * k)
  squares k =
      let i = k % period row in
      let b : i < period row = mod-lt k n_some in
      let from : combination row.h (get_or ps i []) (λ l. get_or ps ((2 * l) % period row) []) ≡ frobenius row.h (power row.h k) =
      ap (λ (p : List ℕ). combination row.h p (λ l. get_or ps ((2 * l) % period row) [])) (power_at k)
      ∙ ap (combination row.h (power row.h k)) (fun_ext (λ l. power_at (2 * l))) in
      let twice : (2 * i) % period row ≡ (2 * k) % period row = mod_double k (period row) in
      sym from
      ∙ same→eq (combination row.h (get_or ps i []) (λ l. get_or ps ((2 * l) % period row) [])) (get_or ps ((2 * i) % period row) [])
      (upto_at (squares_at row ps) (period row) (passed (parts row ps ts pl) pass 1) i b)
      ∙ ap (λ (x : ℕ). get_or ps x []) twice ∙ power_at (2 * k)

  place_is : (i : ℕ) → i < size row → get_or pl i 0 ≡ place row i
  unfolding place
  place_is zero b = refl
  place_is (suc j) b =
      let w = whole in
      let c : j < period row = omega arith in
      listed_at (λ j. sum_to (λ k. 2 ^ k * (round row ts (j + k) % 2)) row.degree) (period row) j c
      ∙ sum_same (λ k. 2 ^ k * (round row ts (j + k) % 2)) (λ k. 2 ^ k * (t row (j + k) % 2)) row.degree
      (λ k c. ap (λ (x : ℕ). 2 ^ k * (x % 2)) (round_is (j + k)))

  placed : (i : ℕ) → i < size row → (k : ℕ) → T (get_or (place_at row pl i) k true)
  placed i b =
      passed (place_at row pl i)
      (upto_at (λ i. all (place_at row pl i)) (size row) (passed (parts row ps ts pl) pass 4) i b)

  -- each index is found again from its place
  found : (i : ℕ) → i < size row → seek (place row i) pl ≡ i
  found i b = ap (λ (x : ℕ). seek x pl) (sym (place_is i b)) ∙ eqb→eq (seek (get_or pl i 0) pl) i (placed i b 1)

  pub passes_sound : Sound row
  passes_sound = record {
    some = ltb→lt 1 row.degree (shaped 0);
    few = let b = ltb→lt row.degree 8 (shaped 1) in omega arith;
    coefficients = eqb→eq (length row.h) row.degree (shaped 2);
    begins = eqb→eq (length row.first) row.degree (shaped 3);
    rules = eqb→eq (length row.rule) row.degree (shaped 4);
    rule_small = small_at row.rule (shaped 5);
    root = same→eq (plus (combination row.h row.h (power row.h)) (power row.h row.degree)) (zeros row.h) (shaped 9);
    squares = squares;
    numbers = numbers;
    symbols = symbols;
    first_is = first_is;
    follows = follows;
    repeats = repeats;
    within = λ i b. subst (λ (x : ℕ). x < size row) (place_is i b) (ltb→lt (get_or pl i 0) (size row) (placed i b 0));
    onto = λ p b.
        let c = ltb→lt (seek p pl) (size row) (placed p b 2) in
        (seek p pl, c, sym (place_is (seek p pl) c) ∙ eqb→eq (get_or pl (seek p pl) 0) p (placed p b 3));
    apart = λ i k a b e. sym (found i a) ∙ ap (λ (x : ℕ). seek x pl) e ∙ found k b;
  }

among_checks : (xs : List Row) → T (all_check xs) → (row : Row) → Among row xs → T (checks row)
among_checks [] h row m = absurd m
among_checks (x ∷ xs) h row (inl e) = subst (λ (y : Row). T (checks y)) (sym e) (left (checks x) (all_check xs) h)
among_checks (x ∷ xs) h row (inr m) = among_checks xs (right (checks x) (all_check xs) h) row m

pub table_sound : (row : Row) → Among row rows → Sound row
table_sound row m = passes_sound row (among_checks rows computed row m)
