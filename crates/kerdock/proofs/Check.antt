-- One test of a row, which the checker computes from tables of the row's powers, traces and places.
use Rattle.std.proofs.Common.{ℕ, suc, ◌+◌, ◌*◌, ◌%◌, ◌^◌, Bool, true, false, eqb, ltb, List, [], ◌∷◌, length, get_or}
use Rattle.kerdock.specs.Ring.{zeros, number, plus, times_root, power, total, combination}
use Rattle.kerdock.specs.Code.{Row, size, period, sum_to, listed}
use Rattle.kerdock.proofs.Tests.{both, all, same, all_small, upto}
use Rattle.kerdock.proofs.Iterate.{orbit}

-- the powers of the root, up to where they repeat
abbrev pub powers : Row → List (List ℕ)
powers row = orbit (times_root row.h) (period row) (number row.h 1)

-- the trace of r ^ j, from a table of the powers
abbrev pub tabled : Row → List (List ℕ) → ℕ → List ℕ
tabled row ps j = total row.h (λ i. get_or ps ((j * 2 ^ i) % period row) []) row.degree

abbrev pub traces : Row → List (List ℕ) → List ℕ
traces row ps = listed (λ j. get_or (tabled row ps j) 0 0) (period row)

-- the trace number k of a table, counted round
abbrev pub round : Row → List ℕ → ℕ → ℕ
round row ts k = get_or ts (k % period row) 0

abbrev pub places : Row → List ℕ → List ℕ
places row ts = 0 ∷ listed (λ j. sum_to (λ k. 2 ^ k * (round row ts (j + k) % 2)) row.degree) (period row)

-- the first index of p in a list
abbrev pub seek : ℕ → List ℕ → ℕ
seek p [] = 0
seek p (x ∷ xs) = elim (eqb x p) [ true ↦ 0 | false ↦ suc (seek p xs) ]

abbrev pub shapes : Row → List Bool
shapes row =
    ltb 1 row.degree
    ∷ ltb row.degree 8
    ∷ eqb (length row.h) row.degree
    ∷ eqb (length row.first) row.degree
    ∷ eqb (length row.rule) row.degree
    ∷ all_small row.rule
    ∷ ltb 0 (period row)
    ∷ eqb (size row) (suc (period row))
    ∷ same (power row.h (period row)) (number row.h 1)
    ∷ same (plus (combination row.h row.h (power row.h)) (power row.h row.degree)) (zeros row.h)
    ∷ []

-- the Frobenius map at power k
abbrev pub squares_at : Row → List (List ℕ) → ℕ → Bool
squares_at row ps k =
    same (combination row.h (get_or ps k []) (λ i. get_or ps ((2 * i) % period row) [])) (get_or ps ((2 * k) % period row) [])

-- the trace number j is a number below 4, and the recurrence gives the one d later
abbrev pub trace_at : Row → List (List ℕ) → List ℕ → ℕ → List Bool
trace_at row ps ts j =
    same (tabled row ps j) (number row.h (get_or ts j 0))
    ∷ ltb (get_or ts j 0) 4
    ∷ eqb (round row ts (j + row.degree)) (sum_to (λ k. get_or row.rule k 0 * round row ts (j + k)) row.degree % 4)
    ∷ []

-- index i has a place below N, and is the first of that place; place i has an index below N
abbrev pub place_at : Row → List ℕ → ℕ → List Bool
place_at row pl i =
    ltb (get_or pl i 0) (size row)
    ∷ eqb (seek (get_or pl i 0) pl) i
    ∷ ltb (seek i pl) (size row)
    ∷ eqb (get_or pl (seek i pl) 0) i
    ∷ []

abbrev pub parts : Row → List (List ℕ) → List ℕ → List ℕ → List Bool
parts row ps ts pl =
    all (shapes row)
    ∷ upto (squares_at row ps) (period row)
    ∷ upto (λ j. all (trace_at row ps ts j)) (period row)
    ∷ upto (λ k. eqb (get_or row.first k 0) (round row ts k)) row.degree
    ∷ upto (λ i. all (place_at row pl i)) (size row)
    ∷ []

abbrev pub by_traces : Row → List (List ℕ) → List ℕ → Bool
by_traces row ps ts = all (parts row ps ts (places row ts))

abbrev pub by_powers : Row → List (List ℕ) → Bool
by_powers row ps = by_traces row ps (traces row ps)

abbrev pub checks : Row → Bool
checks row = by_powers row (powers row)

abbrev pub all_check : List Row → Bool
all_check [] = true
all_check (row ∷ rows) = both (checks row) (all_check rows)
