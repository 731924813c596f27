-- The test of a worked example, which the checker computes from one table of traces.
use Rattle.std.proofs.Common.{ℕ, zero, suc, ◌+◌, ◌*◌, ◌%◌, Bool, true, false, eqb, ltb, leb, List, [], ◌∷◌, get_or, ℤ, pos, ◌+ℤ◌}
use lib.Signed.{le_z, lt_z}
use Rattle.samples.specs.Meaning.{reads, silence, over}
use Rattle.samples.specs.ComplexKind.{complex_turned}
use Rattle.kerdock.specs.Code.{size, messages, t, symbol, place, sum_to, digit, listed}
use Rattle.kerdock.proofs.Tests.{both, same, upto}
use Rattle.decoder.specs.Scores.{Reception}
use Rattle.decoder.specs.Examples.{row, Example, traces, places, word, turned, decided}

abbrev pub either : Bool → Bool → Bool
either true b = true
either false b = b

-- the test passes at some number below n
abbrev pub some : (ℕ → Bool) → ℕ → Bool
some f zero = false
some f (suc n) = either (f n) (some f n)

abbrev pub same_number : ℤ → ℤ → Bool
same_number a b = both (le_z a b) (le_z b a)

-- the traces that the words of the row are made of
abbrev pub trace_list : List ℕ
trace_list = listed (t row) (size row + row.degree)

-- a symbol of a word, from a list of traces
abbrev pub symbol_by : List ℕ → ℕ → ℕ → ℕ
symbol_by ts m zero = digit m 0
symbol_by ts m (suc j) = (digit m 0 + sum_to (λ k. digit m (suc k) * get_or ts (j + k) 0) row.degree) % 4

-- the scores of a message, from a list of traces
abbrev pub scores_by : List ℕ → List Reception → ℕ → ℤ
scores_by ts [] m = pos 0
scores_by ts (r ∷ rs) m = over (size row) (λ i. reads (get_or r i silence) (symbol_by ts m i)) +ℤ scores_by ts rs m

-- message k of score a is m itself, or behind m's score b by the margin, and larger than m or below it in score
abbrev pub stays : ℕ → ℤ → ℕ → ℕ → ℤ → Bool
stays m b margin k a = either (eqb k m) (both (le_z (a +ℤ pos margin) b) (either (leb m k) (lt_z a b)))

-- message k of score a is another than m, and behind m's score b by the margin exactly
abbrev pub attains : ℕ → ℤ → ℕ → ℕ → ℤ → Bool
attains m b margin k a = both (either (ltb k m) (ltb m k)) (same_number (a +ℤ pos margin) b)

-- m, of score b, leads the messages below n by the margin
abbrev pub leads : ℕ → (ℕ → ℤ) → ℕ → ℤ → ℕ → Bool
leads n f m b margin =
    both (ltb m n) (both (upto (λ k. stays m b margin k (f k)) n) (some (λ k. attains m b margin k (f k)) n))

abbrev pub passes : List ℕ → Example → Bool
passes ts (traces xs) = same (listed (t row) 7) xs
passes ts (places xs) = same (listed (place row) 8) xs
passes ts (word m xs) = same (listed (symbol row m) 8) xs
passes ts (turned x y) = both (same_number (complex_turned x).re y.re) (same_number (complex_turned x).im y.im)
passes ts (decided rs m s margin) =
    both (leads (messages row) (scores_by ts rs) m (scores_by ts rs m) margin) (same_number (scores_by ts rs m) s)

abbrev pub all_pass : List ℕ → List Example → Bool
all_pass ts [] = true
all_pass ts (x ∷ xs) = both (passes ts x) (all_pass ts xs)
