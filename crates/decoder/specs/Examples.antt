-- Worked examples of degree 3: words of 8 symbols, 256 messages.
--   row       the row of degree 3
--   Example   what is asked, and the numbers that are stated of it
--   Stands    the stated numbers are those that the definitions give
--   complex   a complex sample by its two numbers
--   phase     a phase sample by its four numbers
--   eight     eight samples alike
--   examples  the list of all examples
use Rattle.std.specs.Prelude.{◌≡◌, ℕ, List, [], ◌∷◌, replicate, ℤ, pos, negsuc}
use Rattle.samples.specs.Meaning.{Meaning}
use Rattle.samples.specs.ComplexKind.{complex_means, complex_turned}
use Rattle.samples.specs.PhaseKind.{phase_means}
use Rattle.samples.specs.declared.complex.Complex.{Complex}
use Rattle.samples.specs.declared.phase.Phase.{Phase}
use Rattle.kerdock.specs.Code.{Row, t, symbol, place, listed}
use Rattle.kerdock.specs.Table.{row_of}
use Rattle.decoder.specs.Scores.{Reception, scores}
use Rattle.decoder.specs.Ranking.{Ranking}

abbrev pub row : Row
row = row_of 3

pub data Example : Type 0 where
  -- the traces t(0), .., t(6)
  traces : List ℕ → Example
  -- the places of the indices 0, .., 7
  places : List ℕ → Example
  -- a message, and the symbols of its word
  word : ℕ → List ℕ → Example
  -- a complex sample, and what it is after a quarter turn
  turned : Complex → Complex → Example
  -- receptions, and the message that leads all words, its score, and its margin over the best other word
  decided : List Reception → ℕ → ℤ → ℕ → Example

-- The last case says by the relation of rankings which message leads; it names no way to find it.
abbrev pub Stands : Example → Type 0
Stands (traces ts) = listed (t row) 7 ≡ ts
Stands (places ps) = listed (place row) 8 ≡ ps
Stands (word m ss) = listed (symbol row m) 8 ≡ ss
Stands (turned x y) = complex_turned x ≡ y
Stands (decided rs m s margin) = Ranking row (scores row rs) m margin × (scores row rs m ≡ s)

abbrev complex : ℤ → ℤ → Complex
complex a b = record { re = a; im = b }

abbrev phase : ℤ → ℤ → ℤ → ℤ → Phase
phase a b c d = record { at0 = a; at1 = b; at2 = c; at3 = d }

abbrev eight : Meaning → Reception
eight x = replicate 8 x

abbrev pub examples : List Example
examples =
    traces (3 ∷ 2 ∷ 2 ∷ 1 ∷ 2 ∷ 1 ∷ 1 ∷ [])
    ∷ places (0 ∷ 1 ∷ 4 ∷ 2 ∷ 5 ∷ 6 ∷ 7 ∷ 3 ∷ [])
    -- message 4 has L(0) = 1 alone; message 5 has e = 1 too; message 13 has e = 1 and L(0) = 3
    ∷ word 4 (0 ∷ 3 ∷ 2 ∷ 2 ∷ 1 ∷ 2 ∷ 1 ∷ 1 ∷ [])
    ∷ word 5 (1 ∷ 0 ∷ 3 ∷ 3 ∷ 2 ∷ 3 ∷ 2 ∷ 2 ∷ [])
    ∷ word 13 (1 ∷ 2 ∷ 3 ∷ 3 ∷ 0 ∷ 3 ∷ 0 ∷ 0 ∷ [])
    -- (3, -5) turned is (5, 3)
    ∷ turned (complex (pos 3) (negsuc 4)) (complex (pos 5) (pos 3))
    -- eight clean symbols 0, and eight clean symbols 1
    ∷ decided (eight (complex_means (complex (pos 100) (pos 0))) ∷ []) 0 (pos 800) 600
    ∷ decided (eight (complex_means (complex (pos 0) (pos 100))) ∷ []) 1 (pos 800) 600
    -- one loud wrong sample at index 0 outweighs the other seven; several words tie, and the smallest message is delivered
    ∷ decided ((complex_means (complex (pos 0) (pos 1000)) ∷ replicate 7 (complex_means (complex (pos 100) (pos 0)))) ∷ []) 13 (pos 1200) 0
    -- silence: all words tie at 0
    ∷ decided (eight (complex_means (complex (pos 0) (pos 0))) ∷ []) 0 (pos 0) 0
    -- phase samples that charge each symbol its distance from 0
    ∷ decided (eight (phase_means (phase (pos 0) (negsuc 0) (negsuc 1) (negsuc 0))) ∷ []) 0 (pos 0) 6
    -- two receptions that disagree: the slightly louder one wins
    ∷ decided (eight (complex_means (complex (pos 100) (pos 0))) ∷ eight (complex_means (complex (pos 0) (pos 101))) ∷ []) 1 (pos 808) 8
    ∷ []
