-- Worked examples: rows of what the definitions give, and what it should be.
--
-- Glossary
--   Row            numbers as computed, and as expected
--   rows           the examples
--   Examples       every row's numbers are as expected
--   complex, phase   samples by their numbers
--   phase_kind     the phase kind as the definitions over every kind take it
--   alone          eight phase samples, all zero but (1, 2, 3, 4) at place 3
use Rattle.std.specs.Prelude.{◌≡◌, ℕ, List, [], ◌∷◌, map, ℤ, pos, negsuc, codes}
use Rattle.samples.specs.Meaning.{Meaning, reads}
use Rattle.samples.specs.ComplexKind.{complex_means, complex_added, complex_turned, complex_size}
use Rattle.samples.specs.PhaseKind.{phase_means, phase_zero, phase_added, phase_turned, phase_front, phase_size}
use Rattle.samples.specs.PhaseLaws.{phase_laws}
use Rattle.samples.specs.Transform.{parity, summed}
use Rattle.samples.specs.Passes.{after}
use Rattle.samples.specs.Refusals.{line}
use Rattle.samples.specs.declared.complex.Complex.{Complex}
use Rattle.samples.specs.declared.phase.Phase.{Phase}
use Rattle.samples.specs.declared.refusal.Refusal.TheVariants.{Length, Size}
use Rattle.samples.specs.declared.sample.Sample.{Ghosts}

-- The numbers that the definitions give, and those that are expected.
pub record Row : Type 0 where
  pub computed : List ℤ
  pub expected : List ℤ

-- A complex sample.
abbrev complex : ℤ → ℤ → Complex
complex a b = record { re = a; im = b }

-- A phase sample with no negative number.
abbrev phase : ℕ → ℕ → ℕ → ℕ → Phase
phase a b c d = record { at0 = pos a; at1 = pos b; at2 = pos c; at3 = pos d }

-- The two numbers of a complex sample.
abbrev pair : Complex → List ℤ
pair x = x.re ∷ x.im ∷ []

-- The four numbers of a phase sample.
abbrev four : Phase → List ℤ
four x = x.at0 ∷ x.at1 ∷ x.at2 ∷ x.at3 ∷ []

-- The four readings of a meaning.
abbrev readings : Meaning → List ℤ
readings x = reads x 0 ∷ reads x 1 ∷ reads x 2 ∷ reads x 3 ∷ []

-- Numbers with no sign.
abbrev plain : List ℕ → List ℤ
plain = map pos

-- The phase kind, for the definitions over every kind.
abbrev phase_kind : Ghosts Phase
phase_kind = record { means = phase_means; zeroed = phase_zero; added = phase_added; turned = phase_turned; fronted = phase_front; laws = phase_laws }

-- One sample among zeros, at place 3.
abbrev alone : List Phase
alone = phase_zero ∷ phase_zero ∷ phase_zero ∷ phase 1 2 3 4 ∷ phase_zero ∷ phase_zero ∷ phase_zero ∷ phase_zero ∷ []

-- What place v is to read of it.
abbrev sums : ℕ → List ℤ
sums v = summed phase_kind alone v 0 ∷ summed phase_kind alone v 1 ∷ summed phase_kind alone v 2 ∷ summed phase_kind alone v 3 ∷ []

-- The examples.
abbrev pub rows : List Row
rows =
    -- (3, -5) reads 3, -5, -3 and 5, its size is 5, and turned it is (5, 3)
    record { computed = readings (complex_means (complex (pos 3) (negsuc 4))); expected = pos 3 ∷ negsuc 4 ∷ negsuc 2 ∷ pos 5 ∷ [] }
    ∷ record { computed = plain (complex_size (complex (pos 3) (negsuc 4)) ∷ []); expected = pos 5 ∷ [] }
    ∷ record { computed = pair (complex_turned (complex (pos 3) (negsuc 4))); expected = pos 5 ∷ pos 3 ∷ [] }
    -- the least i32 has no opposite: it stays, and nothing traps
    ∷ record { computed = pair (complex_turned (complex (pos 7) (negsuc 2147483647))); expected = negsuc 2147483647 ∷ pos 7 ∷ [] }
    -- a sum above the largest i32 wraps, and nothing traps
    ∷ record { computed = pair (complex_added (complex (pos 2147483647) (pos 1)) (complex (pos 1) (pos 2))); expected = negsuc 2147483647 ∷ pos 3 ∷ [] }
    -- a phase sample turned once, and twice, which is no subtraction
    ∷ record { computed = four (phase_turned (phase 1 2 3 4)); expected = pos 4 ∷ pos 1 ∷ pos 2 ∷ pos 3 ∷ [] }
    ∷ record { computed = four (phase_added (phase 1 2 3 4) (phase_turned (phase_turned (phase 10 20 30 40)))); expected = pos 31 ∷ pos 42 ∷ pos 13 ∷ pos 24 ∷ [] }
    -- the last of the four numbers counts for the size
    ∷ record { computed = plain (phase_size (phase 1 2 3 8) ∷ []); expected = pos 8 ∷ [] }
    -- 5 and 7 share two one bits, 5 and 4 one
    ∷ record { computed = plain (parity 5 7 ∷ parity 5 4 ∷ []); expected = pos 0 ∷ pos 1 ∷ [] }
    -- the transform of a sample alone at place 3: place 4 shares no one bit with 3, and place 1 shares one
    ∷ record { computed = sums 4; expected = pos 1 ∷ pos 2 ∷ pos 3 ∷ pos 4 ∷ [] }
    ∷ record { computed = sums 1; expected = pos 3 ∷ pos 4 ∷ pos 1 ∷ pos 2 ∷ [] }
    ∷ record { computed = four (after phase_kind alone 3 1); expected = pos 3 ∷ pos 4 ∷ pos 1 ∷ pos 2 ∷ [] }
    -- the texts of the refusals
    ∷ record { computed = plain (line Length); expected = plain (codes "denied 14 at 0") }
    ∷ record { computed = plain (line (Size 3)); expected = plain (codes "denied 15 at 3") }
    ∷ []

-- Every row's numbers are as expected.
abbrev pub Examples : Type 0
Examples = map (λ r. r.computed) rows ≡ map (λ r. r.expected) rows
