-- What a bay denies, by number and place, and how that is written.
--
-- Glossary
--   Shut         the bay is shut
--   VerdictOut   a verdict is out
--   Length       the reception does not have one sample for each index
--   TooLarge i   a sample's size is above 32,767, first at index i
--   Full         sixteen receptions are held
--   NothingHeld  nothing is held
--   Work         the work memory does not have one sample for each index
--   Misfit       the verdict is not the one that is out
--   number       a denial's number
--   place        the index that a denial speaks of, or 0
--   line         a denial as it is printed
use Rattle.std.specs.Prelude.{ℕ, List}
use Rattle.denials.specs.Denied.{told}
use Rattle.bay_rules.specs.declared.denial.Denial.{Denial}
use Rattle.bay_rules.specs.declared.denial.Denial.TheVariants.{Shut, VerdictOut, Length, TooLarge, Full, NothingHeld, Work, Misfit}

abbrev pub number : Denial → ℕ
number Shut = 1
number VerdictOut = 2
number Length = 3
number (TooLarge i) = 4
number Full = 5
number NothingHeld = 6
number Work = 7
number Misfit = 8

abbrev pub place : Denial → ℕ
place Shut = 0
place VerdictOut = 0
place Length = 0
place (TooLarge i) = i
place Full = 0
place NothingHeld = 0
place Work = 0
place Misfit = 0

-- The number, then the place: denied 4 at 3.
abbrev pub line : Denial → List ℕ
line e = told (number e) (place e)
