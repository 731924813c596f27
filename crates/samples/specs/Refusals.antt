-- What a transform refuses, by number and place, and how that is written.
--
-- Glossary
--   Length    the refusal of a length that has no transform, or not the one that was asked for
--   Size i    the refusal of a size that is too large, first at index i
--   number    a refusal's number
--   place     the index that a refusal speaks of, or 0
--   line      a refusal as it is printed
use Rattle.std.specs.Prelude.{ℕ, List}
use Rattle.denials.specs.Denied.{told}
use Rattle.samples.specs.declared.refusal.Refusal.{Refusal}
use Rattle.samples.specs.declared.refusal.Refusal.TheVariants.{Length, Size}

-- A refusal's number.
abbrev pub number : Refusal → ℕ
number Length = 14
number (Size i) = 15

-- The index that a refusal speaks of.
abbrev pub place : Refusal → ℕ
place Length = 0
place (Size i) = i

-- The number, then the place: denied 15 at 3.
abbrev pub line : Refusal → List ℕ
line e = told (number e) (place e)
