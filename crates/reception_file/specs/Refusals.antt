-- What a call on files refuses, by number and byte place, and how that is written.
--
-- Glossary
--   Memory, Short, ..   the refusals; one that holds a number holds its place
--   number    a refusal's number
--   place     the byte that a refusal speaks of, the file's length, or 0
--   line      a refusal as it is printed
use Rattle.std.specs.Prelude.{ℕ, List}
use Rattle.denials.specs.Denied.{told}
use Rattle.reception_file.specs.declared.refusal.Refusal.{Refusal}
use Rattle.reception_file.specs.declared.refusal.Refusal.TheVariants.{Memory, Short, Mark, Version, Kind, Degree, Count, Length, Part, Reception, Room}

abbrev pub number : Refusal → ℕ
number Memory = 3
number (Short n) = 20
number (Mark i) = 21
number Version = 22
number Kind = 23
number Degree = 24
number Count = 25
number (Length n) = 26
number (Part p) = 27
number Reception = 28
number Room = 29

abbrev pub place : Refusal → ℕ
place Memory = 0
place (Short n) = n
place (Mark i) = i
place Version = 3
place Kind = 5
place Degree = 6
place Count = 7
place (Length n) = n
place (Part p) = p
place Reception = 0
place Room = 0

-- The number, then the place: denied 27 at 12.
abbrev pub line : Refusal → List ℕ
line e = told (number e) (place e)
