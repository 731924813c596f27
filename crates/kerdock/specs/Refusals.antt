-- Refusals of the code's calls.
--   number  the number by which a refusal is known outside
--   place   the index it points at; 0 where it points at none
--   line    a refusal as it is printed
use Rattle.std.specs.Prelude.{ℕ, List}
use Rattle.denials.specs.Denied.{told}
use Rattle.kerdock.specs.declared.refusals.Refusal.{Refusal}
use Rattle.kerdock.specs.declared.refusals.Refusal.TheVariants.{Degree, Message, Memory, Symbol, NoWord}

abbrev pub number : Refusal → ℕ
number Degree = 9
number Message = 10
number Memory = 11
number (Symbol i) = 12
number NoWord = 13

abbrev pub place : Refusal → ℕ
place Degree = 0
place Message = 0
place Memory = 0
place (Symbol i) = i
place NoWord = 0

-- "denied 12 at 5": the number, then the place, both in decimal
abbrev pub line : Refusal → List ℕ
line e = told (number e) (place e)
