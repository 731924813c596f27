-- A refusal as it is printed, whichever call refuses.
use Rattle.std.specs.Prelude.{ℕ, List, ◌++◌, codes, decimal}

-- The number, then the place, both in decimal: denied 12 at 5.
abbrev pub told : ℕ → ℕ → List ℕ
told number place = codes "denied " ++ (decimal number ++ (codes " at " ++ decimal place))
