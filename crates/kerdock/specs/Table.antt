-- The table: one row a degree.
--   rows    the rows
--   known   whether the table has a row of a degree
--   row_of  the row of a degree
--   Among   a row stands in a list of rows
use Rattle.std.specs.Prelude.{◌≡◌, ℕ, Bool, true, false, cond, ◌⊎◌, List, [], ◌∷◌, ◌==◌}
use Rattle.kerdock.specs.Code.{Row}

-- h, first traces, recurrence; for degree 3: Z³ + 2Z² + Z + 3, traces 3, 2, 2, and t(j+3) = 2t(j+2) + 3t(j+1) + t(j)
abbrev pub rows : List Row
rows =
    record { degree = 3; h = 3 ∷ 1 ∷ 2 ∷ []; first = 3 ∷ 2 ∷ 2 ∷ []; rule = 1 ∷ 3 ∷ 2 ∷ [] }
    ∷ record { degree = 5; h = 3 ∷ 2 ∷ 3 ∷ 0 ∷ 0 ∷ []; first = 1 ∷ 0 ∷ 0 ∷ 3 ∷ 0 ∷ []; rule = 1 ∷ 2 ∷ 1 ∷ 0 ∷ 0 ∷ [] }
    ∷ record { degree = 7; h = 3 ∷ 1 ∷ 0 ∷ 0 ∷ 2 ∷ 0 ∷ 0 ∷ []; first = 3 ∷ 0 ∷ 0 ∷ 2 ∷ 0 ∷ 0 ∷ 2 ∷ []; rule = 1 ∷ 3 ∷ 0 ∷ 0 ∷ 2 ∷ 0 ∷ 0 ∷ [] }
    ∷ []

abbrev pub Among : Row → List Row → Type 0
Among row [] = ⊥
Among row (x ∷ xs) = (row ≡ x) ⊎ Among row xs

-- the first row of the degree; no row, where there is none, has degree 0
abbrev pub find : ℕ → List Row → Row
find n [] = record { degree = 0; h = []; first = []; rule = [] }
find n (x ∷ xs) = cond (x.degree == n) x (find n xs)

abbrev pub any : ℕ → List Row → Bool
any n [] = false
any n (x ∷ xs) = cond (x.degree == n) true (any n xs)

unfoldable pub row_of : ℕ → Row
row_of n = find n rows

unfoldable pub known : ℕ → Bool
known n = any n rows
