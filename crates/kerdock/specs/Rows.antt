-- The rows of the table, as the code holds them.
--   RowIs  a degree, N, first traces and a recurrence are those of a row of the table
use Rattle.std.specs.Prelude.{◌≡◌, ℕ, T, List}
use Rattle.kerdock.specs.Code.{size}
use Rattle.kerdock.specs.Table.{row_of, known}

pub record RowIs (degree length : ℕ) (first rule : List ℕ) : Type 0 where
  pub listed : T (known degree)
  pub long : length ≡ size (row_of degree)
  pub begins : first ≡ (row_of degree).first
  pub follows : rule ≡ (row_of degree).rule
