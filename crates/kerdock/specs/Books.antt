-- A code book.
--   Lawful  a book holds a row's traces and places, and zeros past them
use Rattle.std.specs.Prelude.{◌≡◌, ℕ, ◌<◌, ◌≤◌, slice_index}
use Rattle.kerdock.specs.Code.{Row, t, place, period, size}
use Rattle.kerdock.specs.declared.books.CodeBook.{CodeBook}

pub record Lawful (row : Row) (b : CodeBook) : Type 0 where
  pub traces : (j : ℕ) → j < period row → slice_index b.traces j ≡ t row j
  pub past_traces : (j : ℕ) → period row ≤ j → slice_index b.traces j ≡ 0
  pub places : (i : ℕ) → i < size row → slice_index b.places i ≡ place row i
  pub past_places : (i : ℕ) → size row ≤ i → slice_index b.places i ≡ 0
