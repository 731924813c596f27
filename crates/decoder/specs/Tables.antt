-- Tables that hold what the search looks up in a row.
--   Holds  the index of each place, and the symbol of each coset's leader there
use Rattle.std.specs.Prelude.{◌≡◌, ℕ, ◌<◌, [], slice_index, slice_index_or}
use Rattle.kerdock.specs.Code.{Row, size, symbol, place}
use Rattle.decoder.specs.Cosets.{message}
use Rattle.decoder.specs.declared.tables.Tables.{Tables}

pub record Holds (row : Row) (tables : Tables) : Type 0 where
  pub found : (i : ℕ) → i < size row → slice_index tables.at (place row i) ≡ i
  pub led : (u i : ℕ) → u < size row → i < size row →
      slice_index (slice_index_or tables.leaders u []) (place row i) ≡ symbol row (message row 0 u 0) i
