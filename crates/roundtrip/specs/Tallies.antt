-- What a tally has counted.
use Rattle.std.specs.Prelude.{ℕ, ◌≤◌}
use Rattle.roundtrip.specs.declared.Tally.{Tally}

-- no count is above n
pub record IsAtMost (n : ℕ) (tally : Tally) : Type 0 where
  pub encoded : tally.encoded ≤ n
  pub read_back : tally.read_back ≤ n
  pub refused : tally.refused ≤ n
