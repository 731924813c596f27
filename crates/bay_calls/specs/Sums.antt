-- A bay's sums, sample by sample, and its plain numbers once it holds nothing.
--   emptied  a bay's plain numbers once it has let go of all that was held
--   Summed   each sum is as the kind's `add` makes it of the sum before and the reception's sample
use Rattle.std.specs.Prelude.{◌≡◌, ℕ, ◌<◌, List, length, slice_index_or}
use Rattle.bay_calls.specs.declared.standing.Standing.{Standing}
use Rattle.bay_calls.specs.declared.standing.Stage.TheVariants.{Gathering}
use Rattle.samples.specs.declared.sample.Sample.{Ghosts}

abbrev pub emptied : Standing → Standing
emptied r = record { degree = r.degree; held = 0; stage = Gathering }

module _ {S : Type 0} (m : Ghosts S) where
  pub record Summed (before handed after : List S) : Type 0 where
    pub long : length after ≡ length before
    pub each : (k : ℕ) → k < length before → slice_index_or after k m.zeroed ≡ m.added (slice_index_or before k m.zeroed) (slice_index_or handed k m.zeroed)
