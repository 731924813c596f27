-- How far a file is decoded: what a bay holds while the receptions are taken one by one, for any kind of samples.
--
-- Glossary
--   file_opening   the opening of a bay for a file: its degree, and one sample for each index
--   SampleAt       a meaning is that of the sample that stands at a place of the file
--   FirstOnes      receptions are the first ones of the file
--   Took           a bay has lived a run that took so many receptions of the file, and no verdict is out
--   Ripe           a bay has lived a run after which a decision is not denied
--   Settles        five numbers are a verdict of the bay, whatever run it has lived, and stand under the law
--   Settled        five numbers are a verdict over all receptions of the file
use Rattle.std.specs.Prelude.{◌≡◌, ℕ, ◌+◌, ◌*◌, ◌<◌, List, [], length, None, slice_index_or}
use Rattle.samples.specs.Meaning.{Meaning, silence}
use Rattle.samples.specs.declared.sample.Sample.{Ghosts}
use Rattle.decoder.specs.Scores.{Reception}
use Rattle.reception_file.specs.Layout.{at, part_at}
use Rattle.reception_file.specs.declared.stored.Stored.{Ghosts as StoredGhosts}
use Rattle.bay.specs.Rules.{Run, Opening, holds, out, denial}
use Rattle.bay.specs.Rules.Dealing.{Decide}
use Rattle.bay.specs.Law.{Decides, Chooses}
use Rattle.bay_rules.specs.Lived.{State, Lived}
use Rattle.bay_calls.specs.Seen.{opening, five}
use Rattle.bay_rules.specs.declared.numbers.Numbers.{Numbers}
use Rattle.gateway.specs.Receptions.{samples_at}

abbrev pub file_opening : List ℕ → Opening
file_opening bs = opening (at bs 6) (samples_at bs)

module _ {S : Type 0} (m : Ghosts S) (t : StoredGhosts S) where
  pub record SampleAt (bs : List ℕ) (r i : ℕ) (x : Meaning) : Type 0 where
    pub sample : S
    pub meaning : x ≡ m.means sample
    pub parts : (k : ℕ) → k < t.width → t.part sample k ≡ part_at bs ((r * samples_at bs + i) * t.width + k)

  pub record FirstOnes (bs : List ℕ) (n : ℕ) (rs : List Reception) : Type 0 where
    pub many : length rs ≡ n
    pub long : (r : ℕ) → r < n → length (slice_index_or rs r []) ≡ samples_at bs
    pub each : (r i : ℕ) → r < n → i < samples_at bs → SampleAt bs r i (slice_index_or (slice_index_or rs r []) i silence)

  pub record Took (bs : List ℕ) (n : ℕ) (b : State) : Type 0 where
    pub run : Run
    pub lived : Lived (file_opening bs) run b
    pub none : out run ≡ None
    pub first : FirstOnes bs n (holds run)

  pub record Settled (bs : List ℕ) (n : Numbers) : Type 0 where
    pub run : Run
    pub decides : Decides (file_opening bs) run (five n)
    pub law : Chooses (file_opening bs) run (five n)
    pub first : FirstOnes bs (at bs 7) (holds run)

-- With work memory of a length.
pub record Ripe (b : State) (work : ℕ) : Type 0 where
  pub from : Opening
  pub run : Run
  pub lived : Lived from run b
  pub free : denial from run (Decide work) ≡ None

abbrev pub Settles : State → Numbers → Type 0
Settles b n = (o : Opening) (h : Run) → Lived o h b → Decides o h (five n) × Chooses o h (five n)
