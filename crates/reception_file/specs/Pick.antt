-- What picking a reception out of a file answers, and what it leaves in the memory.
--
-- Glossary
--   sample_at   the sample at an index
--   Holds       the samples of a list are those of a file, from the sample of a number on
--   Reads       the samples of a list are those of these parts
--   Picked      the reception was due, and the memory holds it
--   Unfit       why a file that is one has no such reception for this memory, in the order tried
--   PicksFrom   what picking out of a file that is one answers, and the memory before and after
--   Picks       what picking answers, and the memory before and after
use Rattle.std.specs.Prelude.{◌≡◌, ℕ, ◌+◌, ◌*◌, ◌<◌, ◌≤◌, ◌⊎◌, List, length, Ok, Err, Result, ◌≢◌, slice_index_or}
use Rattle.samples.specs.Sizes.{Within}
use Rattle.samples.specs.declared.sample.Sample.{Ghosts}
use Rattle.reception_file.specs.Layout.{at, samples_of, part_at, allowed}
use Rattle.reception_file.specs.Pairs.{part_in}
use Rattle.reception_file.specs.Check.{Accepted, Faulty}
use Rattle.reception_file.specs.declared.refusal.Refusal.{Refusal}
use Rattle.reception_file.specs.declared.refusal.Refusal.TheVariants.{Memory, Short, Mark, Version, Kind, Degree, Count, Length, Part, Reception, Room}
use Rattle.reception_file.specs.declared.stored.Stored.{Ghosts as StoredGhosts}

module _ {S : Type 0} (m : Ghosts S) (t : StoredGhosts S) where
  abbrev pub sample_at : List S → ℕ → S
  sample_at xs i = slice_index_or xs i m.zeroed

  -- The samples of a file are numbered through from 0, and so are its parts: sample n begins at part n × width.
  abbrev pub Holds : List ℕ → ℕ → List S → Type 0
  Holds bs first xs = (i k : ℕ) → i < length xs → k < t.width → t.part (sample_at xs i) k ≡ part_at bs ((first + i) * t.width + k)

  -- The samples of a list of parts.
  abbrev pub Reads : List (List ℕ) → List S → Type 0
  Reads ps xs = (i k : ℕ) → i < length xs → k < t.width → t.part (sample_at xs i) k ≡ part_in ps (i * t.width + k)

  pub record Picked (bs : List ℕ) (r degree : ℕ) (after : List S) : Type 0 where
    -- nothing was to be refused
    pub accepted : Accepted bs
    pub kind : at bs 5 ≡ t.code
    pub inside : r < at bs 7
    pub long : length after ≡ samples_of (at bs 6)
    -- the answer is the degree, and the memory holds the samples of reception r
    pub degree_is : degree ≡ at bs 6
    pub holds : Holds bs (r * samples_of (at bs 6)) after
    -- none of them is larger than a part may be
    pub within : Within m allowed after

  -- Of memory for n samples.
  abbrev pub Unfit : List ℕ → ℕ → ℕ → Refusal → Type 0
  Unfit bs r n Kind = at bs 5 ≡ t.code → ⊥
  Unfit bs r n Reception = (at bs 5 ≡ t.code) × (at bs 7 ≤ r)
  Unfit bs r n Memory = (at bs 5 ≡ t.code) × (r < at bs 7) × (n ≢ samples_of (at bs 6))
  Unfit bs r n (Short k) = ⊥
  Unfit bs r n (Mark i) = ⊥
  Unfit bs r n Version = ⊥
  Unfit bs r n Degree = ⊥
  Unfit bs r n Count = ⊥
  Unfit bs r n (Length k) = ⊥
  Unfit bs r n (Part p) = ⊥
  Unfit bs r n Room = ⊥

  -- Of a file that is one. A refusal leaves the memory as it was.
  abbrev pub PicksFrom : List ℕ → ℕ → List S → Result (Unit {0}) Refusal → List S → Type 0
  PicksFrom bs r before (Ok u) after = Picked bs r (at bs 6) after × (length after ≡ length before)
  PicksFrom bs r before (Err e) after = Unfit bs r (length before) e × (after ≡ before)

  -- What the check refuses is refused as the check does. A refusal leaves the memory as it was.
  abbrev pub Picks : List ℕ → ℕ → List S → Result ℕ Refusal → List S → Type 0
  Picks bs r before (Ok degree) after = Picked bs r degree after × (length after ≡ length before)
  Picks bs r before (Err e) after = (Faulty bs e ⊎ (Accepted bs × Unfit bs r (length before) e)) × (after ≡ before)
