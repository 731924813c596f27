-- What writing a file answers, and what it leaves in the bytes that it was lent.
--
-- Glossary
--   part_of     the part of a number, over all parts of a list of samples
--   Due         samples that a file can hold: as many as the head says, and each part allowed
--   Unwritten   why nothing was written, case by case, in the order tried
--   Written     a file was due, and the bytes begin with it
--   Writes      what writing answers, and the bytes before and after
use Rattle.std.specs.Prelude.{◌≡◌, ℕ, ◌*◌, ◌/◌, ◌%◌, ◌<◌, ◌≤◌, List, length, take, drop, ℤ, Ok, Err, Result, ◌≢◌, unsigned_abs}
use Rattle.samples.specs.declared.sample.Sample.{Ghosts}
use Rattle.reception_file.specs.Layout.{GoodDegree, GoodCount, samples_of, total, size, allowed, Lays}
use Rattle.reception_file.specs.Head.{Says}
use Rattle.reception_file.specs.Check.{Loud}
use Rattle.reception_file.specs.Pick.{sample_at}
use Rattle.reception_file.specs.declared.head.Head.{Head}
use Rattle.reception_file.specs.declared.refusal.Refusal.{Refusal}
use Rattle.reception_file.specs.declared.refusal.Refusal.TheVariants.{Memory, Short, Mark, Version, Kind, Degree, Count, Length, Part, Reception, Room}
use Rattle.reception_file.specs.declared.stored.Stored.{Ghosts as StoredGhosts}

module _ {S : Type 0} (m : Ghosts S) (t : StoredGhosts S) where
  -- A sample's parts stand together: part j is one of sample j / width.
  abbrev pub part_of : List S → ℕ → ℤ
  part_of xs j = t.part (sample_at m t xs (j / t.width)) (j % t.width)

  pub record Due (degree count : ℕ) (xs : List S) : Type 0 where
    pub good_degree : GoodDegree degree
    pub good_count : GoodCount count
    pub many : length xs ≡ count * samples_of degree
    pub within : (j : ℕ) → j < total t.code degree count → unsigned_abs (part_of xs j) ≤ allowed

  -- With room for so many bytes.
  abbrev pub Unwritten : ℕ → ℕ → List S → ℕ → Refusal → Type 0
  Unwritten degree count xs room Degree = GoodDegree degree → ⊥
  Unwritten degree count xs room Count = GoodDegree degree × (GoodCount count → ⊥)
  Unwritten degree count xs room Memory = GoodDegree degree × GoodCount count × (length xs ≢ count * samples_of degree)
  Unwritten degree count xs room (Part p) = GoodDegree degree × GoodCount count × (length xs ≡ count * samples_of degree) × Loud (part_of xs) (total t.code degree count) p
  Unwritten degree count xs room Room = Due degree count xs × (room < size t.code degree count)
  Unwritten degree count xs room (Short k) = ⊥
  Unwritten degree count xs room (Mark i) = ⊥
  Unwritten degree count xs room Version = ⊥
  Unwritten degree count xs room Kind = ⊥
  Unwritten degree count xs room (Length k) = ⊥
  Unwritten degree count xs room Reception = ⊥

  pub record Written (degree count : ℕ) (xs : List S) (before : List ℕ) (n : ℕ) (after : List ℕ) : Type 0 where
    -- nothing was to be refused
    pub due : Due degree count xs
    pub room : n ≤ length before
    -- the answer is the file's length, the first so many bytes are the file, and those behind it are as they were
    pub size_is : n ≡ size t.code degree count
    pub file : Lays t.code degree count (part_of xs) (take n after)
    pub behind : drop n after ≡ drop n before

  -- A refusal leaves all bytes as they were.
  abbrev pub Writes : ℕ → ℕ → List S → List ℕ → Result ℕ Refusal → List ℕ → Type 0
  Writes degree count xs before (Ok n) after = Written degree count xs before n after
  Writes degree count xs before (Err e) after = Unwritten degree count xs (length before) e × (after ≡ before)

  -- What the samples alone decide: the head of the file to write, or why there is none.
  abbrev pub Weighed : ℕ → ℕ → List S → Result Head Refusal → Type 0
  Weighed degree count xs (Ok h) = Due degree count xs × Says h t.code degree count
  Weighed degree count xs (Err e) = (room : ℕ) → Unwritten degree count xs room e
