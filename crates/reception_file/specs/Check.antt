-- What the check of a whole file answers.
--
-- Glossary
--   Marked, Versioned   the first five bytes are right
--   WrongMark   a place is that of the first wrong byte of the mark
--   Opened      the first eight bytes are a head
--   total_at, size_at   how many parts and bytes the head of a file says that it has
--   Exact       the file opens with a head, and is as long as that says
--   Accepted    the file is one: it is exact, and each of its parts is allowed
--   Loud        of so many parts, the one at a byte place is the first that is not allowed
--   Quiet       each of so many parts is allowed, or the refusal of the first that is not
--   Faulty      when the check refuses, case by case, each where those tried before it do not hold
--   Heads       a head is that of the file
--   Checked     what the check answers
--   Measured    what is answered of the head and the length alone
use Rattle.std.specs.Prelude.{◌≡◌, ℕ, ◌<◌, ◌≤◌, ◌⊎◌, List, length, ℤ, Ok, Err, Result, ◌≢◌, unsigned_abs}
use Rattle.samples.specs.Sizes.{Above}
use Rattle.reception_file.specs.Layout.{at, GoodKind, GoodDegree, GoodCount, total, size, place_of, part_at, allowed}
use Rattle.reception_file.specs.Head.{Says}
use Rattle.reception_file.specs.declared.head.Head.{Head}
use Rattle.reception_file.specs.declared.refusal.Refusal.{Refusal}
use Rattle.reception_file.specs.declared.refusal.Refusal.TheVariants.{Memory, Short, Mark, Version, Kind, Degree, Count, Length, Part, Reception, Room}

abbrev pub Marked : List ℕ → Type 0
Marked bs = (at bs 0 ≡ 0x4B) × (at bs 1 ≡ 0x57) × (at bs 2 ≡ 0x52)

abbrev pub Versioned : List ℕ → Type 0
Versioned bs = (at bs 3 ≡ 0) × (at bs 4 ≡ 1)

abbrev pub WrongMark : List ℕ → ℕ → Type 0
WrongMark bs i =
    ((i ≡ 0) × (at bs 0 ≢ 0x4B))
    ⊎ (((i ≡ 1) × (at bs 0 ≡ 0x4B) × (at bs 1 ≢ 0x57))
    ⊎ ((i ≡ 2) × (at bs 0 ≡ 0x4B) × (at bs 1 ≡ 0x57) × (at bs 2 ≢ 0x52)))

abbrev pub Opened : List ℕ → Type 0
Opened bs = (8 ≤ length bs) × Marked bs × Versioned bs × GoodKind (at bs 5) × GoodDegree (at bs 6) × GoodCount (at bs 7)

abbrev pub total_at : List ℕ → ℕ
total_at bs = total (at bs 5) (at bs 6) (at bs 7)

abbrev pub size_at : List ℕ → ℕ
size_at bs = size (at bs 5) (at bs 6) (at bs 7)

abbrev pub Exact : List ℕ → Type 0
Exact bs = Opened bs × (length bs ≡ size_at bs)

abbrev pub Accepted : List ℕ → Type 0
Accepted bs = Exact bs × ((j : ℕ) → j < total_at bs → unsigned_abs (part_at bs j) ≤ allowed)

abbrev pub Loud : (ℕ → ℤ) → ℕ → ℕ → Type 0
Loud part count p = (j : ℕ) × (p ≡ place_of j) × Above (λ k. unsigned_abs (part k)) count allowed j

-- What is answered to the search for a part that is not allowed, of so many parts.
abbrev pub Quiet : (ℕ → ℤ) → ℕ → Result (Unit {0}) Refusal → Type 0
Quiet part count (Ok u) = (j : ℕ) → j < count → unsigned_abs (part j) ≤ allowed
Quiet part count (Err e) = (p : ℕ) × (e ≡ Part p) × Loud part count p

-- A file is refused by the first of these that it fails.
abbrev pub Faulty : List ℕ → Refusal → Type 0
Faulty bs (Short n) = (length bs < 8) × (n ≡ length bs)
Faulty bs (Mark i) = (8 ≤ length bs) × WrongMark bs i
Faulty bs Version = (8 ≤ length bs) × Marked bs × (Versioned bs → ⊥)
Faulty bs Kind = (8 ≤ length bs) × Marked bs × Versioned bs × (GoodKind (at bs 5) → ⊥)
Faulty bs Degree = (8 ≤ length bs) × Marked bs × Versioned bs × GoodKind (at bs 5) × (GoodDegree (at bs 6) → ⊥)
Faulty bs Count = (8 ≤ length bs) × Marked bs × Versioned bs × GoodKind (at bs 5) × GoodDegree (at bs 6) × (GoodCount (at bs 7) → ⊥)
Faulty bs (Length n) = Opened bs × (n ≡ length bs) × (length bs ≢ size_at bs)
Faulty bs (Part p) = Exact bs × Loud (part_at bs) (total_at bs) p
Faulty bs Memory = ⊥
Faulty bs Reception = ⊥
Faulty bs Room = ⊥

-- Of a file that is one: its kind, degree and count.
abbrev pub Heads : List ℕ → Head → Type 0
Heads bs h = Says h (at bs 5) (at bs 6) (at bs 7)

abbrev pub Checked : List ℕ → Result Head Refusal → Type 0
Checked bs (Ok h) = Accepted bs × Heads bs h
Checked bs (Err e) = Faulty bs e

-- The same of the head and the length alone.
abbrev pub Measured : List ℕ → Result Head Refusal → Type 0
Measured bs (Ok h) = Exact bs × Heads bs h
Measured bs (Err e) = Faulty bs e
