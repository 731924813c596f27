-- What a head says of its file.
--
-- Glossary
--   Says       a head is that of a kind, a degree and a count, by their numbers
--   total_in, size_in   how many parts and bytes the file of a head has
--   Makes      what making a head answers
use Rattle.std.specs.Prelude.{◌≡◌, ℕ, ◌⊎◌, Ok, Err, Result}
use Rattle.reception_file.specs.Layout.{GoodDegree, GoodCount, total, size}
use Rattle.reception_file.specs.Numbers.{kind_number, degree_number}
use Rattle.reception_file.specs.declared.kind.Kind.{Kind}
use Rattle.reception_file.specs.declared.head.Head.{Head}
use Rattle.reception_file.specs.declared.refusal.Refusal.{Refusal}
use Rattle.reception_file.specs.declared.refusal.Refusal.TheVariants.{Degree, Count}

abbrev pub Says : Head → ℕ → ℕ → ℕ → Type 0
Says h kind degree count = (kind_number h.kind ≡ kind) × (degree_number h.degree ≡ degree) × (h.count ≡ count)

abbrev pub total_in : Head → ℕ
total_in h = total (kind_number h.kind) (degree_number h.degree) h.count

abbrev pub size_in : Head → ℕ
size_in h = size (kind_number h.kind) (degree_number h.degree) h.count

-- The degree is tried before the count.
abbrev pub Makes : Kind → ℕ → ℕ → Result Head Refusal → Type 0
Makes kind degree count (Ok h) = GoodDegree degree × GoodCount count × Says h (kind_number kind) degree count
Makes kind degree count (Err e) =
    ((e ≡ Degree) × (GoodDegree degree → ⊥)) ⊎ ((e ≡ Count) × GoodDegree degree × (GoodCount count → ⊥))
