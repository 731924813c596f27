-- The numbers that stand for the kind and the degree in a file's head.
--
-- Glossary
--   kind_number     a kind's number
--   degree_number   a degree's number
--   ReadsKind       what reading a kind's number answers
--   ReadsDegree     what reading a degree's number answers
use Rattle.std.specs.Prelude.{◌≡◌, ℕ, Ok, Err, Result}
use Rattle.reception_file.specs.Layout.{GoodKind, GoodDegree}
use Rattle.reception_file.specs.declared.kind.Kind.{Kind}
use Rattle.reception_file.specs.declared.kind.Kind.TheVariants.{Complex, Phase}
use Rattle.reception_file.specs.declared.degree.Degree.{Degree}
use Rattle.reception_file.specs.declared.degree.Degree.TheVariants.{Three, Five, Seven}
use Rattle.reception_file.specs.declared.refusal.Refusal.{Refusal}
use Rattle.reception_file.specs.declared.refusal.Refusal.TheVariants.{Kind as NoKind, Degree as NoDegree}

abbrev pub kind_number : Kind → ℕ
kind_number Complex = 1
kind_number Phase = 2

abbrev pub degree_number : Degree → ℕ
degree_number Three = 3
degree_number Five = 5
degree_number Seven = 7

abbrev pub ReadsKind : ℕ → Result Kind Refusal → Type 0
ReadsKind n (Ok k) = kind_number k ≡ n
ReadsKind n (Err e) = (e ≡ NoKind) × (GoodKind n → ⊥)

abbrev pub ReadsDegree : ℕ → Result Degree Refusal → Type 0
ReadsDegree n (Ok d) = degree_number d ≡ n
ReadsDegree n (Err e) = (e ≡ NoDegree) × (GoodDegree n → ⊥)
