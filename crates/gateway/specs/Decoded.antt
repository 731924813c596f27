-- What decoding a file answers.
--
-- Glossary
--   FromFile   five numbers are the verdict of a bay that took the receptions of the file and decided
--   Decoded    what decoding answers: the check's refusal, or such a verdict
use Rattle.std.specs.Prelude.{◌≡◌, ℕ, List, Ok, Err, Result}
use Rattle.reception_file.specs.Layout.{at}
use Rattle.reception_file.specs.Check.{Accepted, Faulty}
use Rattle.reception_file.specs.declared.refusal.Refusal.{Refusal}
use Rattle.bay.specs.Rules.{Run, holds}
use Rattle.bay.specs.Law.{Decides, Chooses}
use Rattle.bay_calls.specs.Seen.{opening, five}
use Rattle.bay_rules.specs.declared.numbers.Numbers.{Numbers}
use Rattle.gateway.specs.Receptions.{samples_at, Gathered}

pub record FromFile (bs : List ℕ) (n : Numbers) : Type 0 where
  -- the file is one, and the degree and the count are those of its head
  pub accepted : Accepted bs
  pub degree : n.degree ≡ at bs 6
  pub held : n.held ≡ at bs 7
  -- what a bay of the file's degree, with memory for one reception, was asked and answered before the decision
  pub run : Run
  -- a decision after this run delivers these numbers
  pub decides : Decides (opening (at bs 6) (samples_at bs)) run (five n)
  -- the run holds the receptions of the file, and no others
  pub receptions : Gathered bs (holds run)
  -- between two words only the score chooses
  pub law : Chooses (opening (at bs 6) (samples_at bs)) run (five n)

-- An accepted file is always decoded, and a file is refused just as the check refuses it.
abbrev pub Decoded : List ℕ → Result Numbers Refusal → Type 0
Decoded bs (Ok n) = FromFile bs n
Decoded bs (Err e) = Faulty bs e
