-- The one line that is printed for a file.
--
-- Glossary
--   outcome_line   the line of what decoding answers
--   Printed        a text is the line of what decoding answers to the file
use Rattle.std.specs.Prelude.{◌≡◌, ℕ, List, Ok, Err, Result}
use Rattle.reception_file.specs.Refusals.{line}
use Rattle.reception_file.specs.declared.refusal.Refusal.{Refusal}
use Rattle.bay_rules.specs.Lines.{verdict_line}
use Rattle.bay_rules.specs.declared.numbers.Numbers.{Numbers}
use Rattle.gateway.specs.Decoded.{Decoded}

-- A verdict is written as its own crate writes it, as in message 0 score 800 margin 600 held 1; and so is a refusal, as in
-- denied 27 at 12.
abbrev pub outcome_line : Result Numbers Refusal → List ℕ
outcome_line (Ok n) = verdict_line n
outcome_line (Err e) = line e

abbrev pub Printed : List ℕ → List ℕ → Type 0
Printed bs text = (r : Result Numbers Refusal) × Decoded bs r × (text ≡ outcome_line r)
