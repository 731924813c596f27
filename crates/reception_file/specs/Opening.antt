-- What opening a file answers.
--
-- Glossary
--   Opens    the file, whose bytes are those that were opened and which is accepted; or the refusal of the check
use Rattle.std.specs.Prelude.{◌≡◌, ℕ, List, Ok, Err, Result}
use Rattle.reception_file.specs.Check.{Faulty}
use Rattle.reception_file.specs.declared.checked_file.CheckedFile.{CheckedFile}
use Rattle.reception_file.specs.declared.refusal.Refusal.{Refusal}

abbrev pub Opens : List ℕ → Result CheckedFile Refusal → Type 0
Opens bs (Ok f) = f.bytes.now ≡ bs
Opens bs (Err e) = Faulty bs e
