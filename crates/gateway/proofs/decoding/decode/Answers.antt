use Rattle.std.proofs.Common.{List, ℕ, sym, ap, ◌∙◌, subst}
use Rattle.reception_file.specs.Layout.{parts_of}
use Rattle.reception_file.specs.Numbers.{kind_number}
use Rattle.gateway.specs.Decoded.{FromFile}
use Rattle.gateway.proofs.Readings.{from_file, complex_file, phase_file}
use Rattle.gateway.proofs.decoding.decode.Goals as goal

pub returns-in-Complex : goal.returns-in-Complex
returns-in-Complex c =
    let file = c.in_ok-file.file in
    let bs = file.bytes.now in
    let kind = sym file.heads.0 ∙ ap kind_number c.in-Complex.is in
    subst (λ (bs : List ℕ). FromFile bs c.decode_as.result) c.in_ok-file.ensures
    (from_file _ _ bs _ file.accepted (sym (ap parts_of kind)) (λ r i. complex_file bs r i kind) c.decode_as.ensures)

pub returns-in-Phase : goal.returns-in-Phase
returns-in-Phase c =
    let file = c.in_ok-file.file in
    let bs = file.bytes.now in
    let kind = sym file.heads.0 ∙ ap kind_number c.in-Phase.is in
    subst (λ (bs : List ℕ). FromFile bs c.decode_as-in-Phase.result) c.in_ok-file.ensures
    (from_file _ _ bs _ file.accepted (sym (ap parts_of kind)) (λ r i. phase_file bs r i kind) c.decode_as-in-Phase.ensures)
