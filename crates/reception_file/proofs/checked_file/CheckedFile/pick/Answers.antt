use Rattle.std.proofs.Common.{◌≡◌, ℕ, ◌*◌, ◌<◌, sym, refl, ap, ◌∙◌, arith, rules}
use Rattle.reception_file.specs.Layout.{at, samples_of}
use Rattle.reception_file.specs.Numbers.{kind_number}
use Rattle.reception_file.proofs.Inside.{holds, picked}
use Rattle.reception_file.proofs.Again.{written_again}
use Rattle.reception_file.proofs.checked_file.CheckedFile.pick.Goals as goal

pub returns : goal.returns
returns g c =
    let file = c.args.self in
    let h = file.heads in
    let kind : file.head.kind ≡ c.kind.result = search rules in
    let same : at file.bytes.now 5 ≡ g.S.Stored.code = sym h.0 ∙ (ap kind_number kind ∙ c.kind.ensures) in
    let many : c.samples-samples.result ≡ samples_of (at file.bytes.now 6) = c.samples-samples.ensures.is ∙ ap samples_of h.1 in
    let inside : c.args.reception < at file.bytes.now 7 = omega (arith, h.2) in
    let read =
    holds g.S.Sample g.S.Stored file.bytes.now same c.samples-samples.result many c.args.reception inside c.parts_of.result.now _ _ c.parts_of.ensures.parts (omega (arith, c.parts_of.ensures.many, file.accepted.0.1))
    (ap (λ (w : ℕ). c.samples-samples.result * w) c.parts.ensures) refl c.read_samples.new.memory (search rules) c.read_samples.ensures in
    let due =
    picked g.S.Sample g.S.Stored file.bytes.now same c.samples-samples.result many c.args.reception inside (at file.bytes.now 6) c.read_samples.new.memory g.met.S.Stored.bounded file.accepted (search rules) refl read in
    record {
      picks = (due, search rules);
      written_again = written_again g.S.Sample g.S.Stored file.bytes.now c.parts_of.ensures.small c.args.reception (at file.bytes.now 6) c.read_samples.new.memory due;
    }
