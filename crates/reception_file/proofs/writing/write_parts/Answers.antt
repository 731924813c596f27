use Rattle.std.proofs.Common.{ℕ, ◌+◌, ◌*◌, ◌<◌, ◌≤◌, length, nat_abs, sym, ap, ◌∙◌, subst, arith, w32, SFits, rules}
use lib.Arith.{digits_lt}
use Rattle.std.proofs.lemmas.Int.{to_z-of_z}
use Rattle.reception_file.specs.Layout.{allowed}
use Rattle.reception_file.specs.Write.{part_of}
use Rattle.reception_file.proofs.Laying.{one_more_at}
use Rattle.reception_file.proofs.Places.{part_of_item}
use Rattle.reception_file.proofs.writing.write_parts.Goals as goal

pub write_part-requires-clause-within : goal.write_part-requires-clause-within
write_part-requires-clause-within g c =
    let f : SFits w32 c.part_of.result = search rules in
    let here = part_of_item g.S.Sample g.S.Stored c.args.samples.now c.loop-i.i c.loop-k.k c.index-samples-i.result (omega arith) c.index-samples-i.is (omega (arith, c.parts-parts.ensures)) in
    subst (λ z. nat_abs z ≤ allowed) (here ∙ (sym c.part_of.ensures ∙ sym (to_z-of_z w32 c.part_of.result f))) (c.requires.within _ (digits_lt (omega arith) (omega (arith, c.parts-parts.ensures))))

pub loop-k-preserved : goal.loop-k-preserved
loop-k-preserved g c =
    let f : SFits w32 c.part_of.result = search rules in
    let here = part_of_item g.S.Sample g.S.Stored c.args.samples.now c.loop-i.i c.loop-k.k c.index-samples-i.result (omega arith) c.index-samples-i.is (omega (arith, c.parts-parts.ensures)) in
    let last : c.loop-i.i * g.S.Stored.width + c.loop-k.k < length c.args.samples.now * g.S.Stored.width = digits_lt (omega arith) (omega (arith, c.parts-parts.ensures)) in
    one_more_at (part_of g.S.Sample g.S.Stored c.args.samples.now) (c.loop-i.i * g.S.Stored.width + c.loop-k.k) _ _ c.args.bytes.now c.loop-k.bytes c.write_part.new.bytes _
    (ap (λ (w : ℕ). c.loop-i.i * w + c.loop-k.k) c.parts-parts.ensures) (omega arith) (omega arith) (to_z-of_z w32 c.part_of.result f ∙ (c.part_of.ensures ∙ sym here)) c.write_part.ensures c.loop-k.invariant
