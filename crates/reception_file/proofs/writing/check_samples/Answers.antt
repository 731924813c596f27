use Rattle.std.proofs.Common.{◌≡◌, ℕ, ◌+◌, ◌*◌, ℤ, nat_abs, sym, refl, ap, ◌∙◌, arith, w32, SFits, to_z, of_z, rules, below_more}
use lib.Arith.{digits_lt}
use Rattle.std.proofs.lemmas.Int.{to_z-of_z}
use Rattle.reception_file.specs.Layout.{place_of}
use Rattle.reception_file.proofs.Places.{part_of_item}
use Rattle.reception_file.proofs.writing.check_samples.Goals as goal

-- the size that was looked at is that of the part
looked : (z w : ℤ) (r : ℕ) → SFits w32 z → r ≡ nat_abs (to_z w32 (of_z w32 z)) → z ≡ w → nat_abs w ≡ r
looked z w r f u e = ap nat_abs (sym e) ∙ (ap nat_abs (sym (to_z-of_z w32 z f)) ∙ sym u)

pub loop-k-preserved : goal.loop-k-preserved
loop-k-preserved g c j h =
    let here = part_of_item g.S.Sample g.S.Stored c.args.samples.now c.loop-i.i c.loop-k.k c.index-samples-i.result (omega arith) c.index-samples-i.is (omega (arith, c.parts-parts.ensures)) in
    let size = looked c.part_of.result _ c.unsigned_abs.result (search rules) c.unsigned_abs.ensures.value (c.part_of.ensures ∙ sym here) in
    below_more _ _ c.loop-k.invariant (omega (arith, size)) j (omega arith)

pub returns-then-unsigned_abs-gt-LARGEST : goal.returns-then-unsigned_abs-gt-LARGEST
returns-then-unsigned_abs-gt-LARGEST g c =
    let here = part_of_item g.S.Sample g.S.Stored c.args.samples.now c.loop-i.i c.loop-k.k c.index-samples-i.result (omega arith) c.index-samples-i.is (omega (arith, c.parts-parts.ensures)) in
    let size = looked c.part_of.result _ c.unsigned_abs.result (search rules) c.unsigned_abs.ensures.value (c.part_of.ensures ∙ sym here) in (
      _,
      refl,
      (
        c.loop-i.i * g.S.Stored.width + c.loop-k.k,
        ap (λ (w : ℕ). place_of (c.loop-i.i * w + c.loop-k.k)) c.parts-parts.ensures,
        record {
          inside = digits_lt (omega arith) (omega (arith, c.parts-parts.ensures));
          above = omega (arith, size);
          first = c.loop-k.invariant;
        },
      ),
    )
