use Rattle.std.proofs.Common.{◌≡◌, ℕ, ◌+◌, ◌-◌, ◌*◌, ◌/◌, ◌%◌, List, [], ◌∷◌, ℤ, ap, ◌∙◌, ap₂, arith, w16, w32, of_z, to_z}
use borrow.Rule.Slice.PartMut.{put_mid}
use Rattle.std.specs.Int.{to_be_bytes}
use Rattle.std.proofs.lemmas.Int.{ints}
use Rattle.reception_file.specs.Layout.{place_of, raw}
use Rattle.reception_file.proofs.TwoBytes.{two_bytes}
use Rattle.reception_file.proofs.Laying.{put_pair}
use Rattle.reception_file.proofs.writing.write_part.Goals as goal

pub returns : goal.returns
returns c =
    let two : 8 + 2 * c.args.number + 2 - (8 + 2 * c.args.number) ≡ 2 = omega arith in
    let cast : to_z w16 (of_z w16 (to_z w32 (of_z w32 c.args.part))) ≡ c.args.part = omega (arith, ints, c.requires.within) in
    let bytes : c.copy_from_slice.new.self ≡ raw c.args.part / 256 ∷ raw c.args.part % 256 ∷ [] = c.copy_from_slice.ensures.after ∙ (c.to_be_bytes.ensures ∙ (ap (λ (z : ℤ). to_be_bytes w16 (of_z w16 z)) cast ∙ two_bytes c.args.part c.requires.within)) in
    ap₂ (λ (k : ℕ) (l : List ℕ). put_mid (place_of c.args.number) k c.args.bytes.now l) two bytes ∙ put_pair (place_of c.args.number) c.args.bytes.now _ _ c.requires.inside
