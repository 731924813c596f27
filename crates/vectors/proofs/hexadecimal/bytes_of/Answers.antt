use Rattle.std.proofs.Common.{◌+◌, ◌*◌, get_or, vec_items, vec_len, sym, refl, ap, ◌∙◌}
use Rattle.vectors.proofs.Pairs.{one_more, next_pair}
use Rattle.vectors.proofs.hexadecimal.bytes_of.Goals as goal

pub loop-pair-preserved : goal.loop-pair-preserved
loop-pair-preserved c =
    let i = c.loop-pair.invariant in
    let s = c.in-Some.ensures.steps in
    let p = c.in_ok-push.ensures in
    let more = p.len in
    let digits = c.in-Some-byte.ensures in
    let t = next_pair _ _ _ _ (vec_len c.loop-pair.bytes) s.1.0 (s.1.1 ∙ i.0) i.1 i.2 in (
      s.0 ∙ i.0,
      rw more t.0,
      λ k few. t.1 k few ∙ ap (λ n. get_or c.args.text.now (2 * n + k) 0) (sym more),
      rw more (one_more _ _ _ _ c.in-Some-byte.b i.3 (λ k few. p.by_index.0 k 0 few) (p.by_index.1 0 refl) (sym t.2 ∙ digits.0, sym t.3 ∙ digits.1)),
    )
