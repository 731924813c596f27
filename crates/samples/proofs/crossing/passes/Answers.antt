use Rattle.std.proofs.Common.{◌≡◌, ℕ, ◌^◌, ◌<◌, length, sym, refl, ap, ◌∙◌, subst, pow-suc, add-one, arith}
use Rattle.samples.specs.Passes.{after}
use Rattle.samples.specs.Sizes.{at}
use Rattle.samples.proofs.Partly.{transformed}
use Rattle.samples.proofs.Widths.{fits, filled, one_more}
use Rattle.samples.proofs.crossing.passes.Goals as goal

pub loop-init : goal.loop-init
unfolding after
loop-init g c = (refl, λ v l. refl)

pub overflow_mul-width : goal.overflow_mul-width
overflow_mul-width g c =
    let f = fits c.args.degree c.loop.counter (length c.args.w.now) c.loop.h c.requires c.loop-test.true c.loop.invariant.0 in
    omega arith

pub pass-requires : goal.pass-requires
pass-requires g c =
    let long : length c.loop.w ≡ 2 ^ c.args.degree = c.loop.auto.w ∙ c.requires in
    filled c.args.degree c.loop.counter (length c.loop.w) c.loop.h long c.loop-test.true c.loop.invariant.0

pub loop-preserved : goal.loop-preserved
loop-preserved g c =
    let m = g.S.Sample in
    let d = c.loop.counter in
    let old = c.args.w.now in
    let e = c.loop.invariant.0 in
    let kept = c.loop.auto.w in (
      (let p = pow-suc 2 d in omega arith) ∙ ap (λ x. 2 ^ x) (sym (add-one d)),
      subst (λ x. (v : ℕ) → v < length old → at m c.pass.new.w v ≡ after m old x v) (sym (add-one d))
          (one_more c.args.degree d (length old) c.loop.h c.requires c.loop-test.true e m old c.loop.w c.pass.new.w c.loop.invariant.1 (λ v l. c.pass.ensures v (omega arith))),
    )

pub returns : goal.returns
returns g c =
    let m = g.S.Sample in
    let old = c.args.w.now in
    let e : c.loop.counter ≡ c.args.degree = omega arith in
    let exact : (v : ℕ) → v < length old → at m c.loop.w v ≡ after m old c.args.degree v = subst (λ d. (v : ℕ) → v < length old → at m c.loop.w v ≡ after m old d v) e c.loop.invariant.1 in
    record { exact = exact; sums = λ b within room. transformed m c.args.degree b old c.loop.w c.requires c.loop.auto.w within room exact }
