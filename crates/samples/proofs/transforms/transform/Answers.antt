use Rattle.std.proofs.Common.{◌≡◌, ℕ, ◌^◌, ◌<◌, ◌≤◌, length, sym, ap, ◌∙◌, subst, inl, inr, arith}
use Rattle.samples.specs.Sizes.{at, Within}
use Rattle.samples.specs.Transform.{Fitting, loudest}
use Rattle.samples.specs.Passes.{after}
use Rattle.samples.proofs.Widths.{same_exponent}
use Rattle.samples.proofs.transforms.transform.Goals as goal
use Rattle.samples.proofs.transforms.transform.Goals.{in-8, in-32, in-128}

pub returns : goal.returns
returns g c =
    let m = g.S.Sample in
    let old = c.args.w.now in
    let fits : Fitting (length old) = elim c.match-w.branch [ in-8 w ↦ inl w.in-8.is | in-32 w ↦ inr (inl w.in-32.is) | in-128 w ↦ inr (inr w.in-128.is) ] in
    let long : length old ≡ 2 ^ c.match-w.degree =
    elim c.match-w.branch [
      | in-8 w ↦ w.in-8.is ∙ ap (λ d. 2 ^ d) (sym w.degree-is)
      | in-32 w ↦ w.in-32.is ∙ ap (λ d. 2 ^ d) (sym w.degree-is)
      | in-128 w ↦ w.in-128.is ∙ ap (λ d. 2 ^ d) (sym w.degree-is)
    ] in
    let short : length old ≤ 128 = elim fits [ inl e ↦ omega arith | inr (inl e) ↦ omega arith | inr (inr e) ↦ omega arith ] in
    let within : Within m loudest old = λ k l. let e = c.in_default-first_above.ensures k l in omega arith in
    record {
      fits = fits;
      within = within;
      transformed = c.passes.ensures.sums loudest within (omega arith);
      exact = λ d e. subst (λ x. (v : ℕ) → v < length old → at m c.passes.new.w v ≡ after m old x v) (same_exponent _ d (sym long ∙ e)) c.passes.ensures.exact;
    }
