-- A bay that is ripe delivers, and accepts its own verdict.
use Rattle.std.proofs.Common.{◌≡◌, ℕ, true, false, eqb, ◌∷◌, ℤ, pos, negsuc, Some, None, refl, arith, eq-eqb, le-leb}
use lib.Signed.{le_z}
use Rattle.bay_rules.specs.declared.denial.Denial.{Denial as Why}
use Rattle.bay.specs.Rules.{Run, Verdict, denial, shut, fits, when}
use Rattle.bay.specs.Rules.Run.{Then}
use Rattle.bay.specs.Rules.Dealing.{Decide, Accept}
use Rattle.bay.specs.Rules.Answer.{Delivered}
use Rattle.bay_rules.specs.Lived.{State, Deals}
use Rattle.bay_calls.specs.Seen.{denies}
use Rattle.bay.proofs.Denials.{each_none, when_none}
use Rattle.gateway.specs.Partly.{Ripe}
use Rattle.gateway.proofs.Held.{granted_then}

same_score : (z : ℤ) → le_z z z ≡ true
same_score (pos n) = le-leb n n (omega arith)
same_score (negsuc n) = le-leb n n (omega arith)

-- a verdict fits itself
fits_self : (v : Verdict) → fits v (Some v) ≡ true
fits_self v =
    let e1 : eqb v.degree v.degree ≡ true = eq-eqb _ _ refl in
    let e2 : eqb v.held v.held ≡ true = eq-eqb _ _ refl in
    let e3 : eqb v.message v.message ≡ true = eq-eqb _ _ refl in
    let e4 = same_score v.score in
    let e5 : eqb v.margin v.margin ≡ true = eq-eqb _ _ refl in
    rw (e1, e2, e3, e4, e5)

module _ (b b' : State) (w : ℕ) (ripe : Ripe b w) where
  -- the decision is not denied
  pub never_denied : (e : Why) → Deals b (Decide w) (denies e) b' → ⊥
  never_denied e deals =
      let g = granted_then _ _ _ ripe.free (deals _ _ ripe.lived).0 in
      let f = g.1 in
      let z : ◌≡◌ {A = ℕ} 0 1 = cc in
      omega arith

  -- nor is the answer to its verdict
  pub never_misfits : (v : Verdict) (e : Why) (b'' : State) → Deals b (Decide w) (Delivered v) b' → Deals b' (Accept v) (denies e) b'' → ⊥
  never_misfits v e b'' decides accepts =
      let h : Run = Then ripe.run (Decide w) (Delivered v) in
      let up : shut ripe.from ≡ false = when_none (shut ripe.from) 1 (each_none (when (shut ripe.from) 1 ∷ _) ripe.free).0 in
      let same = fits_self v in
      let free : denial ripe.from h (Accept v) ≡ None = rw (up, same) in
      let g = granted_then _ _ _ free (accepts _ _ (decides _ _ ripe.lived).1).0 in
      let z : ◌≡◌ {A = ℕ} 0 1 = cc in
      omega arith
