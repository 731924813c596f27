-- What it says of a lawful run that a decision delivers a verdict: the degree is known, and the verdict is what the held give.
use Rattle.std.proofs.Common.{◌≡◌, ℕ, ◌∷◌, Some, None, Option, refl, subst, arith}
use Rattle.kerdock.specs.Table.{row_of}
use Rattle.kerdock.specs.Sound.{Sound}
use Rattle.kerdock.proofs.RowFacts.{known_sound}
use Rattle.bay.specs.Rules.{Run, Dealing, Answer, Opening, Verdict, Denial, Lawful, Granted, Unless, Delivers, holds, denial, shut, when}
use Rattle.bay.specs.Rules.Run.{Then}
use Rattle.bay.specs.Rules.Dealing.{Take, Decide, Accept, Repeat, Drop, Clear}
use Rattle.bay.specs.Rules.Answer.{Delivered}
use Rattle.bay.specs.Law.{Decides}
use Rattle.bay.proofs.Denials.{each_none, when_none, opens_known}

-- a delivered verdict is no denial
not_denied : (x : Option Denial) (v : Verdict) (P : Type 0) → Unless x (Delivered v) P → (x ≡ None) × P
not_denied (Some n) v P e = let z : ◌≡◌ {A = ℕ} 0 1 = cc in absurd (omega arith)
not_denied None v P p = (refl, p)

module _ (o : Opening) (h : Run) (v : Verdict) (d : Decides o h v) where
  -- the row of the degree is sound
  pub sound_at : Sound (row_of o.degree)
  sound_at =
      let free = (not_denied (denial o h (Decide d.0)) v _ d.1.1).0 in
      let tests = each_none (when (shut o) 1 ∷ _) free in
      (known_sound o.degree (opens_known o (when_none (shut o) 1 tests.0))).0

  pub delivered : Delivers o.degree (holds h) v
  delivered =
      let g = (not_denied (denial o h (Decide d.0)) v _ d.1.1).1 in
      let e : g.0 ≡ v = cc in
      subst (λ (u : Verdict). Delivers o.degree (holds h) u) e g.2

-- only a decision delivers
only_decisions : (o : Opening) (h : Run) (d : Dealing) (v : Verdict) → Lawful o (Then h d (Delivered v)) → Granted o h d (Delivered v) → Decides o h v
only_decisions o h (Take r) v l g = let z : ◌≡◌ {A = ℕ} 0 1 = cc in absurd (omega arith)
only_decisions o h (Decide w) v l g = (w, l)
only_decisions o h (Accept u) v l g = let z : ◌≡◌ {A = ℕ} 0 1 = cc in absurd (omega arith)
only_decisions o h (Repeat u) v l g = let z : ◌≡◌ {A = ℕ} 0 1 = cc in absurd (omega arith)
only_decisions o h (Drop u) v l g = let z : ◌≡◌ {A = ℕ} 0 1 = cc in absurd (omega arith)
only_decisions o h Clear v l g = let z : ◌≡◌ {A = ℕ} 0 1 = cc in absurd (omega arith)

-- a dealing that is answered by a verdict is a decision
pub decided : (o : Opening) (h : Run) (d : Dealing) (a : Answer) (v : Verdict) → Lawful o (Then h d a) → a ≡ Delivered v → Decides o h v
decided o h d a v l e =
    let l' : Lawful o (Then h d (Delivered v)) = subst (λ (x : Answer). Lawful o (Then h d x)) e l in
    only_decisions o h d v l' (not_denied (denial o h d) v _ l'.1).1
