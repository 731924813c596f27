-- The rules give one answer to each dealing.
use Rattle.std.proofs.Common.{◌≡◌, ℕ, List, ◌∷◌, ℤ, Some, None, sym, refl, ap, ◌∙◌}
use Rattle.kerdock.specs.Table.{row_of}
use Rattle.kerdock.specs.Sound.{Sound}
use Rattle.kerdock.proofs.RowFacts.{known_sound}
use Rattle.decoder.specs.Scores.{Reception, scores}
use Rattle.decoder.proofs.Rankings.{one_ranking}
use Rattle.bay.specs.Rules.{Run, Dealing, Answer, Opening, Verdict, Rightly, Granted, Unless, Delivers, holds, denial, shut, when}
use Rattle.bay.specs.Rules.Dealing.{Take, Decide, Accept, Repeat, Drop, Clear}
use Rattle.bay.specs.Rules.Answer.{Delivered}
use Rattle.bay.proofs.Denials.{each_none, when_none, opens_known}

five_of : ℕ → ℕ → ℕ → ℤ → ℕ → Verdict
five_of d h m s g = record { degree = d; held = h; message = m; score = s; margin = g }

-- five equal numbers are one verdict
same_five : (v u : Verdict) → v.degree ≡ u.degree → v.held ≡ u.held → v.message ≡ u.message → v.score ≡ u.score → v.margin ≡ u.margin → v ≡ u
unfolding five_of
same_five v u a b c d e =
    ap (λ (x : ℕ). five_of x v.held v.message v.score v.margin) a
    ∙ ap (λ (x : ℕ). five_of u.degree x v.message v.score v.margin) b
    ∙ ap (λ (x : ℕ). five_of u.degree u.held x v.score v.margin) c
    ∙ ap (λ (x : ℤ). five_of u.degree u.held u.message x v.margin) d
    ∙ ap (λ (x : ℕ). five_of u.degree u.held u.message u.score x) e

-- what is held has one verdict
pub one_verdict : (d : ℕ) (rs : List Reception) (v u : Verdict) → Sound (row_of d) → Delivers d rs v → Delivers d rs u → v ≡ u
one_verdict d rs v u sound a b =
    let one = one_ranking (row_of d) sound in
    let f : ℕ → ℤ = scores (row_of d) rs in
    let message = one.same_message f v.message u.message v.margin u.margin a.ranking b.ranking in
    let margin = one.same_margin f v.message u.message v.margin u.margin a.ranking b.ranking in
    same_five v u (a.degree ∙ sym b.degree) (a.held ∙ sym b.held) message (a.score ∙ ap f message ∙ sym b.score) margin

one_granted : (o : Opening) (h : Run) (d : Dealing) (a b : Answer) → denial o h d ≡ None → Granted o h d a → Granted o h d b → a ≡ b
one_granted o h (Take r) a b e p q = p ∙ sym q
one_granted o h (Decide w) a b e p q =
    let tests = each_none (when (shut o) 1 ∷ _) e in
    let sound = (known_sound o.degree (opens_known o (when_none (shut o) 1 tests.0))).0 in
    p.1 ∙ ap Delivered (one_verdict o.degree (holds h) p.0 q.0 sound p.2 q.2) ∙ sym q.1
one_granted o h (Accept v) a b e p q = p ∙ sym q
one_granted o h (Repeat v) a b e p q = p ∙ sym q
one_granted o h (Drop v) a b e p q = p ∙ sym q
one_granted o h Clear a b e p q = p ∙ sym q

pub one_answer : (o : Opening) (h : Run) (d : Dealing) (a b : Answer) → Rightly o h d a → Rightly o h d b → a ≡ b
one_answer o h d a b p q =
    elim (denial o h d) as (λ x. denial o h d ≡ x → Unless x a (Granted o h d a) → Unless x b (Granted o h d b) → a ≡ b) [
      | None ↦ λ e r s. one_granted o h d a b e r s
      | Some n ↦ λ e r s. r ∙ sym s
    ] refl p q
