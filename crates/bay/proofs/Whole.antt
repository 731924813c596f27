-- The law holds of all lawful runs.
use Rattle.std.proofs.Common.{◌≡◌, ℕ, ◌*◌, List, ◌∷◌, pos, ◌+ℤ◌, ◌≤ℤ◌, sym, ◌∙◌, subst, arith}
use borrow.Author.Differences.{ints}
use Rattle.kerdock.specs.Code.{Row, size}
use Rattle.kerdock.specs.Table.{row_of}
use Rattle.kerdock.specs.Sound.{Sound}
use Rattle.decoder.specs.Scores.{Reception, scores}
use Rattle.decoder.proofs.Totals.{scores_add}
use Rattle.decoder.proofs.Rankings.{near_scores}
use Rattle.decoder.proofs.Turns.{turned_scores}
use Rattle.decoder.proofs.Distances.{nearest as nearest-word}
use Rattle.bay.specs.Rules.{Run, Opening, Verdict, Delivers, holds}
use Rattle.bay.specs.Law.{Law, Decides, HeldAndOne, Nearest, TurnedAlong, OneMore, Chooses}
use Rattle.bay.proofs.Orders.{scores_shuffled}
use Rattle.bay.proofs.SameRanking.{same_ranking}
use Rattle.bay.proofs.Deciding.{sound_at, delivered}

-- what the second of two runs delivers, by the degree of the first
at_degree : (o o' : Opening) (h : Run) (v : Verdict) → o.degree ≡ o'.degree → Decides o' h v → Delivers o.degree (holds h) v
at_degree o o' h v e d = subst (λ (n : ℕ). Delivers n (holds h) v) (sym e) (delivered o' h v d)

-- no word is nearer, because none scores higher
nearest : (o : Opening) (h : Run) (v : Verdict) → Decides o h v → Nearest o h v
nearest o h v d complex g one k l =
    (nearest-word (row_of o.degree)).nearer (holds h) complex g one v.message k ((delivered o h v d).ranking.best k l)

-- the first's ranking is the same in the second's order, and moves along the word
turned_along : (o o' : Opening) (h h' : Run) (v v' : Verdict) → o.degree ≡ o'.degree →
    Decides o h v → Decides o' h' v' → TurnedAlong o h v h' v'
turned_along o o' h h' v v' e d d' u lu turned =
    let row : Row = row_of o.degree in
    let rs : List Reception = holds h in
    let qs : List Reception = turned.0 in
    let a = delivered o h v d in
    let b = at_degree o o' h' v' e d' in
    let same : (k : ℕ) → scores row qs k ≡ scores row rs k = scores_shuffled row rs qs turned.1 in
    let ranking = same_ranking row (scores row rs) (scores row qs) v.message v.margin (λ k. sym (same k)) a.ranking in
    let moved = (turned_scores row (sound_at o h v d)).rankings u lu qs (holds h') turned.2 v.message v'.message v.margin v'.margin
    ranking b.ranking in
    (a.score ∙ sym (same v.message) ∙ moved.0 ∙ sym b.score, moved.1, moved.2)

-- one reception more, of size s at most, moves no score by more than N × s
near_held : (row : Row) → Sound row → (r : Reception) (s : ℕ) (rs ts : List Reception) → HeldAndOne r s rs ts → (k : ℕ) →
    (scores row rs k ≤ℤ (scores row ts k +ℤ pos (size row * s))) × (scores row ts k ≤ℤ (scores row rs k +ℤ pos (size row * s)))
near_held row sound r s rs ts more k =
    let same = scores_shuffled row (r ∷ rs) ts more.1 k in
    let small = (scores_add row sound).small r s more.0 k in
    (omega (arith, ints), omega (arith, ints))

-- near scores have near margins, and a large lead keeps the message
one_more : (o o' : Opening) (h h' : Run) (v v' : Verdict) → o.degree ≡ o'.degree →
    Decides o h v → Decides o' h' v' → OneMore o h v h' v'
one_more o o' h h' v v' e d d' r s more =
    let row : Row = row_of o.degree in
    let sound = sound_at o h v d in
    let near = near_scores row sound (scores row (holds h)) (scores row (holds h'))
    v.message v'.message v.margin v'.margin (size row * s)
    (delivered o h v d).ranking (at_degree o o' h' v' e d').ranking (λ k _. near_held row sound r s (holds h) (holds h') more k) in
    (near.2, near.3, near.4)

-- the law whole
pub law : Law
law = record { best = delivered; nearest = nearest; turned_along = turned_along; one_more = one_more }

-- the law at one verdict, against every other
pub chosen : (o : Opening) (h : Run) (v : Verdict) → Decides o h v → Chooses o h v
chosen o h v d = record {
  best = delivered o h v d;
  nearest = nearest o h v d;
  turned_along = λ o' h' v' e d'. (turned_along o o' h h' v v' e d d', turned_along o' o h' h v' v (sym e) d' d);
  one_more = λ o' h' v' e d'. (one_more o o' h h' v v' e d d', one_more o' o h' h v' v (sym e) d' d);
}
