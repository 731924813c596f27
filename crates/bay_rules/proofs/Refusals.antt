-- What a state with its book denies is what it denies without.
use Rattle.std.proofs.Common.{◌≡◌, true, false, ◌&&◌, Bool, not, T, eqb, List, [], ◌∷◌, ◌++◌, length, Some, None, Option, sym, refl, ◌∙◌, eq-eqb}
use Rattle.kerdock.specs.Code.{size}
use Rattle.kerdock.specs.Table.{row_of, known}
use Rattle.bay.specs.Rules.{Run, Dealing, Opening, Denial, first}
use Rattle.bay.specs.Rules.Dealing.{Take, Decide, Accept, Repeat, Drop, Clear}
use Rattle.bay.specs.Steps.{refusal as plain_refusal, refusals as plain_refusals}
use Rattle.bay.proofs.Denials.{each_none, when_none, opens_known}
use Rattle.bay_rules.specs.Lived.{State, plain, Lived}
use Rattle.bay_rules.specs.Steps.{refusal, refusals}

-- a last denial that is due only where another is changes nothing
last_due : (xs : List (Option Denial)) (y : Option Denial) → (first xs ≡ None → y ≡ None) → first (xs ++ y ∷ []) ≡ first xs
last_due [] None h = refl
last_due [] (Some n) h = h refl
last_due (Some x ∷ xs) y h = refl
last_due (None ∷ xs) y h = last_due xs y h

-- none changes nothing
pub no_last : (xs : List (Option Denial)) → first (xs ++ []) ≡ first xs
no_last [] = refl
no_last (Some x ∷ xs) = refl
no_last (None ∷ xs) = no_last xs

-- what is denied in no way is open
pub not_shut : (b : State) (d : Dealing) → refusal b d ≡ None → b.closed ≡ false
not_shut b (Take r) e = when_none b.closed 1 (each_none (refusals b (Take r)) e).0
not_shut b (Decide w) e = when_none b.closed 1 (each_none (refusals b (Decide w)) e).0
not_shut b (Accept v) e = when_none b.closed 1 (each_none (refusals b (Accept v)) e).0
not_shut b (Repeat v) e = when_none b.closed 1 (each_none (refusals b (Repeat v)) e).0
not_shut b (Drop v) e = when_none b.closed 1 (each_none (refusals b (Drop v)) e).0
not_shut b Clear e = when_none b.closed 1 (each_none (refusals b Clear) e).0

-- a bay that has lived a run and is not shut has sums for a search of its degree
fits_search : (o : Opening) (h : Run) (b : State) → Lived o h b → b.closed ≡ false →
    not (known b.degree && eqb (length b.sums) (size (row_of b.degree))) ≡ false
fits_search o h b l up =
    let e1 : b.degree ≡ o.degree = l.plainly.degree up in
    let e2 : known o.degree ≡ true = T_true (known o.degree) (opens_known o (sym l.plainly.closed ∙ up)) in
    let e3 : eqb (length b.sums) (size (row_of o.degree)) ≡ true = eq-eqb _ _ (l.plainly.long up) in
    rw (e1, e2, e3)
  where
    T_true : (c : Bool) → T c → c ≡ true
    T_true true t = refl
    T_true false t = absurd t

-- so a decision of such a bay tries nothing more
pub same_refusal : (o : Opening) (h : Run) (b : State) (d : Dealing) → Lived o h b → refusal b d ≡ plain_refusal (plain b) d
same_refusal o h b (Take r) l = no_last (plain_refusals (plain b) (Take r))
same_refusal o h b (Decide w) l =
    last_due (plain_refusals (plain b) (Decide w)) _ (λ e.
    let up = when_none b.closed 1 (each_none (plain_refusals (plain b) (Decide w)) e).0 in
    let f = fits_search o h b l up in
    rw f)
same_refusal o h b (Accept v) l = no_last (plain_refusals (plain b) (Accept v))
same_refusal o h b (Repeat v) l = no_last (plain_refusals (plain b) (Repeat v))
same_refusal o h b (Drop v) l = no_last (plain_refusals (plain b) (Drop v))
same_refusal o h b Clear l = no_last (plain_refusals (plain b) Clear)
