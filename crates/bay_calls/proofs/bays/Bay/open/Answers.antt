use Rattle.std.proofs.Common.{◌≡◌, ℕ, Bool, true, false, ◌&&◌, not, cond, eqb, Some, None, Option, ◌≢◌, length, sym, refl, ap, ◌∙◌, arith, eqb-true, eq-eqb, ne_eqb}
use Rattle.std.specs.Option.{option_eq}
use Rattle.kerdock.specs.Code.{size}
use Rattle.kerdock.specs.Table.{row_of, known}
use Rattle.decoder.specs.Search.{meanings}
use Rattle.bay_calls.specs.Seen.{opening}
use Rattle.bay_calls.proofs.Means.{as_many, zero_means}
use Rattle.bay_rules.proofs.Openings.{opens, opens_shut}
use Rattle.bay_rules.proofs.Starting.{starts}
use Rattle.bay_calls.proofs.bays.Bay.open.Goals as goal
use Rattle.bay_calls.proofs.bays.Bay.open.Goals.{then-eq, else-eq}

-- a length that is found is that of the degree
found : (t : Bool) (n k : ℕ) → option_eq eqb (cond t (Some n) None) (Some k) ≡ true → Some k ≡ cond t (Some n) None
found true n k e = ap (λ (i : ℕ). Some i) (sym (eqb-true n k e))
found false n k e = let z : ◌≡◌ {A = ℕ} 0 1 = cc in absurd (omega arith)

-- where it is another, the bay is shut
other : (t : Bool) (n k : ℕ) → option_eq eqb (cond t (Some n) None) (Some k) ≡ false → not (t && eqb k n) ≡ true
other true n k e =
    let ne : k ≢ n = λ h. let q : eqb n k ≡ true = eq-eqb n k (sym h) in let z : ◌≡◌ {A = ℕ} 0 1 = cc in omega arith in
    rw (ne_eqb k n ne)
other false n k e = refl

opened : goal.returns-clause-opens
opened g c =
    let m = g.S.Sample in
    let xs = c.args.memory.now in
    let o = opening c.args.degree (length xs) in
    let asked : (t : Bool) → c.eq.result ≡ t → option_eq eqb (cond (known c.args.degree) (Some (size (row_of c.args.degree))) None) (Some (length xs)) ≡ t =
    λ t e. ap (λ (n : Option ℕ). option_eq eqb n (Some (length xs))) (sym c.word_length.ensures) ∙ sym c.eq.ensures ∙ e in
    elim c.if-eq.branch [
      | then-eq w ↦ rw (w.memory-is, w.book-is, w.stage-is)
          (opens o (length xs) _ (meanings m xs) _ (found (known c.args.degree) _ _ (asked true w.if-eq.true)) refl (as_many m xs)
          (zero_means m xs _ w.clean.ensures) w.make_book.ensures.made)
      | else-eq w ↦ rw (w.memory-is, w.book-is, w.stage-is)
          (opens_shut o _ (meanings m xs) (other (known c.args.degree) _ _ (asked false w.if-eq.false)) c.blank-book.ensures)
    ]

pub returns-clause-opens : goal.returns-clause-opens
returns-clause-opens g c = opened g c

pub returns-clause-lived : goal.returns-clause-lived
returns-clause-lived g c = starts _ _ (opened g c)
