-- The denial that the rules give after a run is the one that the bay finds by its state; and what no denial says of a state.
use Rattle.std.proofs.Common.{◌≡◌, ℕ, zero, suc, ◌<◌, ◌≤◌, Bool, true, false, cond, not, ◌&&◌, T, eqb, leb, List, [], ◌∷◌, length, get_or, Some, None, Option, sym, refl, subst, arith, eq-eqb, ne_eqb, eqb-true, leb-false, leb-true}
use Rattle.samples.specs.Meaning.{silence}
use Rattle.kerdock.specs.Code.{size}
use Rattle.kerdock.specs.Table.{row_of, known}
use Rattle.decoder.specs.Scores.{Reception}
use Rattle.bay.specs.Rules.{Run, Dealing, Opening, Verdict, Denial, holds, out, shut, waits, denial, when, first, deny, too_large}
use Rattle.bay.specs.Rules.Dealing.{Take, Decide, Accept, Repeat, Drop, Clear}
use Rattle.bay.specs.Lived.{State, Lived}
use Rattle.bay.specs.Steps.{refusal, refusals}

-- after a first test for a shut bay, denials need only agree where it is open
first_same : (c : Bool) (xs ys : List (Option Denial)) → (c ≡ false → first xs ≡ first ys) → first (when c 1 ∷ xs) ≡ first (when c 1 ∷ ys)
first_same true xs ys e = refl
first_same false xs ys e = e refl

-- at most sixteen are sixteen where they are not fewer
at_most : (n : ℕ) → n ≤ 16 → eqb n 16 ≡ leb 16 n
at_most n h =
    elim (leb 16 n) as (λ t. leb 16 n ≡ t → eqb n 16 ≡ t) [
      | true ↦ λ e. let q = leb-true 16 n e in eq-eqb n 16 (omega arith)
      | false ↦ λ e. let q = leb-false 16 n e in ne_eqb n 16 (omega arith)
    ] refl

-- the denial that is due after a run is the one that the state finds
pub same_denial : (o : Opening) (h : Run) (b : State) (d : Dealing) → Lived o h b → denial o h d ≡ refusal b d
same_denial o h b (Take r) l =
    let e1 : shut o ≡ b.closed = sym l.closed in
    let e2 : out h ≡ b.noted = sym l.noted in
    let e3 : length (holds h) ≡ b.held = sym l.held in
    let e5 : eqb b.held 16 ≡ leb 16 b.held = at_most b.held (let f = l.few in omega arith) in
    rw (e1, e2, e3, e5) (first_same b.closed _ _ (λ up. let e4 : size (row_of o.degree) ≡ length b.sums = sym (l.long up) in rw e4))
same_denial o h b (Decide w) l =
    let e1 : shut o ≡ b.closed = sym l.closed in
    let e2 : out h ≡ b.noted = sym l.noted in
    let e3 : length (holds h) ≡ b.held = sym l.held in
    rw (e1, e2, e3) (first_same b.closed _ _ (λ up. let e4 : size (row_of o.degree) ≡ length b.sums = sym (l.long up) in rw e4))
same_denial o h b (Accept v) l =
    let e1 : shut o ≡ b.closed = sym l.closed in
    let e2 : out h ≡ b.noted = sym l.noted in
    rw (e1, e2)
same_denial o h b (Repeat v) l =
    let e1 : shut o ≡ b.closed = sym l.closed in
    let e2 : out h ≡ b.noted = sym l.noted in
    rw (e1, e2)
same_denial o h b (Drop v) l =
    let e1 : shut o ≡ b.closed = sym l.closed in
    let e2 : out h ≡ b.noted = sym l.noted in
    rw (e1, e2)
same_denial o h b Clear l =
    let e1 : shut o ≡ b.closed = sym l.closed in
    let e2 : out h ≡ b.noted = sym l.noted in
    rw (e1, e2)

-- ---- what no denial says
abbrev NoneEach : List (Option Denial) → Type 0
NoneEach [] = Unit {0}
NoneEach (x ∷ xs) = (x ≡ None) × NoneEach xs

-- where the first denial is none, each is none
pub each_none : (xs : List (Option Denial)) → first xs ≡ None → NoneEach xs
each_none [] e = tt
each_none (Some n ∷ xs) e = let z : ◌≡◌ {A = ℕ} 0 1 = cc in absurd (omega arith)
each_none (None ∷ xs) e = (refl, each_none xs e)

-- a denial that is not due has a test that does not hold
pub when_none : (c : Bool) (n : ℕ) → when c n ≡ None → c ≡ false
when_none true n e = let z : ◌≡◌ {A = ℕ} 0 1 = cc in absurd (omega arith)
when_none false n e = refl

-- what is not false is true
pub not_off : (c : Bool) → not c ≡ false → c ≡ true
not_off true e = refl
not_off false e = sym e

-- no verdict that is out is none
pub no_wait : (x : Option Verdict) → waits x ≡ false → x ≡ None
no_wait None e = refl
no_wait (Some v) e = let z : ◌≡◌ {A = ℕ} 0 1 = cc in absurd (omega arith)

-- a bay that is not shut has a degree that the table knows
pub opens_known : (o : Opening) → shut o ≡ false → T (known o.degree)
opens_known o e = subst T (sym (left (known o.degree) _ e)) tt
  where
    left : (a b : Bool) → not (a && b) ≡ false → a ≡ true
    left true b e = refl
    left false b e = sym e

-- a reception that is not denied has no sample of a size above 32,767
not_large : (j i : ℕ) (r : Reception) → too_large j r ≡ None → (get_or r i silence).size ≤ 32767
not_large j i [] e = omega arith
not_large j zero (x ∷ xs) e =
    elim (leb x.size 32767) as (λ t. leb x.size 32767 ≡ t → cond t (too_large (suc j) xs) (deny 4 j) ≡ None → x.size ≤ 32767) [
      | true ↦ λ w _. leb-true x.size 32767 w
      | false ↦ λ w q. let z : ◌≡◌ {A = ℕ} 0 1 = cc in absurd (omega arith)
    ] refl e
not_large j (suc i) (x ∷ xs) e =
    elim (leb x.size 32767) as (λ t. cond t (too_large (suc j) xs) (deny 4 j) ≡ None → (get_or xs i silence).size ≤ 32767) [
      | true ↦ λ q. not_large (suc j) i xs q
      | false ↦ λ q. let z : ◌≡◌ {A = ℕ} 0 1 = cc in absurd (omega arith)
    ] e

-- what a state says of a take that it does not deny
pub record FreeTake (b : State) (r : Reception) : Type 0 where
  pub up : b.closed ≡ false
  pub none : b.noted ≡ None
  pub long : length r ≡ length b.sums
  pub small : (i : ℕ) → (get_or r i silence).size ≤ 32767
  pub few : b.held < 16

pub free_take : (b : State) (r : Reception) → refusal b (Take r) ≡ None → FreeTake b r
free_take b r e =
    let t = each_none (refusals b (Take r)) e in
    record {
      up = when_none b.closed 1 t.0;
      none = no_wait b.noted (when_none _ 2 t.1.0);
      long = eqb-true (length r) (length b.sums) (not_off _ (when_none _ 3 t.1.1.0));
      small = λ i. not_large 0 i r t.1.1.1.0;
      few = leb-false 16 b.held (when_none _ 5 t.1.1.1.1.0);
    }
