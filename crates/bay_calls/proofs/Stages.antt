-- What it says of a stage that a call is let in.
use Rattle.std.proofs.Common.{◌≡◌, ℕ, Bool, true, false, cond, List, Some, None, Ok, Err, Result, sym, refl, ap, ◌∙◌, subst, arith}
use Rattle.samples.specs.declared.sample.Sample.{Ghosts}
use Rattle.kerdock.specs.declared.books.CodeBook.{CodeBook}
use Rattle.bay_calls.specs.declared.admission.Call.TheVariants.{Answer}
use Rattle.bay_rules.specs.declared.denial.Denial.{Denial}
use Rattle.bay_rules.specs.declared.denial.Denial.TheVariants.{Shut as IsShut, VerdictOut, Misfit}
use Rattle.bay_rules.specs.declared.numbers.Numbers.{Numbers}
use Rattle.bay_calls.specs.declared.bays.Bay.{Bay}
use Rattle.bay_calls.specs.declared.standing.Standing.{Standing}
use Rattle.bay_calls.specs.declared.standing.Stage.{Stage}
use Rattle.bay_calls.specs.declared.standing.Stage.TheVariants.{Shut, Gathering, Waiting}
use Rattle.decoder.specs.Scores.{Reception}
use Rattle.bay.specs.Rules.{Dealing, fits}
use Rattle.bay.specs.Rules.Answer.{Denied}
use Rattle.bay_rules.specs.Lived.{State}
use Rattle.bay_rules.specs.Steps.{Steps, Leaves}
use Rattle.bay_calls.specs.Sums.{emptied}
use Rattle.bay_calls.specs.Admission.{admitted}
use Rattle.bay_calls.specs.Seen.{five, closes, notes, stands, seen, state, denies}
use Rattle.bay_rules.proofs.Settling.{Gathers, shut_denies}

-- a call that a shut bay and a waiting bay deny is let in only where the bay gathers
pub only_gathering : (f : Stage → Result (Unit {0}) Denial) → f Shut ≡ Err IsShut → ((v : Numbers) → f (Waiting v) ≡ Err VerdictOut) →
    (s : Stage) (x : Unit {0}) → Ok x ≡ f s → s ≡ Gathering
only_gathering f shut out Shut x e = let z : ◌≡◌ {A = ℕ} 0 1 = cc in absurd (omega arith)
only_gathering f shut out Gathering x e = refl
only_gathering f shut out (Waiting v) x e = let q = out v in let z : ◌≡◌ {A = ℕ} 0 1 = cc in absurd (omega arith)

-- a bay that gathers has a state that gathers
pub gathers_at : {S : Type 0} (m : Ghosts S) (r : Standing) (book : CodeBook) (xs : List S) → r.stage ≡ Gathering → Gathers (seen m r book xs)
gathers_at m r book xs e = record { up = ap closes e; none = ap notes e }

-- and so has one that lets such a call in
pub gathers : {S : Type 0} (m : Ghosts S) (b : Bay S) (f : Stage → Result (Unit {0}) Denial) → f Shut ≡ Err IsShut →
    ((v : Numbers) → f (Waiting v) ≡ Err VerdictOut) → (x : Unit {0}) → Ok x ≡ f b.standing.stage → Gathers (state m b)
gathers m b f shut out x e = gathers_at m b.standing b.book b.sums.now (only_gathering f shut out b.standing.stage x e)

let_in : (t : Bool) (x : Unit {0}) → Ok x ≡ cond t (Ok tt) (Err Misfit) → t ≡ true
let_in true x e = refl
let_in false x e = let z : ◌≡◌ {A = ℕ} 0 1 = cc in absurd (omega arith)

-- an answer is let in only where the bay waits for it
pub only_fitting : (s : Stage) (n : Numbers) (x : Unit {0}) → Ok x ≡ admitted s (Answer n) → (closes s ≡ false) × (fits (five n) (notes s) ≡ true)
only_fitting Shut n x e = let z : ◌≡◌ {A = ℕ} 0 1 = cc in absurd (omega arith)
only_fitting Gathering n x e = let z : ◌≡◌ {A = ℕ} 0 1 = cc in absurd (omega arith)
only_fitting (Waiting v) n x e = (refl, let_in _ x e)

-- the plain numbers of a bay that was not shut, once it has let go of all that was held
pub leaves_empty : {S : Type 0} (m : Ghosts S) (r r' : Standing) (book : CodeBook) (xs ys : List S) → closes r.stage ≡ false →
    r' ≡ emptied r → Leaves (seen m r book xs) (seen m r' book ys) 0 None
leaves_empty m r r' book xs ys up e = record {
  plainly = record {
    closed = ap (λ (s : Standing). closes s.stage) e ∙ sym up;
    degree = ap (λ (s : Standing). s.degree) e;
    held_is = ap (λ (s : Standing). s.held) e;
    noted_is = ap (λ (s : Standing). notes s.stage) e;
  };
  book = refl;
}

-- why an answer is not let in: the bay is shut, or the verdict does not fit
pub record NotTaken (s : Stage) (n : Numbers) (why : Denial) : Type 0 where
  pub shut_so : closes s ≡ true → why ≡ IsShut
  pub open_so : closes s ≡ false → (why ≡ Misfit) × (fits (five n) (notes s) ≡ false)

not_let_in : (t : Bool) (why : Denial) → ◌≡◌ {A = Result (Unit {0}) Denial} (Err why) (cond t (Ok tt) (Err Misfit)) → (why ≡ Misfit) × (t ≡ false)
not_let_in true why e = let z : ◌≡◌ {A = ℕ} 0 1 = cc in absurd (omega arith)
not_let_in false why e = (cc, refl)

pub not_taken : (s : Stage) (n : Numbers) (why : Denial) → admitted s (Answer n) ≡ Err why → NotTaken s n why
not_taken Shut n why e = record { shut_so = λ _. cc; open_so = λ u. let z : ◌≡◌ {A = ℕ} 0 1 = cc in absurd (omega arith) }
not_taken Gathering n why e = record { shut_so = λ u. let z : ◌≡◌ {A = ℕ} 0 1 = cc in absurd (omega arith); open_so = λ _. (cc, refl) }
not_taken (Waiting v) n why e = record {
  shut_so = λ u. let z : ◌≡◌ {A = ℕ} 0 1 = cc in absurd (omega arith);
  open_so = λ _. not_let_in (fits (five n) (Some (five v))) why (sym e);
}

-- so the call is denied for that, where a misfit denies it by 8
pub denied_answer : (r : Standing) (book : CodeBook) (xs : Reception) (n : Numbers) (why : Denial) (d : Dealing) →
    ((closes r.stage ≡ false) → fits (five n) (notes r.stage) ≡ false → Steps (stands r book xs) d (Denied 8 0) (stands r book xs)) →
    admitted r.stage (Answer n) ≡ Err why → Steps (stands r book xs) d (denies why) (stands r book xs)
denied_answer r book xs n why d misfits e =
    let b : State = stands r book xs in
    let not = not_taken r.stage n why e in
    elim (closes r.stage) as (λ t. closes r.stage ≡ t → Steps b d (denies why) b) [
      | true ↦ λ u. subst (λ (w : Denial). Steps b d (denies w) b) (sym (not.shut_so u)) (shut_denies b d u)
      | false ↦ λ u. let m = not.open_so u in subst (λ (w : Denial). Steps b d (denies w) b) (sym m.0) (misfits u m.1)
    ] refl
