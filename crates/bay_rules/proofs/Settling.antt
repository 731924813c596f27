-- What the tests of a call settle: the step that a state takes, once it is known which denial is due, or that none is. But for
-- decisions it is the step of the state without its book.
use Rattle.std.proofs.Common.{◌≡◌, ℕ, ◌+◌, ◌<◌, ◌≤◌, true, false, length, Some, None, Option, sym, refl, ap₂, subst, eq-eqb, ne_eqb}
use Rattle.kerdock.specs.Code.{size}
use Rattle.kerdock.specs.Table.{row_of, known}
use Rattle.kerdock.specs.declared.books.CodeBook.{CodeBook}
use Rattle.decoder.specs.Scores.{Reception}
use Rattle.bay.specs.Rules.{Dealing, Answer, Verdict, Denial, fits, deny, too_large}
use Rattle.bay.specs.Rules.Dealing.{Take, Decide, Accept, Repeat, Drop, Clear}
use Rattle.bay.specs.Rules.Answer.{Delivered, Denied, Counted, Message}
use Rattle.bay.specs.Lived.{State as Plain}
use Rattle.bay.specs.Steps.{Adds, Zeroed, Does as PlainDoes, Ends as PlainEnds, Steps as PlainSteps, refusal as plain_refusal, refusals as plain_refusals}
use Rattle.bay.proofs.Settling.{Gathers as PlainGathers, take_too_large as plain_too_large, take_full as plain_full, takes as plainly_takes, accept_misfits as plain_accept_misfits, repeat_misfits as plain_repeat_misfits, drop_misfits as plain_drop_misfits, accepts as plainly_accepts, repeats as plainly_repeats, drops as plainly_drops, clears as plainly_clears}
use Rattle.bay_rules.specs.Lived.{State, plain}
use Rattle.bay_rules.specs.Steps.{refusal, Leaves, Tells, Does, Ends, Steps}
use Rattle.bay_rules.proofs.Refusals.{no_last}

-- the bay is open, and no verdict is out
abbrev pub Gathers : State → Type 0
Gathers b = PlainGathers (plain b)

-- a denial that is due is answered, and nothing changes
refused : (b : State) (d : Dealing) (n p : ℕ) → refusal b d ≡ deny n p → Steps b d (Denied n p) b
refused b d n p e = subst (λ (x : Option Denial). Ends x b d (Denied n p) b) (sym e) (refl, refl)

-- where none is due, the dealing is done
done : (b : State) (d : Dealing) (a : Answer) (b' : State) → refusal b d ≡ None → Does b d a b' → Steps b d a b'
done b d a b' e g = subst (λ (x : Option Denial). Ends x b d a b') (sym e) g

-- ---- a shut bay denies every dealing
shut_refusal : (b : State) (d : Dealing) → b.closed ≡ true → refusal b d ≡ deny 1 0
shut_refusal b (Take r) e = rw e
shut_refusal b (Decide w) e = rw e
shut_refusal b (Accept v) e = rw e
shut_refusal b (Repeat v) e = rw e
shut_refusal b (Drop v) e = rw e
shut_refusal b Clear e = rw e

pub shut_denies : (b : State) (d : Dealing) → b.closed ≡ true → Steps b d (Denied 1 0) b
shut_denies b d e = refused b d 1 0 (shut_refusal b d e)

-- ---- a step without the book is a step, where nothing looks at the book
joined : Plain → CodeBook → State
joined p book = record { closed = p.closed; degree = p.degree; held = p.held; noted = p.noted; book = book; sums = p.sums }

abbrev Bookless : Dealing → Type 0
Bookless (Take r) = Unit {0}
Bookless (Decide w) = ⊥
Bookless (Accept v) = Unit {0}
Bookless (Repeat v) = Unit {0}
Bookless (Drop v) = Unit {0}
Bookless Clear = Unit {0}

does : (b : State) (d : Dealing) (a : Answer) (b' : State) → Bookless d → PlainDoes (plain b) d a (plain b') → b'.book ≡ b.book → Does b d a b'
does b (Take r) a b' k g e = (g, e)
does b (Decide w) a b' k g e = absurd k
does b (Accept v) a b' k g e = (g, e)
does b (Repeat v) a b' k g e = (g, e)
does b (Drop v) a b' k g e = (g, e)
does b Clear a b' k g e = (g, e)

ends : (x : Option Denial) (b : State) (d : Dealing) (a : Answer) (b' : State) → Bookless d → PlainEnds x (plain b) d a (plain b') → b'.book ≡ b.book →
    Ends x b d a b'
unfolding joined
ends (Some n) b d a b' k g e = (g.0, ap₂ joined g.1 e)
ends None b d a b' k g e = does b d a b' k g e

same : (b : State) (d : Dealing) → Bookless d → refusal b d ≡ plain_refusal (plain b) d
same b (Take r) k = no_last (plain_refusals (plain b) (Take r))
same b (Decide w) k = absurd k
same b (Accept v) k = no_last (plain_refusals (plain b) (Accept v))
same b (Repeat v) k = no_last (plain_refusals (plain b) (Repeat v))
same b (Drop v) k = no_last (plain_refusals (plain b) (Drop v))
same b Clear k = no_last (plain_refusals (plain b) Clear)

step : (b : State) (d : Dealing) (a : Answer) (b' : State) → Bookless d → PlainSteps (plain b) d a (plain b') → b'.book ≡ b.book → Steps b d a b'
step b d a b' k s e = subst (λ (x : Option Denial). Ends x b d a b') (sym (same b d k)) (ends (plain_refusal (plain b) d) b d a b' k s e)

-- ---- take
module _ (b : State) (r : Reception) (g : Gathers b) where
  pub take_too_large : (i : ℕ) → length r ≡ length b.sums → too_large 0 r ≡ deny 4 i → Steps b (Take r) (Denied 4 i) b
  take_too_large i fits large = step b (Take r) (Denied 4 i) b tt (plain_too_large (plain b) r g i fits large) refl

  pub take_full : length r ≡ length b.sums → too_large 0 r ≡ None → 16 ≤ b.held → Steps b (Take r) (Denied 5 0) b
  take_full fits large full = step b (Take r) (Denied 5 0) b tt (plain_full (plain b) r g fits large full) refl

  pub takes : (b' : State) → length r ≡ length b.sums → too_large 0 r ≡ None → b.held < 16 →
      Leaves b b' (b.held + 1) None → Adds b.sums r b'.sums → Steps b (Take r) (Counted (b.held + 1)) b'
  takes b' fits large few t a =
      step b (Take r) (Counted (b.held + 1)) b' tt (plainly_takes (plain b) r g (plain b') fits large few t.plainly a) t.book

-- ---- decide
module _ (b : State) (w : ℕ) (g : Gathers b) where
  pub decides : (v : Verdict) (b' : State) → (b.held ≡ 0 → ⊥) → w ≡ length b.sums → known b.degree ≡ true →
      length b.sums ≡ size (row_of b.degree) → Leaves b b' b.held (Some v) → b'.sums ≡ b.sums → Tells b v →
      Steps b (Decide w) (Delivered v) b'
  decides v b' some fits listed long t s tells =
      let e1 = g.up in
      let e2 = g.none in
      let e3 = ne_eqb b.held 0 some in
      let e4 = eq-eqb w (length b.sums) fits in
      let e5 = eq-eqb (length b.sums) (size (row_of b.degree)) long in
      done b (Decide w) (Delivered v) b' (rw (e1, e2, e3, e4, listed, e5)) (v, refl, t, s, tells)

-- ---- accept, repeat and drop
module _ (b : State) (v : Verdict) (up : b.closed ≡ false) where
  pub accept_misfits : fits v b.noted ≡ false → Steps b (Accept v) (Denied 8 0) b
  accept_misfits other = step b (Accept v) (Denied 8 0) b tt (plain_accept_misfits (plain b) v up other) refl

  pub repeat_misfits : fits v b.noted ≡ false → Steps b (Repeat v) (Denied 8 0) b
  repeat_misfits other = step b (Repeat v) (Denied 8 0) b tt (plain_repeat_misfits (plain b) v up other) refl

  pub drop_misfits : fits v b.noted ≡ false → Steps b (Drop v) (Denied 8 0) b
  drop_misfits other = step b (Drop v) (Denied 8 0) b tt (plain_drop_misfits (plain b) v up other) refl

  pub accepts : (b' : State) → fits v b.noted ≡ true → Leaves b b' 0 None → Zeroed b.sums b'.sums →
      Steps b (Accept v) (Message v.message) b'
  accepts b' it t z = step b (Accept v) (Message v.message) b' tt (plainly_accepts (plain b) v up (plain b') it t.plainly z) t.book

  pub repeats : (b' : State) → fits v b.noted ≡ true → Leaves b b' b.held None → b'.sums ≡ b.sums →
      Steps b (Repeat v) (Counted b.held) b'
  repeats b' it t s = step b (Repeat v) (Counted b.held) b' tt (plainly_repeats (plain b) v up (plain b') it t.plainly s) t.book

  pub drops : (b' : State) → fits v b.noted ≡ true → Leaves b b' 0 None → Zeroed b.sums b'.sums →
      Steps b (Drop v) (Counted b.held) b'
  drops b' it t z = step b (Drop v) (Counted b.held) b' tt (plainly_drops (plain b) v up (plain b') it t.plainly z) t.book

-- ---- clear
pub clears : (b b' : State) → Gathers b → Leaves b b' 0 None → Zeroed b.sums b'.sums → Steps b Clear (Counted b.held) b'
clears b b' g t z = step b Clear (Counted b.held) b' tt (plainly_clears (plain b) (plain b') g t.plainly z) t.book
