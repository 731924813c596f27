-- A call that does what its state says is a dealing of whatever run the bay has lived.
use Rattle.std.proofs.Common.{◌≡◌, ℕ, ◌+◌, ◌*◌, ◌<◌, ◌≤◌, false, List, [], ◌∷◌, ◌++◌, length, get_or, ℤ, ◌+ℤ◌, Some, None, Option, sym, refl, ap, ◌∙◌, subst, arith, length-append}
use borrow.Author.Differences.{ints}
use Rattle.samples.specs.Meaning.{reads, silence}
use Rattle.samples.specs.Kind.{limit}
use Rattle.kerdock.specs.Code.{size}
use Rattle.kerdock.specs.Table.{row_of}
use Rattle.decoder.specs.Scores.{Reception, readings, Added}
use Rattle.bay.specs.Rules.{Run, Dealing, Answer, Opening, Verdict, Denial, Rightly, Granted, Unless, holds, out, denial}
use Rattle.bay.specs.Rules.Run.{Then}
use Rattle.bay.specs.Rules.Dealing.{Take, Decide, Accept, Repeat, Drop, Clear}
use Rattle.bay.specs.Rules.Answer.{Delivered, Denied, Counted, Message}
use Rattle.bay.specs.Lived.{State, Lived, Deals}
use Rattle.bay.specs.Steps.{refusal, refusals, Adds, Zeroed, Leaves, Does, Ends, Steps}
use Rattle.bay.proofs.Denials.{same_denial, each_none, when_none, no_wait, FreeTake, free_take}
use Rattle.bay.proofs.Delivering.{delivers}

-- one reception more adds what it reads
readings_more : (rs : List Reception) (r : Reception) (i s : ℕ) → readings (rs ++ r ∷ []) i s ≡ readings rs i s +ℤ reads (get_or r i silence) s
readings_more [] r i s = omega (arith, ints)
readings_more (q ∷ rs) r i s = let e = readings_more rs r i s in omega (arith, ints)

-- a denied dealing leaves the state as it was
denied : (o : Opening) (h : Run) (b : State) (d : Dealing) (n p : ℕ) → Lived o h b → Rightly o h d (Denied n p) → Lived o (Then h d (Denied n p)) b
denied o h b d n p l right = record {
  lawful = (l.lawful, right);
  closed = l.closed;
  degree = l.degree;
  held = l.held;
  few = l.few;
  noted = l.noted;
  long = l.long;
  summed = l.summed;
  small = l.small;
}

-- take: one reception more is held, and the sums are with it added
taken : (o : Opening) (h : Run) (b : State) (r : Reception) (b' : State) → Lived o h b → FreeTake b r →
    Leaves b b' (b.held + 1) None → Adds b.sums r b'.sums → Rightly o h (Take r) (Counted (b.held + 1)) →
    Lived o (Then h (Take r) (Counted (b.held + 1))) b'
taken o h b r b' l f t a right =
    let up = f.up in
    let lh = l.held in
    let lf = l.few in
    let lo = l.long up in
    let count : length (holds h ++ r ∷ []) ≡ length (holds h) + 1 = simp length-append in
    let within : (i : ℕ) → i < length b.sums → (get_or b.sums i silence).size + (get_or r i silence).size ≤ limit =
    λ i lt. let s1 = l.small up i (omega arith) in let s2 = f.small i in let s3 = f.few in omega arith in
    record {
      lawful = (l.lawful, right);
      closed = t.closed ∙ l.closed;
      degree = λ _. t.degree ∙ l.degree up;
      held = t.held_is ∙ (let e : b.held + 1 ≡ length (holds h) + 1 = omega arith in e ∙ sym count);
      few = let s3 = f.few in omega arith;
      noted = t.noted_is ∙ sym f.none ∙ l.noted;
      long = λ _. a.long ∙ lo;
      summed = λ _ i s lt four.
          let lt' : i < length b.sums = omega arith in
          a.reads_as i s lt' four (within i lt')
          ∙ ap (λ (z : ℤ). z +ℤ reads (get_or r i silence) s) (l.summed up i s lt four)
          ∙ sym (readings_more (holds h) r i s);
      small = λ _ i lt.
          let lt' : i < length b.sums = omega arith in
          let s0 = a.grows i lt' (within i lt') in
          let s1 = l.small up i lt in
          let s2 = f.small i in
          omega arith;
    }

-- accept, drop and clear: nothing is held, and the sums are zeros
emptied : (o : Opening) (h : Run) (b : State) (d : Dealing) (a : Answer) (b' : State) → Lived o h b → Leaves b b' 0 None →
    Zeroed b.sums b'.sums → holds (Then h d a) ≡ [] → out (Then h d a) ≡ None → Rightly o h d a → Lived o (Then h d a) b'
emptied o h b d a b' l t z none nothing right =
    let up : b'.closed ≡ false → b.closed ≡ false = λ u. sym t.closed ∙ u in
    record {
      lawful = (l.lawful, right);
      closed = t.closed ∙ l.closed;
      degree = λ u. t.degree ∙ l.degree (up u);
      held = t.held_is ∙ sym (ap length none);
      few = let e : length (holds (Then h d a)) ≡ 0 = ap length none in omega arith;
      noted = t.noted_is ∙ sym nothing;
      long = λ u. z.long ∙ l.long (up u);
      summed = λ u i s lt four.
          let lo = l.long (up u) in
          subst (λ (rs : List Reception). reads (get_or b'.sums i silence) s ≡ readings rs i s) (sym none) (z.reads_as i s (omega arith) four);
      small = λ u i lt. let lo = l.long (up u) in let e = z.none i (omega arith) in omega arith;
    }

-- decide and repeat: what is held stays, and so do the sums
kept : (o : Opening) (h : Run) (b : State) (d : Dealing) (a : Answer) (b' : State) (v : Option Verdict) → Lived o h b → Leaves b b' b.held v →
    b'.sums ≡ b.sums → holds (Then h d a) ≡ holds h → out (Then h d a) ≡ v → Rightly o h d a → Lived o (Then h d a) b'
kept o h b d a b' v l t same holding outs right =
    let up : b'.closed ≡ false → b.closed ≡ false = λ u. sym t.closed ∙ u in
    let n : ℕ = size (row_of o.degree) in
    record {
      lawful = (l.lawful, right);
      closed = t.closed ∙ l.closed;
      degree = λ u. t.degree ∙ l.degree (up u);
      held = t.held_is ∙ l.held ∙ sym (ap length holding);
      few = let e : length (holds (Then h d a)) ≡ length (holds h) = ap length holding in let f = l.few in omega arith;
      noted = t.noted_is ∙ sym outs;
      long = λ u. ap length same ∙ l.long (up u);
      summed = λ u.
          subst (λ (rs : List Reception). Added n rs b'.sums) (sym holding)
          (subst (λ (xs : Reception). Added n (holds h) xs) (sym same) (l.summed (up u)));
      small = λ u i lt.
          subst (λ (rs : List Reception). (get_or b'.sums i silence).size ≤ 32767 * length rs) (sym holding)
          (subst (λ (xs : Reception). (get_or xs i silence).size ≤ 32767 * length (holds h)) (sym same) (l.small (up u) i lt));
    }

-- the answer is right by what the rules grant, where no denial is due
granted_right : (o : Opening) (h : Run) (d : Dealing) (a : Answer) → denial o h d ≡ None → Granted o h d a → Rightly o h d a
granted_right o h d a e g = subst (λ (y : Option Denial). Unless y a (Granted o h d a)) (sym e) g

-- a dealing that the state does not deny
does : (b : State) (d : Dealing) (a : Answer) (b' : State) → refusal b d ≡ None → Does b d a b' → Deals b d a b'
does b (Take r) a b' e g o h l =
    let free : denial o h (Take r) ≡ None = same_denial o h b (Take r) l ∙ e in
    let right = granted_right o h (Take r) (Counted (b.held + 1)) free (ap (λ (n : ℕ). Counted (n + 1)) l.held) in
    subst (λ (x : Answer). Rightly o h (Take r) x × Lived o (Then h (Take r) x) b') (sym g.0)
    (right, taken o h b r b' l (free_take b r e) g.1 g.2 right)
does b (Decide w) a b' e g o h l =
    let up = when_none _ 1 (each_none (refusals b (Decide w)) e).0 in
    let v : Verdict = g.0 in
    let free : denial o h (Decide w) ≡ None = same_denial o h b (Decide w) l ∙ e in
    let right = granted_right o h (Decide w) (Delivered v) free (v, refl, delivers o h b l up v g.4) in
    subst (λ (x : Answer). Rightly o h (Decide w) x × Lived o (Then h (Decide w) x) b') (sym g.1)
    (right, kept o h b (Decide w) (Delivered v) b' (Some v) l g.2 g.3 refl refl right)
does b (Accept v) a b' e g o h l =
    let free : denial o h (Accept v) ≡ None = same_denial o h b (Accept v) l ∙ e in
    let right = granted_right o h (Accept v) (Message v.message) free refl in
    subst (λ (x : Answer). Rightly o h (Accept v) x × Lived o (Then h (Accept v) x) b') (sym g.0)
    (right, emptied o h b (Accept v) (Message v.message) b' l g.1 g.2 refl refl right)
does b (Repeat v) a b' e g o h l =
    let free : denial o h (Repeat v) ≡ None = same_denial o h b (Repeat v) l ∙ e in
    let right = granted_right o h (Repeat v) (Counted b.held) free (ap Counted l.held) in
    subst (λ (x : Answer). Rightly o h (Repeat v) x × Lived o (Then h (Repeat v) x) b') (sym g.0)
    (right, kept o h b (Repeat v) (Counted b.held) b' None l g.1 g.2 refl refl right)
does b (Drop v) a b' e g o h l =
    let free : denial o h (Drop v) ≡ None = same_denial o h b (Drop v) l ∙ e in
    let right = granted_right o h (Drop v) (Counted b.held) free (ap Counted l.held) in
    subst (λ (x : Answer). Rightly o h (Drop v) x × Lived o (Then h (Drop v) x) b') (sym g.0)
    (right, emptied o h b (Drop v) (Counted b.held) b' l g.1 g.2 refl refl right)
does b Clear a b' e g o h l =
    let none = no_wait b.noted (when_none _ 2 (each_none (refusals b Clear) e).1.0) in
    let free : denial o h Clear ≡ None = same_denial o h b Clear l ∙ e in
    let right = granted_right o h Clear (Counted b.held) free (ap Counted l.held) in
    subst (λ (x : Answer). Rightly o h Clear x × Lived o (Then h Clear x) b') (sym g.0)
    (right, emptied o h b Clear (Counted b.held) b' l g.1 g.2 refl (sym l.noted ∙ none) right)

-- every dealing, denied or not
pub deals : (b : State) (d : Dealing) (a : Answer) (b' : State) → Steps b d a b' → Deals b d a b'
deals b d a b' s =
    elim (refusal b d) as (λ x. refusal b d ≡ x → Ends x b d a b' → Deals b d a b') [
      | None ↦ λ e g. does b d a b' e g
      | Some n ↦ λ e g o h l.
          let no : Answer = Denied n.number n.place in
          let why : denial o h d ≡ Some n = same_denial o h b d l ∙ e in
          let right : Rightly o h d no = subst (λ (y : Option Denial). Unless y no (Granted o h d no)) (sym why) refl in
          subst (λ (x : Answer). Rightly o h d x × Lived o (Then h d x) b') (sym g.0)
          (right, subst (λ (y : State). Lived o (Then h d no) y) (sym g.1) (denied o h b d n.number n.place l right))
    ] refl s
