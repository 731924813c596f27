-- A call that does what its state says is a dealing of whatever run the bay has lived: it is one without the book, and no call
-- touches the book.
use Rattle.std.proofs.Common.{◌≡◌, ℕ, false, Some, None, Option, sym, refl, ap, ◌∙◌, subst}
use Rattle.kerdock.specs.Table.{row_of}
use Rattle.kerdock.specs.Books.{Lawful as LawfulBook}
use Rattle.kerdock.specs.declared.books.CodeBook.{CodeBook}
use Rattle.bay.specs.Rules.{Run, Dealing, Answer, Opening, Denial}
use Rattle.bay.specs.Rules.Dealing.{Take, Decide, Accept, Repeat, Drop, Clear}
use Rattle.bay.specs.Steps.{Does as PlainDoes, Ends as PlainEnds, Steps as PlainSteps}
use Rattle.bay.proofs.Living.{deals as plainly_deals}
use Rattle.bay_rules.specs.Lived.{State, plain, Lived, Deals}
use Rattle.bay_rules.specs.Steps.{refusal, Does, Ends, Steps}
use Rattle.bay_rules.proofs.Refusals.{not_shut, same_refusal}

-- no call touches the book
same_book : (b : State) (d : Dealing) (a : Answer) (b' : State) → Does b d a b' → b'.book ≡ b.book
same_book b (Take r) a b' g = g.1
same_book b (Decide w) a b' g = g.2.book
same_book b (Accept v) a b' g = g.1
same_book b (Repeat v) a b' g = g.1
same_book b (Drop v) a b' g = g.1
same_book b Clear a b' g = g.1

book_stays : (x : Option Denial) (b : State) (d : Dealing) (a : Answer) (b' : State) → Ends x b d a b' → b'.book ≡ b.book
book_stays (Some n) b d a b' g = ap (λ (s : State). s.book) g.1
book_stays None b d a b' g = same_book b d a b' g

-- what is done by the book of the degree is done without one
plainly_does : (b : State) (d : Dealing) (a : Answer) (b' : State) → LawfulBook (row_of b.degree) b.book → Does b d a b' →
    PlainDoes (plain b) d a (plain b')
plainly_does b (Take r) a b' lawful g = g.0
plainly_does b (Decide w) a b' lawful g =
    let tells = g.4 in (
      g.0,
      g.1,
      g.2.plainly,
      g.3,
      record { degree = tells.degree; held = tells.held; finds = λ fair. tells.finds (record { book_is = lawful; small = fair.small }) },
    )
plainly_does b (Accept v) a b' lawful g = g.0
plainly_does b (Repeat v) a b' lawful g = g.0
plainly_does b (Drop v) a b' lawful g = g.0
plainly_does b Clear a b' lawful g = g.0

module _ (o : Opening) (h : Run) (b : State) (l : Lived o h b) where
  own_book : b.closed ≡ false → LawfulBook (row_of b.degree) b.book
  own_book up = subst (λ (n : ℕ). LawfulBook (row_of n) b.book) (sym (l.plainly.degree up)) (l.book up)

  plainly_ends : (x : Option Denial) (d : Dealing) (a : Answer) (b' : State) → refusal b d ≡ x → Ends x b d a b' → PlainEnds x (plain b) d a (plain b')
  plainly_ends (Some n) d a b' e g = (g.0, ap plain g.1)
  plainly_ends None d a b' e g = plainly_does b d a b' (own_book (not_shut b d e)) g

  plainly_steps : (d : Dealing) (a : Answer) (b' : State) → Steps b d a b' → PlainSteps (plain b) d a (plain b')
  plainly_steps d a b' s =
      subst (λ (x : Option Denial). PlainEnds x (plain b) d a (plain b')) (same_refusal o h b d l) (plainly_ends (refusal b d) d a b' refl s)

pub deals : (b : State) (d : Dealing) (a : Answer) (b' : State) → Steps b d a b' → Deals b d a b'
deals b d a b' s o h l =
    let k = plainly_deals (plain b) d a (plain b') (plainly_steps o h b l d a b' s) o h l.plainly in (
      k.0,
      record {
        plainly = k.1;
        book = λ u.
            subst (λ (x : CodeBook). LawfulBook (row_of o.degree) x) (sym (book_stays (refusal b d) b d a b' s))
            (l.book (l.plainly.closed ∙ sym k.1.closed ∙ u));
      },
    )
