-- A bay's state with the code book that its searches use, and the run that it has lived.
--   State         what a bay keeps: whether it is shut, its degree, the held count, the verdict that is out, the code book, the sums
--   plain         a state without its book
--   Lived         a state is what a lawful run from an opening comes to, and its book is the one of the degree
--   Deals         a dealing with a bay, whatever run it has lived
--   OnlyTheScore  a delivered verdict stands under the law, whatever run the bay has lived
use Rattle.std.specs.Prelude.{◌≡◌, ℕ, Bool, false, Option}
use Rattle.kerdock.specs.Table.{row_of}
use Rattle.kerdock.specs.Books.{Lawful as LawfulBook}
use Rattle.kerdock.specs.declared.books.CodeBook.{CodeBook}
use Rattle.decoder.specs.Scores.{Reception}
use Rattle.bay.specs.Rules.{Run, Dealing, Answer, Opening, Verdict, Rightly}
use Rattle.bay.specs.Rules.Run.{Then}
use Rattle.bay.specs.Rules.Answer.{Delivered}
use Rattle.bay.specs.Law.{Chooses}
use Rattle.bay.specs.Lived.{State as Plain, Lived as PlainLived}

pub record State : Type 0 where
  pub closed : Bool
  pub degree : ℕ
  pub held : ℕ
  pub noted : Option Verdict
  pub book : CodeBook
  pub sums : Reception

abbrev pub plain : State → Plain
plain b = record { closed = b.closed; degree = b.degree; held = b.held; noted = b.noted; sums = b.sums }

pub record Lived (o : Opening) (h : Run) (b : State) : Type 0 where
  pub plainly : PlainLived o h (plain b)
  -- a bay that is not shut holds the code book of its degree
  pub book : b.closed ≡ false → LawfulBook (row_of o.degree) b.book

-- the answer is the one that the rules give, and the bay has then lived one dealing more
abbrev pub Deals : State → Dealing → Answer → State → Type 0
Deals b d a b' = (o : Opening) (h : Run) → Lived o h b → Rightly o h d a × Lived o (Then h d a) b'

abbrev pub OnlyTheScore : State → Answer → Type 0
OnlyTheScore b a = (o : Opening) (h : Run) (v : Verdict) → Lived o h b → a ≡ Delivered v → Chooses o h v
