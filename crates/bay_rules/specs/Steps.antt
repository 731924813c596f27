-- One call, by the bay's own state and its book: what it denies, what it answers, and what it leaves. No run is in it.
--   unsearched  the denial that a decision tries last
--   refusals    the denials that a dealing tries
--   refusal     the denial that is due to a dealing, by the state alone
--   Fair        a book and sums over which a search owes its ranking
--   Leaves      the plain numbers and the book that a call leaves
--   Tells       what a verdict says of a state
--   Does        the answer to a dealing that is not denied, and the state that it leaves
--   Ends        the same of a dealing whose denial is given
--   Steps       the same of every dealing; a denied one leaves the state as it was
--   Opens       a bay as an opening leaves it
use Rattle.std.specs.Prelude.{◌≡◌, ℕ, ◌<◌, ◌≤◌, true, false, not, ◌&&◌, List, [], ◌∷◌, ◌++◌, length, Some, None, Option, ◌==◌, slice_index, slice_index_or}
use Rattle.samples.specs.Meaning.{silence}
use Rattle.samples.specs.Transform.{loudest}
use Rattle.kerdock.specs.Code.{size}
use Rattle.kerdock.specs.Table.{row_of, known}
use Rattle.kerdock.specs.Books.{Lawful as LawfulBook}
use Rattle.kerdock.specs.declared.books.CodeBook.{CodeBook}
use Rattle.decoder.specs.Scores.{Reception}
use Rattle.decoder.specs.Search.{Found}
use Rattle.bay.specs.Rules.{Opening, Dealing, Answer, Verdict, Denial, when, first}
use Rattle.bay.specs.Rules.Dealing.{Take, Decide, Accept, Repeat, Drop, Clear}
use Rattle.bay.specs.Rules.Answer.{Denied, Delivered}
use Rattle.bay.specs.Steps.{refusals as plain_refusals, leader, Leaves as PlainLeaves, Does as PlainDoes, Opens as PlainOpens}
use Rattle.bay_rules.specs.Lived.{State, plain}

-- A degree or sums that no search is for. It is due in no bay that was opened: it is there so that a state of any numbers
-- has its answer.
abbrev pub unsearched : State → Dealing → List (Option Denial)
unsearched b (Take r) = []
unsearched b (Decide w) = when (not (known b.degree && length b.sums == size (row_of b.degree))) 1 ∷ []
unsearched b (Accept v) = []
unsearched b (Repeat v) = []
unsearched b (Drop v) = []
unsearched b Clear = []

abbrev pub refusals : State → Dealing → List (Option Denial)
refusals b d = plain_refusals (plain b) d ++ unsearched b d

abbrev pub refusal : State → Dealing → Option Denial
refusal b d = first (refusals b d)

pub record Fair (d : ℕ) (book : CodeBook) (xs : Reception) : Type 0 where
  pub book_is : LawfulBook (row_of d) book
  pub small : (i : ℕ) → i < length xs → (slice_index_or xs i silence).size ≤ loudest

pub record Leaves (b b' : State) (held : ℕ) (noted : Option Verdict) : Type 0 where
  pub plainly : PlainLeaves (plain b) (plain b') held noted
  pub book : b'.book ≡ b.book

-- the verdict gives the bay's degree and held count, and what a search finds over the bay's sums by the bay's book
pub record Tells (b : State) (v : Verdict) : Type 0 where
  pub degree : v.degree ≡ b.degree
  pub held : v.held ≡ b.held
  pub finds : Fair b.degree b.book b.sums → Found (row_of b.degree) b.sums (leader v)

-- only a decision looks at the book
abbrev pub Does : State → Dealing → Answer → State → Type 0
Does b (Take r) a b' = PlainDoes (plain b) (Take r) a (plain b') × (b'.book ≡ b.book)
Does b (Decide w) a b' = (v : Verdict) × (a ≡ Delivered v) × Leaves b b' b.held (Some v) × (b'.sums ≡ b.sums) × Tells b v
Does b (Accept v) a b' = PlainDoes (plain b) (Accept v) a (plain b') × (b'.book ≡ b.book)
Does b (Repeat v) a b' = PlainDoes (plain b) (Repeat v) a (plain b') × (b'.book ≡ b.book)
Does b (Drop v) a b' = PlainDoes (plain b) (Drop v) a (plain b') × (b'.book ≡ b.book)
Does b Clear a b' = PlainDoes (plain b) Clear a (plain b') × (b'.book ≡ b.book)

abbrev pub Ends : Option Denial → State → Dealing → Answer → State → Type 0
Ends (Some n) b d a b' = (a ≡ Denied n.number n.place) × (b' ≡ b)
Ends None b d a b' = Does b d a b'

abbrev pub Steps : State → Dealing → Answer → State → Type 0
Steps b d a b' = Ends (refusal b d) b d a b'

pub record Opens (o : Opening) (b : State) : Type 0 where
  pub plainly : PlainOpens o (plain b)
  pub degree : b.degree ≡ o.degree
  pub book : b.closed ≡ false → LawfulBook (row_of o.degree) b.book
  pub blank : b.closed ≡ true → (k : ℕ) → (slice_index b.book.traces k ≡ 0) × (slice_index b.book.places k ≡ 0)
