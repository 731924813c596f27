-- One call, by the bay's own state: what it denies, what it answers, and what it leaves. No run is in it.
--   refusals  the denials that a dealing tries
--   refusal   the denial that is due to a dealing, by the state alone
--   Adds      sums with a reception added
--   Zeroed    sums that read 0
--   Fair      sums over which a search owes its ranking
--   leader    a verdict's message, score and margin
--   Leaves    the plain numbers that a call leaves
--   Tells     what a verdict says of a state
--   Does      the answer to a dealing that is not denied, and the state that it leaves
--   Ends      the same of a dealing whose denial is given
--   Steps     the same of every dealing; a denied one leaves the state as it was
--   Opens     a bay as an opening leaves it
use Rattle.std.specs.Prelude.{◌≡◌, ℕ, ◌+◌, ◌<◌, ◌≤◌, false, not, T, List, [], ◌∷◌, length, pos, ◌+ℤ◌, Some, None, Option, ◌==◌, nat_le, slice_index_or}
use Rattle.samples.specs.Meaning.{reads, silence}
use Rattle.samples.specs.Kind.{limit}
use Rattle.samples.specs.Transform.{loudest}
use Rattle.kerdock.specs.Code.{size}
use Rattle.kerdock.specs.Table.{row_of, known}
use Rattle.decoder.specs.Scores.{Reception}
use Rattle.decoder.specs.Search.{Found}
use Rattle.decoder.specs.declared.search.Leader.{Leader}
use Rattle.bay.specs.Rules.{Opening, Dealing, Answer, Verdict, Denial, shut, waits, fits, too_large, when, first}
use Rattle.bay.specs.Rules.Dealing.{Take, Decide, Accept, Repeat, Drop, Clear}
use Rattle.bay.specs.Rules.Answer.{Denied, Counted, Delivered, Message}
use Rattle.bay.specs.Lived.{State}

-- the denials that a call tries, in rising number
abbrev pub refusals : State → Dealing → List (Option Denial)
refusals b (Take r) =
    when b.closed 1
    ∷ when (waits b.noted) 2
    ∷ when (not (length r == length b.sums)) 3
    ∷ too_large 0 r
    ∷ when (nat_le 16 b.held) 5
    ∷ []
refusals b (Decide w) =
    when b.closed 1
    ∷ when (waits b.noted) 2
    ∷ when (b.held == 0) 6
    ∷ when (not (w == length b.sums)) 7
    ∷ []
refusals b (Accept v) = when b.closed 1 ∷ when (not (fits v b.noted)) 8 ∷ []
refusals b (Repeat v) = when b.closed 1 ∷ when (not (fits v b.noted)) 8 ∷ []
refusals b (Drop v) = when b.closed 1 ∷ when (not (fits v b.noted)) 8 ∷ []
refusals b Clear = when b.closed 1 ∷ when (waits b.noted) 2 ∷ []

abbrev pub refusal : State → Dealing → Option Denial
refusal b d = first (refusals b d)

-- ys are xs with r added, owed where the sizes stay within the limit of a kind
pub record Adds (xs r ys : Reception) : Type 0 where
  pub long : length ys ≡ length xs
  pub reads_as : (i s : ℕ) → i < length xs → s < 4 → (slice_index_or xs i silence).size + (slice_index_or r i silence).size ≤ limit →
      reads (slice_index_or ys i silence) s ≡ reads (slice_index_or xs i silence) s +ℤ reads (slice_index_or r i silence) s
  pub grows : (i : ℕ) → i < length xs → (slice_index_or xs i silence).size + (slice_index_or r i silence).size ≤ limit →
      (slice_index_or ys i silence).size ≤ (slice_index_or xs i silence).size + (slice_index_or r i silence).size

-- ys are as many as xs, and each reads 0 and has size 0
pub record Zeroed (xs ys : Reception) : Type 0 where
  pub long : length ys ≡ length xs
  pub reads_as : (i s : ℕ) → i < length xs → s < 4 → reads (slice_index_or ys i silence) s ≡ pos 0
  pub none : (i : ℕ) → i < length xs → (slice_index_or ys i silence).size ≡ 0

pub record Fair (d : ℕ) (xs : Reception) : Type 0 where
  pub degree : T (known d)
  pub long : length xs ≡ size (row_of d)
  pub small : (i : ℕ) → i < length xs → (slice_index_or xs i silence).size ≤ loudest

abbrev pub leader : Verdict → Leader
leader v = record { message = v.message; score = v.score; margin = v.margin }

pub record Leaves (b b' : State) (held : ℕ) (noted : Option Verdict) : Type 0 where
  pub closed : b'.closed ≡ b.closed
  pub degree : b'.degree ≡ b.degree
  pub held_is : b'.held ≡ held
  pub noted_is : b'.noted ≡ noted

-- the verdict gives the bay's degree and held count, and what a search finds over the bay's sums
pub record Tells (b : State) (v : Verdict) : Type 0 where
  pub degree : v.degree ≡ b.degree
  pub held : v.held ≡ b.held
  pub finds : Fair b.degree b.sums → Found (row_of b.degree) b.sums (leader v)

abbrev pub Does : State → Dealing → Answer → State → Type 0
Does b (Take r) a b' = (a ≡ Counted (b.held + 1)) × Leaves b b' (b.held + 1) None × Adds b.sums r b'.sums
Does b (Decide w) a b' = (v : Verdict) × (a ≡ Delivered v) × Leaves b b' b.held (Some v) × (b'.sums ≡ b.sums) × Tells b v
Does b (Accept v) a b' = (a ≡ Message v.message) × Leaves b b' 0 None × Zeroed b.sums b'.sums
Does b (Repeat v) a b' = (a ≡ Counted b.held) × Leaves b b' b.held None × (b'.sums ≡ b.sums)
Does b (Drop v) a b' = (a ≡ Counted b.held) × Leaves b b' 0 None × Zeroed b.sums b'.sums
Does b Clear a b' = (a ≡ Counted b.held) × Leaves b b' 0 None × Zeroed b.sums b'.sums

abbrev pub Ends : Option Denial → State → Dealing → Answer → State → Type 0
Ends (Some n) b d a b' = (a ≡ Denied n.number n.place) × (b' ≡ b)
Ends None b d a b' = Does b d a b'

abbrev pub Steps : State → Dealing → Answer → State → Type 0
Steps b d a b' = Ends (refusal b d) b d a b'

pub record Opens (o : Opening) (b : State) : Type 0 where
  pub closed : b.closed ≡ shut o
  pub degree : b.closed ≡ false → b.degree ≡ o.degree
  pub held : b.held ≡ 0
  pub noted : b.noted ≡ None
  pub long : b.closed ≡ false → length b.sums ≡ size (row_of o.degree)
  pub zeros : b.closed ≡ false → Zeroed b.sums b.sums
