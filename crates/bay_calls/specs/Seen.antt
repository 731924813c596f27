-- The values that the code holds, as the rules speak of them.
--   opening    an opening, by its degree and the length of its memory
--   five       a verdict's five numbers
--   closes     whether a stage is that of a shut bay
--   notes      the verdict that is out at a stage
--   stands     a bay's state, by its plain numbers, its book, and what its sums mean
--   seen       the same by the sums
--   state      the same of a bay
--   denies     a denial, as an answer
--   counted    the answer of a call that counts receptions
--   delivered  the answer of a decision, by the verdict that it hands out
--   accepted   the answer to a verdict that is accepted
--   let_go     the answer to a verdict that is repeated or dropped
--   Worked     work memory after a decision: zeros, or as it was where the decision is denied
--   Back       a verdict that is not taken comes back in hand
use Rattle.std.specs.Prelude.{◌≡◌, ℕ, Bool, true, false, List, Some, None, Ok, Err, Option, Result}
use Rattle.samples.specs.declared.sample.Sample.{Ghosts}
use Rattle.kerdock.specs.declared.books.CodeBook.{CodeBook}
use Rattle.decoder.specs.Scores.{Reception}
use Rattle.decoder.specs.Search.{meanings, Zeros}
use Rattle.bay_rules.specs.declared.denial.Denial.{Denial}
use Rattle.bay_rules.specs.declared.numbers.Numbers.{Numbers}
use Rattle.bay_calls.specs.declared.standing.Standing.{Standing}
use Rattle.bay_calls.specs.declared.standing.Stage.{Stage}
use Rattle.bay_calls.specs.declared.standing.Stage.TheVariants.{Shut, Gathering, Waiting}
use Rattle.bay_calls.specs.declared.verdict.Verdict.{Verdict as Token}
use Rattle.bay_calls.specs.declared.verdict.Refused.{Refused}
use Rattle.bay_calls.specs.declared.bays.Bay.{Bay}
use Rattle.bay_rules.specs.Denials.{number, place}
use Rattle.bay.specs.Rules.{Verdict, Answer, Opening}
use Rattle.bay.specs.Rules.Answer.{Delivered, Denied, Counted, Message}
use Rattle.bay_rules.specs.Lived.{State}

abbrev pub opening : ℕ → ℕ → Opening
opening d n = record { degree = d; memory = n }

abbrev pub five : Numbers → Verdict
five n = record { degree = n.degree; held = n.held; message = n.message; score = n.score; margin = n.margin }

abbrev pub closes : Stage → Bool
closes Shut = true
closes Gathering = false
closes (Waiting n) = false

abbrev pub notes : Stage → Option Verdict
notes Shut = None
notes Gathering = None
notes (Waiting n) = Some (five n)

abbrev pub stands : Standing → CodeBook → Reception → State
stands r book xs = record {
  closed = closes r.stage;
  degree = r.degree;
  held = r.held;
  noted = notes r.stage;
  book = book;
  sums = xs;
}

module _ {S : Type 0} (m : Ghosts S) where
  abbrev pub seen : Standing → CodeBook → List S → State
  seen r book xs = stands r book (meanings m xs)

  abbrev pub state : Bay S → State
  state b = seen b.standing b.book b.sums.now

abbrev pub denies : Denial → Answer
denies e = Denied (number e) (place e)

abbrev pub counted : Result ℕ Denial → Answer
counted (Ok n) = Counted n
counted (Err e) = denies e

abbrev pub delivered : Result Token Denial → Answer
delivered (Ok v) = Delivered (five v.numbers)
delivered (Err e) = denies e

abbrev pub accepted : Result ℕ Refused → Answer
accepted (Ok n) = Message n
accepted (Err e) = denies e.why

abbrev pub let_go : Result ℕ Refused → Answer
let_go (Ok n) = Counted n
let_go (Err e) = denies e.why

abbrev pub Worked : {S A E : Type 0} → Ghosts S → Result A E → List S → List S → Type 0
Worked m (Ok a) before after = Zeros m before after
Worked m (Err e) before after = after ≡ before

abbrev pub Back : {A : Type 0} → Token → Result A Refused → Type 0
Back v (Ok a) = Unit {0}
Back v (Err e) = e.verdict ≡ v
