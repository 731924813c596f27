-- A bay has lived a run: its plain numbers and its sums are what the run comes to.
--   State         what a bay keeps: whether it is shut, its degree, the held count, the verdict that is out, the sums
--   Lived         a state is what a lawful run from an opening comes to
--   Deals         a dealing with a bay, whatever run it has lived
--   OnlyTheScore  a delivered verdict stands under the law, whatever run the bay has lived
use Rattle.std.specs.Prelude.{◌≡◌, ℕ, ◌*◌, ◌<◌, ◌≤◌, Bool, false, length, Option, slice_index_or}
use Rattle.samples.specs.Meaning.{silence}
use Rattle.kerdock.specs.Code.{size}
use Rattle.kerdock.specs.Table.{row_of}
use Rattle.decoder.specs.Scores.{Reception, Added}
use Rattle.bay.specs.Rules.{Run, Dealing, Answer, Opening, Verdict, Lawful, Rightly, holds, out, shut}
use Rattle.bay.specs.Rules.Run.{Then}
use Rattle.bay.specs.Rules.Answer.{Delivered}
use Rattle.bay.specs.Law.{Chooses}

pub record State : Type 0 where
  pub closed : Bool
  pub degree : ℕ
  pub held : ℕ
  pub noted : Option Verdict
  pub sums : Reception

pub record Lived (o : Opening) (h : Run) (b : State) : Type 0 where
  pub lawful : Lawful o h
  pub closed : b.closed ≡ shut o
  pub degree : b.closed ≡ false → b.degree ≡ o.degree
  pub held : b.held ≡ length (holds h)
  pub few : length (holds h) ≤ 16
  pub noted : b.noted ≡ out h
  -- one sum for each index, which reads the sum of what the held receptions read there
  pub long : b.closed ≡ false → length b.sums ≡ size (row_of o.degree)
  pub summed : b.closed ≡ false → Added (size (row_of o.degree)) (holds h) b.sums
  -- no held sample has a size above 32,767, and sizes add at most
  pub small : b.closed ≡ false → (i : ℕ) → i < size (row_of o.degree) → (slice_index_or b.sums i silence).size ≤ 32767 * length (holds h)

-- the answer is the one that the rules give, and the bay has then lived one dealing more
abbrev pub Deals : State → Dealing → Answer → State → Type 0
Deals b d a b' = (o : Opening) (h : Run) → Lived o h b → Rightly o h d a × Lived o (Then h d a) b'

abbrev pub OnlyTheScore : State → Answer → Type 0
OnlyTheScore b a = (o : Opening) (h : Run) (v : Verdict) → Lived o h b → a ≡ Delivered v → Chooses o h v
