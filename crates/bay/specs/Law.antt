-- The law: between two words only the score chooses. It speaks of any two lawful runs of one degree, whatever kinds of samples
-- their bays hold.
--   Decides       after a lawful run a decision delivers a verdict
--   HeldTurned    the same receptions in any order, all turned forward along a word
--   HeldAndOne    the same receptions and one more, in any order
--   Best          the verdict is the one that the scores give
--   Nearest       for complex samples no word is nearer than the delivered one, at any amplitude from 1 up
--   TurnedAlong   turning all receptions along a word moves the message by that word, and keeps score and margin
--   OneMore       one small reception more moves the margin little, and a large margin keeps the message
--   Law           all of this, for all lawful runs
--   Chooses       all of this, at one verdict, against every other
use Rattle.std.specs.Prelude.{◌≡◌, ℕ, ◌+◌, ◌*◌, ◌<◌, ◌≤◌, List, ◌∷◌, ◌≤ℤ◌}
use Rattle.std.specs.List.{AllZip, AllByRecursion}
use Rattle.std.specs.List.Sorted.{IsPermutation}
use Rattle.kerdock.specs.Code.{Row, size, messages, sum_of}
use Rattle.kerdock.specs.Table.{row_of}
use Rattle.decoder.specs.Scores.{Reception, Turned, IsComplex, distances}
use Rattle.bay.specs.Rules.{Run, Opening, Verdict, Lawful, Delivers, holds}
use Rattle.bay.specs.Rules.Run.{Then}
use Rattle.bay.specs.Rules.Dealing.{Decide}
use Rattle.bay.specs.Rules.Answer.{Delivered}

abbrev pub Decides : Opening → Run → Verdict → Type 0
Decides o h v = (w : ℕ) × Lawful o (Then h (Decide w) (Delivered v))

-- ts are the receptions rs in any order, each turned forward along the word of u
abbrev pub HeldTurned : Row → ℕ → List Reception → List Reception → Type 0
HeldTurned row u rs ts = (qs : List Reception) × IsPermutation rs qs × AllZip (Turned row u) qs ts

-- ts are the receptions rs and r, in any order, and no sample of r has a size above s
abbrev pub HeldAndOne : Reception → ℕ → List Reception → List Reception → Type 0
HeldAndOne r s rs ts = AllByRecursion (λ x. x.size ≤ s) r × IsPermutation (r ∷ rs) ts

-- No word of the degree scores higher over what is held, on equal scores no message is smaller, and the verdict gives the
-- number held, the score, and the margin over the best other word.
abbrev pub Best : Opening → Run → Verdict → Type 0
Best o h v = Delivers o.degree (holds h) v

-- Over complex samples no word has a smaller squared distance from what is held, at any amplitude from 1 up.
abbrev pub Nearest : Opening → Run → Verdict → Type 0
Nearest o h v =
    let row : Row = row_of o.degree in
    AllByRecursion (AllByRecursion IsComplex) (holds h) → (g : ℕ) → 1 ≤ g → (k : ℕ) → k < messages row →
    distances row g (holds h) v.message ≤ℤ distances row g (holds h) k

-- Where the second run holds the first's receptions, in any order and all turned forward along the word of u, the scores are
-- equal and so are the margins, and above margin 0 the second message is the sum of the first and u.
abbrev pub TurnedAlong : Opening → Run → Verdict → Run → Verdict → Type 0
TurnedAlong o h v h' v' =
    let row : Row = row_of o.degree in
    (u : ℕ) → u < messages row → HeldTurned row u (holds h) (holds h') →
    (v.score ≡ v'.score) × (v.margin ≡ v'.margin) × (0 < v.margin → v'.message ≡ sum_of row v.message u)

-- Where the second run holds the first's receptions and one more, of size s at most, in any order, the margins differ by at
-- most 2 × N × s, and a first margin above that keeps the message.
abbrev pub OneMore : Opening → Run → Verdict → Run → Verdict → Type 0
OneMore o h v h' v' =
    let n : ℕ = size (row_of o.degree) in
    (r : Reception) (s : ℕ) → HeldAndOne r s (holds h) (holds h') →
    (v.margin ≤ v'.margin + 2 * (n * s))
    × (v'.margin ≤ v.margin + 2 * (n * s))
    × (2 * (n * s) < v.margin → v'.message ≡ v.message)

pub record Law : Type 0 where
  pub best : (o : Opening) (h : Run) (v : Verdict) → Decides o h v → Best o h v
  pub nearest : (o : Opening) (h : Run) (v : Verdict) → Decides o h v → Nearest o h v
  pub turned_along : (o o' : Opening) (h h' : Run) (v v' : Verdict) → o.degree ≡ o'.degree →
      Decides o h v → Decides o' h' v' → TurnedAlong o h v h' v'
  pub one_more : (o o' : Opening) (h h' : Run) (v v' : Verdict) → o.degree ≡ o'.degree →
      Decides o h v → Decides o' h' v' → OneMore o h v h' v'

-- at the verdict v after the run h, whether its run is the first of two or the second
pub record Chooses (o : Opening) (h : Run) (v : Verdict) : Type 0 where
  pub best : Best o h v
  pub nearest : Nearest o h v
  pub turned_along : (o' : Opening) (h' : Run) (v' : Verdict) → o.degree ≡ o'.degree → Decides o' h' v' →
      TurnedAlong o h v h' v' × TurnedAlong o' h' v' h v
  pub one_more : (o' : Opening) (h' : Run) (v' : Verdict) → o.degree ≡ o'.degree → Decides o' h' v' →
      OneMore o h v h' v' × OneMore o' h' v' h v
