-- The laws of scores and rankings, over meanings.
--   ScoresAdd    the score over a sum of receptions is the sum of the scores
--   OneRanking   a ranking by words is a ranking by messages, and there is only one
--   NearScores   rankings whose scores differ little have margins that differ little, and a large lead keeps the message
--   TurnedScores turning receptions along a word moves each score to the sum of the messages
--   Nearest      for complex samples a higher score is a smaller squared distance, at every amplitude from 1 up
use Rattle.std.specs.Prelude.{◌≡◌, ℕ, ◌+◌, ◌*◌, ◌<◌, ◌≤◌, List, ℤ, pos, ◌+ℤ◌, ◌*ℤ◌, ◌≤ℤ◌}
use Rattle.std.specs.List.{AllZip, AllByRecursion}
use Rattle.kerdock.specs.Code.{Row, size, messages, sum_of}
use Rattle.decoder.specs.Scores.{Reception, score, scores, Added, Turned, IsComplex, distances}
use Rattle.decoder.specs.Ranking.{Ranking, Leads}

pub record ScoresAdd (row : Row) : Type 0 where
  pub one : (rs : List Reception) (x : Reception) → Added (size row) rs x → (m : ℕ) → score row x m ≡ scores row rs m
  -- a reception whose samples reach size s at most moves no score by more than N × s
  pub small : (r : Reception) (s : ℕ) → AllByRecursion (λ x. x.size ≤ s) r → (m : ℕ) →
      (score row r m ≤ℤ pos (size row * s)) × (pos 0 ≤ℤ (score row r m +ℤ pos (size row * s)))

pub record OneRanking (row : Row) : Type 0 where
  pub by_messages : (f : ℕ → ℤ) (m margin : ℕ) → Ranking row f m margin → Leads (messages row) f m margin
  pub by_words : (f : ℕ → ℤ) (m margin : ℕ) → Leads (messages row) f m margin → Ranking row f m margin
  pub same_message : (f : ℕ → ℤ) (m n a b : ℕ) → Ranking row f m a → Ranking row f n b → m ≡ n
  pub same_margin : (f : ℕ → ℤ) (m n a b : ℕ) → Ranking row f m a → Ranking row f n b → a ≡ b

-- if all scores of two rankings differ by at most b, the best scores differ by at most b, the margins by at most 2 b, and a lead
-- above 2 b keeps the message
abbrev pub NearScores : Row → Type 0
NearScores row =
    (f g : ℕ → ℤ) (m n a c b : ℕ) → Ranking row f m a → Ranking row g n c →
    ((k : ℕ) → k < messages row → (f k ≤ℤ (g k +ℤ pos b)) × (g k ≤ℤ (f k +ℤ pos b))) →
    (f m ≤ℤ (g n +ℤ pos b)) × (g n ≤ℤ (f m +ℤ pos b)) × (a ≤ c + 2 * b) × (c ≤ a + 2 * b) × (2 * b < a → n ≡ m)

pub record TurnedScores (row : Row) : Type 0 where
  -- every score moves to the message plus the word's message, digit by digit
  pub moves : (v : ℕ) (rs xs : List Reception) → AllZip (Turned row v) rs xs → (m : ℕ) → scores row xs (sum_of row m v) ≡ scores row rs m
  -- so the rankings agree in score and margin, and above margin 0 in the message, moved
  pub rankings : (v : ℕ) → v < messages row → (rs xs : List Reception) → AllZip (Turned row v) rs xs → (m n a b : ℕ) →
      Ranking row (scores row rs) m a → Ranking row (scores row xs) n b →
      (scores row rs m ≡ scores row xs n) × (a ≡ b) × (0 < a → n ≡ sum_of row m v)

pub record Nearest (row : Row) : Type 0 where
  -- the squared distance and 2 g times the score make up the same sum for every word
  pub balance : (rs : List Reception) → AllByRecursion (AllByRecursion IsComplex) rs → (g m k : ℕ) →
      distances row g rs m +ℤ (pos (2 * g) *ℤ scores row rs m) ≡ distances row g rs k +ℤ (pos (2 * g) *ℤ scores row rs k)
  -- so a score that is not lower is a distance that is not larger
  pub nearer : (rs : List Reception) → AllByRecursion (AllByRecursion IsComplex) rs → (g : ℕ) → 1 ≤ g → (m k : ℕ) → scores row rs k ≤ℤ scores row rs m →
      distances row g rs m ≤ℤ distances row g rs k
