-- The leader that the search answers.
--   LeaderOf  what is answered for the best of all messages
--   line      a leader as it is printed
use Rattle.std.specs.Prelude.{◌≡◌, ℕ, List, ◌++◌, ◌≤ℤ◌, codes}
use Rattle.std.specs.Fmt.{decimal, signed_decimal}
use Rattle.decoder.specs.Turnbacks.{Margin}
use Rattle.decoder.specs.declared.ranking.Best.{Best}
use Rattle.decoder.specs.declared.search.Leader.{Leader}

-- the margin is the lead over the rival, where there is one
pub record LeaderOf (best : Best) (leader : Leader) : Type 0 where
  pub message : leader.message ≡ best.message
  pub score : leader.score ≡ best.score
  pub margin : best.rival ≤ℤ best.score → Margin best leader.margin

-- "message 13 score 1200 margin 0"
abbrev pub line : Leader → List ℕ
line leader = codes "message " ++ (decimal leader.message ++ (codes " score " ++ (signed_decimal leader.score ++ (codes " margin " ++ decimal leader.margin))))
