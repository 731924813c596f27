-- What a coset's transform reads, and when each message is visited.
--   Laid          readings by place are the readings by index, turned back along a coset's leader
--   CosetScores   the coset theorem: the transformed readings are the scores
--   Margin        the lead of the best over its rival
--   VisitsAll     every message is visited once, before the end
use Rattle.std.specs.Prelude.{◌≡◌, ℕ, ◌+◌, ◌-◌, ◌*◌, ◌%◌, ◌<◌, ℤ, pos, ◌+ℤ◌}
use Rattle.samples.specs.Meaning.{over}
use Rattle.samples.specs.Transform.{parity}
use Rattle.kerdock.specs.Code.{Row, size, messages, symbol, place}
use Rattle.decoder.specs.Ranking.{Leads}
use Rattle.decoder.specs.Cosets.{message}
use Rattle.decoder.specs.Visits.{Apart, Ranked, visit}
use Rattle.decoder.specs.declared.ranking.Best.{Best}

-- at i's place, the reading of symbol s is i's reading at s plus the leader's symbol
abbrev pub Laid : Row → ℕ → (ℕ → ℕ → ℤ) → (ℕ → ℕ → ℤ) → Type 0
Laid row u by_index by_place =
    (i s : ℕ) → i < size row → s < 4 → by_place (place row i) s ≡ by_index i ((s + symbol row (message row 0 u 0) i) % 4)

-- Turned back along the leader of coset u, laid by place and transformed, the reading of symbol e at v is the score of the
-- message with digit e and L(k) = bit k of u plus twice bit k of v.
abbrev pub CosetScores : Row → Type 0
CosetScores row =
    (u e v : ℕ) (by_index by_place : ℕ → ℕ → ℤ) → e < 4 → v < size row → Laid row u by_index by_place →
    over (size row) (λ p. by_place p ((e + 2 * parity v p) % 4)) ≡ over (size row) (λ i. by_index i (symbol row (message row e u v) i))

-- the best leads its rival by so much
abbrev pub Margin : Best → ℕ → Type 0
Margin b margin = b.rival +ℤ pos margin ≡ b.score

pub record VisitsAll (row : Row) : Type 0 where
  pub time : (e u v : ℕ) → e < 4 → u < size row → v < size row → visit row (message row e u v) ≡ 4 * (u * size row + v) + (4 - e) % 4
  pub apart : Apart (messages row) (visit row)
  pub before : (m : ℕ) → m < messages row → visit row m < 4 * (size row * size row)
  -- once all are visited, the ranking is the ranking
  pub leads : (f : ℕ → ℤ) (b : Best) (margin : ℕ) → Ranked (messages row) f (visit row) (4 * (size row * size row)) b →
      Margin b margin → Leads (messages row) f b.message margin × (f b.message ≡ b.score)
