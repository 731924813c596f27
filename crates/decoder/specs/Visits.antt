-- The order of the search: it visits every message once, coset by coset, and ranks what it has visited.
--   times     a sample turned so many times
--   visit     the time at which a message is visited
--   Apart     no two messages are visited at one time
--   Ranked    the ranking of the messages visited before a time
--   Here      the four messages of one place, in their turns
--   Turnback  each place of a work memory holds its index's sum, turned back along a coset's leader
use Rattle.std.specs.Prelude.{◌≡◌, ℕ, zero, suc, ◌+◌, ◌-◌, ◌*◌, ◌%◌, ◌<◌, ◌≤◌, ◌≢◌, List, ℤ, ◌≤ℤ◌, ◌<ℤ◌, slice_index_or}
use Rattle.samples.specs.Meaning.{Meaning, reads}
use Rattle.samples.specs.declared.sample.Sample.{Ghosts}
use Rattle.kerdock.specs.Code.{Row, size, digit, symbol, place}
use Rattle.decoder.specs.Cosets.{message, lows, highs}
use Rattle.decoder.specs.declared.ranking.Best.{Best}

abbrev pub times : {S : Type 0} → Ghosts S → ℕ → S → S
times m zero x = x
times m (suc k) x = m.turned (times m k x)

-- by coset number, then by place, then by the symbols 0, 3, 2, 1
unfoldable pub visit : Row → ℕ → ℕ
visit row m = 4 * (lows row m * size row + highs row m) + (4 - digit m 0) % 4

abbrev pub Apart : ℕ → (ℕ → ℕ) → Type 0
Apart n key = (j k : ℕ) → j < n → k < n → key j ≡ key k → j ≡ k

-- b is the ranking, by the scores f, of the messages below n that were visited (by key) before the time t
pub record Ranked (n : ℕ) (f : ℕ → ℤ) (key : ℕ → ℕ) (t : ℕ) (b : Best) : Type 0 where
  pub top : (k : ℕ) → k < n → key k < t → f k ≤ℤ b.score
  pub first : (k : ℕ) → k < n → key k < t → f k ≡ b.score → b.message ≤ k
  pub others : (k : ℕ) → k < n → key k < t → k ≢ b.message → f k ≤ℤ b.rival
  pub order : b.rival ≤ℤ b.score
  pub led : 0 < t → (b.message < n) × (key b.message < t) × (f b.message ≡ b.score)
  pub second : 1 < t → (o : ℕ) × (o < n) × (o ≢ b.message) × (f o ≡ b.rival)
  pub unled : t ≡ 0 → (k : ℕ) → k < n → b.score <ℤ f k
  pub alone : t ≤ 1 → (k : ℕ) → k < n → b.rival <ℤ f k

-- the sum of index i stands at its place, turned back by the symbol of the leader of coset u
abbrev pub Turnback : {S : Type 0} → Ghosts S → Row → ℕ → List S → List S → Type 0
Turnback m row u sums work =
    (i : ℕ) → i < size row →
    slice_index_or work (place row i) m.zeroed ≡ times m ((4 - symbol row (message row 0 u 0) i) % 4) (slice_index_or sums i m.zeroed)

-- message base + e is visited from the time t on, in its turn, and the sample that means x reads its score
pub record Here (n : ℕ) (f : ℕ → ℤ) (key : ℕ → ℕ) (t base : ℕ) (x : Meaning) (e : ℕ) : Type 0 where
  pub below : base + e < n
  pub time : key (base + e) ≡ t + (4 - e) % 4
  pub score : f (base + e) ≡ reads x e
