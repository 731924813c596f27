-- Two rankings of the numbers below n whose scores differ by at most b.
--   Top   a number leads by a margin; as a ranking, but on equal scores it need not be the smallest
--   Near  two functions differ by at most b
use Rattle.std.proofs.Common.{◌≡◌, ℕ, ◌+◌, ◌*◌, ◌<◌, ◌≤◌, ℤ, pos, ◌+ℤ◌, ◌≤ℤ◌, sym, ◌∙◌, arith}
use native.Mathlib.Decide.{ℕ_discrete}
use borrow.Author.Differences.{ints}

-- a number below n leads the others by a margin
pub record Top (n : ℕ) (f : ℕ → ℤ) (m margin : ℕ) : Type 0 where
  pub within : m < n
  pub best : (k : ℕ) → k < n → f k ≤ℤ f m
  pub behind : (k : ℕ) → k < n → (k ≡ m → ⊥) → (f k +ℤ pos margin) ≤ℤ f m
  pub reached : (k : ℕ) × (k < n) × (k ≡ m → ⊥) × (f k +ℤ pos margin ≡ f m)

-- below n, f and g differ by at most b
abbrev pub Near : ℕ → (ℕ → ℤ) → (ℕ → ℤ) → ℕ → Type 0
Near n f g b = (k : ℕ) → k < n → (f k ≤ℤ (g k +ℤ pos b)) × (g k ≤ℤ (f k +ℤ pos b))

-- nearness, the other way round
pub near_back : (n : ℕ) (f g : ℕ → ℤ) (b : ℕ) → Near n f g b → Near n g f b
near_back n f g b h k l = ((h k l).1, (h k l).0)

module _ (n : ℕ) (f g : ℕ → ℤ) (b : ℕ) (near : Near n f g b) (m m' p q : ℕ) (t : Top n f m p) (u : Top n g m' q) where
  -- the highest scores differ by at most b
  pub near_score : (f m ≤ℤ (g m' +ℤ pos b)) × (g m' ≤ℤ (f m +ℤ pos b))
  near_score =
      let a = near m t.within in
      let c = near m' u.within in
      let d = t.best m' u.within in
      let e = u.best m t.within in
      (omega (arith, ints), omega (arith, ints))

  -- a lead above 2 b keeps the leader
  pub same_leader : 2 * b < p → m' ≡ m
  same_leader h =
      elim (ℕ_discrete m' m) [
        | yes e ↦ e
        | no other ↦
            let a = near m t.within in
            let c = near m' u.within in
            let d = t.behind m' u.within other in
            let e = u.best m t.within in
            absurd (omega (arith, ints))
      ]

  -- a margin is above the other by at most 2 b
  pub near_margin : p ≤ q + 2 * b
  near_margin =
      let r = u.reached in
      elim (ℕ_discrete r.0 m) [
        | yes same ↦
            let a = near m t.within in
            let c = near m' u.within in
            let d = t.behind m' u.within (λ e. r.2 (same ∙ sym e)) in
            let e = u.best m t.within in
            omega (arith, ints)
        | no other ↦
            let a = near m t.within in
            let c = near r.0 r.1 in
            let d = t.behind r.0 r.1 other in
            let e = u.best m t.within in
            let s = r.3 in
            omega (arith, ints)
      ]
