-- The transform by passes, sample by sample.
--
-- Glossary
--   block       2 × h samples in a row, from a multiple of 2 × h on
--   crossed     the sample at a place after one pass, by the samples before it
--   after       the sample at a place after the first d passes
--   Halves      the two halves of one block were crossed, and nothing else changed
use Rattle.std.specs.Prelude.{◌≡◌, ℕ, zero, suc, ◌+◌, ◌-◌, ◌%◌, ◌^◌, ◌<◌, ◌≤◌, cond, List, nat_lt}
use Rattle.samples.specs.Sizes.{at}
use Rattle.samples.specs.declared.sample.Sample.{Ghosts}

module _ {S : Type 0} (m : Ghosts S) where
  -- In the first half of its block a place gets its sample and the one h further on added; in the second half the
  -- one h further back, and its own turned twice.
  abbrev pub crossed : ℕ → (ℕ → S) → ℕ → S
  crossed h f v = cond (nat_lt (v % (h + h)) h) (m.added (f v) (f (v + h))) (m.added (f (v - h)) (m.turned (m.turned (f v))))

  -- Pass number d, from 0 on, crosses the halves of blocks of 2 × 2 ^ d samples.
  unfoldable pub after : List S → ℕ → ℕ → S
  after w zero v = at m w v
  after w (suc d) v = crossed (2 ^ d) (after w d) v

  -- The block from start on was crossed: its first half, its second, and the samples before and beyond it.
  pub record Halves (h start : ℕ) (old new : List S) : Type 0 where
    pub low : (k : ℕ) → start ≤ k → k < start + h → at m new k ≡ m.added (at m old k) (at m old (k + h))
    pub high : (k : ℕ) → start ≤ k → k < start + h → at m new (k + h) ≡ m.added (at m old k) (m.turned (m.turned (at m old (k + h))))
    pub before : (k : ℕ) → k < start → at m new k ≡ at m old k
    pub beyond : (k : ℕ) → start + (h + h) ≤ k → at m new k ≡ at m old k
