-- What a transform answers, and what it leaves in the list that it was lent.
--
-- Glossary
--   Refuses    the number and the place of the refusal that is due
--   Done       the transform was due, and was made
--   Answered   the one or the other, by the answer
use Rattle.std.specs.Prelude.{◌≡◌, ℕ, ◌^◌, ◌<◌, ◌⊎◌, List, length, Ok, Err, Result}
use Rattle.samples.specs.Sizes.{Above, Within, at, size_at}
use Rattle.samples.specs.Transform.{Fitting, loudest, Transformed}
use Rattle.samples.specs.Passes.{after}
use Rattle.samples.specs.Refusals.{number, place}
use Rattle.samples.specs.declared.refusal.Refusal.{Refusal}
use Rattle.samples.specs.declared.sample.Sample.{Ghosts}

module _ {S : Type 0} (m : Ghosts S) where
  -- 14 where the length has no transform; else 15, at the first sample that is too large.
  abbrev pub Refuses : List S → ℕ → ℕ → Type 0
  Refuses w n p = ((n ≡ 14) × (p ≡ 0) × (Fitting (length w) → ⊥)) ⊎ ((n ≡ 15) × Fitting (length w) × Above (size_at m w) (length w) loudest p)

  -- What a transform that was made leaves.
  pub record Done (old new : List S) : Type 0 where
    -- neither refusal was due
    pub fits : Fitting (length old)
    pub within : Within m loudest old
    -- each place reads its sum
    pub transformed : Transformed m old new
    -- each sample is the one that the passes make
    pub exact : (d : ℕ) → length old ≡ 2 ^ d → (v : ℕ) → v < length old → at m new v ≡ after m old d v

  -- What goes with an answer; a refusal leaves the list as it was.
  abbrev pub Answered : {U : Type 0} → List S → Result U Refusal → List S → Type 0
  Answered old (Ok _) new = Done old new
  Answered old (Err e) new = Refuses old (number e) (place e) × (new ≡ old)
