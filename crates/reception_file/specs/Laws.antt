-- What writing, checking and picking do to one another.
--
-- Glossary
--   reception_of   a reception out of the samples of all, which stand one reception after the other
--   Returned       a file gives back what it was written from
--   ComesBack      what is written is so returned
--   WrittenAgain   what is picked whole and written again is the same bytes
use Rattle.std.specs.Prelude.{◌≡◌, ℕ, ◌*◌, ◌<◌, ◌≤◌, List, length, take, drop, Ok, Err, Result, IsOkAnd}
use Rattle.samples.specs.declared.sample.Sample.{Ghosts}
use Rattle.reception_file.specs.Layout.{at, samples_of}
use Rattle.reception_file.specs.Head.{Says}
use Rattle.reception_file.specs.Check.{Checked}
use Rattle.reception_file.specs.Pick.{Picked, Picks}
use Rattle.reception_file.specs.Write.{Writes}
use Rattle.reception_file.specs.declared.head.Head.{Head}
use Rattle.reception_file.specs.declared.refusal.Refusal.{Refusal}
use Rattle.reception_file.specs.declared.stored.Stored.{Ghosts as StoredGhosts}

-- Reception r of receptions of n samples each.
abbrev pub reception_of : {S : Type 0} → ℕ → ℕ → List S → List S
reception_of n r xs = take n (drop (r * n) xs)

module _ {S : Type 0} (m : Ghosts S) (t : StoredGhosts S) where
  -- Whatever the check answers to the file, it is the head; and whatever picking a reception into memory of its length
  -- answers, it is the degree, and the memory then holds the samples that were written.
  pub record Returned (degree count : ℕ) (xs : List S) (file : List ℕ) : Type 0 where
    pub checks : (a : Result Head Refusal) → Checked file a → IsOkAnd a (λ h. Says h t.code degree count)
    pub picks : (r : ℕ) (before after : List S) (a : Result ℕ Refusal) → r < count → length before ≡ samples_of degree → Picks m t file r before a after → (a ≡ Ok degree) × (after ≡ reception_of (samples_of degree) r xs)

  -- The file is the first bytes, as many as writing answers.
  abbrev pub ComesBack : ℕ → ℕ → List S → List ℕ → Result ℕ Refusal → Type 0
  ComesBack degree count xs after (Ok n) = Returned degree count xs (take n after)
  ComesBack degree count xs after (Err e) = Unit {0}

  -- Take samples of which each reception is as picking leaves it. Whatever writing them answers, with room for the file, it is
  -- the length of the file that they were picked from, and the bytes begin with that file.
  abbrev pub WrittenAgain : List ℕ → Result ℕ Refusal → Type 0
  WrittenAgain bs (Ok degree) =
      (xs : List S) → length xs ≡ at bs 7 * samples_of degree →
      ((r : ℕ) → r < at bs 7 → Picked m t bs r degree (reception_of (samples_of degree) r xs)) →
      (before after : List ℕ) (a : Result ℕ Refusal) → length bs ≤ length before →
      Writes m t degree (at bs 7) xs before a after → (a ≡ Ok (length bs)) × (take (length bs) after ≡ bs)
  WrittenAgain bs (Err e) = Unit {0}
