-- The places of a book, as they are filled in: 0 for index 0, and then those of the others.
use Rattle.std.proofs.Common.{◌≡◌, ℕ, zero, suc, ◌<◌, ◌≤◌, List, ◌∷◌, ◌++◌, length, drop, get_or, replicate, refl, ◌∙◌, arith}
use Rattle.std.proofs.lemmas.List.{get_or_append_left}
use Rattle.kerdock.specs.Code.{Row, place, period, size}
use Rattle.kerdock.proofs.Fills.{past_front}

pub placed : (row : Row) (xs zs : List ℕ) → length xs ≡ period row → ((k : ℕ) → k < period row → get_or xs k 0 ≡ place row (suc k)) →
    (i : ℕ) → i < size row → get_or (0 ∷ (xs ++ zs)) i 0 ≡ place row i
unfolding place
placed row xs zs long each zero h = refl
placed row xs zs long each (suc k) h = get_or_append_left xs zs 0 k (omega arith) ∙ each k (omega arith)

-- past them stand zeros
pub past_places : (row : Row) (xs : List ℕ) (n m : ℕ) → length xs ≡ period row → 0 < size row → (i : ℕ) → size row ≤ i →
    get_or (0 ∷ (xs ++ drop m (replicate n 0))) i 0 ≡ 0
past_places row xs n m long some zero h = refl
past_places row xs n m long some (suc k) h = past_front xs n m k (omega arith)
