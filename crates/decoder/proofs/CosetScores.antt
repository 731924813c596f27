-- The coset theorem: laid by place and turned back along a coset's leader, the transformed readings are the scores.
use Rattle.std.proofs.Common.{◌≡◌, ℕ, ◌+◌, ◌*◌, ◌%◌, sym, ap, ◌∙◌, mod-lt, arith}
use native.Mathlib.Nat.{mod-add-mod}
use Rattle.samples.specs.Transform.{parity}
use Rattle.samples.proofs.Sums.{over_same}
use Rattle.kerdock.specs.Code.{Row, size, symbol, place}
use Rattle.kerdock.specs.Sound.{Sound}
use Rattle.decoder.specs.Cosets.{message}
use Rattle.decoder.specs.Turnbacks.{CosetScores}
use Rattle.decoder.proofs.Bijections.{over_moved}
use Rattle.decoder.proofs.Cosets.{cosets}

-- modulo 4, the leader's symbol may be added last
leader_last : (e w q : ℕ) → ((e + q) % 4 + w) % 4 ≡ (e + w + q) % 4
leader_last e w q =
    let s : e + q + w ≡ e + w + q = omega arith in
    mod-add-mod (e + q) 4 w ∙ ap (λ (n : ℕ). n % 4) s

-- the sum over places is the sum over indices, and there each reading is the one at the word's symbol
pub coset_scores : (row : Row) → Sound row → CosetScores row
coset_scores row sound u e v by_index by_place h b laid =
    sym (over_moved (size row) (place row) sound.within sound.onto sound.apart (λ p. by_place p ((e + 2 * parity v p) % 4)))
    ∙ over_same (size row) _ _ (λ i l.
    laid i ((e + 2 * parity v (place row i)) % 4) l (mod-lt _ (omega arith))
    ∙ ap (by_index i)
    (leader_last e (symbol row (message row 0 u 0) i) (2 * parity v (place row i)) ∙ sym ((cosets row sound).words e u v i h l)))
