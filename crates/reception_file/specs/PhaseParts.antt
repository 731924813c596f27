-- The parts of the phase kind.
--
-- Glossary
--   phase_part      part k is the number of symbol k
--   phase_put       the sample with one of the four changed
--   phase_stored    the laws of a storable kind
--   phase_read      a part is the reading of the symbol of its number
--   phase_bounded   no sample is larger than its largest part
use Rattle.std.specs.Prelude.{◌≡◌, ℕ, zero, suc, ◌<◌, ◌≤◌, ℤ, ◌≢◌, refl, unsigned_abs}
use Rattle.std.proofs.Common.{ap, ◌∙◌, inr, arith}
use Rattle.samples.specs.Meaning.{reads}
use Rattle.samples.specs.PhaseKind.{phase_means}
use Rattle.samples.specs.declared.phase.Phase.{Phase}
use Rattle.reception_file.specs.StoredKind.{StoredLaws}

abbrev pub phase_part : Phase → ℕ → ℤ
phase_part x zero = x.at0
phase_part x (suc zero) = x.at1
phase_part x (suc (suc zero)) = x.at2
phase_part x (suc (suc (suc k))) = x.at3

abbrev pub phase_put : Phase → ℕ → ℤ → Phase
phase_put x zero v = record { at0 = v; at1 = x.at1; at2 = x.at2; at3 = x.at3 }
phase_put x (suc zero) v = record { at0 = x.at0; at1 = v; at2 = x.at2; at3 = x.at3 }
phase_put x (suc (suc zero)) v = record { at0 = x.at0; at1 = x.at1; at2 = v; at3 = x.at3 }
phase_put x (suc (suc (suc k))) v = record { at0 = x.at0; at1 = x.at1; at2 = x.at2; at3 = v }

put_same : (x : Phase) (k : ℕ) (v : ℤ) → k < 4 → phase_part (phase_put x k v) k ≡ v
put_same x zero v p = refl
put_same x (suc zero) v p = refl
put_same x (suc (suc zero)) v p = refl
put_same x (suc (suc (suc k))) v p = refl

put_other : (x : Phase) (k j : ℕ) (v : ℤ) → k < 4 → j < 4 → (j ≢ k) → phase_part (phase_put x k v) j ≡ phase_part x j
put_other x zero zero v p q h = absurd (h refl)
put_other x zero (suc zero) v p q h = refl
put_other x zero (suc (suc zero)) v p q h = refl
put_other x zero (suc (suc (suc j))) v p q h = refl
put_other x (suc zero) zero v p q h = refl
put_other x (suc zero) (suc zero) v p q h = absurd (h refl)
put_other x (suc zero) (suc (suc zero)) v p q h = refl
put_other x (suc zero) (suc (suc (suc j))) v p q h = refl
put_other x (suc (suc zero)) zero v p q h = refl
put_other x (suc (suc zero)) (suc zero) v p q h = refl
put_other x (suc (suc zero)) (suc (suc zero)) v p q h = absurd (h refl)
put_other x (suc (suc zero)) (suc (suc (suc j))) v p q h = refl
put_other x (suc (suc (suc k))) zero v p q h = refl
put_other x (suc (suc (suc k))) (suc zero) v p q h = refl
put_other x (suc (suc (suc k))) (suc (suc zero)) v p q h = refl
put_other x (suc (suc (suc k))) (suc (suc (suc j))) v p q h = absurd (h (omega arith))

abbrev four : ℤ → ℤ → ℤ → ℤ → Phase
four a b c d = record { at0 = a; at1 = b; at2 = c; at3 = d }

alike : (x y : Phase) → ((k : ℕ) → k < 4 → phase_part x k ≡ phase_part y k) → x ≡ y
alike x y h =
    ap (λ a. four a x.at1 x.at2 x.at3) (h 0 (omega arith))
    ∙ (ap (λ b. four y.at0 b x.at2 x.at3) (h 1 (omega arith))
    ∙ (ap (λ c. four y.at0 y.at1 c x.at3) (h 2 (omega arith))
    ∙ ap (four y.at0 y.at1 y.at2) (h 3 (omega arith))))

pub phase_stored : StoredLaws 2 4 phase_part phase_put
phase_stored = record { known = inr refl; counted = refl; put_same = put_same; put_other = put_other; alike = alike }

pub phase_read : (x : Phase) (k : ℕ) → k < 4 → phase_part x k ≡ reads (phase_means x) k
phase_read x zero h = refl
phase_read x (suc zero) h = refl
phase_read x (suc (suc zero)) h = refl
phase_read x (suc (suc (suc zero))) h = refl
phase_read x (suc (suc (suc (suc k)))) h = absurd (omega arith)

pub phase_bounded : (x : Phase) (b : ℕ) → ((k : ℕ) → k < 4 → unsigned_abs (phase_part x k) ≤ b) → (phase_means x).size ≤ b
phase_bounded x b h = omega (arith, h 0 (omega arith), h 1 (omega arith), h 2 (omega arith), h 3 (omega arith))
