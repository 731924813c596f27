-- The parts of the complex kind.
--
-- Glossary
--   complex_part      part 0 is re, part 1 is im
--   complex_put       the sample with one of the two changed
--   complex_stored    the laws of a storable kind
--   complex_read      a part is the reading of the symbol of its number
--   complex_bounded   no sample is larger than its largest part
use Rattle.std.specs.Prelude.{◌≡◌, ℕ, zero, suc, ◌<◌, ◌≤◌, ℤ, ◌≢◌, refl, unsigned_abs}
use Rattle.std.proofs.Common.{ap, ◌∙◌, inl, arith}
use Rattle.samples.specs.Meaning.{reads}
use Rattle.samples.specs.ComplexKind.{complex_means}
use Rattle.samples.specs.declared.complex.Complex.{Complex}
use Rattle.reception_file.specs.StoredKind.{StoredLaws}

abbrev pub complex_part : Complex → ℕ → ℤ
complex_part x zero = x.re
complex_part x (suc k) = x.im

abbrev pub complex_put : Complex → ℕ → ℤ → Complex
complex_put x zero v = record { re = v; im = x.im }
complex_put x (suc k) v = record { re = x.re; im = v }

put_same : (x : Complex) (k : ℕ) (v : ℤ) → k < 2 → complex_part (complex_put x k v) k ≡ v
put_same x zero v p = refl
put_same x (suc k) v p = refl

put_other : (x : Complex) (k j : ℕ) (v : ℤ) → k < 2 → j < 2 → (j ≢ k) → complex_part (complex_put x k v) j ≡ complex_part x j
put_other x zero zero v p q h = absurd (h refl)
put_other x zero (suc j) v p q h = refl
put_other x (suc k) zero v p q h = refl
put_other x (suc k) (suc j) v p q h = absurd (h (omega arith))

abbrev pair : ℤ → ℤ → Complex
pair a b = record { re = a; im = b }

alike : (x y : Complex) → ((k : ℕ) → k < 2 → complex_part x k ≡ complex_part y k) → x ≡ y
alike x y h = ap (λ a. pair a x.im) (h 0 (omega arith)) ∙ ap (pair y.re) (h 1 (omega arith))

pub complex_stored : StoredLaws 1 2 complex_part complex_put
complex_stored = record { known = inl refl; counted = refl; put_same = put_same; put_other = put_other; alike = alike }

pub complex_read : (x : Complex) (k : ℕ) → k < 2 → complex_part x k ≡ reads (complex_means x) k
complex_read x zero h = refl
complex_read x (suc zero) h = refl
complex_read x (suc (suc k)) h = absurd (omega arith)

pub complex_bounded : (x : Complex) (b : ℕ) → ((k : ℕ) → k < 2 → unsigned_abs (complex_part x k) ≤ b) → (complex_means x).size ≤ b
complex_bounded x b h = omega (arith, h 0 (omega arith), h 1 (omega arith))
