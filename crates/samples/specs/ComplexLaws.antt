-- The complex kind keeps the laws of a kind.
--
-- Glossary
--   complex_laws   the laws, each from what the calls answer
use Rattle.std.specs.Prelude.{◌≡◌, ℕ, ◌+◌, ◌%◌, ◌<◌, ◌≤◌, pos, ◌+ℤ◌, refl}
use Rattle.std.proofs.Common.{arith}
use Rattle.std.proofs.lemmas.Int.{ints}
use Rattle.samples.specs.Meaning.{reads, by_symbol}
use Rattle.samples.specs.Kind.{KindLaws, limit}
use Rattle.samples.specs.Wraps.{wrap_sum, wrap_neg}
use Rattle.samples.specs.ComplexKind.{complex_means, complex_size, complex_zero, complex_added, complex_turned, complex_front}
use Rattle.samples.specs.declared.complex.Complex.{Complex}

-- Within the limit no sum wraps, so each reading is a sum.
add_reads : (a b : Complex) → complex_size a + complex_size b ≤ limit → (s : ℕ) → s < 4 → reads (complex_means (complex_added a b)) s ≡ reads (complex_means a) s +ℤ reads (complex_means b) s
add_reads a b h =
    let re = wrap_sum a.re b.re (omega arith) in
    let im = wrap_sum a.im b.im (omega arith) in
    by_symbol (λ s. reads (complex_means (complex_added a b)) s ≡ reads (complex_means a) s +ℤ reads (complex_means b) s) re im (omega (arith, ints)) (omega (arith, ints))

-- Nor does an opposite, so each reading moves on.
turn_reads : (x : Complex) → complex_size x ≤ limit → (s : ℕ) → s < 4 → reads (complex_means (complex_turned x)) ((s + 1) % 4) ≡ reads (complex_means x) s
turn_reads x h =
    let im = wrap_neg x.im (omega arith) in
    by_symbol (λ s. reads (complex_means (complex_turned x)) ((s + 1) % 4) ≡ reads (complex_means x) s) refl (omega (arith, ints)) refl im

-- All laws.
pub complex_laws : KindLaws complex_means complex_zero complex_added complex_turned complex_front
complex_laws = record {
  zero_reads = by_symbol (λ s. reads (complex_means complex_zero) s ≡ pos 0) refl refl refl refl;
  zero_size = refl;
  add_reads = λ a b s l h. add_reads a b h s l;
  add_size = λ a b h. omega (arith, ints, wrap_sum a.re b.re (omega arith), wrap_sum a.im b.im (omega arith));
  turn_reads = λ x s l h. turn_reads x h s l;
  turn_size = λ x h. omega (arith, ints, wrap_neg x.im (omega arith));
  front_reads = λ x h. refl;
}
