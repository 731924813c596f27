-- The complex kind: two numbers, of which symbols 2 and 3 read the opposites.
--
-- Glossary
--   complex_reading   the reading of a symbol, by cases
--   complex_size      the larger of the two absolute values
--   complex_means     readings and size as one meaning
--   complex_zero, complex_added, complex_turned, complex_front   what the calls answer
--   int_wrap w32 z    the i32 that z is modulo 2 ^ 32
use Rattle.std.specs.Prelude.{ℕ, zero, suc, ◌≤◌, max, ℤ, pos, ◌+ℤ◌, neg_ℤ, unsigned_abs}
use Rattle.std.proofs.Common.{arith}
use Rattle.std.proofs.lemmas.Int.{ints}
use Rattle.std.specs.Int.{int_wrap, w32}
use Rattle.samples.specs.Meaning.{Meaning}
use Rattle.samples.specs.declared.complex.Complex.{Complex}

-- Symbol 0 reads the first number, 1 the second, 2 and 3 their opposites.
abbrev pub complex_reading : Complex → ℕ → ℤ
complex_reading x zero = x.re
complex_reading x (suc zero) = x.im
complex_reading x (suc (suc zero)) = neg_ℤ x.re
complex_reading x (suc (suc (suc n))) = neg_ℤ x.im

-- The larger of the two absolute values.
abbrev pub complex_size : Complex → ℕ
complex_size x = max (unsigned_abs x.re) (unsigned_abs x.im)

-- No reading's absolute value is above that.
pub complex_within : (x : Complex) (s : ℕ) → unsigned_abs (complex_reading x s) ≤ complex_size x
complex_within x zero = omega arith
complex_within x (suc zero) = omega arith
complex_within x (suc (suc zero)) = omega (arith, ints)
complex_within x (suc (suc (suc n))) = omega (arith, ints)

-- The readings and the size as a meaning.
abbrev pub complex_means : Complex → Meaning
complex_means x = record {
  read0 = complex_reading x 0;
  read1 = complex_reading x 1;
  read2 = complex_reading x 2;
  read3 = complex_reading x 3;
  size = complex_size x;
  within0 = complex_within x 0;
  within1 = complex_within x 1;
  within2 = complex_within x 2;
  within3 = complex_within x 3;
}

-- Two zeros.
abbrev pub complex_zero : Complex
complex_zero = record { re = pos 0; im = pos 0 }

-- The sums of the numbers, each modulo 2 ^ 32 as an i32 is.
abbrev pub complex_added : Complex → Complex → Complex
complex_added x y = record { re = int_wrap w32 (x.re +ℤ y.re); im = int_wrap w32 (x.im +ℤ y.im) }

-- A quarter turn: (re, im) becomes (-im, re).
abbrev pub complex_turned : Complex → Complex
complex_turned x = record { re = int_wrap w32 (neg_ℤ x.im); im = x.re }

-- The reading of symbol 0.
abbrev pub complex_front : Complex → ℤ
complex_front x = x.re
