-- The phase kind: four numbers, one for each symbol.
--
-- Glossary
--   phase_reading   the reading of a symbol, by cases
--   phase_size      the largest of the four absolute values
--   phase_means     readings and size as one meaning
--   phase_zero, phase_added, phase_turned, phase_front   what the calls answer
--   int_wrap w32 z  the i32 that z is modulo 2 ^ 32
use Rattle.std.specs.Prelude.{ℕ, zero, suc, ◌≤◌, max, ℤ, pos, ◌+ℤ◌, unsigned_abs}
use Rattle.std.proofs.Common.{arith}
use Rattle.std.specs.Int.{int_wrap, w32}
use Rattle.samples.specs.Meaning.{Meaning}
use Rattle.samples.specs.declared.phase.Phase.{Phase}

-- Each symbol reads its own number.
abbrev pub phase_reading : Phase → ℕ → ℤ
phase_reading x zero = x.at0
phase_reading x (suc zero) = x.at1
phase_reading x (suc (suc zero)) = x.at2
phase_reading x (suc (suc (suc n))) = x.at3

-- The largest of the four absolute values.
abbrev pub phase_size : Phase → ℕ
phase_size x = max (max (unsigned_abs x.at0) (unsigned_abs x.at1)) (max (unsigned_abs x.at2) (unsigned_abs x.at3))

-- No reading's absolute value is above that.
pub phase_within : (x : Phase) (s : ℕ) → unsigned_abs (phase_reading x s) ≤ phase_size x
phase_within x zero = omega arith
phase_within x (suc zero) = omega arith
phase_within x (suc (suc zero)) = omega arith
phase_within x (suc (suc (suc n))) = omega arith

-- The readings and the size as a meaning.
abbrev pub phase_means : Phase → Meaning
phase_means x = record {
  read0 = phase_reading x 0;
  read1 = phase_reading x 1;
  read2 = phase_reading x 2;
  read3 = phase_reading x 3;
  size = phase_size x;
  within0 = phase_within x 0;
  within1 = phase_within x 1;
  within2 = phase_within x 2;
  within3 = phase_within x 3;
}

-- Four zeros.
abbrev pub phase_zero : Phase
phase_zero = record { at0 = pos 0; at1 = pos 0; at2 = pos 0; at3 = pos 0 }

-- The sums of the numbers, each modulo 2 ^ 32 as an i32 is.
abbrev pub phase_added : Phase → Phase → Phase
phase_added x y = record {
  at0 = int_wrap w32 (x.at0 +ℤ y.at0);
  at1 = int_wrap w32 (x.at1 +ℤ y.at1);
  at2 = int_wrap w32 (x.at2 +ℤ y.at2);
  at3 = int_wrap w32 (x.at3 +ℤ y.at3);
}

-- Each number moves on by one symbol, and the last comes first.
abbrev pub phase_turned : Phase → Phase
phase_turned x = record { at0 = x.at3; at1 = x.at0; at2 = x.at1; at3 = x.at2 }

-- The reading of symbol 0.
abbrev pub phase_front : Phase → ℤ
phase_front x = x.at0
