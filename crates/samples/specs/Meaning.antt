-- What a sample means.
--
-- Glossary
--   symbol      one of 0, 1, 2 and 3
--   reading     a whole number that a sample gives for a symbol
--   size        a number that no reading's absolute value exceeds
--   meaning     the four readings of a sample, and its size
--   silence     the meaning whose readings and size are all 0
--   quiet, silence_reads   that silence is a meaning, and reads 0
--   by_symbol   a statement about every symbol, from its four cases
--   asked       what is answered to the question for a reading
--   over        the sum of a function over the indices below a number
use Rattle.std.specs.Prelude.{◌≡◌, ℕ, zero, suc, ◌<◌, ◌≤◌, ℤ, pos, ◌+ℤ◌, Some, None, Option, unsigned_abs, refl}
use Rattle.std.proofs.Common.{arith}

-- The readings of symbols 0 to 3, and a size that is at least the absolute value of each.
pub record Meaning : Type 0 where
  pub read0 : ℤ
  pub read1 : ℤ
  pub read2 : ℤ
  pub read3 : ℤ
  pub size : ℕ
  pub within0 : unsigned_abs read0 ≤ size
  pub within1 : unsigned_abs read1 ≤ size
  pub within2 : unsigned_abs read2 ≤ size
  pub within3 : unsigned_abs read3 ≤ size

-- The reading of a symbol; a number above 3 is no symbol, and no statement speaks of its reading.
abbrev pub reads : Meaning → ℕ → ℤ
reads x zero = x.read0
reads x (suc zero) = x.read1
reads x (suc (suc zero)) = x.read2
reads x (suc (suc (suc n))) = x.read3

-- The absolute value of 0 is within the size 0.
pub quiet : 0 ≤ 0
quiet = omega arith

-- All readings and the size are 0.
abbrev pub silence : Meaning
silence = record { read0 = pos 0; read1 = pos 0; read2 = pos 0; read3 = pos 0; size = 0; within0 = quiet; within1 = quiet; within2 = quiet; within3 = quiet }

-- Silence reads 0 at every symbol.
pub silence_reads : (s : ℕ) → reads silence s ≡ pos 0
silence_reads zero = refl
silence_reads (suc zero) = refl
silence_reads (suc (suc zero)) = refl
silence_reads (suc (suc (suc n))) = refl

-- What holds of each of the four symbols holds of every symbol.
pub by_symbol : (P : ℕ → Type 0) → P 0 → P 1 → P 2 → P 3 → (s : ℕ) → s < 4 → P s
by_symbol P p0 p1 p2 p3 zero l = p0
by_symbol P p0 p1 p2 p3 (suc zero) l = p1
by_symbol P p0 p1 p2 p3 (suc (suc zero)) l = p2
by_symbol P p0 p1 p2 p3 (suc (suc (suc zero))) l = p3
by_symbol P p0 p1 p2 p3 (suc (suc (suc (suc n)))) l = absurd (omega arith)

-- What is answered to the question for the reading of a symbol: nothing above 3.
abbrev pub asked : (ℕ → ℤ) → ℕ → Option ℤ
asked f zero = Some (f 0)
asked f (suc zero) = Some (f 1)
asked f (suc (suc zero)) = Some (f 2)
asked f (suc (suc (suc zero))) = Some (f 3)
asked f (suc (suc (suc (suc n)))) = None

-- The sum f 0 + f 1 + .. + f (n - 1).
abbrev pub over : ℕ → (ℕ → ℤ) → ℤ
over zero f = pos 0
over (suc n) f = over n f +ℤ f n
