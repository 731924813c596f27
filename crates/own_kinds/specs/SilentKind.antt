-- The silent kind: every sample reads 0, whatever its slot.
--
-- Glossary
--   silent_means    every sample means silence
--   silent_zero, silent_added, silent_turned, silent_front   what the calls answer
--   silent_laws     the kind's laws
use Rattle.std.specs.Prelude.{◌≡◌, ℕ, ◌+◌, ◌%◌, ℤ, pos, ◌+ℤ◌, refl}
use Rattle.std.proofs.Common.{arith}
use Rattle.samples.specs.Meaning.{Meaning, reads, silence, silence_reads}
use Rattle.samples.specs.Kind.{KindLaws}
use Rattle.own_kinds.specs.declared.silent.Silent.{Silent}

-- Nothing was heard, so every reading is 0.
abbrev pub silent_means : Silent → Meaning
silent_means x = silence

-- The sample of slot 0.
abbrev pub silent_zero : Silent
silent_zero = record { slot = 0 }

-- Silence adds nothing: the first sample stays.
abbrev pub silent_added : Silent → Silent → Silent
silent_added x y = x

-- Silence turned is silence: the sample stays.
abbrev pub silent_turned : Silent → Silent
silent_turned x = x

-- The reading of symbol 0.
abbrev pub silent_front : Silent → ℤ
silent_front x = pos 0

-- All readings of silence are equal.
turn_reads : (s t : ℕ) → reads silence t ≡ reads silence s
turn_reads s t = cc (silence_reads s, silence_reads t)

-- 0 is 0 and 0.
add_reads : (s : ℕ) → reads silence s ≡ reads silence s +ℤ reads silence s
add_reads s = rw (silence_reads s)

-- All laws.
pub silent_laws : KindLaws silent_means silent_zero silent_added silent_turned silent_front
silent_laws = record {
  zero_reads = λ s l. silence_reads s;
  zero_size = refl;
  add_reads = λ a b s l h. add_reads s;
  add_size = λ a b h. omega arith;
  turn_reads = λ x s l h. turn_reads s ((s + 1) % 4);
  turn_size = λ x h. refl;
  front_reads = λ x h. refl;
}
