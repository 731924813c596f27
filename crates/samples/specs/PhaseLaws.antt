-- The phase kind keeps the laws of a kind.
--
-- Glossary
--   phase_laws   the laws, each from what the calls answer
use Rattle.std.specs.Prelude.{◌≡◌, ℕ, ◌+◌, ◌%◌, ◌<◌, ◌≤◌, pos, ◌+ℤ◌, refl}
use Rattle.std.proofs.Common.{arith}
use Rattle.samples.specs.Meaning.{reads, by_symbol}
use Rattle.samples.specs.Kind.{KindLaws, limit}
use Rattle.samples.specs.Wraps.{wrap_sum, sum_bound}
use Rattle.samples.specs.PhaseKind.{phase_means, phase_size, phase_zero, phase_added, phase_turned, phase_front}
use Rattle.samples.specs.declared.phase.Phase.{Phase}

-- Within the limit no sum wraps, so each reading is a sum.
add_reads : (a b : Phase) → phase_size a + phase_size b ≤ limit → (s : ℕ) → s < 4 → reads (phase_means (phase_added a b)) s ≡ reads (phase_means a) s +ℤ reads (phase_means b) s
add_reads a b h =
    by_symbol (λ s. reads (phase_means (phase_added a b)) s ≡ reads (phase_means a) s +ℤ reads (phase_means b) s)
    (wrap_sum a.at0 b.at0 (omega arith)) (wrap_sum a.at1 b.at1 (omega arith)) (wrap_sum a.at2 b.at2 (omega arith)) (wrap_sum a.at3 b.at3 (omega arith))

-- Nor is a sum larger than the two sizes together.
add_size : (a b : Phase) → phase_size a + phase_size b ≤ limit → phase_size (phase_added a b) ≤ phase_size a + phase_size b
add_size a b h =
    let w0 = sum_bound a.at0 b.at0 (omega arith) in
    let w1 = sum_bound a.at1 b.at1 (omega arith) in
    let w2 = sum_bound a.at2 b.at2 (omega arith) in
    let w3 = sum_bound a.at3 b.at3 (omega arith) in
    omega arith

-- All laws.
pub phase_laws : KindLaws phase_means phase_zero phase_added phase_turned phase_front
phase_laws = record {
  zero_reads = by_symbol (λ s. reads (phase_means phase_zero) s ≡ pos 0) refl refl refl refl;
  zero_size = refl;
  add_reads = λ a b s l h. add_reads a b h s l;
  add_size = add_size;
  turn_reads = λ x s l h. by_symbol (λ s. reads (phase_means (phase_turned x)) ((s + 1) % 4) ≡ reads (phase_means x) s) refl refl refl refl s l;
  turn_size = λ x h. omega arith;
  front_reads = λ x h. refl;
}
