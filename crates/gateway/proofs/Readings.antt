-- The receptions that a bay holds read what the file reads, by the file's kind.
use Rattle.std.proofs.Common.{◌≡◌, ℕ, ◌+◌, ◌*◌, ◌<◌, Bool, cond, List, ℤ, neg_ℤ, sym, ap, ◌∙◌, subst, arith, eq-eqb, ne_eqb}
use Rattle.samples.specs.Meaning.{Meaning, reads, by_symbol}
use Rattle.samples.specs.ComplexKind.{complex_means}
use Rattle.samples.specs.PhaseKind.{phase_means}
use Rattle.samples.specs.declared.sample.Sample.{Ghosts}
use Rattle.samples.specs.declared.complex.Complex.{Complex}
use Rattle.samples.specs.declared.phase.Phase.{Phase}
use Rattle.reception_file.specs.Layout.{at, parts_of, part_at}
use Rattle.reception_file.specs.Check.{Accepted}
use Rattle.reception_file.specs.ComplexParts.{complex_part}
use Rattle.reception_file.specs.PhaseParts.{phase_part}
use Rattle.reception_file.specs.declared.stored.Stored.{Ghosts as StoredGhosts}
use Rattle.bay_rules.specs.declared.numbers.Numbers.{Numbers}
use Rattle.gateway.specs.Receptions.{samples_at, sample_part, by_symbols, file_reading}
use Rattle.gateway.specs.Partly.{Settled}
use Rattle.gateway.specs.Decoded.{FromFile}

module _ {S : Type 0} (m : Ghosts S) (t : StoredGhosts S) where
  -- where a sample with the parts of the file reads what the file reads, a verdict over the samples is one over the file
  pub from_file : (bs : List ℕ) (n : Numbers) → Accepted bs → t.width ≡ parts_of (at bs 5) →
      ((r i : ℕ) (x : S) → ((k : ℕ) → k < t.width → t.part x k ≡ sample_part bs r i k) → (s : ℕ) → s < 4 → reads (m.means x) s ≡ file_reading bs r i s) →
      Settled m t bs n → FromFile bs n
  from_file bs n a wide reading f = record {
    accepted = a;
    degree = f.law.best.degree;
    held = f.law.best.held ∙ f.first.many;
    run = f.run;
    decides = f.decides;
    receptions = record {
      many = f.first.many;
      long = f.first.long;
      reads_as = λ r i s lr li four.
          let x = f.first.each r i lr li in
          ap (λ (y : Meaning). reads y s) x.meaning
          ∙ reading r i x.sample (λ k lk. x.parts k lk ∙ ap (λ (w : ℕ). part_at bs ((r * samples_at bs + i) * w + k)) wide) s four;
    };
    law = f.law;
  }

complex_reads : (part : ℕ → ℤ) (x : Complex) → ((k : ℕ) → k < 2 → complex_part x k ≡ part k) → (s : ℕ) → s < 4 → reads (complex_means x) s ≡ by_symbols part s
complex_reads part x h =
    let re = h 0 (omega arith) in
    let im = h 1 (omega arith) in
    by_symbol (λ s. reads (complex_means x) s ≡ by_symbols part s) re im (ap neg_ℤ re) (ap neg_ℤ im)

phase_reads : (part : ℕ → ℤ) (x : Phase) → ((k : ℕ) → k < 4 → phase_part x k ≡ part k) → (s : ℕ) → s < 4 → reads (phase_means x) s ≡ part s
phase_reads part x h =
    by_symbol (λ s. reads (phase_means x) s ≡ part s) (h 0 (omega arith)) (h 1 (omega arith)) (h 2 (omega arith)) (h 3 (omega arith))

module _ (bs : List ℕ) (r i : ℕ) where
  -- of kind 1, a complex sample
  pub complex_file : at bs 5 ≡ 1 → (x : Complex) → ((k : ℕ) → k < 2 → complex_part x k ≡ sample_part bs r i k) → (s : ℕ) → s < 4 →
      reads (complex_means x) s ≡ file_reading bs r i s
  complex_file kind x h s four =
      subst (λ (b : Bool). reads (complex_means x) s ≡ cond b (by_symbols (sample_part bs r i) s) (sample_part bs r i s))
      (sym (eq-eqb (at bs 5) 1 kind)) (complex_reads (sample_part bs r i) x h s four)

  -- of kind 2, a phase sample
  pub phase_file : at bs 5 ≡ 2 → (x : Phase) → ((k : ℕ) → k < 4 → phase_part x k ≡ sample_part bs r i k) → (s : ℕ) → s < 4 →
      reads (phase_means x) s ≡ file_reading bs r i s
  phase_file kind x h s four =
      subst (λ (b : Bool). reads (phase_means x) s ≡ cond b (by_symbols (sample_part bs r i) s) (sample_part bs r i s))
      (sym (ne_eqb (at bs 5) 1 (λ q. omega arith))) (phase_reads (sample_part bs r i) x h s four)
