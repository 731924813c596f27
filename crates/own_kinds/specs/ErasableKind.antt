-- The erasable kind over another kind: a sample was erased, or it was heard.
--
-- Glossary
--   m                 what the other kind's calls answer, its meaning and its laws
--   heard             the sample of the other kind, or none where it was erased
--   erasable          a sample, from what was heard
--   meant, both       what an optional sample means, and what two of them add up to
--   erasable_means    silence where the sample was erased, else what was heard
--   erasable_zero, erasable_added, erasable_turned, erasable_front   what the calls answer
--   erasable_laws     the kind's laws
use Rattle.std.specs.Prelude.{◌≡◌, ℕ, ◌+◌, ◌%◌, ◌<◌, ◌≤◌, ℤ, pos, ◌+ℤ◌, refl, Option, Some, None}
use Rattle.std.specs.Option.{option_map, option_map_or}
use Rattle.std.proofs.Common.{sym, ap, ◌∙◌, arith}
use Rattle.std.proofs.Math.IntN.{+ℤ_idl, +ℤ_idr}
use Rattle.samples.specs.Meaning.{Meaning, reads, silence, silence_reads}
use Rattle.samples.specs.Kind.{KindLaws, limit}
use Rattle.samples.specs.declared.sample.Sample.{Ghosts}
use Rattle.own_kinds.specs.declared.erasable.Erasable.{Erasable}

-- A sample, from what was heard.
abbrev erasable : {S : Type 0} → Option S → Erasable S
erasable o = record { heard = o }

-- An erased sample is the zero of the kind.
abbrev pub erasable_zero : {S : Type 0} → Erasable S
erasable_zero = erasable None

module _ {S : Type 0} (m : Ghosts S) where
  -- What was erased means silence.
  abbrev meant : Option S → Meaning
  meant o = option_map_or m.means o silence

  abbrev pub erasable_means : Erasable S → Meaning
  erasable_means x = meant x.heard

  -- What was erased adds nothing.
  abbrev both : Option S → Option S → Option S
  both None y = y
  both (Some a) None = Some a
  both (Some a) (Some b) = Some (m.added a b)

  abbrev pub erasable_added : Erasable S → Erasable S → Erasable S
  erasable_added x y = erasable (both x.heard y.heard)

  -- What was heard is turned.
  abbrev pub erasable_turned : Erasable S → Erasable S
  erasable_turned x = erasable (option_map m.turned x.heard)

  -- The reading of symbol 0.
  abbrev pub erasable_front : Erasable S → ℤ
  erasable_front x = option_map_or m.fronted x.heard (pos 0)

  -- Each law: for erased samples by the readings of silence, and for heard ones by the law of the other kind.
  add_reads : (a b : Option S) (s : ℕ) → s < 4 → (meant a).size + (meant b).size ≤ limit → reads (meant (both a b)) s ≡ reads (meant a) s +ℤ reads (meant b) s
  add_reads None y s l h = sym (ap (λ z. z +ℤ reads (meant y) s) (silence_reads s) ∙ +ℤ_idl (reads (meant y) s))
  add_reads (Some a) None s l h = sym (ap (λ z. reads (m.means a) s +ℤ z) (silence_reads s) ∙ +ℤ_idr (reads (m.means a) s))
  add_reads (Some a) (Some b) s l h = m.laws.add_reads a b s l h

  add_size : (a b : Option S) → (meant a).size + (meant b).size ≤ limit → (meant (both a b)).size ≤ (meant a).size + (meant b).size
  add_size None y h = omega arith
  add_size (Some a) None h = omega arith
  add_size (Some a) (Some b) h = m.laws.add_size a b h

  turn_reads : (x : Option S) (s : ℕ) → s < 4 → (meant x).size ≤ limit → reads (meant (option_map m.turned x)) ((s + 1) % 4) ≡ reads (meant x) s
  turn_reads None s l h = silence_reads ((s + 1) % 4) ∙ sym (silence_reads s)
  turn_reads (Some x) s l h = m.laws.turn_reads x s l h

  turn_size : (x : Option S) → (meant x).size ≤ limit → (meant (option_map m.turned x)).size ≡ (meant x).size
  turn_size None h = refl
  turn_size (Some x) h = m.laws.turn_size x h

  front_reads : (x : Option S) → (meant x).size ≤ limit → option_map_or m.fronted x (pos 0) ≡ reads (meant x) 0
  front_reads None h = refl
  front_reads (Some x) h = m.laws.front_reads x h

  -- All laws.
  pub erasable_laws : KindLaws erasable_means erasable_zero erasable_added erasable_turned erasable_front
  erasable_laws = record {
    zero_reads = λ s l. silence_reads s;
    zero_size = refl;
    add_reads = λ a b. add_reads a.heard b.heard;
    add_size = λ a b. add_size a.heard b.heard;
    turn_reads = λ x. turn_reads x.heard;
    turn_size = λ x. turn_size x.heard;
    front_reads = λ x. front_reads x.heard;
  }
