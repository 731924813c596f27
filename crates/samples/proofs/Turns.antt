-- What the laws of a kind say of a sample that is turned twice, and of one past the end of a list.
use Rattle.std.proofs.Common.{◌≡◌, ℕ, ◌+◌, ◌%◌, ◌<◌, ◌≤◌, ◌⊎◌, List, length, ap, ◌∙◌, inl, inr, arith}
use Rattle.std.proofs.lemmas.List.{get_or_past}
use Rattle.std.proofs.lemmas.Bool.{cases_lt}
use Rattle.samples.specs.Meaning.{reads}
use Rattle.samples.specs.Kind.{limit}
use Rattle.samples.specs.Sizes.{Within, size_at}
use Rattle.samples.specs.declared.sample.Sample.{Ghosts}

module _ {S : Type 0} (m : Ghosts S) where
  -- A sample that is turned reads at symbol s what it read at the symbol before.
  pub turned_reads : (x : S) (s : ℕ) → s < 4 → (m.means x).size ≤ limit → reads (m.means (m.turned x)) s ≡ reads (m.means x) ((s + 3) % 4)
  turned_reads x s lt small =
      let e : ((s + 3) % 4 + 1) % 4 ≡ s = omega arith in
      rw e at (m.laws.turn_reads x ((s + 3) % 4) (omega arith) small)

  pub twice_reads : (x : S) (s : ℕ) → s < 4 → (m.means x).size ≤ limit → reads (m.means (m.turned (m.turned x))) s ≡ reads (m.means x) ((s + 2) % 4)
  twice_reads x s lt small =
      let k = m.laws.turn_size x small in
      let e : ((s + 3) % 4 + 3) % 4 ≡ (s + 2) % 4 = omega arith in
      turned_reads (m.turned x) s lt (omega arith) ∙ rw e at (turned_reads x ((s + 3) % 4) (omega arith) small)

  pub twice_size : (x : S) → (m.means x).size ≤ limit → (m.means (m.turned (m.turned x))).size ≡ (m.means x).size
  twice_size x small = let k = m.laws.turn_size x small in m.laws.turn_size (m.turned x) (omega arith) ∙ k

  -- A bound on a list's samples holds past its end too, where the zero sample stands.
  pub within_everywhere : (b : ℕ) (w : List S) → Within m b w → (k : ℕ) → size_at m w k ≤ b
  within_everywhere b w small k = by_place (cases_lt k (length w))
    where
      by_place : (k < length w) ⊎ (length w ≤ k) → size_at m w k ≤ b
      by_place (inl l) = small k l
      by_place (inr l) = let z = m.laws.zero_size in let e = ap (λ x. (m.means x).size) (get_or_past w k m.zeroed l) in omega arith
