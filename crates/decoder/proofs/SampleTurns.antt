-- What the laws of a kind say of a sample that is turned several times.
use Rattle.std.proofs.Common.{◌≡◌, ℕ, zero, suc, ◌+◌, ◌-◌, ◌*◌, ◌%◌, ◌<◌, ◌≤◌, refl, ap, ◌∙◌, arith}
use Rattle.samples.specs.Meaning.{reads}
use Rattle.samples.specs.Kind.{limit}
use Rattle.samples.specs.declared.sample.Sample.{Ghosts}
use Rattle.samples.proofs.Turns.{turned_reads}
use Rattle.decoder.specs.Visits.{times}

module _ {S : Type 0} (m : Ghosts S) (x : S) (small : (m.means x).size ≤ limit) where
  -- turning keeps the size
  pub times_size : (k : ℕ) → (m.means (times m k x)).size ≡ (m.means x).size
  times_size zero = refl
  times_size (suc k) = let e = times_size k in m.laws.turn_size (times m k x) (omega arith) ∙ e

  -- each turn moves the reading of a symbol to the next
  pub times_reads : (k s : ℕ) → s < 4 → reads (m.means (times m k x)) s ≡ reads (m.means x) ((s + 3 * k) % 4)
  times_reads zero s lt = let e : s ≡ (s + 3 * 0) % 4 = omega arith in ap (reads (m.means x)) e
  times_reads (suc k) s lt =
      let e = times_size k in
      let q : ((s + 3) % 4 + 3 * k) % 4 ≡ (s + 3 * suc k) % 4 = omega arith in
      turned_reads m (times m k x) s lt (omega arith) ∙ times_reads k ((s + 3) % 4) (omega arith) ∙ ap (reads (m.means x)) q

  -- the front after k turns reads the symbol k before 0
  pub times_front : (k : ℕ) → k < 4 → m.fronted (times m k x) ≡ reads (m.means x) ((4 - k) % 4)
  times_front k lt =
      let e = times_size k in
      let q : (0 + 3 * k) % 4 ≡ (4 - k) % 4 = omega arith in
      m.laws.front_reads (times m k x) (omega arith) ∙ times_reads k 0 (omega arith) ∙ ap (reads (m.means x)) q
