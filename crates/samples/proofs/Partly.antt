-- After d passes each block of 2 ^ d samples is transformed by itself; after the last, the whole list is.
use Rattle.std.proofs.Common.{◌≡◌, ℕ, zero, suc, ◌+◌, ◌-◌, ◌*◌, ◌/◌, ◌%◌, ◌^◌, ◌<◌, ◌≤◌, ◌⊎◌, List, length, ℤ, ◌+ℤ◌, sym, ap, ◌∙◌, subst, ap₂, inl, inr, mod-lt, mul_assoc, add-mul, mul-le-mul, one-mul, pow-suc, div-add-mod', zero-mul, arith, pow_pos}
use lib.IntN.{+ℤ_idl}
use Rattle.std.proofs.lemmas.Bool.{cases_lt}
use Rattle.samples.specs.declared.sample.Sample.{Ghosts}
use Rattle.samples.specs.Meaning.{reads, over}
use Rattle.samples.specs.Kind.{limit}
use Rattle.samples.specs.Sizes.{at, Within}
use Rattle.samples.specs.Transform.{parity, reading_at, Transformed}
use Rattle.samples.specs.Passes.{crossed, after}
use Rattle.samples.proofs.Sums.{over_same, over_parts}
use Rattle.samples.proofs.Parities.{parity_zero, top_right, top_left, top_both}
use Rattle.samples.proofs.Turns.{twice_reads, twice_size, within_everywhere}
use Rattle.samples.proofs.Blocks.{low_is, high_is}

-- The sums of two neighbouring blocks of 2 ^ d samples, F p s being the reading of symbol s at place p.
module _ (d r s : ℕ) (F : ℕ → ℕ → ℤ) (l : r < 2 ^ d) where
  flip : (q : ℕ) → ((s + 2) % 4 + 2 * q) % 4 ≡ (s + 2 * ((1 + q) % 2)) % 4
  flip q = omega arith

  -- added, they are the sum at r over both
  meet_low : over (2 ^ d) (λ p. F p ((s + 2 * parity r p) % 4)) +ℤ over (2 ^ d) (λ p. F (2 ^ d + p) ((s + 2 * parity r p) % 4)) ≡ over (2 ^ d + 2 ^ d) (λ p. F p ((s + 2 * parity r p) % 4))
  meet_low =
      ap (λ x. over (2 ^ d) (λ p. F p ((s + 2 * parity r p) % 4)) +ℤ x) (over_same (2 ^ d) _ (λ p. F (2 ^ d + p) ((s + 2 * parity r (2 ^ d + p)) % 4)) (λ p b. ap (λ q. F (2 ^ d + p) ((s + 2 * q) % 4)) (sym (top_right d r p l b))))
      ∙ sym (over_parts (2 ^ d) (2 ^ d) (λ p. F p ((s + 2 * parity r p) % 4)))

  -- with the second turned twice, the sum at 2 ^ d + r
  meet_high : over (2 ^ d) (λ p. F p ((s + 2 * parity r p) % 4)) +ℤ over (2 ^ d) (λ p. F (2 ^ d + p) (((s + 2) % 4 + 2 * parity r p) % 4)) ≡ over (2 ^ d + 2 ^ d) (λ p. F p ((s + 2 * parity (2 ^ d + r) p) % 4))
  meet_high =
      ap₂ ◌+ℤ◌
      (over_same (2 ^ d) _ (λ p. F p ((s + 2 * parity (2 ^ d + r) p) % 4)) (λ p b. ap (λ q. F p ((s + 2 * q) % 4)) (sym (top_left d r p l b))))
      (over_same (2 ^ d) _ (λ p. F (2 ^ d + p) ((s + 2 * parity (2 ^ d + r) (2 ^ d + p)) % 4))
      (λ p b. ap (F (2 ^ d + p)) (flip (parity r p) ∙ ap (λ q. (s + 2 * q) % 4) (sym (top_both d r p l b)))))
      ∙ sym (over_parts (2 ^ d) (2 ^ d) (λ p. F p ((s + 2 * parity (2 ^ d + r) p) % 4)))

-- The samples f v, by place, are those of old with each block of so many transformed by itself: place r of block n
-- reads the sum over its block. Past the end of old stand zero samples, so no place has to be inside.
pub record Partly {S : Type 0} (m : Ghosts S) (width b : ℕ) (old : List S) (f : ℕ → S) : Type 0 where
  pub places : (n r s : ℕ) → r < width → s < 4 → reads (m.means (f (n * width + r))) s ≡ over width (λ p. reading_at m old (n * width + p) ((s + 2 * parity r p) % 4))
  pub small : (k : ℕ) → (m.means (f k)).size ≤ width * b

module _ {S : Type 0} (m : Ghosts S) (b : ℕ) (old : List S) where
  -- before the first pass
  none : Within m b old → Partly m 1 b old (at m old)
  none small = record {
    places = λ n r s k t.
        let z : r ≡ 0 = omega arith in
        let q : (s + 2 * 0) % 4 ≡ s = omega arith in
        ap (λ x. reading_at m old (n * 1 + x) s) z
        ∙ sym (+ℤ_idl (reading_at m old (n * 1 + 0) ((s + 2 * parity r 0) % 4))
        ∙ ap (reading_at m old (n * 1 + 0)) (ap (λ x. (s + 2 * parity x 0) % 4) z ∙ ap (λ x. (s + 2 * x) % 4) parity_zero ∙ q));
    small = λ k. let e = within_everywhere m b old small k in let o = one-mul b in omega arith;
  }

  module _ (d : ℕ) (f : ℕ → S) (fits : 2 ^ d * b + 2 ^ d * b ≤ limit) (part : Partly m (2 ^ d) b old f) where
    abbrev lo : ℕ
    lo = 2 ^ d

    abbrev hi : ℕ
    hi = 2 ^ d + 2 ^ d

    -- a block of the next width starts where one of every two blocks starts
    start : (n : ℕ) → n * hi ≡ n * 2 * lo
    start n = let e : hi ≡ 2 * lo = omega arith in ap (λ x. n * x) e ∙ sym (mul_assoc n 2 lo)

    next : (n : ℕ) → (n * 2 + 1) * lo ≡ n * 2 * lo + lo
    next n = add-mul (n * 2) 1 lo ∙ ap (λ x. n * 2 * lo + x) (one-mul lo)

    -- place r of block n of the next width, in its first half and in its second
    module _ (n r : ℕ) (k : r < lo) where
      abbrev v : ℕ
      v = n * hi + r

      F : ℕ → ℕ → ℤ
      F p s = reading_at m old (n * hi + p) s

      first_reads : (s : ℕ) → s < 4 → reads (m.means (f v)) s ≡ over lo (λ p. F p ((s + 2 * parity r p) % 4))
      unfolding F
      first_reads s t =
          subst (λ x. reads (m.means (f (x + r))) s ≡ over lo (λ p. reading_at m old (x + p) ((s + 2 * parity r p) % 4))) (sym (start n)) (part.places (n * 2) r s k t)

      second_reads : (s : ℕ) → s < 4 → reads (m.means (f (v + lo))) s ≡ over lo (λ p. F (lo + p) ((s + 2 * parity r p) % 4))
      unfolding F
      second_reads s t =
          let e = start n in
          let g = next n in
          let to : (q : ℕ) → (n * 2 + 1) * lo + q ≡ n * hi + (lo + q) = λ q. omega arith in
          let here : (n * 2 + 1) * lo + r ≡ v + lo = omega arith in
          ap (λ x. reads (m.means (f x)) s) (sym here) ∙ part.places (n * 2 + 1) r s k t
          ∙ over_same lo _ (λ p. reading_at m old (n * hi + (lo + p)) ((s + 2 * parity r p) % 4)) (λ p _. ap (λ x. reading_at m old x ((s + 2 * parity r p) % 4)) (to p))

      low_reads : (s : ℕ) → s < 4 → reads (m.means (crossed m lo f v)) s ≡ over hi (λ p. F p ((s + 2 * parity r p) % 4))
      low_reads s t =
          let x = part.small v in let y = part.small (v + lo) in
          ap (λ z. reads (m.means z) s) (low_is m lo f n r k) ∙ m.laws.add_reads (f v) (f (v + lo)) s t (omega arith)
          ∙ ap₂ ◌+ℤ◌ (first_reads s t) (second_reads s t) ∙ meet_low d r s F k

      high_reads : (s : ℕ) → s < 4 → reads (m.means (crossed m lo f (v + lo))) s ≡ over hi (λ p. F p ((s + 2 * parity (lo + r) p) % 4))
      high_reads s t =
          let x = part.small v in let y = part.small (v + lo) in
          let w = twice_size m (f (v + lo)) (omega arith) in
          ap (λ z. reads (m.means z) s) (high_is m lo f n r k) ∙ m.laws.add_reads (f v) (m.turned (m.turned (f (v + lo)))) s t (omega arith)
          ∙ ap₂ ◌+ℤ◌ (first_reads s t) (twice_reads m (f (v + lo)) s t (omega arith) ∙ second_reads ((s + 2) % 4) (omega arith)) ∙ meet_high d r s F k

      low_small : (m.means (crossed m lo f v)).size ≤ lo * b + lo * b
      low_small =
          let x = part.small v in let y = part.small (v + lo) in
          rw (low_is m lo f n r k) (omega (arith, m.laws.add_size (f v) (f (v + lo)) (omega arith)))

      high_small : (m.means (crossed m lo f (v + lo))).size ≤ lo * b + lo * b
      high_small =
          let x = part.small v in let y = part.small (v + lo) in
          let w = twice_size m (f (v + lo)) (omega arith) in
          rw (high_is m lo f n r k) (omega (arith, m.laws.add_size (f v) (m.turned (m.turned (f (v + lo)))) (omega arith)))

    place_at : (n r s : ℕ) → r < hi → s < 4 → (r < lo) ⊎ (lo ≤ r) → reads (m.means (crossed m lo f (n * hi + r))) s ≡ over hi (λ p. reading_at m old (n * hi + p) ((s + 2 * parity r p) % 4))
    unfolding F
    place_at n r s k t (inl a) = low_reads n r a s t
    place_at n r s k t (inr a) =
        let e : n * hi + (r - lo) + lo ≡ n * hi + r = omega arith in
        let g : lo + (r - lo) ≡ r = omega arith in
        ap (λ x. reads (m.means (crossed m lo f x)) s) (sym e) ∙ high_reads n (r - lo) (omega arith) s t
        ∙ ap (λ q. over hi (λ p. reading_at m old (n * hi + p) ((s + 2 * parity q p) % 4))) g

    small_at : (n r : ℕ) → r < hi → (r < lo) ⊎ (lo ≤ r) → (m.means (crossed m lo f (n * hi + r))).size ≤ lo * b + lo * b
    small_at n r k (inl a) = low_small n r a
    small_at n r k (inr a) =
        let e : n * hi + (r - lo) + lo ≡ n * hi + r = omega arith in
        subst (λ x. (m.means (crossed m lo f x)).size ≤ lo * b + lo * b) e (high_small n (r - lo) (omega arith))

    -- one pass more
    one_more : Partly m hi b old (crossed m lo f)
    one_more = record {
      places = λ n r s k t. place_at n r s k t (cases_lt r lo);
      small = λ k.
          let p = pow_pos d in
          let e : k / hi * hi + k % hi ≡ k = div-add-mod' k hi in
          let below : k % hi < hi = mod-lt k (omega arith) in
          let z = add-mul lo lo b in
          let q = small_at (k / hi) (k % hi) below (cases_lt (k % hi) lo) in
          let at-k = subst (λ x. (m.means (crossed m lo f x)).size ≤ lo * b + lo * b) e q in
          omega arith;
    }

  -- after d passes
  after_passes : Within m b old → (d : ℕ) → 2 ^ d * b ≤ limit → Partly m (2 ^ d) b old (after m old d)
  unfolding after
  after_passes small zero fits = none small
  after_passes small (suc d) fits =
      let s : 2 ^ suc d ≡ 2 ^ d + 2 ^ d = let e = pow-suc 2 d in omega arith in
      let z : 2 ^ suc d * b ≡ 2 ^ d * b + 2 ^ d * b = ap (λ x. x * b) s ∙ add-mul (2 ^ d) (2 ^ d) b in
      subst (λ x. Partly m x b old (crossed m (2 ^ d) (after m old d))) (sym s) (one_more d (after m old d) (omega arith) (after_passes small d (omega arith)))

-- A list of 2 ^ d samples whose sizes leave room is transformed by d passes.
pub transformed : {S : Type 0} (m : Ghosts S) (d c : ℕ) (old new : List S) → length old ≡ 2 ^ d → length new ≡ length old → Within m c old → length old * c ≤ limit →
    ((v : ℕ) → v < length old → at m new v ≡ after m old d v) → Transformed m old new
transformed m d c old new long same within fits exact = record {
  long = same;
  places = λ v s l t.
      let z : (x : ℕ) → 0 * 2 ^ d + x ≡ x = λ x. let o = zero-mul (2 ^ d) in omega arith in
      ap (λ x. reads (m.means x) s) (exact v l ∙ ap (after m old d) (sym (z v)))
      ∙ (after_passes m c old within d (rw long at fits)).places 0 v s (omega arith) t
      ∙ over_same (2 ^ d) _ (λ p. reading_at m old p ((s + 2 * parity v p) % 4)) (λ p _. ap (λ x. reading_at m old x ((s + 2 * parity v p) % 4)) (z p))
      ∙ ap (λ n. over n (λ p. reading_at m old p ((s + 2 * parity v p) % 4))) (sym long);
  sizes = λ b small k l. subst (λ x. (m.means x).size ≤ length old * b) (sym (exact k (omega arith))) (bound b small k (cases_lt c b));
}
  where
    bound : (b : ℕ) → Within m b old → (k : ℕ) → (c < b) ⊎ (b ≤ c) → (m.means (after m old d k)).size ≤ length old * b
    bound b small k (inl more) =
        let e = (after_passes m c old within d (rw long at fits)).small k in
        let q : 2 ^ d * c ≤ 2 ^ d * b = mul-le-mul (omega arith) (omega arith) in
        rw long (omega arith)
    bound b small k (inr less) =
        let q : length old * b ≤ length old * c = mul-le-mul (omega arith) (omega arith) in
        let f : length old * b ≤ limit = omega arith in
        rw long ((after_passes m b old small d (rw long at f)).small k)
