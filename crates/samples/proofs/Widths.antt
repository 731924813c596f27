-- The blocks of a pass fill a list of 2 ^ degree samples, and one pass more.
use Rattle.std.proofs.Common.{◌≡◌, ℕ, suc, ◌+◌, ◌-◌, ◌*◌, ◌/◌, ◌%◌, ◌^◌, ◌<◌, ◌≤◌, ◌⊎◌, List, sym, ap, ◌∙◌, ap₂, inl, inr, div-lt_iff_lt-mul, pow-suc, div-add-mod', mul-div_cancel, arith, pow_pos, pow_mono, pow-add, le-ltb, lt-ltb}
use lib.Pow.{pow-lt}
use Rattle.std.proofs.lemmas.Bool.{cases_lt}
use Rattle.samples.specs.declared.sample.Sample.{Ghosts}
use Rattle.samples.specs.Passes.{crossed, after}
use Rattle.samples.specs.Sizes.{at}
use Rattle.samples.proofs.Blocks.{block_fits}

-- Pass d of n = 2 ^ degree samples, h being the half of a block.
module _ (degree d n h : ℕ) (long : n ≡ 2 ^ degree) (lt : d < degree) (is : h ≡ 2 ^ d) where
  double : 2 ^ suc d ≡ h + h
  double = let e = pow-suc 2 d in omega arith

  some : 0 < h
  some = let p = pow_pos d in omega arith

  pub fits : h + h ≤ n
  fits = let e = double in let p : 2 ^ suc d ≤ 2 ^ degree = pow_mono lt in omega arith

  blocks : n ≡ 2 ^ (degree - suc d) * (h + h)
  blocks =
      let e : degree ≡ degree - suc d + suc d = omega arith in
      long ∙ ap (λ x. 2 ^ x) e ∙ pow-add 2 (degree - suc d) (suc d) ∙ ap (λ x. 2 ^ (degree - suc d) * x) double

  count : n / (2 * h) ≡ 2 ^ (degree - suc d)
  count =
      let p = some in
      let e : 2 * h ≡ h + h = omega arith in
      let pos : 0 < h + h = omega arith in
      ap (λ x. n / x) e ∙ ap (λ x. x / (h + h)) blocks ∙ mul-div_cancel (2 ^ (degree - suc d)) pos

  pub filled : n / (2 * h) * (h + h) ≡ n
  filled = ap (λ x. x * (h + h)) count ∙ sym blocks

  -- from a place in the first half of a block one can go h further on
  room : (v : ℕ) → v < n → v % (h + h) < h → v + h < n
  room v l r =
      let p = some in
      let e = blocks in
      let pos : 0 < h + h = omega arith in
      let inside : v < 2 ^ (degree - suc d) * (h + h) = omega arith in
      let q : v / (h + h) < 2 ^ (degree - suc d) = (div-lt_iff_lt-mul pos).1 inside in
      let f = block_fits h (v / (h + h)) (2 ^ (degree - suc d)) q in
      let z = div-add-mod' v (h + h) in
      omega arith

  module _ {S : Type 0} (m : Ghosts S) where
    -- a crossing depends on the samples in the list alone
    crossed_same : (f g : ℕ → S) → ((k : ℕ) → k < n → f k ≡ g k) → (v : ℕ) → v < n → (v % (h + h) < h) ⊎ (h ≤ v % (h + h)) → crossed m h f v ≡ crossed m h g v
    crossed_same f g same v l (inl r) = rw (lt-ltb (v % (h + h)) h r) (ap₂ m.added (same v l) (same (v + h) (room v l r)))
    crossed_same f g same v l (inr r) = rw (le-ltb (v % (h + h)) h r) (ap₂ (λ x y. m.added x (m.turned (m.turned y))) (same (v - h) (omega arith)) (same v l))

    pub one_more : (old w new : List S) → ((v : ℕ) → v < n → at m w v ≡ after m old d v) → ((v : ℕ) → v < n → at m new v ≡ crossed m h (at m w) v) → (v : ℕ) → v < n → at m new v ≡ after m old (suc d) v
    unfolding after
    one_more old w new so_far passed v l =
        passed v l ∙ crossed_same (at m w) (after m old d) so_far v l (cases_lt (v % (h + h)) h) ∙ ap (λ x. crossed m x (after m old d) v) is

-- A power of two has one exponent.
pub same_exponent : (a b : ℕ) → 2 ^ a ≡ 2 ^ b → a ≡ b
same_exponent a b e = by_order (cases_lt a b) (cases_lt b a)
  where
    by_order : (a < b) ⊎ (b ≤ a) → (b < a) ⊎ (a ≤ b) → a ≡ b
    by_order (inl l) k = let p : 2 ^ a < 2 ^ b = pow-lt l in absurd (omega arith)
    by_order (inr l) (inl k) = let p : 2 ^ b < 2 ^ a = pow-lt k in absurd (omega arith)
    by_order (inr l) (inr k) = omega arith
