-- When messages are visited.
use Rattle.std.proofs.Common.{◌≡◌, ℕ, ◌+◌, ◌-◌, ◌*◌, ◌/◌, ◌%◌, ◌<◌, ◌≤◌, sym, ap, ◌∙◌, ap₂, arith}
use lib.Arith.{digits_div, digits_mod}
use Rattle.kerdock.specs.Code.{Row, size, messages, digit}
use Rattle.kerdock.specs.Sound.{Sound}
use Rattle.decoder.specs.Cosets.{message, lows, highs}
use Rattle.decoder.specs.Visits.{Apart, visit}
use Rattle.decoder.proofs.Cosets.{cosets}

-- a number has one quotient and one rest
same_parts : (n a b x y : ℕ) → x < n → y < n → a * n + x ≡ b * n + y → (a ≡ b) × (x ≡ y)
same_parts n a b x y p q e =
    (sym (digits_div a p) ∙ ap (λ (z : ℕ). z / n) e ∙ digits_div b q, sym (digits_mod a p) ∙ ap (λ (z : ℕ). z % n) e ∙ digits_mod b q)

module _ (row : Row) (sound : Sound row) where
  -- the time of a message, by its coset, its place and its symbol
  pub visit_time : (e u v : ℕ) → e < 4 → u < size row → v < size row → visit row (message row e u v) ≡ 4 * (u * size row + v) + (4 - e) % 4
  unfolding visit
  visit_time e u v h a b = let c = cosets row sound in rw (c.e_is e u v h, c.u_is e u v h a, c.v_is e u v h b)

  -- no two messages are visited at one time
  pub visits_apart : Apart (messages row) (visit row)
  unfolding visit
  visits_apart j k a b e =
      let c = cosets row sound in
      let whole : lows row j * size row + highs row j ≡ lows row k * size row + highs row k = omega arith in
      let first : digit j 0 ≡ digit k 0 = omega arith in
      let parts = same_parts (size row) (lows row j) (lows row k) (highs row j) (highs row k) (c.highs_within j) (c.highs_within k) whole in
      c.splits j a ∙ ap (λ (x : ℕ). message row x (lows row j) (highs row j)) first ∙ ap₂ (message row (digit k 0)) parts.0 parts.1 ∙ sym (c.splits k b)

  -- what is visited in the time of coset u is of coset u
  pub visited_coset : (k u : ℕ) → k < messages row → 4 * (u * size row) ≤ visit row k → visit row k < 4 * (u * size row) + 4 * size row →
      k ≡ message row (digit k 0) u (highs row k)
  unfolding visit
  visited_coset k u l a b =
      let c = cosets row sound in
      let rest = lows row k * size row + highs row k - u * size row in
      let within : rest < size row = omega arith in
      let whole : lows row k * size row + highs row k ≡ u * size row + rest = omega arith in
      let parts = same_parts (size row) (lows row k) u (highs row k) rest (c.highs_within k) within whole in
      c.splits k l ∙ ap (λ (x : ℕ). message row (digit k 0) x (highs row k)) parts.0

  -- what is visited in the time of place v of coset u is of that place
  pub visited_place : (k u v : ℕ) → k < messages row → v < size row → 4 * (u * size row + v) ≤ visit row k → visit row k < 4 * (u * size row + v) + 4 →
      k ≡ message row (digit k 0) u v
  unfolding visit
  visited_place k u v l h a b =
      let c = cosets row sound in
      let whole : lows row k * size row + highs row k ≡ u * size row + v = omega arith in
      let parts = same_parts (size row) (lows row k) u (highs row k) v (c.highs_within k) h whole in
      c.splits k l ∙ ap₂ (message row (digit k 0)) parts.0 parts.1
