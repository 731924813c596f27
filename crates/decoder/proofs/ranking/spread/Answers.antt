use Rattle.std.proofs.Common.{◌≡◌, ℕ, suc, ◌+◌, ◌-◌, ◌*◌, ◌^◌, ◌<◌, ◌≤◌, refl, ap, pow-suc, arith}
use native.Mathlib.Nat.{pow-le-pow_right}
use Rattle.kerdock.proofs.Digits.{made}
use Rattle.kerdock.proofs.Sums.{sum_same}
use Rattle.decoder.specs.Cosets.{bit}
use Rattle.decoder.proofs.Bits.{made_front}
use Rattle.decoder.proofs.ranking.spread.Goals as goal

-- one bit more, below those that stand
record More (x k sum : ℕ) : Type 0 where
  is : 4 * sum + bit x k ≡ made 4 (λ j. bit x (k + j)) (7 - k)
  below : 3 * (4 * sum + bit x k) < 4 ^ (7 - k)
  fits : 4 * sum + bit x k < 4 ^ 7

-- k and the bits after it, for the loop's k + 1
more : (x k l sum : ℕ) → 0 < l → l ≤ 7 → k ≡ l - 1 → sum ≡ made 4 (λ j. bit x (l + j)) (7 - l) → 3 * sum < 4 ^ (7 - l) → More x k sum
more x k l sum some seven e is s =
    let next : 7 - k ≡ suc (7 - l) = omega arith in
    let up = pow-suc 4 (7 - l) in
    let front = made_front 4 (λ j. bit x (k + j)) (7 - l) in
    let rest : made 4 (λ j. bit x (l + j)) (7 - l) ≡ made 4 (λ j. bit x (k + suc j)) (7 - l) =
    sum_same _ _ (7 - l) (λ j b. let same : l + j ≡ k + suc j = omega arith in ap (λ (y : ℕ). 4 ^ j * bit x y) same) in
    let first : bit x (k + 0) ≡ bit x k = let same : k + 0 ≡ k = omega arith in ap (bit x) same in
    let light : suc (7 - l) ≤ 7 = omega arith in
    let p : 4 ^ suc (7 - l) ≤ 4 ^ 7 = pow-le-pow_right (let four : 0 < 4 = omega arith in four) light in
    record { is = rw next (omega arith); below = rw next (omega arith); fits = omega arith }

-- at the turn of one bit
turn : (c : goal.In-loop-k) → More c.args.x (c.loop-k.k - 1) c.loop-k.sum
turn c = more c.args.x (c.loop-k.k - 1) c.loop-k.k c.loop-k.sum c.loop-k-test.true c.loop-k.auto.k refl c.loop-k.invariant.is c.loop-k.invariant.below

pub overflow_mul-sum : goal.overflow_mul-sum
overflow_mul-sum c = let m = (turn c).fits in omega arith

pub overflow_add-sum : goal.overflow_add-sum
overflow_add-sum c = let m = (turn c).fits in omega arith

pub loop-k-preserved : goal.loop-k-preserved
loop-k-preserved c = let m = turn c in record { is = m.is; below = m.below }
