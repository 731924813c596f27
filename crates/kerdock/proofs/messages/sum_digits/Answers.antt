use Rattle.std.proofs.Common.{◌≡◌, ℕ, ◌+◌, ◌*◌, ◌%◌, ◌^◌, ◌<◌, ◌≤◌, ap, ◌∙◌, mod-lt, arith, rules}
use native.Mathlib.Nat.{pow-le-pow_right}
use Rattle.std.proofs.lemmas.Iterator.{YieldsList-from_range, YieldsList-from_map, serves_from_Range}
use Rattle.std.proofs.lemmas.Iterator.Consumers.{sum_by_from_yields_List, fits_by_from_yields_list}
use Rattle.std.specs.List.{range_with_len, sum_by}
use Rattle.kerdock.specs.Code.{sum_to, digit}
use Rattle.kerdock.proofs.Sums.{sum_of_range, sum_same}
use Rattle.kerdock.proofs.Digits.{made_below}
use Rattle.kerdock.proofs.Weights.{digit_moved}
use Rattle.kerdock.proofs.messages.sum_digits.Goals as goal

-- digit k of the sum, and what the code makes of it
abbrev digit_of : ℕ → ℕ → ℕ → ℕ
digit_of m v k = (digit m k + digit v k) % 4

abbrev moved : ℕ → ℕ → ℕ → ℕ
moved m v k = digit_of m v k * 2 ^ (2 * k) % 4294967296

total_is : (m v n : ℕ) → n ≤ 8 → sum_by (moved m v) (range_with_len 0 n) ≡ sum_to (λ k. 4 ^ k * digit_of m v k) n
total_is m v n h =
    sum_of_range (moved m v) 0 n
    ∙ sum_same (λ k. moved m v (0 + k)) (λ k. 4 ^ k * digit_of m v k) n (λ k b. ap (moved m v) (omega arith) ∙ digit_moved (digit_of m v k) k (mod-lt _ (omega arith)) (omega arith))

total_fits : (m v n : ℕ) → n ≤ 8 → sum_by (moved m v) (range_with_len 0 n) < 2 ^ 32
total_fits m v n h =
    let below : sum_to (λ k. 4 ^ k * digit_of m v k) n < 4 ^ n = made_below 4 (digit_of m v) n (λ k b. mod-lt _ (omega arith)) in
    let few : 4 ^ n ≤ 4 ^ 8 = pow-le-pow_right {n = 4} (omega arith) h in
    let e = total_is m v n h in omega arith

pub sum-requires-clause-can : goal.sum-requires-clause-can
sum-requires-clause-can c = (
  tt,
  serves_from_Range (λ x q k. search rules) (λ x a b.
      let below : x < c.args.count = rw c.map.ensures.source at b in
      search rules),
)

pub sum-requires-clause-fits : goal.sum-requires-clause-fits
sum-requires-clause-fits c =
    fits_by_from_yields_list (moved c.args.first c.args.second) (range_with_len 0 c.args.count) _ (2 ^ 32)
    (YieldsList-from_map _ (moved c.args.first c.args.second)
    (YieldsList-from_range 0 c.args.count c.args.count c.map.ensures.source (omega arith))
    c.map.ensures.closure (λ x r q k. search rules)) (total_fits c.args.first c.args.second c.args.count c.requires)

pub returns : goal.returns
returns c =
    sum_by_from_yields_List (moved c.args.first c.args.second) (range_with_len 0 c.args.count) _ c.sum.result c.sum.ensures.ran
    (YieldsList-from_map _ (moved c.args.first c.args.second)
    (YieldsList-from_range 0 c.args.count c.args.count c.map.ensures.source (omega arith))
    c.map.ensures.closure (λ x r q k. search rules)) ∙ total_is c.args.first c.args.second c.args.count c.requires
