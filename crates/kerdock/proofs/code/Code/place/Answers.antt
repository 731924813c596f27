use Rattle.std.proofs.Common.{◌≡◌, ℕ, ◌+◌, ◌*◌, ◌%◌, ◌^◌, ◌<◌, ◌≤◌, List, length, get_or, sym, ap, ◌∙◌, ap₂, mod-lt, arith, rules}
use native.Mathlib.Nat.{pow-le-pow_right}
use Rattle.std.proofs.lemmas.Iterator.{YieldsList-from_slice, YieldsList-from_map}
use Rattle.std.proofs.lemmas.Iterator.Adapters.{serves_from_places}
use Rattle.std.proofs.lemmas.Iterator.Consumers.{YieldsList-at, YieldsList-from_enumerate, sum_by_from_yields_List, fits_by_from_yields_list}
use Rattle.std.specs.List.{enumerate_from, sum_by}
use Rattle.kerdock.specs.Code.{t, sum_to, place}
use Rattle.kerdock.specs.Table.{row_of}
use Rattle.kerdock.specs.declared.rows.TableRow.{TableRow}
use Rattle.kerdock.proofs.Sums.{sum_of_counted, counted, sum_same}
use Rattle.kerdock.proofs.RowFacts.{row_facts}
use Rattle.kerdock.proofs.Digits.{made_below}
use Rattle.kerdock.proofs.Weights.{bit_moved}
use Rattle.kerdock.proofs.code.Code.place.Goals as goal

-- a trace's lowest bit, moved up to its place
abbrev moved : ℕ × ℕ → ℕ
moved p = p.1 % 2 * 2 ^ p.0 % 256

module _ (r : TableRow) (xs : List ℕ) (j : ℕ) (long : length xs ≡ r.degree) (each : (k : ℕ) → k < r.degree → get_or xs k 0 ≡ t (row_of r.degree) (j + k)) where
  total_is : sum_by moved (enumerate_from 0 xs) ≡ sum_to (λ k. 2 ^ k * (t (row_of r.degree) (j + k) % 2)) r.degree
  total_is =
      let row = row_of r.degree in
      let f = row_facts r in
      sum_of_counted moved xs 0
      ∙ ap (sum_to (λ k. moved (0 + k, get_or xs k 0))) long
      ∙ sum_same (λ k. moved (0 + k, get_or xs k 0)) (λ k. 2 ^ k * (t row (j + k) % 2)) r.degree (λ k h.
      ap₂ (λ (x y : ℕ). moved (x, y)) (omega arith) (each k h)
      ∙ bit_moved (t row (j + k) % 2) k (mod-lt _ (omega arith)) (omega arith))

  total_fits : sum_by moved (enumerate_from 0 xs) < 256
  total_fits =
      let f = row_facts r in
      let below : sum_to (λ k. 2 ^ k * (t (row_of r.degree) (j + k) % 2)) r.degree < 2 ^ r.degree = made_below 2 (λ k. t (row_of r.degree) (j + k) % 2) r.degree (λ k h. mod-lt _ (omega arith)) in
      let few : 2 ^ r.degree ≤ 2 ^ 7 = pow-le-pow_right {n = 2} (omega arith) f.seven in
      let e = total_is in omega arith

pub sum-requires-clause-can : goal.sum-requires-clause-can
sum-requires-clause-can c =
    let r = c.args.self.now.row in
    let xs = c.traces_from.result.now in
    let f = row_facts r in
    let long = c.traces_from.ensures.long in (
      (tt, tt, search rules),
      serves_from_places
          (YieldsList-at c.map.ensures.source
          (YieldsList-from_enumerate (YieldsList-at c.enumerate.ensures.source (YieldsList-from_slice xs cc)) c.enumerate.ensures.count))
          (λ x q k. search rules)
          (λ x k b e. let p = counted xs x.1.now x.0 k b e in let few : x.0 < 7 = omega arith in search rules),
    )

pub sum-requires-clause-fits : goal.sum-requires-clause-fits
sum-requires-clause-fits c =
    let r = c.args.self.now.row in
    let xs = c.traces_from.result.now in
    fits_by_from_yields_list moved (enumerate_from 0 xs) _ 256
    (YieldsList-from_map _ moved
    (YieldsList-at c.map.ensures.source
    (YieldsList-from_enumerate (YieldsList-at c.enumerate.ensures.source (YieldsList-from_slice xs cc)) c.enumerate.ensures.count))
    c.map.ensures.closure (λ x r q k. search rules)) (total_fits r xs c.args.j c.traces_from.ensures.long c.traces_from.ensures.each)

pub returns : goal.returns
unfolding place
returns c =
    let r = c.args.self.now.row in
    let xs = c.traces_from.result.now in
    let f = row_facts r in
    sum_by_from_yields_List moved (enumerate_from 0 xs) _ c.sum.result c.sum.ensures.ran
    (YieldsList-from_map _ moved
    (YieldsList-at c.map.ensures.source
    (YieldsList-from_enumerate (YieldsList-at c.enumerate.ensures.source (YieldsList-from_slice xs cc)) c.enumerate.ensures.count))
    c.map.ensures.closure (λ x r q k. search rules))
    ∙ total_is r xs c.args.j c.traces_from.ensures.long c.traces_from.ensures.each
    ∙ ap (sum_to (λ k. 2 ^ k * (t (row_of r.degree) (c.args.j + k) % 2))) (sym f.deg)
