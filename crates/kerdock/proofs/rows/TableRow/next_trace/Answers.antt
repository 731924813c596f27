use Rattle.std.proofs.Common.{◌≡◌, ℕ, ◌*◌, ◌%◌, ◌<◌, ◌≤◌, List, length, get_or, ap, ◌∙◌, arith, rules}
use Rattle.std.proofs.lemmas.Iterator.{YieldsList-from_slice, YieldsList-from_zip, YieldsList-from_map}
use Rattle.std.proofs.lemmas.Iterator.Adapters.{serves_from_places}
use Rattle.std.proofs.lemmas.Iterator.Consumers.{YieldsList-at, sum_by_from_yields_List, fits_by_from_yields_list}
use Rattle.std.proofs.lemmas.List.{get_or_default}
use Rattle.std.proofs.lemmas.Slice.Zip.{length-zip, get_or-zip}
use Rattle.std.specs.List.{zip, sum_by}
use Rattle.kerdock.specs.Code.{sum_to}
use Rattle.kerdock.specs.declared.rows.TableRow.{TableRow}
use Rattle.kerdock.proofs.RowFacts.{row_facts, small_product}
use Rattle.kerdock.proofs.Sums.{products, sum_of_products, sum_most}
use Rattle.kerdock.proofs.rows.TableRow.next_trace.Goals as goal

-- a row's coefficients beside as many traces
module _ (r : TableRow) (before : List ℕ) (long : length before ≡ r.degree) (small : (k : ℕ) → k < r.degree → get_or before k 0 < 4) where
  product_at : (x y k : ℕ) → k < length (zip r.rule.now before) → ◌≡◌ {A = ℕ × ℕ} (x, y) (get_or (zip r.rule.now before) k (x, y)) → x * y ≤ 9
  product_at x y k b e =
      let f = row_facts r in
      let z = length-zip r.rule.now before in
      let rules : k < length r.rule.now = omega (arith, f.rules) in
      let traces : k < length before = omega (arith, f.rules) in
      let at = e ∙ get_or-zip r.rule.now before k (x, y) rules traces in
      let rule = ap (λ (p : ℕ × ℕ). p.0) at ∙ get_or_default r.rule.now k x 0 rules in
      let trace = ap (λ (p : ℕ × ℕ). p.1) at ∙ get_or_default before k y 0 traces in
      small_product x y (rw rule (f.rule k)) (rw trace (small k (omega arith)))

  total_is : sum_by (λ (p : ℕ × ℕ). p.0 * p.1) (zip r.rule.now before) ≡ sum_to (products r.rule.now before) r.degree
  total_is =
      let f = row_facts r in
      sum_of_products r.rule.now before (omega (arith, f.rules)) ∙ ap (sum_to (products r.rule.now before)) f.rules

  total_fits : sum_by (λ (p : ℕ × ℕ). p.0 * p.1) (zip r.rule.now before) < 256
  total_fits =
      let f = row_facts r in
      let e = total_is in
      let most = sum_most 9 (products r.rule.now before) r.degree (λ k b. small_product _ _ (f.rule k) (small k b)) in
      omega arith

pub sum-requires-clause-can : goal.sum-requires-clause-can
sum-requires-clause-can c =
    let row = c.args.self.now in
    let before = c.args.before.now in (
      (tt, tt),
      serves_from_places (YieldsList-at c.map.ensures.source (YieldsList-from_zip (YieldsList-at c.zip.ensures.first (YieldsList-from_slice row.rule.now cc)) (YieldsList-from_slice before cc)))
          (λ x q k. search rules)
          (λ x k b e. let p = product_at row before c.requires.long c.requires.small x.0.now x.1.now k b e in search rules),
    )

pub sum-requires-clause-fits : goal.sum-requires-clause-fits
sum-requires-clause-fits c =
    let row = c.args.self.now in
    let before = c.args.before.now in
    fits_by_from_yields_list (λ (p : ℕ × ℕ). p.0 * p.1) (zip row.rule.now before) _ 256
    (YieldsList-from_map _ (λ (p : ℕ × ℕ). p.0 * p.1)
    (YieldsList-at c.map.ensures.source (YieldsList-from_zip (YieldsList-at c.zip.ensures.first (YieldsList-from_slice row.rule.now cc)) (YieldsList-from_slice before cc)))
    c.map.ensures.closure (λ x r q k. search rules)) (total_fits row before c.requires.long c.requires.small)

pub returns : goal.returns
returns c =
    let row = c.args.self.now in
    let before = c.args.before.now in
    ap (λ (x : ℕ). x % 4)
    (sum_by_from_yields_List (λ (p : ℕ × ℕ). p.0 * p.1) (zip row.rule.now before) _ c.sum.result c.sum.ensures.ran
    (YieldsList-from_map _ (λ (p : ℕ × ℕ). p.0 * p.1)
    (YieldsList-at c.map.ensures.source (YieldsList-from_zip (YieldsList-at c.zip.ensures.first (YieldsList-from_slice row.rule.now cc)) (YieldsList-from_slice before cc)))
    c.map.ensures.closure (λ x r q k. search rules)) ∙ total_is row before c.requires.long c.requires.small)
