use Rattle.std.proofs.Common.{◌≡◌, ℕ, suc, ◌+◌, ◌-◌, ◌*◌, ◌%◌, ◌<◌, ◌≤◌, List, length, get_or, sym, ap, ◌∙◌, ap₂, mod-lt, arith, rules}
use Rattle.std.proofs.lemmas.Iterator.{YieldsList-from_slice, YieldsList-from_map}
use Rattle.std.proofs.lemmas.Iterator.Adapters.{serves_from_places}
use Rattle.std.proofs.lemmas.Iterator.Consumers.{YieldsList-at, YieldsList-from_enumerate, sum_by_from_yields_List, fits_by_from_yields_list}
use Rattle.std.specs.List.{enumerate_from, sum_by}
use Rattle.kerdock.specs.Code.{t, sum_to, digit}
use Rattle.kerdock.specs.Table.{row_of}
use Rattle.kerdock.specs.declared.rows.TableRow.{TableRow}
use Rattle.kerdock.proofs.Sums.{sum_of_counted, counted, sum_same, sum_most}
use Rattle.kerdock.proofs.RowFacts.{row_facts, small_product}
use Rattle.kerdock.proofs.Symbols.{digit_first, symbol_first, symbol_after}
use Rattle.kerdock.proofs.code.Code.symbol.Goals as goal

pub returns-then-index-eq0 : goal.returns-then-index-eq0
returns-then-index-eq0 c = c.digit-first.ensures ∙ sym (digit_first c.args.message) ∙ symbol_first (row_of c.args.self.now.row.degree) c.args.message c.args.index (omega arith)

-- a digit times a trace
abbrev term : ℕ → ℕ × ℕ → ℕ
term m p = digit m (p.0 + 1) * p.1

module _ (r : TableRow) (xs : List ℕ) (j : ℕ) (long : length xs ≡ r.degree) (each : (k : ℕ) → k < r.degree → get_or xs k 0 ≡ t (row_of r.degree) (j + k)) (m : ℕ) where
  total_is : sum_by (term m) (enumerate_from 0 xs) ≡ sum_to (λ k. digit m (suc k) * t (row_of r.degree) (j + k)) r.degree
  total_is =
      sum_of_counted (term m) xs 0
      ∙ ap (sum_to (λ k. term m (0 + k, get_or xs k 0))) long
      ∙ sum_same (λ k. term m (0 + k, get_or xs k 0)) (λ k. digit m (suc k) * t (row_of r.degree) (j + k)) r.degree (λ k h.
      ap₂ (λ (x y : ℕ). digit m x * y) (omega arith) (each k h))

  total_fits : sum_by (term m) (enumerate_from 0 xs) ≤ 63
  total_fits =
      let f = row_facts r in
      let most = sum_most 9 (λ k. digit m (suc k) * t (row_of r.degree) (j + k)) r.degree (λ k h. small_product _ _ (mod-lt _ (omega arith)) (f.sound.symbols (j + k))) in
      let e = total_is in omega arith

pub sum-others-requires-clause-can : goal.sum-others-requires-clause-can
sum-others-requires-clause-can c =
    let r = c.args.self.now.row in
    let xs = c.traces_from.result.now in
    let j = c.args.index - 1 in
    let f = row_facts r in
    let long = c.traces_from.ensures.long in (
      (tt, tt, search rules),
      serves_from_places
          (YieldsList-at c.map.ensures.source
          (YieldsList-from_enumerate (YieldsList-at c.enumerate.ensures.source (YieldsList-from_slice xs cc)) c.enumerate.ensures.count))
          (λ x q k. search rules)
          (λ x k b e.
          let p = counted xs x.1.now x.0 k b e in
          let few : x.0 < 7 = omega arith in
          let trace : x.1.now < 4 = rw (p.0 ∙ c.traces_from.ensures.each x.0 (omega arith)) (f.sound.symbols (j + x.0)) in
          let product : digit c.args.message (x.0 + 1) * x.1.now ≤ 9 = small_product _ _ (mod-lt _ (omega arith)) trace in
          search rules),
    )

pub sum-others-requires-clause-fits : goal.sum-others-requires-clause-fits
sum-others-requires-clause-fits c =
    let xs = c.traces_from.result.now in
    let most = total_fits c.args.self.now.row xs (c.args.index - 1) c.traces_from.ensures.long c.traces_from.ensures.each c.args.message in
    fits_by_from_yields_list (term c.args.message) (enumerate_from 0 xs) _ 256
    (YieldsList-from_map _ (term c.args.message)
    (YieldsList-at c.map.ensures.source
    (YieldsList-from_enumerate (YieldsList-at c.enumerate.ensures.source (YieldsList-from_slice xs cc)) c.enumerate.ensures.count))
    c.map.ensures.closure (λ x r q k. search rules)) (omega arith)

others_is : (c : goal.After-sum-others) → (c.sum-others.result ≡ sum_to (λ k. digit c.args.message (suc k) * t (row_of c.args.self.now.row.degree) (c.args.index - 1 + k)) c.args.self.now.row.degree)
    × (c.sum-others.result ≤ 63)
others_is c =
    let r = c.args.self.now.row in
    let xs = c.traces_from.result.now in
    let e = sum_by_from_yields_List (term c.args.message) (enumerate_from 0 xs) _ c.sum-others.result c.sum-others.ensures.ran
    (YieldsList-from_map _ (term c.args.message)
    (YieldsList-at c.map.ensures.source
    (YieldsList-from_enumerate (YieldsList-at c.enumerate.ensures.source (YieldsList-from_slice xs cc)) c.enumerate.ensures.count))
    c.map.ensures.closure (λ x r q k. search rules)) in
    let most = total_fits r xs (c.args.index - 1) c.traces_from.ensures.long c.traces_from.ensures.each c.args.message in
    (e ∙ total_is r xs (c.args.index - 1) c.traces_from.ensures.long c.traces_from.ensures.each c.args.message, omega arith)

pub overflow_add-result : goal.overflow_add-result
overflow_add-result c = let o = others_is c in omega arith

pub returns : goal.returns
returns c =
    let f = row_facts c.args.self.now.row in
    let row = row_of c.args.self.now.row.degree in
    let o = others_is c in
    ap₂ (λ (x y : ℕ). (x + y) % 4) c.digit-first.ensures
    (o.0 ∙ ap (sum_to (λ k. digit c.args.message (suc k) * t row (c.args.index - 1 + k))) (sym f.deg))
    ∙ symbol_after row c.args.message c.args.index (omega arith)
