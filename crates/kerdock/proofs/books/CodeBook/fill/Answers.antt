use Rattle.std.proofs.Common.{◌≡◌, ℕ, ◌-◌, ◌≤◌, length, take, replicate, sym, ◌∙◌, subst, arith, rules, length-take-le}
use Rattle.std.proofs.lemmas.List.{get_or-take, get_or_append_left}
use Rattle.std.proofs.lemmas.List.Edits.{length-between}
use Rattle.kerdock.specs.Code.{period}
use Rattle.kerdock.specs.Table.{row_of}
use Rattle.kerdock.proofs.RowFacts.{row_facts}
use Rattle.kerdock.proofs.Fills.{past_front}
use Rattle.kerdock.proofs.Places.{placed, past_places}
use Rattle.kerdock.proofs.books.CodeBook.fill.Goals as goal

pub slice_bounds-place-items-end : goal.slice_bounds-place-items-end
slice_bounds-place-items-end c = let f = row_facts c.args.code.now.row in omega arith

pub slice_bounds-copy_from_slice-end : goal.slice_bounds-copy_from_slice-end
slice_bounds-copy_from_slice-end c = let f = row_facts c.args.code.now.row in omega arith

pub returns : goal.returns
returns c =
    let row = row_of c.args.code.now.row.degree in
    let f = row_facts c.args.code.now.row in
    let n = c.args.code.now.row.length in
    let more : n - 1 ≤ c.loop-j.j = subst (λ (x : ℕ). x ≤ c.loop-j.j) (length-between {X = ℕ} (replicate 128 0) 1 n f.fits) c.loop-j-test.false in
    let long : length c.loop-j.place-items ≡ period row =
    c.loop-j.auto.place-items ∙ length-between {X = ℕ} (replicate 128 0) 1 n f.fits ∙ sym f.round in
    let once = take (n - 1) c.args.code.now.traces in
    let whole : length c.args.code.now.traces ≡ 134 = search rules in
    let short : length once ≡ n - 1 = length-take-le (n - 1) c.args.code.now.traces (omega arith) in
    record {
      traces = λ k h. rw c.copy_from_slice.ensures.after
          (get_or_append_left once _ 0 k (omega arith) ∙ get_or-take (n - 1) c.args.code.now.traces k 0 (omega arith) ∙ c.args.code.now.filled k (omega arith));
      past_traces = λ k h. rw c.copy_from_slice.ensures.after (past_front once 127 (n - 1) k (omega arith));
      places = placed row c.loop-j.place-items _ long (λ k h. c.loop-j.invariant k (omega arith));
      past_places = past_places row c.loop-j.place-items 127 (n - 1) long (omega arith);
    }
