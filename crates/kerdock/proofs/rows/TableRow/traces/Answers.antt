use Rattle.std.proofs.Common.{◌≡◌, ℕ, ◌+◌, ◌-◌, ◌<◌, length, take, replicate, sym, ap, ◌∙◌, arith, rules, length-take-le}
use Rattle.std.proofs.lemmas.List.{get_or_append_left}
use Rattle.std.proofs.lemmas.List.Edits.{fill_by_more, get_or-between, length-between}
use Rattle.kerdock.specs.Code.{t}
use Rattle.kerdock.specs.Table.{row_of}
use Rattle.kerdock.specs.declared.rows.TableRow.{TableRow}
use Rattle.kerdock.proofs.RowFacts.{row_facts}
use Rattle.kerdock.proofs.rows.TableRow.traces.Goals as goal

pub slice_bounds-traces-end : goal.slice_bounds-traces-end
slice_bounds-traces-end c = let f = row_facts c.args.self.now in omega arith

-- the first traces fit into an array
front_long : (r : TableRow) → length (take (length r.first.now) (replicate {A = ℕ} 134 0)) ≡ length r.first.now
front_long r = let f = row_facts r in length-take-le (length r.first.now) (replicate {A = ℕ} 134 0) (omega arith)

pub copy_from_slice-requires : goal.copy_from_slice-requires
copy_from_slice-requires c = front_long c.args.self.now

pub slice_bounds-copy_from_slice-end : goal.slice_bounds-copy_from_slice-end
slice_bounds-copy_from_slice-end c = sym (front_long c.args.self.now)

pub loop-j-init : goal.loop-j-init
loop-j-init c =
    let f = row_facts c.args.self.now in
    let first = c.args.self.now.first.now in
    rw c.copy_from_slice.ensures.after (λ k b. get_or_append_left first _ 0 k b ∙ f.first k (omega arith))

pub overflow_add-j-end : goal.overflow_add-j-end
overflow_add-j-end c = let f = row_facts c.args.self.now in omega arith

pub slice_bounds-next_trace-end : goal.slice_bounds-next_trace-end
slice_bounds-next_trace-end c = let f = row_facts c.args.self.now in omega arith

pub next_trace-requires : goal.next_trace-requires
next_trace-requires c =
    let f = row_facts c.args.self.now in
    let s = c.loop-j.j - length c.args.self.now.first.now in
    record {
      long = length-between c.loop-j.traces s c.loop-j.j (omega arith) ∙ (omega arith);
      small = λ k b.
          let e = get_or-between c.loop-j.traces s c.loop-j.j k 0 (omega arith) ∙ c.loop-j.invariant (s + k) (omega arith) in
          let d = f.sound.symbols (s + k) in omega arith;
    }

pub bounds-traces-j : goal.bounds-traces-j
bounds-traces-j c = let f = row_facts c.args.self.now in omega arith

pub loop-j-preserved : goal.loop-j-preserved
loop-j-preserved c =
    let r = c.args.self.now in
    let f = row_facts r in
    let s = c.loop-j.j - length r.first.now in
    let e : s + r.degree ≡ c.loop-j.j = omega arith in
    let v : c.next_trace.result ≡ t (row_of r.degree) c.loop-j.j =
    c.next_trace.ensures ∙ f.next _ s (λ k b. get_or-between c.loop-j.traces s c.loop-j.j k 0 (omega arith) ∙ c.loop-j.invariant (s + k) (omega arith)) ∙ ap (t (row_of r.degree)) e in
    rw v (fill_by_more (t (row_of r.degree)) c.loop-j.traces c.loop-j.j 0 (let b : c.loop-j.j < length c.loop-j.traces = search rules in b) c.loop-j.invariant)

pub returns : goal.returns
returns c = let f = row_facts c.args.self.now in λ j h. c.loop-j.invariant j (omega arith)
