use Rattle.std.proofs.Common.{◌≡◌, ℕ, ◌*◌, List, ◌++◌, length, take, drop, sym, ap, ◌∙◌, arith, rules}
use Rattle.std.proofs.lemmas.Result.{err_from_is_err_and}
use Rattle.reception_file.specs.Layout.{total, place_of}
use Rattle.reception_file.specs.Write.{part_of}
use Rattle.reception_file.proofs.Saying.{bytes_said, total_said}
use Rattle.reception_file.proofs.Places.{total_wide}
use Rattle.reception_file.proofs.Laying.{file, behind}
use Rattle.reception_file.proofs.Returning.{returned}
use Rattle.reception_file.proofs.writing.write.Goals as goal

pub returns-in_err-head-clause-writes : goal.returns-in_err-head-clause-writes
returns-in_err-head-clause-writes g c =
    let p = err_from_is_err_and c.from_residual.result c.from_residual.ensures.1 in
    rw (p.1, p.2) (c.in_err-head.ensures (length c.args.bytes.now), search rules)

pub returns : goal.returns
returns g c =
    let due = c.in_ok-head.ensures.0 in
    let says = c.in_ok-head.ensures.1 in
    let before = c.args.bytes.now in
    let head = ap (λ (l : List ℕ). l ++ drop 8 before) (c.copy_from_slice.ensures.after ∙ (c.to_bytes.ensures ∙ bytes_said c.in_ok-head.head _ _ _ says)) in
    let many : length c.args.samples.now * g.S.Stored.width ≡ total g.S.Stored.code c.args.degree c.args.count = total_wide g.S.Sample g.S.Stored due in
    let parts = part_of g.S.Sample g.S.Stored c.args.samples.now in
    let size : c.size-size.result ≡ place_of (length c.args.samples.now * g.S.Stored.width) = c.size-size.ensures ∙ ap place_of (total_said c.in_ok-head.head _ _ _ says ∙ sym many) in
    let whole = file g.S.Stored.code c.args.degree c.args.count _ many parts before _ c.write_parts.new.bytes (omega arith) head c.write_parts.ensures in
    record {
      writes = record {
        due = due;
        room = omega arith;
        size_is = size ∙ ap place_of many;
        file = rw size whole;
        behind = rw size (behind g.S.Stored.code c.args.degree c.args.count _ many parts before _ c.write_parts.new.bytes (omega arith) head c.write_parts.ensures);
      };
      comes_back = returned g.S.Sample g.S.Stored c.args.degree c.args.count c.args.samples.now due (take c.size-size.result c.write_parts.new.bytes) (rw size whole);
    }
