use Rattle.std.proofs.Common.{arith, rules}
use Rattle.reception_file.specs.Pick.{Picked}
use Rattle.reception_file.proofs.Again.{written_again}
use Rattle.reception_file.proofs.picking.pick.Goals as goal

pub returns-clause-written_again : goal.returns-clause-written_again
returns-clause-written_again g c =
    let p : Picked g.S.Sample g.S.Stored c.args.bytes.now c.args.reception c.from.result c.pick.new.memory = search rules in
    written_again g.S.Sample g.S.Stored c.args.bytes.now (λ i. omega (arith, c.type_inv.bytes i)) c.args.reception c.from.result c.pick.new.memory p
