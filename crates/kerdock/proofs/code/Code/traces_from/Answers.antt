use Rattle.std.proofs.Common.{arith}
use Rattle.kerdock.proofs.RowFacts.{row_facts}
use Rattle.kerdock.proofs.code.Code.traces_from.Goals as goal

pub overflow_add-result : goal.overflow_add-result
overflow_add-result c = let f = row_facts c.args.self.now.row in omega arith

pub slice_bounds-result-end : goal.slice_bounds-result-end
slice_bounds-result-end c = let f = row_facts c.args.self.now.row in omega arith
