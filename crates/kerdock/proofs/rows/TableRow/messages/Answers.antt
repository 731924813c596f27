use Rattle.std.proofs.Common.{◌*◌, ◌≤◌, mul-le-mul, arith}
use Rattle.kerdock.proofs.RowFacts.{row_facts}
use Rattle.kerdock.proofs.rows.TableRow.messages.Goals as goal

pub overflow_cast-length : goal.overflow_cast-length
overflow_cast-length c = let f = row_facts c.args.self.now in omega arith

pub overflow_mul-result : goal.overflow_mul-result
overflow_mul-result c = let f = row_facts c.args.self.now in omega arith

pub overflow_mul-result-2 : goal.overflow_mul-result-2
overflow_mul-result-2 c =
    let n = c.args.self.now.length in
    let f = row_facts c.args.self.now in
    let four : 4 * n ≤ 512 = omega arith in
    let q : 4 * n * n ≤ 512 * 128 = mul-le-mul four f.fits in omega arith
