-- Every row of the table passes the test, by computation.
use Rattle.std.proofs.Common.{T}
use Rattle.kerdock.specs.Table.{rows}
use Rattle.kerdock.proofs.Check.{all_check}

pub computed : T (all_check rows)
computed = tt
