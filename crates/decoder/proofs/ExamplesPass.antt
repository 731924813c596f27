-- Every worked example passes its test, by computation.
use Rattle.std.proofs.Common.{T}
use Rattle.std.specs.Int.{int_wrap}
use Rattle.kerdock.specs.Code.{t, symbol, place}
use Rattle.kerdock.specs.Table.{row_of}
use Rattle.decoder.specs.Examples.{examples}
use Rattle.decoder.proofs.ExampleTests.{trace_list, all_pass}

pub computed : T (all_pass trace_list examples)
unfolding t symbol place row_of int_wrap
computed = tt
