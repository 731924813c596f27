use Rattle.std.proofs.Common.{refl}
use lib.Count.{ones, ones_in}
use Rattle.std.specs.Fmt.{digits}
use Rattle.std.specs.Int.{int_wrap}
use Rattle.samples.specs.Passes.{after}
use Rattle.samples.proofs.examples.examples_stand.Goals as goal

pub returns : goal.returns
unfolding ones ones_in int_wrap digits after
returns c = record { count = refl; all = refl }
