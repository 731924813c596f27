-- A verdict that is out.
--   Out   the bay is open, and the verdict is the one that it waits for
--   Owed  what a decision delivers is out
use Rattle.std.specs.Prelude.{◌≡◌, false, Some, Ok, Err, Result}
use Rattle.bay_rules.specs.declared.denial.Denial.{Denial}
use Rattle.bay_calls.specs.declared.verdict.Verdict.{Verdict as Token}
use Rattle.bay_rules.specs.Lived.{State}
use Rattle.bay_calls.specs.Seen.{five}

abbrev pub Out : State → Token → Type 0
Out b v = (b.closed ≡ false) × (b.noted ≡ Some (five v.numbers))

abbrev pub Owed : State → Result Token Denial → Type 0
Owed b (Ok v) = Out b v
Owed b (Err e) = Unit {0}
