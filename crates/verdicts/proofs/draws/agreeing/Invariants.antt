use Rattle.std.proofs.Common.{◌≤◌}
use Rattle.verdicts.proofs.draws.agreeing.Given as goal

abbrev pub invariant-loop : goal.invariant-loop
invariant-loop g l = l.count ≤ l.counter
