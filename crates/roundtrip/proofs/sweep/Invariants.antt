use Rattle.roundtrip.specs.Tallies.{IsAtMost}
use Rattle.roundtrip.proofs.sweep.Given as goal

abbrev pub invariant-loop-message : goal.invariant-loop-message
invariant-loop-message l = IsAtMost l.message l.tally
