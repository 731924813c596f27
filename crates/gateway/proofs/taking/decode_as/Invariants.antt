-- The receptions below number are taken.
use Rattle.bay_calls.specs.Seen.{state}
use Rattle.gateway.specs.Partly.{Took}
use Rattle.gateway.proofs.taking.decode_as.Given as goal

abbrev pub invariant-loop-number : goal.invariant-loop-number
invariant-loop-number g l = Took g.S.Sample g.S.Stored l.file.bytes.now l.number (state g.S.Sample l.bay)
