-- The parts of the samples below i, and those below k of sample i, are written.
use Rattle.std.proofs.Common.{◌+◌, ◌*◌}
use Rattle.reception_file.specs.Partly.{Laid}
use Rattle.reception_file.specs.Write.{part_of}
use Rattle.reception_file.proofs.writing.write_parts.Given as goal

abbrev pub invariant-loop-i : goal.invariant-loop-i
invariant-loop-i g l = Laid (part_of g.S.Sample g.S.Stored l.samples) (l.i * g.S.Stored.width) l.fn.bytes l.bytes

abbrev pub invariant-loop-k : goal.invariant-loop-k
invariant-loop-k g l = Laid (part_of g.S.Sample g.S.Stored l.samples) (l.i * g.S.Stored.width + l.k) l.fn.bytes l.bytes
