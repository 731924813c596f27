use Rattle.std.proofs.Common.{arith}
use Rattle.reception_file.proofs.Chunks.{pairs_of}
use Rattle.reception_file.proofs.parts.parts_of.Goals as goal

pub returns-clause-parts : goal.returns-clause-parts
returns-clause-parts c = pairs_of c.args.bytes.now _ c.as_chunks.result.0.now c.as_chunks.ensures.front c.as_chunks.ensures.front_len

pub returns-clause-small : goal.returns-clause-small
returns-clause-small c = λ i. omega (arith, c.type_inv.bytes i)
