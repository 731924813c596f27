use Rattle.std.proofs.Common.{refl, arith}
use Rattle.decoder.proofs.Writes.{zeros_below}
use Rattle.decoder.proofs.tables.indices.Goals as goal

pub loop-i-init : goal.loop-i-init
loop-i-init c = record { long = refl; below = λ p. zeros_below c.args.n 256 p c.requires.some; found = λ row s e b i h. absurd (omega arith) }
