use Rattle.kerdock.proofs.Weights.{two_bits}
use Rattle.kerdock.proofs.messages.digit.Goals as goal

pub returns : goal.returns
returns c = rw (two_bits c.args.k)
