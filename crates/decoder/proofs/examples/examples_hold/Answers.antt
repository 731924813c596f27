use Rattle.decoder.proofs.ExamplesStand.{examples_stand}
use Rattle.decoder.proofs.examples.examples_hold.Goals as goal

pub returns : goal.returns
returns c = examples_stand
