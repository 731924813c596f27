use Rattle.decoder.proofs.Cosets.{cosets}
use Rattle.decoder.proofs.laws.cosets_stand.Goals as goal

pub returns : goal.returns
returns c = cosets
