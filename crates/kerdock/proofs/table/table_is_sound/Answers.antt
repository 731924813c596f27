use Rattle.kerdock.proofs.SoundRows.{table_sound}
use Rattle.kerdock.proofs.table.table_is_sound.Goals as goal

pub returns : goal.returns
returns c = table_sound
