use Rattle.spec_law.proofs.Aborted.KeptSound.{abort_for_room_is_sound}
use Rattle.spec_law.proofs.aborting.abort_for_room_is_sound.Goals as goal

pub returns : goal.returns
returns c = abort_for_room_is_sound
