use Rattle.event_law.proofs.Openings.Opened.{opening_is_sound}
use Rattle.event_law.proofs.laws.opening_is_sound.Goals as goal

pub returns : goal.returns
returns c = opening_is_sound
