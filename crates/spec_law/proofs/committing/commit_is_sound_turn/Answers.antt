use Rattle.spec_law.proofs.committing.commit_is_sound_turn.Goals as goal
use Rattle.spec_law.proofs.Commits.Sound.{commit_is_sound_turn}

pub returns : goal.returns
returns c = commit_is_sound_turn
