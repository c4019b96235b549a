use Rattle.resume_image.proofs.Creators.{creators_are_turns}
use Rattle.resume_image.proofs.joining.creators_are_turns.Goals as goal

pub returns : goal.returns
returns c = creators_are_turns
