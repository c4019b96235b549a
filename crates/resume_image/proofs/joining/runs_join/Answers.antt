use Rattle.resume_image.proofs.Joined.{runs_join}
use Rattle.resume_image.proofs.joining.runs_join.Goals as goal

pub returns : goal.returns
returns c = runs_join
