use Rattle.spec_law.proofs.Aborted.KeptSizes.{abort_keeps_sizes}
use Rattle.spec_law.proofs.aborting.abort_keeps_sound_sizes.Goals as goal

pub returns : goal.returns
returns c = λ firsts old aborted new. abort_keeps_sizes
