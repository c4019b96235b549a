-- A split keeps a view sound.
use Rattle.spec_law.specs.Keeping.{SplitStaysSound}
use Rattle.spec_law.proofs.Moves.MovingSound.{moved_sound}
use Rattle.spec_law.proofs.Moves.SplitMoves.{split_moves, split_bags}
use Rattle.spec_law.proofs.Moves.SplitSizes.{split_sizes}

-- tasks move, sizes are kept, and the bags find the same free tasks
pub split_stays_sound : SplitStaysSound
split_stays_sound image old new sound tile within free c =
    moved_sound image old new sound (split_moves old new tile sound.sizes c) c.frame
    (split_sizes old new sound.heir tile sound.order sound.sizes within free c)
    (split_bags old new tile sound.sizes c sound.heir sound.is_heir)
