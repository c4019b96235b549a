-- A coalescing keeps a view sound.
use Rattle.std.proofs.Common.{length, is_some, unwrap_or}
use Rattle.spec_law.specs.Keeping.{CoalesceStaysSound}
use Rattle.spec_law.proofs.Moves.MovingBags.{names_of, heirs_of}
use Rattle.spec_law.proofs.Moves.MovingSound.{moved_sound}
use Rattle.spec_law.proofs.Moves.CoalesceBags.{coalesced_bags}
use Rattle.spec_law.proofs.Moves.CoalesceMoves.{inside, idle_is_off, coalesce_moves}
use Rattle.spec_law.proofs.Moves.CoalesceSizes.{coalesce_sizes}

-- tasks move, sizes are kept, and the bags find the same free tasks
pub coalesce_stays_sound : CoalesceStaysSound
coalesce_stays_sound image old new sound tile c =
    moved_sound image old new sound
    (coalesce_moves image old new sound.heir sound.serial tile sound.tasks sound.sizes c)
    c.frame
    (coalesce_sizes image old new sound.heir sound.serial tile sound.tasks sound.order sound.sizes c)
    (coalesced_bags (length old.history) (unwrap_or sound.heir 0) (is_some sound.heir) tile old new c
    (inside image old new sound.heir sound.serial tile sound.tasks sound.sizes c)
    (idle_is_off image old new sound.heir sound.serial tile sound.tasks sound.sizes c)
    (names_of old sound.heir sound.is_heir) (heirs_of old sound.heir sound.is_heir))
