-- The pending tasks of a sound view.
use Rattle.std.specs.Prelude.{List, IsPermutation}
use Rattle.std.specs.List.Sorted.{IsSortedBy}
use Rattle.guest_image.specs.ImageValue.{ImageValue}
use Rattle.spec_law.specs.spec_state.declared.pending.Pending.{Pending}
use Rattle.spec_law.specs.spec_state.View.{View}
use Rattle.spec_law.specs.spec_state.Pendings.{pending_before, pendings_in, ArePendings}
use Rattle.spec_law.specs.Sound.{Sound}

-- the tasks that pend in a sound view, sorted by their names, are those of the serial machine's bags
abbrev pub PendingsAreSerial : Type 0
PendingsAreSerial =
    (image : ImageValue) (view : View) (sound : Sound image view) (pendings : List Pending)
    → IsPermutation (pendings_in view) pendings → IsSortedBy pending_before pendings
    → ArePendings sound.serial.stack pendings
