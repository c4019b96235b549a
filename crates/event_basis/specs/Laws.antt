-- Laws of what the code of events relies on, and one of what is left of the least task's way.
use Rattle.std.specs.Prelude.{◌+◌, ℕ, Bool, List}
use Rattle.guest_image.specs.ImageValue.{ImageValue}
use Rattle.place_policy.specs.Policy.{Policy}
use Rattle.rv_core.specs.LegValue.{LegValue}
use Rattle.event_law.specs.spec_state.declared.task.Task.{Task}
use Rattle.event_law.specs.spec_state.View.{View}
use Rattle.event_law.specs.spec_state.Aborts.{Aborts, OnlyNode}
use Rattle.event_law.specs.spec_state.Changes.{TakesLeg}
use Rattle.event_law.specs.spec_state.Least.{IsFirm, IsTheLeast}
use Rattle.event_law.specs.spec_state.Queries.{IsLeastIdle}
use Rattle.event_law.specs.spec_state.Room.{Asker, Enqueuer, IsLeastAsker, IsMovable, IsVictim, MakesRoom}
use Rattle.event_law.specs.event_def.declared.event.Event.{Event}
use Rattle.event_law.specs.event_def.declared.event.Reply.TheVariants as reply
use Rattle.event_law.specs.event_def.Advancing.{IsNextEvent, IsNoCommit}
use Rattle.event_law.specs.event_def.Book.{BookView}
use Rattle.event_law.specs.event_def.Causes.{AllCoresHeld, IsGranted}
use Rattle.event_law.specs.event_def.Events.{FreesCommit, FreesCore, IsGiven, Makes, TakesConflicts}
use Rattle.event_law.specs.event_def.Happens.{Happens}
use Rattle.event_law.specs.spec_law.Sound.{Sound}
use Rattle.event_basis.specs.Falling.{RestIsWithin}
use Rattle.event_basis.specs.Forcing.{LeavesIdle, LeavesRoom, RunsIfTask, TakesStill}

-- what an event forces for a running task of a tile: what conflicts with its access is aborted, a place of the commit
-- queue is freed, or room is made for its child
pub data IsForcedFor (tile id : ℕ) (task : Task) (old : View) (aborted : ℕ) (mid : View) : Type 0 where
  conflicts : (offset : ℕ) (write : Bool) → TakesConflicts task offset write old aborted mid
      → IsForcedFor tile id task old aborted mid
  frees_place : FreesCommit tile task old aborted mid → IsForcedFor tile id task old aborted mid
  room : (to : ℕ) → MakesRoom to (Enqueuer id) old aborted mid → IsForcedFor tile id task old aborted mid

-- in a sound view, what an event forces for a task that takes a leg leaves it as it was, with its leg and what it
-- asks for
abbrev pub TakerStays : Type 0
TakerStays =
    (image : ImageValue) (old : View) (tile core id : ℕ) (leg : LegValue) (task : Task) (aborted : ℕ) (mid : View)
    → Sound image old
    → TakesLeg old tile core leg id task → IsForcedFor tile id task old aborted mid
    → TakesStill image tile core leg id task old mid

-- what is forced for a core leaves the least idle task of its tile so, where it is the least task wherever no core is
-- free
abbrev pub IdleStays : Type 0
IdleStays =
    (image : ImageValue) (old : View) (tile id : ℕ) (task : Task) (aborted : ℕ) (mid : View)
    → Sound image old → IsLeastIdle old tile id task
    → (AllCoresHeld old tile → IsTheLeast old id) → FreesCore tile old aborted mid
    → LeavesIdle image tile id task old mid

-- what makes room leaves room in a sound view
abbrev pub RoomIsLeft : Type 0
RoomIsLeft =
    (image : ImageValue) (tile : ℕ) (asker : Asker) (old : View) (aborted : ℕ) (mid : View)
    → Sound image old → RunsIfTask old asker
    → MakesRoom tile asker old aborted mid → LeavesRoom image tile old mid

-- once a firm victim is aborted for a requester that is the least task, it is idle and firm, so it moves
abbrev pub VictimMoves : Type 0
VictimMoves =
    (image : ImageValue) (tile : ℕ) (asker : Asker) (old : View) (v : ℕ) (task : Task)
    → Sound image old → RunsIfTask old asker
    → IsLeastAsker old tile asker → IsVictim old tile asker v task → IsFirm old task → (aborted : ℕ) (mid : View)
    → Aborts (OnlyNode v) old aborted mid
    → IsMovable mid tile v

-- a granted event that is made leaves a sound view, whatever taps there are
abbrev pub MadeIsSound : Type 0 → Type 0
MadeIsSound N =
    (image : ImageValue) (old : BookView) (event : Event N) (aborted : ℕ) (new : View) (placers : List Policy)
    → IsGiven image old.view.settings event
    → Sound image old.view → IsGranted old event → Makes old event aborted new placers → Sound image new

-- each event for the least task but its commit brings the bound of what is left down by one
abbrev pub BoundFalls : Type 0 → Type 0
BoundFalls N =
    (image : ImageValue) (old new : BookView) (event : Event N) (aborted left : ℕ)
    → Sound image old.view → IsNextEvent image old.view event
    → IsNoCommit event → Happens old event reply.Ok aborted new → RestIsWithin old.view (left + 1)
    → RestIsWithin new.view left
