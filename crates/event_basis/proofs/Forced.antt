-- What is forced leaves a view like the one before, and a running task that stays as it was takes its leg still.
use Rattle.std.proofs.Common.{ℕ, ◌≡◌, Bool, true, false, List, [], ◌∷◌, Some, refl, sym, ap, subst, ◌∙◌, length}
use Rattle.std.proofs.Common.{if◌then◌else◌}
use Rattle.guest_image.specs.ImageValue.{ImageValue}
use Rattle.memory_law.specs.Tasks.{Logged, log_of, undone_set}
use Rattle.rv_core.specs.LegValue.{LegValue}
use Rattle.task_request.specs.Requests.{request_at}
use Rattle.undo_log.specs.Undo.{undone}
use Rattle.undo_log.proofs.Proved.{length-undone}
use Rattle.event_law.specs.spec_state.declared.task.Status.{Status}
use Rattle.event_law.specs.spec_state.declared.task.Task.{Task}
use Rattle.event_law.specs.spec_state.View.{View, task_at}
use Rattle.event_law.specs.spec_state.Tasks.{context_of}
use Rattle.event_law.specs.spec_state.Groups.{logged_tasks}
use Rattle.event_law.specs.spec_state.Aborts.{Aborts, OnlyNode, is_marked}
use Rattle.event_law.specs.spec_state.Changes.{TakesLeg}
use Rattle.event_law.specs.spec_state.Room.{Asker, Coalesces, MakesRoom, queue_has_room, coalesces, aborts_victim}
use Rattle.event_law.specs.spec_state.Room.{aborts_creator}
use Rattle.event_law.specs.spec_state.Stored.{HasCore}
use Rattle.event_law.specs.spec_law.Sound.{Sound}
use Rattle.event_law.specs.event_def.Events.{FreesCommit}
use Rattle.event_law.specs.event_def.Events as events
use Rattle.event_basis.specs.Forcing.{IsLike, TakesStill}

-- memory has its length once logs are taken back
length_undone_set : (set : ℕ → Bool) (tasks : ℕ → Rattle.std.proofs.Common.Option Logged) (ids memory : List ℕ)
    → length (undone_set set tasks ids memory) ≡ length memory
length_undone_set set tasks [] memory = refl
length_undone_set set tasks (id ∷ ids) memory = by_member (set id) (length_undone_set set tasks ids memory)
  where
    by_member : (b : Bool) → length (undone_set set tasks ids memory) ≡ length memory
        → length (if b then undone (log_of (tasks id))
        (undone_set set tasks ids memory) else undone_set set tasks ids memory) ≡ length memory
    by_member true same = length-undone (log_of (tasks id)) (undone_set set tasks ids memory) ∙ same
    by_member false same = same

-- a view is like itself
pub like_itself : (view : View) → IsLike view view
like_itself view = record { settings = refl; version = refl; size = refl }

-- and one that is like another is like what that is like
pub like_on : (old mid new : View) → IsLike old mid → IsLike mid new → IsLike old new
like_on old mid new one two =
    record { settings = two.settings ∙ one.settings; version = two.version ∙ one.version; size = two.size ∙ one.size }

-- an abort
pub abort_like : (firsts : ℕ → Type 0) (old mid : View) (aborted : ℕ) → Aborts firsts old aborted mid → IsLike old mid
abort_like firsts old mid aborted aborts = record {
  settings = ap (λ view. view.settings) aborts.frame;
  version = ap (λ view. view.version) aborts.frame;
  size =
      ap length aborts.memory.memory_is
      ∙ length_undone_set (is_marked aborts.marks) (logged_tasks old) aborts.memory.ids old.memory;
}

-- a coalescing
pub coalesce_like : (tile : ℕ) (old new : View) → Coalesces tile old new → IsLike old new
coalesce_like tile old new c = record {
  settings = ap (λ view. view.settings) c.frame;
  version = ap (λ view. view.version) c.frame;
  size = ap (λ view. length view.memory) c.frame;
}

-- room in a task queue
pub room_like : (tile : ℕ) (asker : Asker) (old : View) {aborted : ℕ} {mid : View}
    → MakesRoom tile asker old aborted mid → IsLike old mid
room_like tile asker old (queue_has_room free) = like_itself old
room_like tile asker old (coalesces new full moves) = coalesce_like tile old new moves
room_like tile asker old (aborts_victim aborted v task mid new full none least victim firm aborts moves) =
    like_on old mid new (abort_like (OnlyNode v) old mid aborted aborts) (coalesce_like tile mid new moves)
room_like tile asker old (aborts_creator aborted v creator task new full none least victim loose made_by aborts) =
    abort_like (OnlyNode creator) old new aborted aborts

-- a place in a commit queue
pub commit_like : (tile : ℕ) (task : Task) (old : View) {aborted : ℕ} {mid : View}
    → FreesCommit tile task old aborted mid → IsLike old mid
commit_like tile task old (events.has_free free) = like_itself old
commit_like tile task old (events.aborts_latest aborted v x new full latest later aborts) =
    abort_like (OnlyNode v) old new aborted aborts

-- a task that stays as it was takes the leg still, and asks for the same
pub takes_still : (image : ImageValue) (old mid : View) (tile core id : ℕ) (leg : LegValue) (task : Task)
    → Sound image old → TakesLeg old tile core leg id task
    → Sound image mid → IsLike old mid → task_at mid id ≡ Some task → TakesStill image tile core leg id task old mid
takes_still image old mid tile core id leg task sound takes now like there =
    let has = (sound.sizes.held_are tile core id).0 takes.runs.on.held in
    let both : Some has.0 ≡ Some task = sym has.1 ∙ takes.runs.on.there in
    let same : has.0 ≡ task = cc in
    let tile_is : task.tile ≡ tile = ap (λ (t : Task). t.tile) (sym same) ∙ has.2 in
    let holds : HasCore task.status core = subst (λ (s : Status). HasCore s core) (sym takes.runs.running) refl in
    record {
      sound = now;
      like = like;
      there = there;
      takes = record {
        runs =
            record {
              on = record { held = (now.sizes.held_are tile core id).1 (task, there, tile_is, holds); there = there };
              running = takes.runs.running;
            };
        from = takes.from;
      };
      asks = ap (λ version. request_at (context_of version task) leg.to leg.stop) like.version;
    }
