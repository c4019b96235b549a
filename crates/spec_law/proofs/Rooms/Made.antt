-- Each rule of room leaves a free place.
use Rattle.std.proofs.Common.{◌≡◌, ℕ, ◌<◌, ◌≤◌, Bool, true, List, [], length, Some, None, option_map, refl, sym, ap}
use Rattle.std.proofs.Common.{subst, ◌∙◌, inl, inr, arith, slice_index_or, if◌then◌else◌}
use Rattle.std.proofs.lemmas.Bool.{cases_lt}
use Rattle.std.proofs.lemmas.List.{get_or_past}
use Rattle.spec_state.proofs.Below.task_law.Proved.{shorter, shorter_or_same}
use Rattle.spec_state.specs.declared.task.Task.{Task}
use Rattle.spec_state.specs.View.{View, task_at, queue_at}
use Rattle.spec_state.specs.Tasks.{idle_again}
use Rattle.spec_state.specs.Groups.{live_creator, room_task, room_tasks}
use Rattle.spec_state.specs.Aborts.{IsCascade, Aborts, OnlyNode, is_marked, is_marked_creator, taken_back}
use Rattle.spec_state.specs.Room.{Asker, QueueHasRoom, IsVictim, MakesRoom, queue_has_room, coalesces, aborts_victim}
use Rattle.spec_state.specs.Room.{aborts_creator}
use Rattle.spec_law.specs.RoomLaws.{RoomIsMade}
use Rattle.spec_law.specs.Sound.{SoundSizes}
use Rattle.spec_law.proofs.Tasks.Beside.{id_below}
use Rattle.spec_law.proofs.Rooms.Fit.{contains_in}
use Rattle.spec_law.proofs.Rooms.Moved.{queue_is, coalesce_makes_room}
use Rattle.spec_law.proofs.Aborted.Taken.{marked_below}

-- a cascade takes the children of its first task
child_marked : (view : View) (marks : List Bool) (id creator : ℕ) (task : Task)
    → IsCascade view (OnlyNode creator) marks → task_at view id ≡ Some task → live_creator task.creator ≡ Some creator
    → (is_marked marks id ≡ true) × (is_marked marks creator ≡ true)
child_marked view marks id creator task cascade there made_by =
    let first = cascade.least.holds creator refl in
    let below = id_below view id task there in
    let size = cascade.size in
    let within : id < length marks = omega (arith, below, size) in (
      cascade.least.closed creator id (marked_below marks creator first) within ((cascade.pulls creator id).1 (inl (record { child = task; there = there; made_by = made_by }))) first,
      first,
    )

-- a marked task whose creator is marked leaves
taken_gone : (version : ℕ) (marks : List Bool) (id creator : ℕ) (task : Task) → is_marked marks id ≡ true
    → is_marked marks creator ≡ true → live_creator task.creator ≡ Some creator
    → taken_back version marks id (Some task) ≡ None
taken_gone version marks id creator task marked creator_marked made_by =
    ap (λ b. if b then (if is_marked_creator marks (live_creator task.creator) then None else Some (idle_again version task)) else Some task) marked
    ∙ ap (λ c. if is_marked_creator marks c then None else Some (idle_again version task)) made_by
    ∙ ap (λ b. if b then None else Some (idle_again version task)) creator_marked

-- no queue of a sound view holds more than it may
bounded : (view : View) → SoundSizes view → (tile : ℕ) → length (queue_at view tile) ≤ view.settings.task_queue
bounded view sizes tile = elim (cases_lt tile (length view.queues)) [
  | inl within ↦ (sizes.task_queues tile [] within).0
  | inr past ↦ subst (λ queue. length queue ≤ view.settings.task_queue) (sym (get_or_past view.queues tile [] past)) (omega arith)
]

-- the queue of a tile is no longer after an abort
aborted_queue : (firsts : ℕ → Type 0) (old new : View) (aborted tile : ℕ) → (aborts : Aborts firsts old aborted new)
    → length (queue_at new tile) ≤ length (queue_at old tile)
aborted_queue firsts old new aborted tile aborts =
    subst (λ queue. length queue ≤ length (queue_at old tile)) (sym (ap (λ queues. slice_index_or queues tile []) aborts.queues ∙ queue_is (room_tasks new) old.queues tile))
    (shorter_or_same (room_tasks new) (queue_at old tile))

-- an abort of the victim's creator takes the victim out of the queue
creator_queue : (old new : View) (aborted tile v creator : ℕ) (asker : Asker) (task : Task)
    → IsVictim old tile asker v task → live_creator task.creator ≡ Some creator
    → Aborts (OnlyNode creator) old aborted new → length (queue_at new tile) < length (queue_at old tile)
creator_queue old new aborted tile v creator asker task victim made_by aborts =
    let marked = child_marked old aborts.marks v creator task aborts.cascade victim.there made_by in
    let gone : task_at new v ≡ None =
    aborts.each v ∙ ap (taken_back old.version aborts.marks v) victim.there
    ∙ taken_gone old.version aborts.marks v creator task marked.0 marked.1 made_by in
    subst (λ queue. length queue < length (queue_at old tile)) (sym (ap (λ queues. slice_index_or queues tile []) aborts.queues ∙ queue_is (room_tasks new) old.queues tile))
    (shorter (room_tasks new) v (queue_at old tile) (ap (option_map room_task) gone) (contains_in (queue_at old tile) v victim.queued))

-- a queue that is shorter than one that holds no more than it may has a free place
has_room : (old new : View) (tile : ℕ) → SoundSizes old → new.settings ≡ old.settings
    → length (queue_at new tile) < length (queue_at old tile) → QueueHasRoom new tile
has_room old new tile sizes same less =
    let most = bounded old sizes tile in
    subst (λ settings. length (queue_at new tile) < settings.task_queue) (sym same) (omega (arith, less, most))

-- whoever asks
pub leaves_place : (tile : ℕ) (asker : Asker) (old : View) {aborted : ℕ} {new : View} → SoundSizes old
    → MakesRoom tile asker old aborted new → QueueHasRoom new tile
leaves_place tile asker old sizes (queue_has_room free) = free
leaves_place tile asker old sizes (coalesces new full moves) =
    has_room old new tile sizes (ap (λ view. view.settings) moves.frame) (coalesce_makes_room tile old new moves).0
leaves_place tile asker old sizes (aborts_victim aborted v task mid new full none asks victim firm aborts moves) =
    let less = (coalesce_makes_room tile mid new moves).0 in
    let upto = aborted_queue (OnlyNode v) old mid aborted tile aborts in
    has_room old new tile sizes (ap (λ view. view.settings) moves.frame ∙ ap (λ view. view.settings) aborts.frame) (omega (arith, less, upto))
leaves_place tile asker old sizes (aborts_creator aborted v creator task new full none asks victim loose made_by aborts) =
    has_room old new tile sizes (ap (λ view. view.settings) aborts.frame) (creator_queue old new aborted tile v creator asker task victim made_by aborts)

pub room_is_made : RoomIsMade
room_is_made image tile aborted asker old new sound makes = leaves_place tile asker old sound.sizes makes
