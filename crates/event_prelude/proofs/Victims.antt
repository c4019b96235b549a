-- How a full queue gets a free place where nothing in it moves.
use Rattle.std.proofs.Common.{ℕ, ◌≡◌, inl, inr, Bool, false, List, Some, sym, ap, subst, ◌∙◌, arith}
use Rattle.std.specs.declared.option.Option.{Option}
use Rattle.std.specs.Prelude.{◌↔◌, IfSome, IsSome, IsTrue, is_some}
use Rattle.guest_image.specs.ImageValue.{ImageValue}
use Rattle.memory_law.specs.Tasks.{IsByKey}
use Rattle.event_basis.specs.spec_state.declared.effect.TakenTask.{TakenTask}
use Rattle.event_basis.specs.spec_state.declared.task.Task.{Task}
use Rattle.event_basis.specs.spec_state.declared.task.TaskId.{TaskId}
use Rattle.event_basis.specs.spec_state.View.{View, task_at}
use Rattle.event_basis.specs.spec_state.Aborts.{Aborts, OnlyNode}
use Rattle.event_basis.specs.spec_state.Effects.{EffectValue, nothing}
use Rattle.event_basis.specs.spec_state.Groups.{logged_tasks, live_creator}
use Rattle.event_basis.specs.spec_state.Least.{IsFirm}
use Rattle.event_basis.specs.spec_state.Queries.{IsIdleFirm}
use Rattle.event_basis.specs.spec_state.Room.{Asker, Coalesces, QueueHasRoom, IsFull, IsLeastAsker, IsMovable, IsVictim}
use Rattle.event_basis.specs.spec_state.Room.{MakesRoom, NoneMoves, queue_has_room, coalesces, aborts_victim}
use Rattle.event_basis.specs.spec_state.Room.{aborts_creator}
use Rattle.event_basis.specs.spec_state.Told.{TellsBack}
use Rattle.event_basis.specs.spec_law.Sound.{Sound}
use Rattle.event_basis.specs.event_def.Telling.{TellsRoom, TellsSpilled}
use Rattle.event_basis.specs.Forcing.{RunsIfTask}
use Rattle.event_prelude.specs.Entering.{MayEnter}
use Rattle.event_basis.proofs.Proved.{sound_by_key, taken_is_live, victim_moves}

-- a queue without a free place is full
pub full_if_not : (view : View) (tile : ℕ) (free : Bool) → IsTrue free ↔ QueueHasRoom view tile → free ≡ false
    → IsFull view tile
full_if_not view tile free is none =
    let not_free : QueueHasRoom view tile → ⊥ = λ has. absurd (cc (sym (is.1 has) ∙ none)) in omega (arith, not_free)

-- one without an idle firm task has none that moves
pub none_if_not : (view : View) (tile : ℕ) (some : Bool)
    → IsTrue some ↔ ((id : ℕ) × (task : Task) × IsIdleFirm view tile id task) → some ≡ false
    → NoneMoves view tile
none_if_not view tile some is none id moves = absurd (cc (sym (is.1 (id, moves.0, moves.1)) ∙ none))

-- a task is taken back, and exactly its cascade is told as taken back
abbrev pub AbortsTold : (id : ℕ) (old : View) (aborted : ℕ) (new : View) → List TakenTask → Type 0
AbortsTold id old aborted new told =
    (aborts : Aborts (OnlyNode id) old aborted new) × TellsBack old aborts.marks told

-- in a sound view the logged tasks have an order by key, so what is an abort given one is an abort
pub aborted_one : (image : ImageValue) (old new : View) (id aborted : ℕ) (told : List TakenTask) → Sound image old
    → ((ids : List ℕ) → IsByKey (logged_tasks old) ids → AbortsTold id old aborted new told)
    → AbortsTold id old aborted new told
aborted_one image old new id aborted told sound aborts =
    let by_key = sound_by_key image old sound in aborts by_key.0 by_key.1

-- where nothing moves in a full queue, whoever it gives a place to asks as the least task
pub asks_as_least : (view : View) (tile : ℕ) (asker : Asker) → IsFull view tile → NoneMoves view tile
    → MayEnter view tile asker → IsLeastAsker view tile asker
asks_as_least view tile asker full none (inl free) = absurd (omega (arith, full, free))
asks_as_least view tile asker full none (inr (inl moves)) = absurd (none moves.0 moves.1)
asks_as_least view tile asker full none (inr (inr least)) = least

-- once a firm victim is taken back, a task moves
pub aborted_moves : (image : ImageValue) (tile : ℕ) (asker : Asker) (old : View) (v : ℕ) (task : Task) → Sound image old
    → RunsIfTask old asker → IsLeastAsker old tile asker → IsVictim old tile asker v task → IsFirm old task
    → (aborted : ℕ) (mid : View) → Aborts (OnlyNode v) old aborted mid
    → (id : ℕ) × IsMovable mid tile id
aborted_moves image tile asker old v task sound runs least victim firm aborted mid aborts =
    (v, victim_moves image tile asker old v task sound runs least victim firm aborted mid aborts)

-- the creator of a victim that isn't firm is there
pub creator_there : (image : ImageValue) (tile : ℕ) (asker : Asker) (old : View) (v creator : ℕ) (task : Task)
    → Sound image old
    → RunsIfTask old asker → NoneMoves old tile → IsLeastAsker old tile asker → IsVictim old tile asker v task
    → (IsFirm old task → ⊥) → IfSome (task_at old v) (λ t. live_creator t.creator ≡ Some creator)
    → IsSome (task_at old creator)
creator_there image tile asker old v creator task sound runs none least victim loose made_by =
    let by = subst (λ o. IfSome o (λ t. live_creator t.creator ≡ Some creator)) victim.there made_by in
    ap is_some (taken_is_live image tile asker old v creator task sound runs none least victim (inr (loose, by))).1

-- so the queue gets a free place, and it is told who was taken back for it and who was spilled
abbrev pub RoomTold : (tile : ℕ) (asker : Asker) (old : View) (aborted : ℕ) (new : View) → EffectValue → Type 0
RoomTold tile asker old aborted new effect =
    (makes : MakesRoom tile asker old aborted new) × TellsRoom tile asker old aborted new makes effect

module _ (tile : ℕ) (asker : Asker) (old : View) (v : ℕ) (task : Task) (aborted : ℕ) (new : View)
    (effect : EffectValue) (full : IsFull old tile) (none : NoneMoves old tile)
    (least : IsLeastAsker old tile asker) (victim : IsVictim old tile asker v task) where
  pub freed_by_victim : (mid : View) (between : EffectValue) → IsFirm old task
      → AbortsTold v old aborted mid between.back
      → (moves : Coalesces tile mid new) × TellsSpilled mid moves.ids effect
      → effect ≡ record between { spilled = effect.spilled } → RoomTold tile asker old aborted new effect
  freed_by_victim mid between firm aborts moves rest = (
    aborts_victim aborted v task mid new full none least victim firm aborts.0 moves.0,
    (subst (TellsBack old aborts.0.marks) (sym (ap (λ (e : EffectValue). e.back) rest)) aborts.1, moves.1),
  )

  pub freed_by_creator : (creator : ℕ) → (IsFirm old task → ⊥)
      → IfSome (task_at old v) (λ t. live_creator t.creator ≡ Some creator)
      → AbortsTold creator old aborted new effect.back
      → effect ≡ record nothing { back = effect.back } → RoomTold tile asker old aborted new effect
  freed_by_creator creator loose made_by aborts rest =
      let by = subst (λ o. IfSome o (λ t. live_creator t.creator ≡ Some creator)) victim.there made_by in (
        aborts_creator aborted v creator task new full none least victim loose by aborts.0,
        (aborts.1, ap (λ (e : EffectValue). e.spilled) rest),
      )

-- who came is told beside it
pub room_told : (tile : ℕ) (asker : Asker) (old : View) (aborted : ℕ) (new : View)
    (makes : MakesRoom tile asker old aborted new) (effect : EffectValue) (arrived : Option TaskId)
    → TellsRoom tile asker old aborted new makes effect
    → TellsRoom tile asker old aborted new makes (record effect { arrived = arrived })
room_told tile asker old aborted new (queue_has_room has) effect arrived told = told
room_told tile asker old aborted new (coalesces mid full moves) effect arrived told = told
room_told tile asker old aborted new
    (aborts_victim taken v task mid after full none least victim firm aborts moves) effect arrived told = told
room_told tile asker old aborted new
    (aborts_creator taken v creator task after full none least victim loose by aborts) effect arrived told = told
