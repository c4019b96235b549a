-- What comes of an end call, and what it tells.
use Rattle.std.proofs.Common.{ℕ, ◌≡◌, ◌<◌, inr, Bool, false, List, Option, Some, None, refl, sym, ap, subst, length}
use Rattle.std.specs.Prelude.{IfSome, IsTrue, ◌↔◌}
use Rattle.std.specs.declared.cmp.Ordering.TheVariants.{Less}
use Rattle.fractal_vt.specs.Keys.{key_cmp}
use Rattle.guest_image.specs.ImageValue.{ImageValue}
use Rattle.memory_law.specs.Tasks.{IsByKey}
use Rattle.place_policy.specs.Policy.{Policy}
use Rattle.trace_tap.specs.declared.record.Deed.TheVariants.{Call}
use Rattle.trace_tap.specs.declared.record.Record.{Record}
use Rattle.trace_tap.specs.TapValue.{TapValue}
use Rattle.rv_core.specs.LegValue.{LegValue}
use Rattle.task_request.specs.declared.request.Request.TheVariants.{End}
use Rattle.event_prelude.specs.spec_state.declared.task.Task.{Task}
use Rattle.event_prelude.specs.spec_state.Effects.{EffectValue, nothing}
use Rattle.event_prelude.specs.spec_state.Told.{TellsBack}
use Rattle.event_prelude.specs.spec_state.View.{View, task_at, finished_at}
use Rattle.event_prelude.specs.spec_state.Aborts.{Aborts, OnlyNode}
use Rattle.event_prelude.specs.spec_state.Changes.{TakesLeg, Finishes}
use Rattle.event_prelude.specs.spec_state.Groups.{logged_tasks}
use Rattle.event_prelude.specs.spec_state.Queries.{IsFinished, IsLatestFinished}
use Rattle.spec_access.specs.Asking.{Asks, CommitQueueHasRoom}
use Rattle.event_prelude.specs.spec_law.Sound.{Sound}
use Rattle.event_prelude.specs.event_def.declared.event.Came.TheVariants.{Made, Refused}
use Rattle.event_prelude.specs.event_def.declared.event.Event.TheVariants as event
use Rattle.event_prelude.specs.event_def.declared.event.Reply.TheVariants as reply
use Rattle.event_prelude.specs.event_def.Causes.{IsCommitFull, StallsAtEnd}
use Rattle.event_prelude.specs.event_def.End.{IsOver}
use Rattle.event_prelude.specs.event_def.Events.{FreesCommit}
use Rattle.event_prelude.specs.event_def.Events as events
use Rattle.event_prelude.specs.event_def.Telling.{ComesTelling, TellsCommit}
use Rattle.event_prelude.specs.event_def.Trace.{record_of}
use Rattle.event_prelude.specs.event_def.Book.{book_of}
use Rattle.event_prelude.specs.event_basis.Forcing.{TakesStill}
use Rattle.event_prelude.proofs.Below.event_basis.Proved.{commit_leaves_taker, commit_leaves_place, finished_is_later}
use Rattle.event_prelude.proofs.Below.event_basis.Proved.{no_child_no_stall}
use Rattle.event_prelude.proofs.Below.event_basis.Proved.{none_is_later, sound_by_key, stall_is_refused}
use Rattle.event_step.specs.Ending.{EndsTelling, HasLater, HasNoLater, SaysLater}
use Rattle.event_step.proofs.Stepping.{asks_same, granted, made_granted, tells_neither}

-- what holds of the task that stands there
pub of_there : (o : Option Task) (P : Task → Type 0) (task : Task) → IfSome o P → o ≡ Some task → P task
of_there o P task holds there = subst (λ (p : Option Task). IfSome p P) there holds

-- where no task is finished, none is later
pub none_finished : (view : View) (tile : ℕ) (o : Option Task) → ((k : ℕ) (x : Task)
    → IsFinished view tile k x → ⊥)
    → IfSome o (HasNoLater view tile)
none_finished view tile None none = tt
none_finished view tile (Some task) none = λ k x finished later. none k x finished

-- where the latest finished task has the greater key, it is later
pub one_later : (image : ImageValue) (view : View) (tile v : ℕ) (x : Task) (o : Option Task) (told : Bool)
    → Sound image view
    → IsLatestFinished view tile v x → IfSome o (λ task. SaysLater view v task told) → IsTrue told
    → IfSome o (HasLater view tile v)
one_later image view tile v x None told sound latest is told_so = tt
one_later image view tile v x (Some task) told sound latest is told_so =
    let less = (of_there (task_at view v) (λ y. IsTrue told ↔ (key_cmp task.key y.key ≡ Less)) x is
    latest.of_kind.there).0 told_so in
    (x, latest, finished_is_later image view sound tile v task x latest.of_kind less)

-- and where it has not, none is
pub none_later : (view : View) (tile v : ℕ) (x : Task) (o : Option Task) (told : Bool)
    → IsLatestFinished view tile v x
    → IfSome o (λ task. SaysLater view v task told) → told ≡ false → IfSome o (HasNoLater view tile)
none_later view tile v x None told latest is told_so = tt
none_later view tile v x (Some task) told latest is told_so =
    none_is_later view tile v x task latest
    (λ less.
    let also = (of_there (task_at view v) (λ y. IsTrue told ↔ (key_cmp task.key y.key ≡ Less)) x is
    latest.of_kind.there).1 less in
    absurd (cc (also, told_so)))

module _ (image : ImageValue) (old : View) (tile core id : ℕ) (leg : LegValue) (task : Task) (sound : Sound image old)
    (takes : TakesLeg old tile core leg id task) (v aborted : ℕ) (mid : View) (effect : EffectValue)
    (full : IsCommitFull old tile) (later : HasLater old tile v task)
    (aborts : (ids : List ℕ) → IsByKey (logged_tasks old) ids
    → (a : Aborts (OnlyNode v) old aborted mid) × TellsBack old a.marks effect.back)
    (alone : effect ≡ record nothing { back = effect.back }) where
  -- a place is freed by the latest task of the queue, which is later, and what is taken back for it is told
  frees : (frees : FreesCommit tile task old aborted mid) × TellsCommit tile task old aborted mid frees effect
  frees =
      let by_key = sound_by_key image old sound in
      let taken = aborts by_key.0 by_key.1 in (
        events.aborts_latest aborted v later.0 mid full later.1 later.2 taken.0,
        (taken.1, ap (λ (e : EffectValue). e.spilled) alone),
      )

  -- the task that ends stays
  pub stays : TakesStill image tile core leg id task old mid
  stays = commit_leaves_taker image old tile core id leg task aborted mid sound takes frees.0

  -- and has the place
  pub has_place : CommitQueueHasRoom mid id
  has_place = (
    tile,
    core,
    task,
    stays.takes.runs.on,
    commit_leaves_place image old tile core id leg task aborted mid sound takes frees.0,
  )

  -- it ends then, and no more is told
  pub ends_telling : (new : View) (last : EffectValue) → last ≡ effect → Finishes tile core id task leg mid new
      → EndsTelling tile core leg id task old aborted new last
  ends_telling new last same finishes =
      subst (λ e. EndsTelling tile core leg id task old aborted new e) (sym same) (
        record { mid = mid; forced = frees.0; change = finishes },
        frees.1,
        ap (λ (e : EffectValue). e.arrived) alone,
      )

-- where a place is free, the task ends, and nothing is told
pub ends_freely : (tile core id : ℕ) (leg : LegValue) (task : Task) (old new : View) (effect : EffectValue)
    → length (finished_at old tile) < old.settings.commit_queue → Finishes tile core id task leg old new
    → effect ≡ nothing → EndsTelling tile core leg id task old 0 new effect
ends_freely tile core id leg task old new effect free finishes none =
    let neither = tells_neither effect none in
    (record { mid = old; forced = events.has_free free; change = finishes }, neither.0, neither.1)

module _ (N : Type 0) (old : View) (placers : List Policy) (taps : List TapValue) (steps : ℕ)
    (tile core id : ℕ) (leg : LegValue) (task : Task)
    (goes_on : IsOver old → ⊥) (asks : Asks old leg id End) (takes : TakesLeg old tile core leg id task) where
  -- an end call that doesn't stall is made
  pub made_end : (StallsAtEnd old tile core leg → ⊥) → (aborted : ℕ) (new : View) (effect : EffectValue)
      (seen : Record) → EndsTelling tile core leg id task old aborted new effect
      → seen ≡ record_of Call tile None aborted new
      → ComesTelling {N = N} (book_of old placers taps steps) (event.Step tile core leg) (Made seen) new placers effect
  made_end no_stall aborted new effect seen ends is =
      made_granted N old placers taps steps tile core id leg task End goes_on asks takes aborted new placers effect seen
      (granted N old placers taps steps tile core id leg task End goes_on asks takes
      (no_child_no_stall (book_of old placers taps steps) tile core id leg task takes
      (λ spawn same. absurd (cc (same, asks_same old tile core id leg task End asks takes))))
      no_stall)
      ((ends.0, refl), (ends.1, ends.2)) is

  -- one where the queue is full and holds no later task stalls
  pub stalls_end : IsCommitFull old tile → HasNoLater old tile task → (effect : EffectValue) → effect ≡ nothing
      → ComesTelling {N = N} (book_of old placers taps steps) (event.Step tile core leg) (Refused reply.Stall) old
      placers effect
  stalls_end full none effect fresh = (
    (
      stall_is_refused N (book_of old placers taps steps) goes_on tile core leg
          (inr (record {
            id = id;
            task = task;
            takes = takes;
            asks = asks_same old tile core id leg task End asks takes;
            full = full;
            none_later = none;
          })),
      (refl, refl),
    ),
    fresh,
  )
