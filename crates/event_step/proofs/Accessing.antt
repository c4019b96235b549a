-- What is forced for an access or an enqueue leaves it spare, and for an access what its task asks for.
use Rattle.std.proofs.Common.{ℕ, ◌≡◌, ◌<◌, ◌/◌, Bool, true, false, List, Some, Result, Ok, Err, length}
use Rattle.std.proofs.Common.{sym, ap, subst, ◌∙◌}
use Rattle.std.specs.Prelude.{IsOk, OnOk, IfSome, Option}
use Rattle.guest_image.specs.ImageValue.{ImageValue}
use Rattle.rv_core.specs.LegValue.{LegValue}
use Rattle.rv_table.specs.declared.instr.LoadWidth.{LoadWidth}
use Rattle.task_request.specs.declared.request.Request.{Request}
use Rattle.event_prelude.specs.spec_state.declared.task.Task.{Task}
use Rattle.event_prelude.specs.spec_state.View.{View, task_at}
use Rattle.event_prelude.specs.spec_state.StateValue.{StateValue, CoversLog, CoversChild}
use Rattle.event_prelude.specs.spec_state.Changes.{LoadsFrom, StoresTo}
use Rattle.event_prelude.specs.spec_state.Effects.{EffectValue, nothing}
use Rattle.spec_access.specs.Asking.{Asks, OfTaker}
use Rattle.event_prelude.specs.spec_state.Aborts.{Aborts}
use Rattle.event_prelude.specs.spec_state.Groups.{logged_tasks}
use Rattle.event_prelude.specs.spec_state.Queries.{Conflicts}
use Rattle.event_prelude.specs.spec_state.Told.{TellsBack}
use Rattle.memory_law.specs.Tasks.{IsByKey}
use Rattle.event_prelude.specs.spec_law.Sound.{Sound}
use Rattle.event_prelude.specs.event_basis.Forcing.{TakesStill}
use Rattle.event_prelude.proofs.Below.event_basis.Proved.{sound_by_key}
use Rattle.event_step.specs.Accessing.{TakesTelling, LoadsTelling, StoresTelling}
use Rattle.event_step.proofs.Stepping.{asks_still}

-- what holds where a call succeeds, and it does
pub of_ok : {T E : Type 0} (result : Result T E) (P : Type 0) → OnOk result P → IsOk result → P
of_ok (Ok value) P holds ok = holds
of_ok (Err error) P holds ok = absurd (cc (ok))

module _ (image : ImageValue) (old mid : View) (leg : LegValue) (id : ℕ)
    (stays : OfTaker old leg id (λ tile core task. TakesStill image tile core leg id task old mid)) where
  -- a task that takes its leg still asks for the same
  pub asks_on : (request : Request) → Asks old leg id request → Asks mid leg id request
  asks_on request asks =
      asks_still image old mid asks.tile asks.core id leg asks.task request asks asks.takes (stays asks.tile
      asks.core asks.task asks.takes)

  -- and is the same task
  pub same_task : (request : Request) → Asks old leg id request → task_at mid id ≡ task_at old id
  same_task request asks = (stays asks.tile asks.core asks.task asks.takes).there ∙ sym asks.takes.runs.on.there

-- an access that is spare stays so
pub log_still : (old mid : StateValue) (id : ℕ) → task_at mid.view id ≡ task_at old.view id
    → mid.spare.log ≡ old.spare.log
    → CoversLog old id → CoversLog mid id
log_still old mid id there spare covers =
    subst (λ n. IfSome (task_at mid.view id) (λ task. length task.log < n)) (sym spare)
    (subst (λ (o : Option Task). IfSome o (λ task. length task.log < old.spare.log)) (sym there) covers)

-- and so does a child
pub child_still : (old mid : StateValue) (id : ℕ) → task_at mid.view id ≡ task_at old.view id
    → mid.spare.spawns ≡ old.spare.spawns
    → CoversChild old id → CoversChild mid id
child_still old mid id there spare covers =
    subst (λ n. IfSome (task_at mid.view id) (λ task. length task.spawns < n)) (sym spare)
    (subst (λ (o : Option Task). IfSome o (λ task. length task.spawns < old.spare.spawns)) (sym there) covers)

-- what conflicts with an access of the task to this line is taken back, and told
abbrev LineTelling : View → ℕ → Bool → ℕ → View → EffectValue → Task → Type 0
LineTelling old line write aborted new effect task =
    (aborts : Aborts (Conflicts old task line write) old aborted new) × TellsBack old aborts.marks effect.back

-- what conflicts with the task's access is taken back, and it alone is told
pub conflicts_taken : (image : ImageValue) (old new : View) (effect : EffectValue) (id line offset aborted : ℕ)
    (write : Bool) (task : Task)
    → Sound image old → task_at old id ≡ Some task → line ≡ offset / old.settings.line
    → IfSome (task_at old id) (λ t. (ids : List ℕ) → IsByKey (logged_tasks old) ids
    → LineTelling old line write aborted new effect t)
    → effect ≡ record nothing { back = effect.back }
    → TakesTelling task offset write old aborted new effect
conflicts_taken image old new effect id line offset aborted write task sound there line_is aborts alone =
    let by_key = sound_by_key image old sound in
    let taken = subst (λ (o : Option Task). IfSome o (λ t. (ids : List ℕ) → IsByKey (logged_tasks old) ids
    → LineTelling old line write aborted new effect t))
    there aborts in
    let told = subst (λ n. LineTelling old n write aborted new effect task) line_is (taken by_key.0 by_key.1) in (
      told.0,
      (told.1, ap (λ (e : EffectValue). e.spilled) alone),
      ap (λ (e : EffectValue). e.arrived) alone,
    )

module _ (tile core : ℕ) (leg : LegValue) (id : ℕ) (task : Task) (offset aborted : ℕ) (old mid new : View)
    (cleared effect : EffectValue) (same : effect ≡ cleared) where
  -- a load behind it tells the same
  pub loads_telling : (width : LoadWidth) (rd : ℕ) → TakesTelling task offset false old aborted mid cleared
      → LoadsFrom id task leg width rd offset mid new
      → LoadsTelling tile core leg id task width rd offset old aborted new effect
  loads_telling width rd takes loads =
      subst (λ e. LoadsTelling tile core leg id task width rd offset old aborted new e) (sym same)
      (record { mid = mid; forced = takes.0; change = loads }, takes.1, takes.2)

  -- and so does a store
  pub stores_telling : (width value : ℕ) → TakesTelling task offset true old aborted mid cleared
      → StoresTo id task leg offset width value mid new
      → StoresTelling tile core leg id task offset width value old aborted new effect
  stores_telling width value takes stores =
      subst (λ e. StoresTelling tile core leg id task offset width value old aborted new e) (sym same)
      (record { mid = mid; forced = takes.0; change = stores }, takes.1, takes.2)
