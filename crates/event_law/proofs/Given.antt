-- The event for the least task may be handed in: its tile and core are there, and its leg is a run.
use Rattle.std.proofs.Common.{ℕ, ◌+◌, ◌≡◌, ◌≢◌, ◌≤◌, ◌<◌, ◌⊎◌, inl, inr, List, [], length, Some, refl, sym, ap, subst}
use Rattle.std.proofs.Common.{◌∙◌, arith}
use Rattle.std.proofs.lemmas.Bool.{cases_eq, cases_lt}
use Rattle.std.proofs.lemmas.Option.{slice_get_within}
use Rattle.guest_image.specs.ImageValue.{ImageValue}
use Rattle.rv_core.specs.declared.state.Stop.TheVariants as stop
use Rattle.rv_core.specs.LegValue.{LegValue, IsLegOfImage}
use Rattle.rv_core.specs.Legs.{StopIsInData, IsLeg}
use Rattle.rv_core.proofs.Proved.{next_at-inside, PlainInstruction-counted, PlainInstruction-within}
use Rattle.rv_core.proofs.Proved.{PlainInstructions-within}
use Rattle.event_def.proofs.Below.serial_machine.Proved.{spent_traps}
use Rattle.task_desc.specs.declared.desc.Ctx.{Ctx}
use Rattle.task_request.specs.declared.request.Request.{Request}
use Rattle.task_request.specs.declared.request.Request.TheVariants.{Load, Store, Trap}
use Rattle.task_request.specs.Conditions.{IsCall}
use Rattle.task_request.specs.Requests.{request_at}
use Rattle.task_request.specs.TaskState.{TaskState, task_at_start, context}
use Rattle.task_request.proofs.Proved.{after_request-used, HasUsed}
use Rattle.undo_log.specs.declared.access.Access.{Access}
use Rattle.event_def.specs.task_law.Logged.{CoreAsks, LoggedRun, none, plain, call, load, store}
use Rattle.event_def.specs.spec_state.declared.task.Status.TheVariants.{Running}
use Rattle.event_def.specs.spec_state.declared.task.Task.{Task}
use Rattle.event_def.specs.spec_state.View.{View, task_at, cores_at}
use Rattle.event_def.specs.spec_state.Tasks.{start_context}
use Rattle.event_def.specs.spec_state.Least.{IsLeastTask, IsLeastSpilled}
use Rattle.event_def.specs.spec_state.Stored.{HasCore}
use Rattle.event_def.proofs.Below.spec_state.Proved.{at_within}
use Rattle.spec_law.specs.Sound.{Sound, StandsAs}
use Rattle.event_def.specs.declared.event.Event.{Event}
use Rattle.event_def.specs.declared.event.Event.TheVariants as event
use Rattle.event_def.specs.Advancing.{IsLeastEvent, IsLeastLeg}
use Rattle.event_def.specs.Events.{IsGiven}
use Rattle.event_law.specs.Laws.{NextEventIsGiven}
use Rattle.event_law.proofs.Falls.Legs.{counted, stands}

module _ (image : ImageValue) (budget size : ℕ) (ctx : Ctx) where
  -- a task that asks for something else than a trap has not used up its budget
  asks_within : (task : TaskState) (request : Request) → CoreAsks image budget size ctx task request
      → ((cause : ℕ) → request ≢ Trap cause)
      → task.core.used < budget
  asks_within task request asks other = elim (cases_lt task.core.used budget) [
    | inl below ↦ below
    | inr spent ↦
        let traps : asks.found ≡ stop.Trap 17 task.core.pc = spent_traps image size budget task.core asks.found asks.stands spent in
        absurd (other 17 (sym asks.asks ∙ ap (request_at (context ctx task) task.core) traps))
  ]

  -- so no run goes beyond it
  used_within : (start : TaskState) {log : List Access} {task : TaskState}
      → LoggedRun image budget size ctx start log task
      → start.core.used ≤ budget → task.core.used ≤ budget
  used_within start none low = low
  used_within start (plain {log} {task} core run at) low =
      let below = PlainInstruction-within image size budget task.core core at in
      let counts = PlainInstruction-counted image size budget task.core core at in
      omega (arith, below, counts)
  used_within start (call {log} {task} request after run asks is_call goes) low =
      let below = asks_within task request asks (λ cause same. subst IsCall same is_call) in
      let counts : after.core.used ≡ task.core.used + 1 =
      subst (HasUsed (task.core.used + 1)) goes (after_request-used task request (λ same. subst IsCall same is_call)) in
      omega (arith, below, counts)
  used_within start (load {log} {task} access width rd run asks is_width is_load) low =
      let below = asks_within task (Load width rd access.offset) asks (λ cause e. cc) in
      omega (arith, below)
  used_within start (store {log} {task} access value run asks is_store) low =
      let below = asks_within task (Store access.offset access.width value) asks (λ cause e. cc) in
      omega (arith, below)

-- a leg that starts within the budget is a run
pub leg_is_run : (image : ImageValue) (budget quantum : ℕ) (leg : LegValue)
    → IsLeg image image.data_size budget quantum leg.from leg.to leg.steps leg.stop → leg.from.used ≤ budget
    → IsLegOfImage image budget leg
leg_is_run image budget quantum leg is low = record {
  run = is.run;
  next = stands image budget quantum leg is;
  inside = by_case (cases_eq leg.steps quantum);
  counted = counted image budget quantum leg is;
  within = PlainInstructions-within image image.data_size budget leg.steps leg.from leg.to is.run low;
}
  where
    by_case : (leg.steps ≡ quantum) ⊎ (leg.steps ≢ quantum) → StopIsInData image.data_size leg.stop
    by_case (inl all) = subst (StopIsInData image.data_size) (sym (is.full all)) tt
    by_case (inr fewer) =
        let bound = is.bound in
        next_at-inside image image.data_size budget leg.to leg.stop (is.next (omega (arith, bound, fewer)))

module _ (image : ImageValue) (view : View) (sound : Sound image view) where
  -- the tile of the least task is there
  tile_is_there : (id : ℕ) (task : Task) → IsLeastTask view id task → task.tile < view.settings.tiles
  tile_is_there id task least =
      subst (λ n. task.tile < n) sound.sizes.queues (at_within view.queues task.tile least.place id least.queued_at.queued)

  -- so is that of the least spilled one
  block_is_there : (tile : ℕ) → IsLeastSpilled view tile → tile < view.settings.tiles
  block_is_there tile least =
      subst (λ n. tile < n) sound.sizes.blocks (at_within view.blocks tile least.place least.least.has.0 least.least.has.1)

  -- a running task has used its budget at most
  pub running_within : (id core : ℕ) (task : Task) → task_at view id ≡ Some task → task.status ≡ Running core
      → task.core.used ≤ view.settings.budget
  running_within id core task there runs =
      let ran : StandsAs image view.version view.settings.budget task (Running core) =
      subst (StandsAs image view.version view.settings.budget task) runs (sound.tasks.stands id task there) in
      used_within image view.settings.budget image.data_size (start_context view.version task) (task_at_start view.version task.entry task.key.ts task.args [])
      ran.1 (omega arith)

  -- its core is there
  core_is_there : (id tile core : ℕ) (task : Task) → task_at view id ≡ Some task → task.status ≡ Running core
      → task.tile ≡ tile
      → tile < view.settings.tiles → core < view.settings.cores
  core_is_there id tile core task there runs in_tile inside =
      let held = (sound.sizes.held_are tile core id).1 (task, there, in_tile, subst (λ status. HasCore status core) (sym runs) refl) in
      let below : tile < length view.cores = subst (λ n. tile < n) (sym sound.sizes.cores) inside in
      subst (λ n. core < n) (sound.sizes.core_counts tile [] below) (slice_get_within (cores_at view tile) core (Some id) held)

  -- the leg of the least task
  leg_is_given : (tile core : ℕ) (leg : LegValue) → IsLeastLeg image view tile core leg
      → (tile < view.settings.tiles) × (core < view.settings.cores) × IsLegOfImage image view.settings.budget leg
  leg_is_given tile core leg next =
      let inside : tile < view.settings.tiles = subst (λ t. t < view.settings.tiles) next.there (tile_is_there next.id next.task next.least) in
      let used : leg.from.used ≤ view.settings.budget =
      subst (λ c. c.used ≤ view.settings.budget) (sym next.runs_on.from) (running_within next.id core next.task next.least.queued_at.there next.runs) in (
        inside,
        core_is_there next.id tile core next.task next.least.queued_at.there next.runs next.there inside,
        leg_is_run image view.settings.budget view.settings.quantum leg next.runs_on.is_leg used,
      )

  by_event : (N : Type 0) (e : Event N) → IsLeastEvent image view e → IsGiven image view.settings e
  by_event N (event.Split tile) least = block_is_there tile least
  by_event N (event.Dispatch tile) least =
      subst (λ t. t < view.settings.tiles) least.4 (tile_is_there least.0 least.1 least.2)
  by_event N (event.Step tile core leg) least = leg_is_given tile core leg least
  by_event N event.Commit least = tt
  by_event N (event.Abort tile) least = absurd least
  by_event N (event.Coalesce tile) least = absurd least

-- the event for the least task may be handed in
pub next_event_is_given : (N : Type 0) → NextEventIsGiven N
next_event_is_given N image view e sound next = by_event image view sound N e next.least
