-- A task's run goes on by a leg's load or store.
use Rattle.std.proofs.Common.{◌≡◌, ◌≤◌, ◌∷◌, ◌++◌, ℕ, [], length, refl, subst, arith}
use Rattle.guest_image.specs.ImageValue.{ImageValue}
use Rattle.rv_core.specs.declared.state.Core.{Core}
use Rattle.rv_core.specs.Legs.{after_other_of, after_load_of}
use Rattle.rv_core.specs.LegValue.{LegValue}
use Rattle.rv_core.specs.Memory.{load_width}
use Rattle.rv_table.specs.declared.instr.LoadWidth.{LoadWidth}
use Rattle.spec_state.proofs.Below.run_law.Proved.{run_reaches}
use Rattle.task_request.specs.declared.request.Request.{Request}
use Rattle.task_request.specs.declared.request.Request.TheVariants as request
use Rattle.task_request.specs.Conditions.{IsInData}
use Rattle.task_request.specs.TaskState.{task_at_start}
use Rattle.task_request.proofs.Proved.{request_at-reaches}
use Rattle.spec_state.specs.task_law.Logged.{LoggedRun, load, store}
use Rattle.undo_log.specs.declared.access.Access.{Access}
use Rattle.undo_log.specs.Number.{number_at}
use Rattle.undo_log.specs.Undo.{Load, Store, access_of}
use Rattle.spec_state.specs.declared.task.Task.{Task}
use Rattle.spec_state.specs.Tasks.{context_of, progress_at, start_context}
use Rattle.spec_state.specs.View.{View}
use Rattle.spec_law.specs.Keeping.{AsksAt}
use Rattle.spec_law.specs.Sound.{Sound}
use Rattle.spec_law.proofs.Steps.Sound.{asks_next, ran_leg}

-- the run of the task with this access more, up to this core
abbrev pub RanWith : ImageValue → View → Task → Access → Core → Type 0
RanWith image old task access core =
    LoggedRun image old.settings.budget image.data_size (start_context old.version task) (task_at_start old.version task.entry task.key.ts task.args []) (task.log ++ access ∷ []) (progress_at [] core task)

module _ (image : ImageValue) (old : View) (sound : Sound image old) (tile core id : ℕ) (leg : LegValue) (task : Task) where
  -- what a task asks of memory lies in it
  pub lies_within : (asked : Request) → AsksAt image old tile core leg id task asked
      → IsInData (length old.memory) asked
  lies_within asked at =
      let reaches : image.data_size ≤ length sound.serial.memory = run_reaches image old.settings.budget old.history sound.serial sound.is_run in
      let long : length old.memory ≡ length sound.serial.memory = sound.memory.chained.size in
      subst (IsInData (length old.memory)) at.asks
      (request_at-reaches (context_of old.version task) leg.to leg.stop image.data_size (length old.memory) (omega (arith, reaches, long)) at.is_leg.run.inside)

  -- a load
  pub ran_load : (width : LoadWidth) (rd offset : ℕ)
      → AsksAt image old tile core leg id task (request.Load width rd offset)
      → RanWith image old task (access_of old.memory (Load offset (load_width width))) (after_load_of leg.to width rd (number_at old.memory offset (load_width width)))
  ran_load width rd offset at =
      load (access_of old.memory (Load offset (load_width width))) width rd (ran_leg image old sound tile core id leg task at.is_leg)
      (asks_next image old sound tile core id leg task at.is_leg (request.Load width rd offset) at.asks (λ e. absurd (cc (e)))) refl refl

  -- a store
  pub ran_store : (offset bytes value : ℕ) → AsksAt image old tile core leg id task (request.Store offset bytes value)
      → RanWith image old task (access_of old.memory (Store offset bytes value)) (after_other_of leg.to)
  ran_store offset bytes value at =
      store (access_of old.memory (Store offset bytes value)) value (ran_leg image old sound tile core id leg task at.is_leg)
      (asks_next image old sound tile core id leg task at.is_leg (request.Store offset bytes value) at.asks (λ e. absurd (cc (e)))) refl
