-- A step of one running task keeps a view sound.
use Rattle.std.proofs.Common.{◌≡◌, ◌≢◌, ◌≤◌, ℕ, [], length, Some, refl, sym, ap, subst, ◌∙◌}
use Rattle.std.specs.Prelude.{◌↔◌}
use Rattle.guest_image.specs.ImageValue.{ImageValue}
use Rattle.rv_core.specs.LegValue.{LegValue}
use Rattle.rv_core.specs.Legs.{PlainInstructions}
use Rattle.spec_state.specs.serial_machine.Run.{IsRun}
use Rattle.task_request.specs.declared.request.Request.{Request}
use Rattle.task_request.specs.declared.request.Request.TheVariants.{Continue}
use Rattle.task_request.specs.Requests.{request_at}
use Rattle.task_request.specs.TaskState.{task_at_start}
use Rattle.spec_state.specs.declared.emitted.TheConstants.{MAX_EMITTED}
use Rattle.spec_state.specs.declared.task.Status.TheVariants.{Running, Finished}
use Rattle.spec_state.specs.declared.task.Task.{Task}
use Rattle.spec_state.specs.View.{View, task_at}
use Rattle.spec_state.specs.Tasks.{context_of, progress_at, start_context}
use Rattle.spec_state.specs.Changes.{Keeps, request_of}
use Rattle.spec_state.specs.Stored.{HasCore}
use Rattle.spec_law.specs.Keeping.{IsLegOf}
use Rattle.spec_law.specs.Sound.{AsksNext, RanTo, Sound, StandsAs, StaysSound}
use Rattle.spec_law.proofs.Steps.One.{StepsOne, stepped_to, step_keeps_memory, step_keeps_order, stepped_task}
use Rattle.spec_law.proofs.Steps.Heir.{step_keeps_heir}
use Rattle.spec_law.proofs.Steps.Tasks.{KeepsChildren, step_keeps_tasks}
use Rattle.spec_law.proofs.Steps.Sizes.{FitsLists, lists_stay, step_keeps_sizes}
use Rattle.spec_law.proofs.Steps.Runs.{run_on}

-- a step that leaves memory, log and children as they were, after which the task stands as its status says and the lists fit
pub step_stays_sound : (image : ImageValue) (old new : View) (sound : Sound image old) (id : ℕ) (task behind : Task)
    → StepsOne old new id task behind
    → new.memory ≡ old.memory → behind.log ≡ task.log → behind.lines ≡ task.lines → behind.spawns ≡ task.spawns
    → KeepsChildren task (stepped_task task behind)
    → StandsAs image old.version old.settings.budget (stepped_task task behind) behind.status
    → FitsLists (stepped_to old new) → length behind.bytes ≤ MAX_EMITTED
    → StaysSound image old sound new
step_stays_sound image old new sound id task behind step memory log lines spawns all_children stands lists bytes = (
  record {
    version = ap (λ v. v.version) step.rest ∙ sound.version;
    serial = sound.serial;
    is_run = subst (λ v. IsRun image v.settings.budget v.history sound.serial) (sym step.rest) sound.is_run;
    heir = sound.heir;
    is_heir = step_keeps_heir old new id task behind step sound.heir sound.is_heir;
    tasks =
        step_keeps_tasks old new id task behind step all_children image sound.heir sound.serial sound.tasks spawns stands;
    memory = step_keeps_memory old new id task behind step sound.serial memory log lines sound.memory;
    order = step_keeps_order old new id task behind step sound.heir sound.order;
    sizes = step_keeps_sizes old new id task behind step sound.sizes lists bytes;
  },
  refl,
)

-- a change of one task and nothing else is a step of it
pub keeps_steps : (old new : View) (id : ℕ) (task behind : Task) → task_at old id ≡ Some task
    → Keeps id (stepped_task task behind) old new → StepsOne old new id task behind
keeps_steps old new id task behind there keeps =
    record {
      there = there;
      changes = keeps.changes;
      rest = keeps.frame
          ∙ (λ i. record old {
            tasks = new.tasks;
            memory = ap (λ v. v.memory) (sym keeps.frame) i;
            finished = ap (λ v. v.finished) (sym keeps.frame) i;
            cores = ap (λ v. v.cores) (sym keeps.frame) i;
          });
    }

-- such a change keeps the view sound, where after it the task is finished, or on a core, just where it was before
pub keeps_sound : (image : ImageValue) (old new : View) (sound : Sound image old) (id : ℕ) (task behind : Task)
    → task_at old id ≡ Some task
    → Keeps id (stepped_task task behind) old new → behind.log ≡ task.log → behind.lines ≡ task.lines
    → behind.spawns ≡ task.spawns → KeepsChildren task (stepped_task task behind)
    → StandsAs image old.version old.settings.budget (stepped_task task behind) behind.status
    → (behind.status ≡ Finished) ↔ (task.status ≡ Finished)
    → ((core : ℕ) → HasCore behind.status core ↔ HasCore task.status core) → length behind.bytes ≤ MAX_EMITTED
    → StaysSound image old sound new
keeps_sound image old new sound id task behind there keeps log lines spawns all_children stands ends holds bytes =
    let step = keeps_steps old new id task behind there keeps in
    step_stays_sound image old new sound id task behind step (ap (λ v. v.memory) keeps.frame) log lines spawns all_children stands
    (lists_stay old new id task behind step sound.sizes (ap (λ v. v.finished) keeps.frame) (ap (λ v. v.cores) keeps.frame) ends holds) bytes

module _ (image : ImageValue) (old : View) (sound : Sound image old) (tile core id : ℕ) (leg : LegValue) (task : Task) (taken : IsLegOf image old tile core leg id task) where
  -- what a running task has done
  pub stood : StandsAs image old.version old.settings.budget task (Running core)
  stood =
      subst (StandsAs image old.version old.settings.budget task) taken.takes.runs.running (sound.tasks.stands id task taken.takes.runs.on.there)

  -- the leg is the run's next instructions
  pub ran_leg : RanTo image old.version old.settings.budget task (progress_at [] leg.to task)
  ran_leg =
      run_on image old.settings.budget image.data_size (start_context old.version task)
      (task_at_start old.version task.entry task.key.ts task.args []) task.log (progress_at [] task.core task) leg.steps leg.to stood.1
      (subst (λ from. PlainInstructions image image.data_size old.settings.budget leg.steps from leg.to) (sym taken.takes.from) taken.run.run)

  -- what it asks for at the end of the leg it asks for next in its run
  pub asks_next : (request : Request) → request_of old task leg ≡ request → request ≢ Continue
      → AsksNext image old.version old.settings.budget task (progress_at [] leg.to task) request
  asks_next request asks other = record {
    found = leg.stop;
    stands = taken.run.next (λ full. other (sym asks ∙ ap (request_at (context_of old.version task) leg.to) full));
    asks = asks;
  }
