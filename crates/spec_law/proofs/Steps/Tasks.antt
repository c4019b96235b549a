-- A step of one task keeps the group of tasks, where the task stands as its new status says.
use Rattle.std.proofs.Common.{◌≡◌, ℕ, length, Option, Some, sym, ap, subst, ◌∙◌, inl, inr, slice_get, is_some}
use Rattle.std.proofs.Common.{unwrap_or}
use Rattle.std.proofs.lemmas.Bool.{cases_eq}
use Rattle.guest_image.specs.ImageValue.{ImageValue}
use Rattle.spec_state.specs.serial_machine.State.{SerialState}
use Rattle.task_desc.specs.declared.desc.Spawn.{Spawn}
use Rattle.spec_state.specs.task_law.Commit.{Matches}
use Rattle.spec_state.specs.task_law.Domains.{FitsBags}
use Rattle.spec_state.specs.task_law.Sound.{AreSound}
use Rattle.spec_state.specs.declared.task.Creator.TheVariants.{Committed, Live}
use Rattle.spec_state.specs.declared.task.Task.{Task}
use Rattle.spec_state.specs.declared.task.TaskId.{TaskId}
use Rattle.spec_state.specs.View.{View, task_at}
use Rattle.spec_state.specs.Tasks.{Descriptor, child_descriptor, descriptor_of, spilled_descriptor}
use Rattle.spec_state.specs.Groups.{bags_spilled, domains_of}
use Rattle.spec_law.specs.Sound.{IsMadeBy, SoundTasks, StandsAs}
use Rattle.spec_law.proofs.Steps.One.{StepsOne, bags_same, each_stepped, origin, stepped_to, stepped_task}

-- the children that were made stay so: each stands at its place, and its descriptor is the same one
abbrev pub KeepsChildren : Task → Task → Type 0
KeepsChildren task now =
    (index : ℕ) (spawn : Spawn) → slice_get task.spawns index ≡ Some spawn
    → (slice_get now.spawns index ≡ Some spawn) × (child_descriptor now spawn ≡ child_descriptor task spawn)

module _ (old new : View) (id : ℕ) (task behind : Task) (step : StepsOne old new id task behind) (all_children : KeepsChildren task (stepped_task task behind)) where
  -- what a task made it has made still
  pub made_still : (k index : ℕ) (d : Descriptor) → IsMadeBy old k index d → IsMadeBy (stepped_to old new) k index d
  made_still k index d made = elim (cases_eq k id) [
    | inl is ↦
        let both : Some made.creator ≡ Some task = sym made.there ∙ ap (task_at old) is ∙ step.there in
        let same : made.creator ≡ task = cc in
        let kid = all_children index made.spawn (ap (λ t. slice_get t.spawns index) (sym same) ∙ made.made) in
        record {
          creator = stepped_task task behind;
          there = ap (task_at new) is ∙ step.changes.changed;
          spawn = made.spawn;
          made = kid.0;
          descriptor_is = made.descriptor_is ∙ ap (λ t. child_descriptor t made.spawn) same ∙ sym kid.1;
        }
    | inr other ↦ record { creator = made.creator; there = step.changes.others k other ∙ made.there; spawn = made.spawn; made = made.made; descriptor_is = made.descriptor_is }
  ]

  -- the domains of a task of a committed creator
  pub domains_still : (image : ImageValue) (heir : Option ℕ) (serial : SerialState) → SoundTasks image old heir serial
      → (k : ℕ) (t : Task) (turn index : ℕ) → task_at new k ≡ Some t → t.creator ≡ Committed turn index
      → FitsBags (domains_of t.kinds t.key.domain) serial.stack
  domains_still image heir serial sound k t turn index at creator =
      let from = origin old new id task behind step k t at in
      subst (λ z. FitsBags (domains_of z.kinds z.key.domain) serial.stack) (sym from.made)
      (sound.domains k from.was turn index from.there (sym (ap (λ z. z.creator) from.made) ∙ creator))

  -- a task of an uncommitted creator is as that made it
  pub children_still : (image : ImageValue) (heir : Option ℕ) (serial : SerialState) → SoundTasks image old heir serial
      → (k : ℕ) (t : Task) (creator : TaskId) (index : ℕ) → task_at new k ≡ Some t → t.creator ≡ Live creator index
      → IsMadeBy (stepped_to old new) creator.0 index (descriptor_of t)
  children_still image heir serial sound k t creator index at is =
      let from = origin old new id task behind step k t at in
      made_still creator.0 index (descriptor_of t)
      (subst (λ z. IsMadeBy old creator.0 index (descriptor_of z)) (sym from.made)
      (sound.children k from.was creator index from.there (sym (ap (λ z. z.creator) from.made) ∙ is)))

  -- all tasks stand as their statuses say, where this one does
  pub stand_still : (image : ImageValue) (heir : Option ℕ) (serial : SerialState) → SoundTasks image old heir serial
      → StandsAs image old.version old.settings.budget (stepped_task task behind) behind.status
      → (k : ℕ) (t : Task) → task_at new k ≡ Some t → StandsAs image old.version old.settings.budget t t.status
  stand_still image heir serial sound stands =
      each_stepped old new id (stepped_task task behind) step.changes (λ k t. StandsAs image old.version old.settings.budget t t.status) (λ k t other at. sound.stands k t at) stands

  -- the group of the view whose other parts are the old ones
  kept : (image : ImageValue) (heir : Option ℕ) (serial : SerialState) → SoundTasks image old heir serial
      → behind.spawns ≡ task.spawns
      → StandsAs image old.version old.settings.budget (stepped_task task behind) behind.status
      → SoundTasks image (stepped_to old new) heir serial
  kept image heir serial sound spawns stands =
      record {
        few = sound.few;
        output = sound.output;
        names =
            subst (λ tasks. AreSound (length old.history) (unwrap_or heir 0) (is_some heir) tasks (bags_spilled old)) (sym (bags_same old new id task behind step spawns)) sound.names;
        matches =
            subst (λ tasks. Matches (length old.history) tasks (bags_spilled old) serial.stack) (sym (bags_same old new id task behind step spawns)) sound.matches;
        domains = domains_still image heir serial sound;
        spilled_domains = sound.spilled_domains;
        stands = stand_still image heir serial sound stands;
        children = children_still image heir serial sound;
        spilled_children =
            λ s has next. (let was = sound.spilled_children s has next in (was.0, was.1, made_still was.0 s.desc.name.index (spilled_descriptor s) was.2));
      }

  pub step_keeps_tasks : (image : ImageValue) (heir : Option ℕ) (serial : SerialState)
      → SoundTasks image old heir serial → behind.spawns ≡ task.spawns
      → StandsAs image old.version old.settings.budget (stepped_task task behind) behind.status
      → SoundTasks image new heir serial
  step_keeps_tasks image heir serial sound spawns stands =
      subst (λ v. SoundTasks image v heir serial) (sym step.rest) (kept image heir serial sound spawns stands)
