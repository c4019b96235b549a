-- An enqueue, as a step of the task that makes it and then a child that comes to be, keeps the groups of a sound view.
use Rattle.std.proofs.Common.{◌≡◌, ◌<◌, ◌≤◌, ◌^◌, ℕ, List, length, Option, Some, refl, sym, ap, subst, ◌∙◌, slice_get}
use Rattle.std.proofs.Common.{is_some, unwrap_or}
use Rattle.std.specs.Ordering.{ordering_reverse}
use Rattle.std.specs.declared.cmp.Ordering.{Ordering}
use Rattle.std.specs.declared.cmp.Ordering.TheVariants.{Less, Equal, Greater}
use Rattle.fractal_vt.specs.declared.key.Key.{Key}
use Rattle.fractal_vt.specs.Keys.{key_cmp}
use Rattle.fractal_vt.proofs.Proved.{equal_keys_tie, key_cmp_total}
use Rattle.guest_image.specs.ImageValue.{ImageValue}
use Rattle.order_law.specs.Events.{IsPlaced}
use Rattle.spec_state.specs.serial_machine.Run.{IsRun}
use Rattle.spec_state.specs.serial_machine.State.{SerialState}
use Rattle.task_desc.specs.declared.desc.Spawn.{Spawn}
use Rattle.spec_state.specs.task_law.Commit.{Matches}
use Rattle.spec_state.specs.task_law.Domains.{FitsBags}
use Rattle.spec_state.specs.task_law.Grows as grows
use Rattle.spec_state.specs.task_law.Sound.{AreSound, SameFree}
use Rattle.spec_state.proofs.Below.task_law.Proved.{enqueues_keep}
use Rattle.spec_state.specs.declared.emitted.TheConstants.{MAX_EMITTED}
use Rattle.spec_state.specs.declared.task.Creator.TheVariants.{Committed, Live}
use Rattle.spec_state.specs.declared.task.Task.{Task}
use Rattle.spec_state.specs.declared.task.TaskId.{TaskId}
use Rattle.spec_state.specs.View.{View, task_at}
use Rattle.spec_state.specs.Tasks.{Descriptor, child_descriptor, depth_of, descriptor_of, idle_again}
use Rattle.spec_state.specs.Tasks.{spilled_descriptor}
use Rattle.spec_state.specs.Groups.{bag_task, bag_tasks, bags_spilled, domains_of, keyed_task, live_creator}
use Rattle.spec_state.specs.Least.{IsHeir}
use Rattle.spec_state.specs.Opening.{Adds}
use Rattle.spec_state.specs.Room.{QueueHasRoom}
use Rattle.spec_law.specs.Sound.{IsMadeBy, Sound, SoundMemory, SoundOrder, SoundSizes, SoundTasks, StandsAs, StaysSound}
use Rattle.spec_law.proofs.Adds.Heir.{add_keeps_heir}
use Rattle.spec_state.proofs.Proved.{still_there}
use Rattle.spec_law.proofs.Adds.One.{add_keeps_memory, added_to}
use Rattle.spec_law.proofs.Adds.Order.{add_keeps_order}
use Rattle.spec_law.proofs.Adds.Sizes.{add_keeps_sizes}
use Rattle.spec_law.proofs.Aborted.Spared.{heir_is_least, not_below_least}
use Rattle.spec_law.proofs.Steps.Heir.{step_keeps_heir}
use Rattle.spec_law.proofs.Steps.One.{StepsOne, each_stepped, step_keeps_memory, step_keeps_order, stepped_task}
use Rattle.spec_law.proofs.Steps.Sizes.{FitsLists, step_keeps_sizes}
use Rattle.spec_law.proofs.Steps.Tasks.{KeepsChildren, children_still, domains_still, made_still, stand_still}

-- a key not above one that is below a third is below that
below_third : (a b c : Key) → (key_cmp b a ≡ Less → ⊥) → key_cmp b c ≡ Less → key_cmp a c ≡ Less
below_third a b c upto below = by_order (key_cmp a b) refl
  where
    by_order : (o : Ordering) → key_cmp a b ≡ o → key_cmp a c ≡ Less
    by_order Less is = key_cmp_total.trans a b c is below
    by_order Equal is = subst (λ k. key_cmp k c ≡ Less) (sym ((equal_keys_tie a b).0 is)) below
    by_order Greater is = absurd (upto (key_cmp_total.antisymm b a ∙ ap ordering_reverse is))

-- the task of this id makes the child of the other id: where its tasks are without the child, the view is one after a step of the task, and
-- then the child comes to be
pub record MakesChild (image : ImageValue) (old new : View) (tasks : List (Option Task)) (id c : ℕ) (task behind child : Task) (spawn : Spawn) : Type 0 where
  pub step : StepsOne old (record old { tasks = tasks }) id task behind
  pub log : behind.log ≡ task.log
  pub lines : behind.lines ≡ task.lines
  pub all_children : KeepsChildren task (stepped_task task behind)
  pub stands : StandsAs image old.version old.settings.budget (stepped_task task behind) behind.status
  pub lists : FitsLists (record old { tasks = tasks })
  pub bytes : length behind.bytes ≤ MAX_EMITTED
  pub number : ℕ
  pub numbered : task.key.tb ≡ Some number
  pub adds : Adds c child (record old { tasks = tasks }) new
  pub idle : child ≡ idle_again old.version child
  pub creator : child.creator ≡ Live (record { 0 = id }) (length task.spawns)
  pub made : slice_get behind.spawns (length task.spawns) ≡ Some spawn
  pub descriptor : descriptor_of child ≡ child_descriptor (stepped_task task behind) spawn
  pub bags : grows.EnqueuesInBags (bag_tasks old) (bag_tasks new) id c (bag_task task) spawn (depth_of child)
  pub placed : IsPlaced (keyed_task task) (keyed_task child)
  pub above : key_cmp task.key child.key ≡ Less
  pub within : child.tile < old.settings.tiles
  pub free : QueueHasRoom old child.tile
  pub kinds : child.kinds < 2 ^ depth_of child

module _ (image : ImageValue) (old new : View) (tasks : List (Option Task)) (id c : ℕ) (task behind child : Task) (spawn : Spawn) (makes : MakesChild image old new tasks id c task behind child spawn) where
  -- the view without the child
  abbrev mid : View
  mid = record old { tasks = tasks }

  pub make_keeps_order : (heir : Option ℕ) → SoundOrder old heir → SoundOrder new heir
  make_keeps_order heir sound =
      add_keeps_order mid new c child makes.adds heir id makes.number (stepped_task task behind) makes.step.changes.changed makes.numbered
      (ap (λ t. t.key.tb) makes.idle) (ap live_creator makes.creator) makes.placed (step_keeps_order old mid id task behind makes.step heir sound)

  pub make_keeps_sizes : SoundSizes old → SoundSizes new
  make_keeps_sizes sizes =
      add_keeps_sizes mid new c child makes.adds (step_keeps_sizes old mid id task behind makes.step sizes makes.lists makes.bytes) makes.within makes.free makes.idle makes.kinds

  -- the heir is below the child, since it is not above the task that makes it
  heir_below : SoundSizes old → (heir : Option ℕ) → IsHeir old heir → (h : ℕ) (x : Task) → heir ≡ Some h
      → task_at mid h ≡ Some x → key_cmp x.key child.key ≡ Less
  heir_below sizes heir is_heir h x is at =
      let least = heir_is_least old heir h is_heir is in
      let upto = not_below_least old sizes h id least.0 task least.1 makes.step.there in
      each_stepped old mid id (stepped_task task behind) makes.step.changes (λ k t. k ≡ h → key_cmp t.key child.key ≡ Less)
      (λ k t other there same. (
      let both : Some t ≡ Some least.0 = sym there ∙ ap (task_at old) same ∙ least.1.queued_at.there in
      let eq : t ≡ least.0 = cc in
      subst (λ y. key_cmp y.key child.key ≡ Less) (sym eq) (below_third least.0.key task.key child.key upto makes.above)
      ))
      (λ same. makes.above) h x at refl

  pub make_keeps_heir : SoundSizes old → (heir : Option ℕ) → IsHeir old heir → IsHeir new heir
  make_keeps_heir sizes heir is =
      add_keeps_heir mid new c child makes.adds (subst (λ n. child.tile < n) (sym sizes.queues) makes.within) heir makes.idle
      (heir_below sizes heir is) (step_keeps_heir old mid id task behind makes.step heir is)

  module _ (heir : Option ℕ) (serial : SerialState) (sound : SoundTasks image old heir serial) where
    -- all tasks but the child stand as their statuses say
    stand_mid : (k : ℕ) (t : Task) → task_at mid k ≡ Some t → StandsAs image old.version old.settings.budget t t.status
    stand_mid = stand_still old mid id task behind makes.step makes.all_children image heir serial sound makes.stands

    pub make_keeps_memory : SoundMemory old serial → SoundMemory new serial
    make_keeps_memory memory =
        add_keeps_memory mid new c child makes.adds makes.idle image serial stand_mid
        (step_keeps_memory old mid id task behind makes.step serial refl makes.log makes.lines memory)

    same_free : SameFree (length old.history) (bag_tasks old) (bags_spilled old) (bag_tasks new) (bags_spilled old)
        × (AreSound (length old.history) (unwrap_or heir 0) (is_some heir) (bag_tasks old) (bags_spilled old)
        → AreSound (length old.history) (unwrap_or heir 0) (is_some heir) (bag_tasks new) (bags_spilled old))
    same_free =
        enqueues_keep (bag_tasks old) (bag_tasks new) (bags_spilled old) (length old.history) (unwrap_or heir 0) id c (bag_task task) spawn (depth_of child) (is_some heir) makes.bags

    matches : Matches (length old.history) (bag_tasks new) (bags_spilled old) serial.stack
    matches depth p =
        (λ free. (sound.matches depth p).0 ((same_free.0 depth p).1 free), λ stands. (same_free.0 depth p).0 ((sound.matches depth p).1 stands))

    -- what a task made it has made still
    made_now : (k index : ℕ) (d : Descriptor) → IsMadeBy mid k index d → IsMadeBy (added_to mid new) k index d
    made_now k index d made =
        record {
          creator = made.creator;
          there = still_there mid new c child makes.adds k made.creator made.there;
          spawn = made.spawn;
          made = made.made;
          descriptor_is = made.descriptor_is;
        }

    -- the child is as the task made it
    child_made : IsMadeBy (added_to mid new) id (length task.spawns) (descriptor_of child)
    child_made =
        record {
          creator = stepped_task task behind;
          there = still_there mid new c child makes.adds id (stepped_task task behind) makes.step.changes.changed;
          spawn = spawn;
          made = makes.made;
          descriptor_is = makes.descriptor;
        }

    abbrev InBags : ℕ → Task → Type 0
    InBags k t =
        (turn index : ℕ) → t.creator ≡ Committed turn index → FitsBags (domains_of t.kinds t.key.domain) serial.stack

    abbrev IsMade : ℕ → Task → Type 0
    IsMade k t =
        (creator : TaskId) (index : ℕ) → t.creator ≡ Live creator index → IsMadeBy (added_to mid new) creator.0 index (descriptor_of t)

    child_is_made : IsMade c child
    child_is_made creator index made =
        let both : Live (record { 0 = id }) (length task.spawns) ≡ Live creator index = sym makes.creator ∙ made in
        let by : record { 0 = id } ≡ creator = cc in
        let place : length task.spawns ≡ index = cc in
        subst (λ i. IsMadeBy (added_to mid new) creator.0 i (descriptor_of child)) place
        (subst (λ t. IsMadeBy (added_to mid new) t.0 (length task.spawns) (descriptor_of child)) by child_made)

    kept : SoundTasks image (added_to mid new) heir serial
    kept =
        record {
          few = sound.few;
          output = sound.output;
          names = same_free.1 sound.names;
          matches = matches;
          domains = λ k t turn index at. each_stepped mid new c child makes.adds.changes InBags
              (λ j x other there turn index made. domains_still old mid id task behind makes.step makes.all_children image heir serial sound j x turn index there made)
              (λ turn index made. absurd (cc (makes.creator, made))) k t at turn index;
          spilled_domains = sound.spilled_domains;
          stands =
              each_stepped mid new c child makes.adds.changes (λ k t. StandsAs image old.version old.settings.budget t t.status) (λ k t other there. stand_mid k t there)
              (subst (StandsAs image old.version old.settings.budget child) (sym (ap (λ t. t.status) makes.idle)) makes.idle);
          children = λ k t creator index at. each_stepped mid new c child makes.adds.changes IsMade
              (λ j x other there creator index made. made_now creator.0 index (descriptor_of x)
              (children_still old mid id task behind makes.step makes.all_children image heir serial sound j x creator index there made))
              child_is_made k t at creator index;
          spilled_children = λ s has next. (
              let was = sound.spilled_children s has next in
              (was.0, was.1, made_now was.0 s.desc.name.index (spilled_descriptor s) (made_still old mid id task behind makes.step makes.all_children was.0 s.desc.name.index (spilled_descriptor s) was.2))
              );
        }

    pub make_keeps_tasks : SoundTasks image new heir serial
    make_keeps_tasks = subst (λ v. SoundTasks image v heir serial) (sym makes.adds.frame) kept

  pub make_stays_sound : (sound : Sound image old) → StaysSound image old sound new
  make_stays_sound sound = (
    record {
      version = ap (λ v. v.version) makes.adds.frame ∙ sound.version;
      serial = sound.serial;
      is_run = subst (λ v. IsRun image v.settings.budget v.history sound.serial) (sym makes.adds.frame) sound.is_run;
      heir = sound.heir;
      is_heir = make_keeps_heir sound.sizes sound.heir sound.is_heir;
      tasks = make_keeps_tasks sound.heir sound.serial sound.tasks;
      memory = make_keeps_memory sound.heir sound.serial sound.tasks sound.memory;
      order = make_keeps_order sound.heir sound.order;
      sizes = make_keeps_sizes sound.sizes;
    },
    refl,
  )
