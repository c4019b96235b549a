-- A dispatch keeps the group of tasks, whether the heir stays or the dispatched task is the heir from then on.
use Rattle.std.proofs.Common.{◌≡◌, ◌≢◌, ◌+◌, ◌≤◌, ℕ, true, false, length, Option, Some, None, refl, sym, ap, subst, ◌∙◌}
use Rattle.std.proofs.Common.{inl, inr, arith, option_map, slice_get, is_some, unwrap_or}
use Rattle.std.specs.Prelude.{Contains}
use Rattle.guest_image.specs.ImageValue.{ImageValue}
use Rattle.spec_state.specs.serial_machine.State.{SerialState}
use Rattle.spill_store.specs.SpilledTasks.{Spilled}
use Rattle.spec_state.specs.task_law.Domains.{FitsBags}
use Rattle.spec_state.specs.task_law.Grows.{DispatchesInBags}
use Rattle.spec_state.specs.task_law.Logged.{none}
use Rattle.spec_state.specs.task_law.Sound.{AreSound, SameFree}
use Rattle.spec_state.specs.task_law.Tasks as bags
use Rattle.spec_state.proofs.Below.task_law.Proved.{dispatches_keep, idle_least}
use Rattle.spec_state.specs.declared.task.Creator.{Creator}
use Rattle.spec_state.specs.declared.task.Creator.TheVariants.{Committed, Live}
use Rattle.spec_state.specs.declared.task.Status.TheVariants.{Running}
use Rattle.spec_state.specs.declared.task.Task.{Task}
use Rattle.spec_state.specs.View.{View, task_at}
use Rattle.spec_state.specs.Tasks.{Descriptor, descriptor_of, idle_again, is_dispatched, spilled_descriptor}
use Rattle.spec_state.specs.Groups.{all_spilled, bag_creator, bag_spilled, bag_task, bag_tasks, bags_spilled}
use Rattle.spec_state.specs.Groups.{domains_of, keyed_task, live_creator}
use Rattle.spec_state.specs.Changes.{Dispatches}
use Rattle.spec_law.specs.Sound.{StandsAs, IsMadeBy, SoundOrder, SoundTasks}
use Rattle.spec_law.proofs.Tasks.Places.{contained_in_map}
use Rattle.spec_law.proofs.Moves.MovingBags.{matches_still}
use Rattle.spec_law.proofs.Dispatches.One.{started, after, was, was_this, each_after}
use Rattle.spec_law.proofs.Tasks.Beside.{queued_stands}
use Rattle.fractal_vt.proofs.Proved.{mapped_some}

-- a creator that is live for the bags is so for the order
pub live_of : (c : Creator) (k index : ℕ) → bag_creator c ≡ bags.Live k index → live_creator c ≡ Some k
live_of (Committed turn i) k index is = absurd (cc (is))
live_of (Live task i) k index is = let same : task.0 ≡ k = cc in ap Some same

-- a task that had done nothing stands as running once it is dispatched
starts_running : (image : ImageValue) (version budget next core : ℕ) (t : Task) → t ≡ idle_again version t
    → StandsAs image version budget (started version next core t) (Running core)
starts_running image version budget next core t idle =
    subst (λ x. StandsAs image version budget (started version next core x) (Running core)) (sym idle) (refl, none)

module _ (image : ImageValue) (old new : View) (heir : Option ℕ) (serial : SerialState) (tile : ℕ) (d : Dispatches tile old new) (idle : d.task ≡ idle_again old.version d.task) (order : SoundOrder old heir) (sound : SoundTasks image old heir serial) where
  -- it has made no child
  childless : (k index : ℕ) (x : bags.BagTask) → bag_tasks old k ≡ Some x → x.creator ≢ bags.Live d.id index
  childless k index x at made =
      let read = mapped_some bag_task (task_at old k) x at in
      let live = live_of read.0.creator d.id index (sym (ap (λ y. y.creator) read.2) ∙ made) in
      let has = order.order.creators k (keyed_task read.0) d.id (queued_stands old heir k read.0 read.1) live in
      let both : Some has.task ≡ Some (keyed_task d.task) = sym has.there ∙ queued_stands old heir d.id d.task (was old new tile d) in
      let same : has.task ≡ keyed_task d.task = cc in
      let open' : d.task.key.tb ≡ None = ap (λ t. t.key.tb) idle in
      let number : d.task.key.tb ≡ Some has.number = sym (ap (λ y. y.last.tb) same) ∙ has.dispatched in
      absurd (cc (sym open' ∙ number))

  -- for the bags it starts
  starts : DispatchesInBags (bag_tasks old) (bag_tasks new) d.id (bag_task d.task)
  starts =
      record {
        there = ap (option_map bag_task) (was old new tile d);
        idle = ap is_dispatched idle;
        fresh = ap (λ t. t.spawns) idle;
        childless = childless;
        new_is = ap (option_map bag_task) d.changes.changed;
        others = λ k other. ap (option_map bag_task) (d.changes.others k other);
      }

  -- with this heir names are apart and families whole
  abbrev NamesAfter : Option ℕ → Type 0
  NamesAfter now_heir =
      AreSound (length old.history) (unwrap_or now_heir 0) (is_some now_heir) (bag_tasks new) (bags_spilled old)

  -- the free tasks are the same ones
  same_free : SameFree (length old.history) (bag_tasks old) (bags_spilled old) (bag_tasks new) (bags_spilled old)
  same_free =
      (dispatches_keep (bag_tasks old) (bag_tasks new) (bags_spilled old) (length old.history) d.id d.id (bag_task d.task) false true starts (λ same. refl) (λ runs. refl)).0

  -- what a creator made it has made still: it has a child, and so is not the task that is dispatched
  made_still : (id index : ℕ) (c : Descriptor) → IsMadeBy old id index c → IsMadeBy (after old new tile d) id index c
  made_still id index c made = record {
    creator = made.creator;
    there = d.changes.others id other ∙ made.there;
    spawn = made.spawn;
    made = made.made;
    descriptor_is = made.descriptor_is;
  }
    where
      other : id ≢ d.id
      other same =
          let this : made.creator ≡ d.task = was_this old new tile d id made.creator same made.there in
          let no_child : slice_get made.creator.spawns index ≡ None = ap (λ t. slice_get t.spawns index) (this ∙ idle) in
          absurd (cc (sym no_child ∙ made.made))

  -- a spilled child of this heir
  abbrev IsHeirs : Option ℕ → Spilled → Type 0
  IsHeirs now_heir s =
      (id : ℕ) × (now_heir ≡ Some id) × IsMadeBy (after old new tile d) id s.desc.name.index (spilled_descriptor s)

  -- the group of tasks with any heir that fits names and spilled children
  with_heir : (now_heir : Option ℕ) → NamesAfter now_heir
      → ((s : Spilled) → Contains (all_spilled old) s → s.desc.name.creator ≡ length old.history + 1 → IsHeirs now_heir s)
      → SoundTasks image (after old new tile d) now_heir serial
  with_heir now_heir names heirs =
      record {
        few = sound.few;
        output = sound.output;
        names = names;
        matches =
            matches_still (length old.history) (bag_tasks old) (bag_tasks new) (bags_spilled old) (bags_spilled old) serial.stack same_free sound.matches;
        domains =
            λ id t turn index at. each_after old new tile d (λ k x. x.creator ≡ Committed turn index → FitsBags (domains_of x.kinds x.key.domain) serial.stack)
            (λ made. sound.domains d.id d.task turn index (was old new tile d) made) (λ k x other there made. sound.domains k x turn index there made) id t at;
        spilled_domains = sound.spilled_domains;
        stands = each_after old new tile d (λ k x. StandsAs image old.version old.settings.budget x x.status)
            (starts_running image old.version old.settings.budget old.next d.core d.task idle) (λ k x other there. sound.stands k x there);
        children =
            λ id t creator index at. each_after old new tile d (λ k x. x.creator ≡ Live creator index → IsMadeBy (after old new tile d) creator.0 index (descriptor_of x))
            (λ made. made_still creator.0 index (descriptor_of d.task) (sound.children d.id d.task creator index (was old new tile d) made))
            (λ k x other there made. made_still creator.0 index (descriptor_of x) (sound.children k x creator index there made)) id t at;
        spilled_children = heirs;
      }

  -- the heir stays, where it is another task
  pub same_heir_tasks : ((h : ℕ) → heir ≡ Some h → h ≢ d.id) → SoundTasks image (after old new tile d) heir serial
  same_heir_tasks other = with_heir heir
      ((dispatches_keep (bag_tasks old) (bag_tasks new) (bags_spilled old) (length old.history) (unwrap_or heir 0) d.id (bag_task d.task) (is_some heir) (is_some heir) starts
      (off heir refl) (λ runs. runs)).1 sound.names)
      (λ s has next. (let from = sound.spilled_children s has next in (from.0, from.1, made_still from.0 s.desc.name.index (spilled_descriptor s) from.2)))
    where
      off : (h : Option ℕ) → heir ≡ h → d.id ≡ unwrap_or h 0 → is_some h ≡ false
      off None is same = refl
      off (Some h) is same = absurd (other h is (sym same))

  -- where there was no heir, no spilled task is a child of one
  pub none_next : heir ≡ None → (s : Spilled) → Contains (all_spilled old) s → s.desc.name.creator ≤ length old.history
  none_next is s has = elim (sound.names.firm s.desc.depth _ (contained_in_map bag_spilled (all_spilled old) s has)) [
    | inl low ↦ low
    | inr next ↦ absurd (cc (sym (ap is_some is) ∙ next.1))
  ]

  -- the dispatched task is the heir, where there was none
  pub new_heir_tasks : heir ≡ None → SoundTasks image (after old new tile d) (Some d.id) serial
  new_heir_tasks is = with_heir (Some d.id)
      ((dispatches_keep (bag_tasks old) (bag_tasks new) (bags_spilled old) (length old.history) d.id d.id (bag_task d.task) false true starts
      (λ same. refl) (λ runs. refl)).1
      (idle_least (length old.history) (unwrap_or heir 0) d.id false (bag_tasks old) (bags_spilled old)
      (subst (λ h. AreSound (length old.history) (unwrap_or heir 0) (is_some h) (bag_tasks old) (bags_spilled old)) is sound.names)))
      (λ s has next. (let low = none_next is s has in absurd (omega (arith, low, next))))
