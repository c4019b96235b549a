-- An enqueue is a step of the task that makes it, and then a task that comes to be.
use Rattle.std.proofs.Common.{◌≡◌, ◌≢◌, ◌<◌, ◌∷◌, ◌++◌, ℕ, [], length, Some, None, refl, sym, ap, subst, ◌∙◌, inl, inr}
use Rattle.std.proofs.Common.{option_map, slice_get, slice_set}
use Rattle.std.proofs.lemmas.Bool.{cases_eq}
use Rattle.std.proofs.lemmas.List.{get_or-set_same, get_or-set_other}
use Rattle.guest_image.specs.ImageValue.{ImageValue}
use Rattle.rv_core.specs.LegValue.{LegValue}
use Rattle.spec_state.proofs.Below.run_law.Proved.{HasDomain, IsPlaced}
use Rattle.task_request.specs.declared.request.Request.TheVariants.{Enqueue}
use Rattle.task_request.specs.TaskState.{TaskState, task_at_start}
use Rattle.task_desc.specs.declared.desc.Spawn.{Spawn}
use Rattle.spec_state.specs.task_law.Grows as grows
use Rattle.spec_state.specs.declared.task.Task.{Task}
use Rattle.spec_state.specs.View.{View, task_at}
use Rattle.spec_state.specs.Tasks.{depth_of, progress_at, start_context}
use Rattle.spec_state.specs.Groups.{bag_task, bag_tasks}
use Rattle.spec_state.specs.Changes.{Enqueues, task_past_leg}
use Rattle.spec_law.specs.Keeping.{AsksAt, EnqueueStaysSound, IsLegOf}
use Rattle.spec_state.specs.Opening.{Adds}
use Rattle.spec_state.specs.Room.{QueueHasRoom}
use Rattle.spec_law.specs.RoomLaws.{child_of}
use Rattle.spec_law.specs.Sound.{Sound, StandsAs, StaysSound}
use Rattle.spec_law.proofs.Enqueues.Calls.{child_depth, child_fits, descriptor_same}
use Rattle.spec_law.proofs.Enqueues.Kept.{MakesChild, make_stays_sound}
use Rattle.spec_law.proofs.Rooms.Later.{there_is}
use Rattle.spec_law.proofs.Rooms.Child.{child_is_above}
use Rattle.spec_law.proofs.Steps.Laws.{left, ran_call}
use Rattle.spec_law.proofs.Steps.One.{StepsOne}
use Rattle.spec_law.proofs.Steps.Runs.{placed_at, run_placed}
use Rattle.spec_law.proofs.Steps.Sizes.{FitsLists, lists_stay}
use Rattle.spec_law.proofs.Steps.Sound.{stood}
use Rattle.spec_law.proofs.Steps.Tasks.{KeepsChildren}
use Rattle.spec_law.proofs.Tasks.Beside.{id_below}
use Rattle.fractal_vt.proofs.Proved.{get_end, get_front}

-- the view without the child, in which the task that makes it has done so
abbrev pub without_child : View → View → ℕ → View
without_child old new child = record old { tasks = slice_set new.tasks child None }

module _ (image : ImageValue) (old new : View) (sound : Sound image old) (tile core id target : ℕ) (leg : LegValue) (task : Task) (spawn : Spawn) (at : AsksAt image old tile core leg id task (Enqueue spawn)) (does : Enqueues id task leg spawn target old new) where
  abbrev taken : IsLegOf image old tile core leg id task
  taken = at.is_leg

  -- the task that makes it, once it has
  abbrev pub behind : Task
  behind = record (task_past_leg task leg) { spawns = task.spawns ++ spawn ∷ [] }

  -- as its run has it
  abbrev after : TaskState
  after = progress_at [] behind.core behind

  abbrev pub child : Task
  child = child_of old.version id task spawn target

  abbrev pub mid : View
  mid = without_child old new does.child

  abbrev there : task_at old id ≡ Some task
  there = taken.takes.runs.on.there

  pub apart : id ≢ does.child
  apart same = absurd (cc (there, ap (task_at old) same, does.vacant))

  none_there : task_at mid does.child ≡ None
  none_there = get_or-set_same new.tasks does.child None None (id_below new does.child child does.made)

  as_new : (k : ℕ) → k ≢ does.child → task_at mid k ≡ task_at new k
  as_new k other = get_or-set_other new.tasks does.child k None None other

  others : (k : ℕ) → k ≢ id → task_at mid k ≡ task_at old k
  others k other = elim (cases_eq k does.child) [
    | inl same ↦ ap (task_at mid) same ∙ none_there ∙ sym does.vacant ∙ ap (task_at old) (sym same)
    | inr other_child ↦ as_new k other_child ∙ does.others k other other_child
  ]

  -- a step of the task that makes it
  pub steps_one : StepsOne old mid id task behind
  steps_one = record {
    there = there;
    changes = record { changed = as_new id apart ∙ does.creator; others = others };
    rest = refl;
  }

  -- and the child comes to be
  pub adds : Adds does.child child mid new
  adds = record {
    vacant = none_there;
    changes = record { changed = does.made; others = λ k other. sym (as_new k other) };
    queues = does.queues;
    frame = does.frame;
  }

  -- the children that it made stay so
  pub all_children : KeepsChildren task behind
  all_children index made there_is = (
    get_front task.spawns (spawn ∷ []) index made there_is,
    descriptor_same task leg made spawn,
  )

  -- the new one is its last
  pub last_made : slice_get behind.spawns (length task.spawns) ≡ Some spawn
  last_made = get_end task.spawns spawn

  -- there is a domain for it
  pub has_domain : HasDomain (start_context old.version task).outer after.sub spawn.place
  has_domain =
      let placed : IsPlaced (start_context old.version task).outer after =
      run_placed image old.settings.budget image.data_size (start_context old.version task) (task_at_start old.version task.entry task.key.ts task.args [])
      (ran_call image old sound tile core id leg task (Enqueue spawn) after at tt refl) tt
      in
      placed_at (start_context old.version task).outer after.sub after.spawns (length task.spawns) spawn placed last_made

  -- it runs on
  pub stands_on : StandsAs image old.version old.settings.budget behind task.status
  stands_on = subst (StandsAs image old.version old.settings.budget behind) (sym taken.takes.runs.running)
      ((stood image old sound tile core id leg task taken).0, ran_call image old sound tile core id leg task (Enqueue spawn) after at tt refl)

  -- for the bags it is an enqueue
  pub bag_enqueues : grows.EnqueuesInBags (bag_tasks old) (bag_tasks new) id does.child (bag_task task) spawn
      (depth_of child)
  bag_enqueues = record {
    there = ap (option_map bag_task) there;
    dispatched = (stood image old sound tile core id leg task taken).0;
    unused = ap (option_map bag_task) does.vacant;
    place = child_depth task after.sub spawn.place has_domain;
    new_is = ap (option_map bag_task) does.creator;
    made = ap (option_map bag_task) does.made;
    others = λ k other other_child. ap (option_map bag_task) (does.others k other other_child);
  }

  -- the lists of commit queues and cores stay
  lists : FitsLists mid
  lists =
      lists_stay old mid id task behind steps_one sound.sizes refl refl (λ is. is, λ is. is) (λ held. (λ is. is, λ is. is))

  -- it makes a child
  makes : target < old.settings.tiles → QueueHasRoom old target
      → MakesChild image old new (slice_set new.tasks does.child None) id does.child task behind child spawn
  makes within free =
      let number = there_is task.key.tb (stood image old sound tile core id leg task taken).0 in
      let above = child_is_above image old tile core id target leg task spawn sound taken.takes at.asks in
      record {
        step = steps_one;
        log = refl;
        lines = refl;
        all_children = all_children;
        stands = stands_on;
        lists = lists;
        bytes =
            (left image old sound tile core id leg task (Enqueue spawn) after at tt refl).1 (sound.sizes.bytes id task there);
        number = number.0;
        numbered = number.1;
        adds = adds;
        idle = refl;
        creator = refl;
        made = last_made;
        descriptor = sym (descriptor_same task leg spawn spawn);
        bags = bag_enqueues;
        placed = above.0;
        above = above.1;
        within = within;
        free = free;
        kinds = child_fits task after.sub spawn.place has_domain (sound.sizes.kinds id task there);
      }

  pub enqueued : target < old.settings.tiles → QueueHasRoom old target → StaysSound image old sound new
  enqueued within free =
      make_stays_sound image old new (slice_set new.tasks does.child None) id does.child task behind child spawn (makes within free) sound

pub enqueue_stays_sound : EnqueueStaysSound
enqueue_stays_sound image old new sound tile core id target leg task spawn at within free does =
    enqueued image old new sound tile core id target leg task spawn at does within free
