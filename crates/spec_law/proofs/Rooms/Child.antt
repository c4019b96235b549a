-- The child of an enqueue that is allowed stands where the law of order lets it, above its creator.
use Rattle.std.proofs.Common.{◌≡◌, ◌≢◌, ℕ, zero, suc, ◌+◌, ◌-◌, ◌*◌, ◌%◌, ◌^◌, ◌==◌, ◌<◌, ◌≤◌, false, List, [], ◌∷◌}
use Rattle.std.proofs.Common.{◌++◌, length, map, take, unwrap_or, Option, Some, None, refl, sym, ap, subst, ◌∙◌, inl}
use Rattle.std.proofs.Common.{inr, arith}
use Rattle.std.proofs.lemmas.List.{length-map, length_push, map-append}
use Rattle.std.specs.Prelude.{Ok}
use Rattle.std.specs.declared.cmp.Ordering.TheVariants.{Less}
use Rattle.fractal_vt.specs.Keys.{last, key_cmp}
use Rattle.fractal_vt.specs.Levels.{closed_level}
use Rattle.fractal_vt.specs.declared.level.Level.{Level}
use Rattle.fractal_vt.specs.declared.vt.TheConstants.{MAX_LEVELS}
use Rattle.guest_image.specs.ImageValue.{ImageValue}
use Rattle.guest_image.specs.declared.image.Kind.{Kind}
use Rattle.guest_image.specs.declared.image.Kind.TheVariants.{Unordered, Ordered}
use Rattle.order_law.specs.Events.{IsPlaced}
use Rattle.order_law.specs.Tasks.{Keyed}
use Rattle.order_law.proofs.Proved.{stands}
use Rattle.rv_core.specs.LegValue.{LegValue}
use Rattle.spec_state.specs.serial_machine.Legs.{SubFits}
use Rattle.spec_state.proofs.Below.serial_machine.Proved.{request-sub_fits}
use Rattle.task_desc.specs.declared.calls.TheConstants.{MAX_DEPTH}
use Rattle.task_desc.specs.Calls.{allowed_at, allowed_sub, allowed_super}
use Rattle.task_request.specs.declared.request.Request.TheVariants.{Enqueue}
use Rattle.task_request.specs.TaskState.{TaskState, task_at_start, context}
use Rattle.task_request.proofs.Proved.{AllowedBy, request_at-allowed_spawn}
use Rattle.spec_state.proofs.Below.task_law.Proved.{logged-holds}
use Rattle.task_desc.specs.declared.desc.Place.{Place}
use Rattle.task_desc.specs.declared.desc.Place.TheVariants.{Same, Sub, Super}
use Rattle.task_desc.specs.declared.desc.Spawn.{Spawn}
use Rattle.spec_state.specs.declared.task.Task.{Task}
use Rattle.spec_state.specs.View.{View}
use Rattle.spec_state.specs.Tasks.{depth_of, is_ordered_at, ordered_to, outer_kind, floor_in, start_context, context_of}
use Rattle.spec_state.specs.Tasks.{progress_at, own_level, child_domain, child_kinds, sub_bit}
use Rattle.spec_state.specs.Groups.{keyed_task}
use Rattle.spec_state.specs.Changes.{TakesLeg}
use Rattle.spec_law.specs.RoomLaws.{child_of, ChildIsAbove}
use Rattle.spec_law.specs.Sound.{Sound, StandsAs}
use Rattle.spec_law.proofs.Tasks.Beside.{queued_stands}
use Rattle.spec_law.proofs.Rooms.Calls.{bounded_is, free_is}
use Rattle.spec_law.proofs.Rooms.Kinds.{ordered_more, ordered_below, kind_added, ordered_low, kind_low}
use Rattle.spec_law.proofs.Rooms.Later.{there_is}

-- the last level of a domain, whose timestamp is the domain's floor
record HasLast (domain : List Level) : Type 0 where
  pub level : Level
  pub is : domain ≡ take (length domain - 1) domain ++ level ∷ []
  pub floor : (outer : ℕ) → floor_in outer domain ≡ level.ts
  pub long : length (take (length domain - 1) domain) + 1 ≡ length domain

last_of : (domain : List Level) (n : ℕ) → length domain ≡ suc n → HasLast domain
last_of [] n long = absurd (omega (arith, long))
last_of (x ∷ []) n long = record { level = x; is = refl; floor = λ outer. refl; long = refl }
last_of (x ∷ y ∷ ys) n long =
    let rest = last_of (y ∷ ys) (length ys) refl in
    let one_more : length (x ∷ y ∷ ys) - 1 ≡ suc (length (y ∷ ys) - 1) = omega arith in
    let tail : length (take (length (y ∷ ys) - 1) (y ∷ ys)) + 1 ≡ length (y ∷ ys) = rest.long in
    record {
      level = rest.level;
      is = ap (λ zs. x ∷ zs) rest.is ∙ ap (λ k. take k (x ∷ y ∷ ys) ++ rest.level ∷ []) (sym one_more);
      floor = λ outer. rest.floor x.ts;
      long = ap (λ k. length (take k (x ∷ y ∷ ys)) + 1) one_more ∙ omega (arith, tail);
    }

-- a kind whose bit is not 1 is unordered
unordered_from : (kind : Kind) → (sub_bit (Some kind) == 1) ≡ false → kind ≡ Unordered
unordered_from Unordered e = refl
unordered_from Ordered e = absurd (cc (e))

-- a kind has one bit
bit_low : (sub : Option Kind) → sub_bit sub < 2
bit_low None = omega arith
bit_low (Some Unordered) = omega arith
bit_low (Some Ordered) = omega arith

module _ (version : ℕ) (task : Task) (id : ℕ) (before : TaskState) where
  -- how many levels the task's domain has
  abbrev size : ℕ
  size = length task.key.domain

  -- a child as the order reads it
  abbrev keyed_child : Place → ℕ → Keyed
  keyed_child place ts = record {
    domain = map closed_level (child_domain task place);
    last = record { ts = ts; tb = None };
    kinds = ordered_to (length (child_domain task place)) (child_kinds task place);
    ordered = is_ordered_at (length (child_domain task place)) (child_kinds task place);
    creator = Some id;
  }

  -- in the creator's own domain
  same_placed : (asked ts : ℕ) → allowed_at (context (start_context version task) before) asked Same ≡ Ok ts
      → IsPlaced (keyed_task task) (keyed_child Same ts)
  same_placed asked ts allows =
      let bounds = bounded_is (context (start_context version task) before) (is_ordered_at size task.kinds) asked task.key.ts ts allows in
      inl ((refl, refl, refl), record { late = bounds.0; timely = bounds.1 })

  -- in the subdomain
  sub_placed : (number asked ts : ℕ) (kind : Kind) → task.key.tb ≡ Some number → task.kinds < 2 ^ depth_of task
      → size < MAX_LEVELS
      → task.sub ≡ Some kind → depth_of task ≢ MAX_DEPTH
      → allowed_sub (context (start_context version task) before) asked (Some kind) ≡ Ok ts
      → IsPlaced (keyed_task task) (keyed_child Sub ts)
  sub_placed number asked ts kind numbered low fits sub shallow allows =
      let next : depth_of task ≡ suc size = omega arith in
      let long : length (child_domain task Sub) ≡ suc size = length_push task.key.domain (own_level task) ∙ next in
      let own : closed_level (own_level task) ≡ last task.key =
      ap (λ tb. record { ts = task.key.ts; tb = Some (unwrap_or tb 0) }) numbered
      ∙ ap (λ tb. record { ts = task.key.ts; tb = tb }) (sym numbered) in
      let bit : sub_bit task.sub < 2 = bit_low task.sub in
      let few : task.kinds < 2 ^ suc size = subst (λ n. task.kinds < 2 ^ n) next low in
      let same : child_kinds task Sub ≡ task.kinds + sub_bit task.sub * 2 ^ suc size = ap (λ n. task.kinds + sub_bit task.sub * 2 ^ n) next in
      let ordered : is_ordered_at (length (child_domain task Sub)) (child_kinds task Sub) ≡ (sub_bit (Some kind) == 1) =
      ap (λ n. is_ordered_at n (child_kinds task Sub)) long ∙ ap (is_ordered_at (suc size)) same
      ∙ kind_added (suc size) task.kinds (sub_bit task.sub) few bit ∙ ap (λ k. sub_bit k == 1) sub in
      inr (inl (
        (
          map-append closed_level task.key.domain (own_level task ∷ [])
              ∙ ap (λ l. map closed_level task.key.domain ++ l ∷ []) own,
          ap (λ n. ordered_to n (child_kinds task Sub)) long ∙ ap (ordered_to (suc size)) same
              ∙ ordered_below (suc size) task.kinds (sub_bit task.sub) ∙ ordered_more size task.kinds,
        ),
        (λ e. free_is (context (start_context version task) before) kind asked ts allows (unordered_from kind (sym ordered ∙ e))),
        subst (λ n. n < MAX_LEVELS) (sym (length-map (child_domain task Sub) closed_level ∙ long))
            (deep size fits shallow),
      ))
    where
      deep : (n : ℕ) → n < MAX_DEPTH → n + 1 ≢ MAX_DEPTH → suc n < MAX_DEPTH
      deep n less other = omega (arith, less, other)

  -- in the superdomain, where the task's domain has a level more than this
  super_placed : (asked ts n : ℕ) → size ≡ suc n
      → allowed_super (context (start_context version task) before) asked (outer_kind (suc n) task.kinds) ≡ Ok ts
      → IsPlaced (keyed_task task) (keyed_child Super ts)
  super_placed asked ts n is allows =
      let bounds = bounded_is (context (start_context version task) before) (is_ordered_at n task.kinds) asked (floor_in 0 task.key.domain) ts allows in
      let end = last_of task.key.domain n is in
      let whole = end.long in
      let long : length (child_domain task Super) ≡ n = omega (arith, is, whole) in
      let ordered : is_ordered_at (length (child_domain task Super)) (child_kinds task Super) ≡ is_ordered_at n task.kinds =
      ap (λ k. is_ordered_at k (child_kinds task Super)) long ∙ ap (λ k. is_ordered_at n (task.kinds % 2 ^ k)) is
      ∙ kind_low n task.kinds in
      inr (inr (
        closed_level end.level,
        (
          ap (map closed_level) end.is ∙ map-append closed_level (take (size - 1) task.key.domain) (end.level ∷ []),
          sym (ordered_low size task.kinds) ∙ ap (λ k. ordered_to k (child_kinds task Super)) is
              ∙ ordered_more n (child_kinds task Super)
              ∙ ap (λ k. ordered_to k (child_kinds task Super) ++ is_ordered_at k (child_kinds task Super) ∷ []) (sym long),
        ),
        record {
          late = λ e. subst (λ bound. bound ≤ ts) (end.floor 0) (bounds.0 (sym ordered ∙ e));
          timely = λ e. bounds.1 (sym ordered ∙ e);
        },
      ))

  -- for each domain of a child
  placed : (number : ℕ) → task.key.tb ≡ Some number → task.kinds < 2 ^ depth_of task → size < MAX_LEVELS
      → SubFits (depth_of task) task.sub → before.sub ≡ task.sub
      → (place : Place) (asked ts : ℕ) → allowed_at (context (start_context version task) before) asked place ≡ Ok ts
      → IsPlaced (keyed_task task) (keyed_child place ts)
  placed number numbered low fits shallow subs Same asked ts allows = same_placed asked ts allows
  placed number numbered low fits shallow subs Sub asked ts allows =
      by_sub task.sub refl shallow (subst (λ sub. allowed_sub (context (start_context version task) before) asked sub ≡ Ok ts) subs allows)
    where
      by_sub : (sub : Option Kind) → task.sub ≡ sub → SubFits (depth_of task) sub
          → allowed_sub (context (start_context version task) before) asked sub ≡ Ok ts
          → IsPlaced (keyed_task task) (keyed_child Sub ts)
      by_sub None is above refused = absurd (cc (refused))
      by_sub (Some kind) is above taken = sub_placed number asked ts kind numbered low fits is above taken
  placed number numbered low fits shallow subs Super asked ts allows = by_size size refl allows
    where
      by_size : (n : ℕ) → size ≡ n
          → allowed_super (context (start_context version task) before) asked (outer_kind n task.kinds) ≡ Ok ts
          → IsPlaced (keyed_task task) (keyed_child Super ts)
      by_size zero is refused = absurd (cc (refused))
      by_size (suc n) is taken = super_placed asked ts n is taken

module _ (image : ImageValue) (view : View) (sound : Sound image view) (id : ℕ) (task : Task) (leg : LegValue) where
  -- the state in which the call stands
  abbrev at_call : TaskState
  at_call = progress_at view.memory leg.to task

  -- the child that is asked for, where it is allowed, stands where the law of order lets it
  asked_placed : (tile core to : ℕ) (spawn : Spawn) → TakesLeg view tile core leg id task
      → AllowedBy (context_of view.version task) (Enqueue spawn)
      → IsPlaced (keyed_task task) (keyed_task (child_of view.version id task spawn to))
  asked_placed tile core to spawn takes (asked, allows, is) =
      let there = takes.runs.on.there in
      let did = subst (StandsAs image view.version view.settings.budget task) takes.runs.running (sound.tasks.stands id task there) in
      let number = there_is task.key.tb did.0 in
      let shaped = sound.order.order.shaped id (keyed_task task) (queued_stands view sound.heir id task there) in
      let fits : length task.key.domain < MAX_LEVELS = subst (λ n. n < MAX_LEVELS) (length-map task.key.domain closed_level) shaped.0 in
      let shallow = logged-holds image view.settings.budget image.data_size (start_context view.version task) (λ t. SubFits (depth_of task) t.sub)
      (task_at_start view.version task.entry task.key.ts task.args []) (λ t core here. here) (request-sub_fits (start_context view.version task)) did.1 tt in
      subst (λ place. IsPlaced (keyed_task task) (keyed_child view.version task id at_call place spawn.ts)) (sym (ap (λ s. s.place) is))
      (placed view.version task id at_call number.0 number.1 (sound.sizes.kinds id task there) fits shallow refl asked.place asked.ts spawn.ts allows)

  -- and it is above its creator
  placed_above : (tile core to : ℕ) (spawn : Spawn) → TakesLeg view tile core leg id task
      → IsPlaced (keyed_task task) (keyed_task (child_of view.version id task spawn to))
      → key_cmp task.key (child_of view.version id task spawn to).key ≡ Less
  placed_above tile core to spawn takes is_placed =
      let there = takes.runs.on.there in
      let did = subst (StandsAs image view.version view.settings.budget task) takes.runs.running (sound.tasks.stands id task there) in
      let number = there_is task.key.tb did.0 in
      let at = queued_stands view sound.heir id task there in
      (stands view.next number.0 (keyed_task task) (keyed_task (child_of view.version id task spawn to)) number.1 (sound.order.order.number_below id (keyed_task task) number.0 at number.1)
      (sound.order.order.domain_numbers id (keyed_task task) at) (sound.order.order.shaped id (keyed_task task) at) refl is_placed).below

pub child_is_above : ChildIsAbove
child_is_above image view tile core id to leg task spawn sound takes asks =
    let allows : AllowedBy (context_of view.version task) (Enqueue spawn) = subst (AllowedBy (context_of view.version task)) asks (request_at-allowed_spawn (context_of view.version task) leg.to leg.stop) in
    let is_placed = asked_placed image view sound id task leg tile core to spawn takes allows in
    (is_placed, placed_above image view sound id task leg tile core to spawn takes is_placed)
