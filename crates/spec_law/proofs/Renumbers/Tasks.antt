-- A renumbering keeps the group of tasks: it reads of keys how deep they are, their timestamps, whether they are
-- dispatched, and that a child's domain is the one that its creator's key gives, which is renumbered as that key is.
use Rattle.std.proofs.Common.{◌≡◌, ◌+◌, ◌-◌, ◌*◌, ◌/◌, ◌%◌, ◌^◌, ◌≤◌, ◌++◌, ◌∷◌, ℕ, zero, suc, true, List, [], length}
use Rattle.std.proofs.Common.{Option, Some, None, refl, sym, ap, subst, ◌∙◌, map, take, option_map, is_some, unwrap_or}
use Rattle.std.specs.Prelude.{Contains}
use Rattle.std.proofs.lemmas.List.{length-map}
use Rattle.fractal_vt.specs.declared.level.Level.{Level}
use Rattle.fractal_vt.specs.Renumbered.{place_in, renumbered_levels, renumbered_level}
use Rattle.guest_image.specs.ImageValue.{ImageValue}
use Rattle.spec_state.specs.serial_machine.State.{SerialState}
use Rattle.task_request.specs.TaskState.{TaskState, task_at_start}
use Rattle.task_request.specs.declared.request.Request.{Request}
use Rattle.task_request.specs.declared.request.Request.TheVariants.{End, Trap}
use Rattle.spill_store.specs.SpilledTasks.{Spilled, renumbered_spilled}
use Rattle.task_desc.specs.declared.desc.Place.{Place}
use Rattle.task_desc.specs.declared.desc.Place.TheVariants.{Same, Sub, Super}
use Rattle.task_desc.specs.declared.desc.Spawn.{Spawn}
use Rattle.spec_state.specs.task_law.Commit.{Matches}
use Rattle.spec_state.specs.task_law.Domains.{Domain, FitsBags}
use Rattle.spec_state.specs.task_law.Logged.{CoreAsks, LoggedRun}
use Rattle.spec_state.specs.task_law.Sound.{AreSound}
use Rattle.spec_state.specs.declared.task.Creator.TheVariants.{Committed, Live}
use Rattle.spec_state.specs.declared.task.Status.{Status}
use Rattle.spec_state.specs.declared.task.Status.TheVariants.{Idle, Running, Trapped, Finished}
use Rattle.spec_state.specs.declared.task.Task.{Task}
use Rattle.spec_state.specs.declared.task.TaskId.{TaskId}
use Rattle.spec_state.specs.View.{View, task_at}
use Rattle.spec_state.specs.Tasks.{Descriptor, child_descriptor, child_domain, child_kinds, descriptor_of, floor_in}
use Rattle.spec_state.specs.Tasks.{is_dispatched, kind_at, outer_kind, own_level, spilled_descriptor, start_context}
use Rattle.spec_state.specs.Tasks.{sub_bit}
use Rattle.spec_state.specs.Groups.{all_spilled, bag_spilled, bag_task, bag_tasks, bags_spilled, domains_behind}
use Rattle.spec_state.specs.Groups.{domains_of, keyed_task, live_creator}
use Rattle.spec_state.specs.Least.{IsHeir}
use Rattle.spec_state.specs.Numbers.{Renumbers, renumbered_task}
use Rattle.spec_law.specs.Sound.{RanTo, done_so_far, AsksNext, StandsAs, IsMadeBy, SoundOrder, SoundTasks}
use Rattle.spec_law.proofs.Dispatches.Below.{number_of}
use Rattle.spec_law.proofs.Tasks.Beside.{queued_stands}
use Rattle.spec_law.proofs.Renumbers.One.{after, all_are, each, each_now, now, spilled_before}
use Rattle.fractal_vt.proofs.Proved.{is_some_mapped}

module _ (table : List ℕ) where
  -- a domain is as deep as before
  pub deep : (ds : List Level) → length (renumbered_levels table ds) ≡ length ds
  deep ds = length-map ds (renumbered_level table)

  -- its floor is the same
  floor_same : (floor : ℕ) (ds : List Level) → floor_in floor (renumbered_levels table ds) ≡ floor_in floor ds
  floor_same floor [] = refl
  floor_same floor (d ∷ ds) = floor_same d.ts ds

  -- and so are the kinds and floors of all domains on it
  domains_same : (outer : List Domain) (floor kinds : ℕ) (ds : List Level)
      → domains_behind outer floor kinds (renumbered_levels table ds) ≡ domains_behind outer floor kinds ds
  domains_same outer floor kinds [] = refl
  domains_same outer floor kinds (d ∷ ds) =
      domains_same (record { kind = kind_at 0 kinds; floor = floor } ∷ outer) d.ts (kinds / 2) ds

  taken_same : (n : ℕ) (ds : List Level) → take n (renumbered_levels table ds) ≡ renumbered_levels table (take n ds)
  taken_same zero ds = refl
  taken_same (suc n) [] = refl
  taken_same (suc n) (d ∷ ds) = ap (λ xs. renumbered_level table d ∷ xs) (taken_same n ds)

  joined : (xs : List Level) (y : Level)
      → renumbered_levels table (xs ++ y ∷ []) ≡ renumbered_levels table xs ++ renumbered_level table y ∷ []
  joined [] y = refl
  joined (x ∷ xs) y = ap (λ zs. renumbered_level table x ∷ zs) (joined xs y)

  -- a task's calls depend on what they depended on
  context_same : (version : ℕ) (t : Task) → start_context version (renumbered_task table t) ≡ start_context version t
  context_same version t = λ i. record {
    version = version;
    depth = deep t.key.domain i + 1;
    own = kind_at (deep t.key.domain i) t.kinds;
    outer = outer_kind (deep t.key.domain i) t.kinds;
    ts = t.key.ts;
    floor = floor_same 0 t.key.domain i;
    sub = None;
    children = 0;
    bytes = 0;
  }

  -- for the bags it is the same task
  bag_same : (t : Task) → bag_task (renumbered_task table t) ≡ bag_task t
  bag_same t =
      λ i. record (bag_task t) { depth = deep t.key.domain i + 1; dispatched = is_some_mapped (place_in table) t.key.tb i }

  bags_of : (ss : List Spilled) → map bag_spilled (map (renumbered_spilled table) ss) ≡ map bag_spilled ss
  bags_of [] = refl
  bags_of (s ∷ ss) = ap (λ bs. bag_spilled s ∷ bs) (bags_of ss)

  -- a descriptor with the places of its tiebreakers
  abbrev renumbered_descriptor : Descriptor → Descriptor
  renumbered_descriptor d = record d { domain = renumbered_levels table d.domain }

  -- the own level of a dispatched task
  own_same : (t : Task) (n : ℕ) → t.key.tb ≡ Some n
      → own_level (renumbered_task table t) ≡ renumbered_level table (own_level t)
  own_same t n is =
      ap (λ tb. let level : Level = record { ts = t.key.ts; tb = unwrap_or (option_map (place_in table) tb) 0 } in level) is
      ∙ sym (ap (λ tb. renumbered_level table (record { ts = t.key.ts; tb = unwrap_or tb 0 })) is)

  -- the domain of its child
  child_same : (t : Task) (n : ℕ) → t.key.tb ≡ Some n → (place : Place)
      → child_domain (renumbered_task table t) place ≡ renumbered_levels table (child_domain t place)
  child_same t n is Same = refl
  child_same t n is Sub =
      ap (λ own. renumbered_levels table t.key.domain ++ own ∷ []) (own_same t n is)
      ∙ sym (joined t.key.domain (own_level t))
  child_same t n is Super =
      ap (λ k. take (k - 1) (renumbered_levels table t.key.domain)) (deep t.key.domain)
      ∙ taken_same (length t.key.domain - 1) t.key.domain

  kinds_same : (t : Task) (place : Place) → child_kinds (renumbered_task table t) place ≡ child_kinds t place
  kinds_same t Same = refl
  kinds_same t Sub = ap (λ k. t.kinds + sub_bit t.sub * 2 ^ (k + 1)) (deep t.key.domain)
  kinds_same t Super = ap (λ k. t.kinds % 2 ^ k) (deep t.key.domain)

  -- its child is as it made it
  made_same : (t : Task) (n : ℕ) → t.key.tb ≡ Some n → (spawn : Spawn)
      → renumbered_descriptor (child_descriptor t spawn) ≡ child_descriptor (renumbered_task table t) spawn
  made_same t n is spawn = λ i. record {
    entry = spawn.entry;
    args = spawn.args;
    hint = spawn.hint;
    ts = spawn.ts;
    domain = sym (child_same t n is spawn.place) i;
    kinds = sym (kinds_same t spawn.place) i;
  }

  module _ (image : ImageValue) (version budget : ℕ) where
    ran : (t : Task) (p : TaskState) → RanTo image version budget t p
        → RanTo image version budget (renumbered_task table t) p
    ran t p done =
        subst (λ ctx. LoggedRun image budget image.data_size ctx (task_at_start version t.entry t.key.ts t.args []) t.log p) (sym (context_same version t)) done

    asks : (t : Task) (p : TaskState) (request : Request) → AsksNext image version budget t p request
        → AsksNext image version budget (renumbered_task table t) p request
    asks t p request asked =
        subst (λ ctx. CoreAsks image budget image.data_size ctx p request) (sym (context_same version t)) asked

    is_still : (t : Task) → is_dispatched t ≡ true → is_dispatched (renumbered_task table t) ≡ true
    is_still t runs = is_some_mapped (place_in table) t.key.tb ∙ runs

    -- it has done what its status says
    pub stands_still : (t : Task) (s : Status) → StandsAs image version budget t s
        → StandsAs image version budget (renumbered_task table t) s
    stands_still t Idle idle = ap (renumbered_task table) idle
    stands_still t (Running core) runs = (is_still t runs.0, ran t (done_so_far image version budget t) runs.1)
    stands_still t (Trapped core cause) trapped = (
      is_still t trapped.0,
      record {
        ran = ran t (done_so_far image version budget t) trapped.1.ran;
        traps = asks t (done_so_far image version budget t) (Trap cause) trapped.1.traps;
      },
    )
    stands_still t Finished ended = (
      is_still t ended.0,
      record {
        before = ended.1.before;
        ran = ran t ended.1.before ended.1.ran;
        ends = asks t ended.1.before End ended.1.ends;
        leaves = ended.1.leaves;
      },
    )

module _ (image : ImageValue) (old new : View) (r : Renumbers old new) (heir : Option ℕ) (serial : SerialState) (is_heir : IsHeir old heir) (order : SoundOrder old heir) (sound : SoundTasks image old heir serial) where
  -- for the bags all tasks are the same
  same_bags : bag_tasks (after old new r) ≡ bag_tasks old
  same_bags = λ i id. (ap (option_map bag_task) (each old new r id) ∙ by_task (task_at old id)) i
    where
      by_task : (o : Option Task) → option_map bag_task (option_map (renumbered_task r.table) o) ≡ option_map bag_task o
      by_task None = refl
      by_task (Some t) = ap Some (bag_same r.table t)

  same_spilled : bags_spilled (after old new r) ≡ bags_spilled old
  same_spilled = ap (map bag_spilled) (all_are old new r) ∙ bags_of r.table (all_spilled old)

  -- a child is as its creator made it, which is dispatched
  made_still : (id index : ℕ) (d : Descriptor) (n : ℕ) (made : IsMadeBy old id index d) → made.creator.key.tb ≡ Some n
      → IsMadeBy (after old new r) id index (renumbered_descriptor r.table d)
  made_still id index d n made is = record {
    creator = renumbered_task r.table made.creator;
    there = now old new r id made.creator made.there;
    spawn = made.spawn;
    made = made.made;
    descriptor_is = ap (renumbered_descriptor r.table) made.descriptor_is
        ∙ made_same r.table made.creator n is made.spawn;
  }

  child_made : (id : ℕ) (t : Task) → task_at old id ≡ Some t → (creator : TaskId) (index : ℕ)
      → t.creator ≡ Live creator index
      → IsMadeBy (after old new r) creator.0 index (descriptor_of (renumbered_task r.table t))
  child_made id t there creator index live =
      let made = sound.children id t creator index there live in
      let has = order.order.creators id (keyed_task t) creator.0 (queued_stands old heir id t there) (ap live_creator live) in
      let both : Some has.task ≡ Some (keyed_task made.creator) = sym has.there ∙ queued_stands old heir creator.0 made.creator made.there in
      let same : has.task ≡ keyed_task made.creator = cc in
      made_still creator.0 index (descriptor_of t) has.number made (sym (ap (λ x. x.last.tb) same) ∙ has.dispatched)

  spilled_made : (s : Spilled) → Contains (all_spilled old) s → s.desc.name.creator ≡ length old.history + 1
      → (id : ℕ) × (heir ≡ Some id) × IsMadeBy (after old new r) id s.desc.name.index (spilled_descriptor (renumbered_spilled r.table s))
  spilled_made s has next =
      let made = sound.spilled_children s has next in
      let is : IsHeir old (Some made.0) = subst (IsHeir old) made.1 is_heir in
      let both : Some made.2.creator ≡ Some is.0 = sym made.2.there ∙ is.1.queued_at.there in
      let same : made.2.creator ≡ is.0 = cc in
      let number = number_of is.0.key.tb is.2 in
      (made.0, made.1, made_still made.0 s.desc.name.index (spilled_descriptor s) number.0 made.2 (ap (λ (t : Task). t.key.tb) same ∙ number.1))

  -- the group of tasks
  pub renumbered_tasks : SoundTasks image (after old new r) heir serial
  renumbered_tasks =
      record {
        few = sound.few;
        output = sound.output;
        names =
            subst (λ tasks. AreSound (length old.history) (unwrap_or heir 0) (is_some heir) tasks (bags_spilled (after old new r))) (sym same_bags)
            (subst (AreSound (length old.history) (unwrap_or heir 0) (is_some heir) (bag_tasks old)) (sym same_spilled) sound.names);
        matches =
            subst (λ tasks. Matches (length old.history) tasks (bags_spilled (after old new r)) serial.stack) (sym same_bags)
            (subst (λ ss. Matches (length old.history) (bag_tasks old) ss serial.stack) (sym same_spilled) sound.matches);
        domains = λ id t turn index there made.
            each_now old new r (λ k x. x.creator ≡ Committed turn index → FitsBags (domains_of x.kinds x.key.domain) serial.stack)
            (λ k w at committed. subst (λ ds. FitsBags ds serial.stack) (sym (domains_same r.table [] 0 w.kinds w.key.domain)) (sound.domains k w turn index at committed))
            id t there made;
        spilled_domains = λ s has low.
            (let was = spilled_before old new r s has in
            subst (λ x. FitsBags (domains_of x.desc.kinds x.domain) serial.stack) (sym was.2)
            (subst (λ ds. FitsBags ds serial.stack) (sym (domains_same r.table [] 0 was.0.desc.kinds was.0.domain))
            (sound.spilled_domains was.0 was.1 (subst (λ x. x.desc.name.creator ≤ length old.history) was.2 low))));
        stands = each_now old new r (λ k x. StandsAs image old.version old.settings.budget x x.status)
            (λ k w at. stands_still r.table image old.version old.settings.budget w w.status (sound.stands k w at));
        children = λ id t creator index there live.
            each_now old new r (λ k x. x.creator ≡ Live creator index → IsMadeBy (after old new r) creator.0 index (descriptor_of x))
            (λ k w at made. child_made k w at creator index made) id t there live;
        spilled_children = λ s has next.
            (let was = spilled_before old new r s has in
            subst (λ x. (id : ℕ) × (heir ≡ Some id) × IsMadeBy (after old new r) id x.desc.name.index (spilled_descriptor x)) (sym was.2)
            (spilled_made was.0 was.1 (subst (λ x. x.desc.name.creator ≡ length old.history + 1) was.2 next)));
      }
