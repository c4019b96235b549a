-- The marked tasks, taken back one after another.
use Rattle.std.proofs.Common.{◌≡◌, ◌≢◌, ◌∷◌, ℕ, suc, Bool, true, false, List, [], map, Option, Some, None, refl, sym}
use Rattle.std.proofs.Common.{ap, subst, ◌∙◌, inl, inr, cond, arith, slice_index_or, option_map, if◌then◌else◌}
use Rattle.std.specs.Prelude.{◌==◌, not, filter, is_some, Contains}
use Rattle.std.proofs.lemmas.Bool.{cases_eq}
use Rattle.std.proofs.lemmas.Bool.Decides.{nat_tests}
use Rattle.std.proofs.lemmas.Simd.{map-map}
use Rattle.tile_queues.specs.Queue.{ids_but}
use Rattle.spec_state.specs.task_law.Room.{RoomTask, queue_after, kept_by}
use Rattle.spec_state.specs.declared.task.Task.{Task}
use Rattle.spec_state.specs.View.{View, task_at}
use Rattle.spec_state.specs.Groups.{room_tasks, room_task, live_creator}
use Rattle.spec_state.specs.Tasks.{idle_again}
use Rattle.spec_state.specs.Aborts.{is_marked, is_marked_creator, taken_back}
use Rattle.spec_state.specs.Leaving.{freed_of, TaskLeaves, SetsBack}
use Rattle.spec_state.specs.Stored.{IsStored}
use Rattle.spec_state.proofs.Proved.{has_head, in_tail, other_test}
use Rattle.spec_rollback.specs.TakenBack.{freed_of_these, TakesOne, TakesThese}

-- these, and one more
abbrev pub more : (ℕ → Bool) → ℕ → ℕ → Bool
more these id k = if k == id then true else these k

pub same_id : (k id : ℕ) → k ≡ id → (k == id) ≡ true
same_id k id same = grind (arith, nat_tests)

-- two changes of an item that agree make the same list
pub maps_same : {X Y : Type 0} (f g : X → Y) (xs : List X) → ((x : X) → f x ≡ g x) → map f xs ≡ map g xs
maps_same f g xs same = ap (λ h. map h xs) (λ i x. same x i)

twice_same : {X : Type 0} (f g h : X → X) (xs : List X) → ((x : X) → g (f x) ≡ h x) → map g (map f xs) ≡ map h xs
twice_same f g h xs same = map-map g f xs ∙ maps_same (λ x. g (f x)) h xs same

-- a commit queue without these, and then without one more
without_more : (these : ℕ → Bool) (id : ℕ) (ids : List ℕ)
    → ids_but id (filter (λ k. not (these k)) ids) ≡ filter (λ k. not (more these id k)) ids
without_more these id [] = refl
without_more these id (k ∷ ids) = by_tests (these k) (k == id) refl refl (without_more these id ids)
  where
    by_tests : (a b : Bool) → these k ≡ a → (k == id) ≡ b
        → ids_but id (filter (λ k. not (these k)) ids) ≡ filter (λ k. not (more these id k)) ids
        → ids_but id (cond (not a) (k ∷ filter (λ k. not (these k)) ids) (filter (λ k. not (these k)) ids))
        ≡ cond (not (if b then true else a)) (k ∷ filter (λ k. not (more these id k)) ids)
        (filter (λ k. not (more these id k)) ids)
    by_tests true true at test rest = rest
    by_tests true false at test rest = rest
    by_tests false true at test rest = ap
        (λ t. cond (not t) (k ∷ ids_but id (filter (λ k. not (these k)) ids))
        (ids_but id (filter (λ k. not (these k)) ids))) test ∙ rest
    by_tests false false at test rest =
        ap (λ t. cond (not t) (k ∷ ids_but id (filter (λ k. not (these k)) ids))
        (ids_but id (filter (λ k. not (these k)) ids))) test ∙ ap (λ ks. k ∷ ks) rest

-- a core that none of these holds, nor one more
freed_more : (these : ℕ → Bool) (id : ℕ) (held : Option ℕ)
    → freed_of id (freed_of_these these held) ≡ freed_of_these (more these id) held
freed_more these id None = refl
freed_more these id (Some k) = by_tests (these k) (k == id) refl
  where
    by_tests : (a b : Bool) → (k == id) ≡ b
        → freed_of id (if a then None else Some k) ≡ (if (if b then true else a) then None else Some k)
    by_tests true true test = refl
    by_tests true false test = refl
    by_tests false true test = ap (λ t. if t then None else Some k) test
    by_tests false false test = ap (λ t. if t then None else Some k) test

-- a task queue after one task more has gone
queue_without : (mid new : ℕ → Option RoomTask) (id : ℕ)
    → ((k : ℕ) → is_some (new k) ≡ (if k == id then false else is_some (mid k))) → (ids : List ℕ)
    → ids_but id (queue_after mid ids) ≡ queue_after new ids
queue_without mid new id gone [] = refl
queue_without mid new id gone (k ∷ ids) =
    by_tests (is_some (mid k)) (k == id) refl (queue_without mid new id gone ids)
    ∙ ap (λ b. kept_by b k (queue_after new ids)) (sym (gone k))
  where
    by_tests : (a b : Bool) → (k == id) ≡ b → ids_but id (queue_after mid ids) ≡ queue_after new ids
        → ids_but id (kept_by a k (queue_after mid ids)) ≡ kept_by (if b then false else a) k (queue_after new ids)
    by_tests true true test rest = ap
        (λ t. cond (not t) (k ∷ ids_but id (queue_after mid ids)) (ids_but id (queue_after mid ids))) test ∙ rest
    by_tests true false test rest = ap
        (λ t. cond (not t) (k ∷ ids_but id (queue_after mid ids)) (ids_but id (queue_after mid ids))) test
        ∙ ap (λ ks. k ∷ ks) rest
    by_tests false true test rest = rest
    by_tests false false test rest = rest

-- the same tasks are there, so the same ids stay
queue_same : (mid new : ℕ → Option RoomTask) → ((k : ℕ) → is_some (new k) ≡ is_some (mid k)) → (ids : List ℕ)
    → queue_after mid ids ≡ queue_after new ids
queue_same mid new same [] = refl
queue_same mid new same (k ∷ ids) =
    ap (λ ks. kept_by (is_some (mid k)) k ks) (queue_same mid new same ids)
    ∙ ap (λ b. kept_by b k (queue_after new ids)) (sym (same k))

module _ (marks : List Bool) (these : ℕ → Bool) (old mid new : View) (back : TakesThese marks these old mid) (id : ℕ)
    (fresh : these id ≡ false) (marked : is_marked marks id ≡ true) where
  -- what stood there at first stands there still
  pub untaken : task_at mid id ≡ task_at old id
  untaken = back.each id
      ∙ ap (λ b. if b then taken_back old.version marks id (task_at old id) else task_at old id) fresh

  version_same : mid.version ≡ old.version
  version_same = ap (λ (v : View). v.version) back.frame

  -- what becomes of the one task
  taken_one : (task : Task) → task_at mid id ≡ Some task
      → taken_back old.version marks id
      (task_at old id) ≡ (if is_marked_creator marks (live_creator task.creator) then None else Some
      (idle_again old.version task))
  taken_one task there =
      ap (taken_back old.version marks id) (sym untaken ∙ there)
      ∙ ap (λ b. if b then (if is_marked_creator marks (live_creator task.creator) then None else Some
      (idle_again old.version task)) else Some task) marked

  each_of : (now : Option Task) → task_at new id ≡ now → ((k : ℕ) → k ≢ id → task_at new k ≡ task_at mid k)
      → now ≡ taken_back old.version marks id (task_at old id)
      → (k : ℕ) → task_at new
      k ≡ (if more these id k then taken_back old.version marks k (task_at old k) else task_at old k)
  each_of now changed others is k = elim (cases_eq k id) [
    | inl same ↦
        subst (λ n. task_at new
        n ≡ (if more these id n then taken_back old.version marks n (task_at old n) else task_at old n)) (sym same)
        (changed ∙ is ∙ ap (λ b. if (if b then true else these id) then taken_back old.version marks id
        (task_at old id) else task_at old id) (sym (same_id id id refl)))
    | inr other ↦
        others k other ∙ back.each k
        ∙ ap (λ b. if (if b then true else these k) then taken_back old.version marks k (task_at old k) else task_at
        old k) (sym (other_test k id other))
  ]

  finished_more : map (ids_but id) mid.finished ≡ map (filter (λ k. not (more these id k))) old.finished
  finished_more =
      ap (map (ids_but id)) back.finished
      ∙ twice_same (filter (λ k. not (these k))) (ids_but id) (filter (λ k. not (more these id k))) old.finished
      (without_more these id)

  cores_more : map (map (freed_of id)) mid.cores ≡ map (map (freed_of_these (more these id))) old.cores
  cores_more =
      ap (map (map (freed_of id))) back.cores
      ∙ twice_same (map (freed_of_these these)) (map (freed_of id)) (map (freed_of_these (more these id))) old.cores
      (λ cores. twice_same (freed_of_these these) (freed_of id) (freed_of_these (more these id)) cores
      (freed_more these id))

  by_leaving : (task : Task) → task_at mid id ≡ Some task → is_marked_creator marks (live_creator task.creator) ≡ true
      → TaskLeaves id mid new → TakesThese marks (more these id) old new
  by_leaving task there creator leaves = record {
    each = each_of None leaves.changes.changed leaves.changes.others
        (sym (taken_one task there ∙ ap (λ b. if b then None else Some (idle_again old.version task)) creator));
    queues =
        leaves.queues ∙ ap (map (ids_but id)) back.queues
        ∙ twice_same (queue_after (room_tasks mid)) (ids_but id) (queue_after (room_tasks new)) old.queues
        (queue_without (room_tasks mid) (room_tasks new) id gone);
    finished = leaves.finished ∙ finished_more;
    cores = leaves.cores ∙ cores_more;
    frame = leaves.frame ∙ ap
        (λ (v : View). record v
        { tasks = new.tasks; queues = new.queues; finished = new.finished; cores = new.cores }) back.frame;
  }
    where
      gone : (k : ℕ) → is_some (room_tasks new k) ≡ (if k == id then false else is_some (room_tasks mid k))
      gone k = elim (cases_eq k id) [
        | inl same ↦
            ap (λ o. is_some (option_map room_task o)) (ap (task_at new) same ∙ leaves.changes.changed)
            ∙ ap (λ b. if b then false else is_some (room_tasks mid k)) (sym (same_id k id same))
        | inr other ↦
            ap (λ o. is_some (option_map room_task o)) (leaves.changes.others k other)
            ∙ ap (λ b. if b then false else is_some (room_tasks mid k)) (sym (other_test k id other))
      ]

  by_setting_back : (task : Task) → task_at mid id ≡ Some task
      → is_marked_creator marks (live_creator task.creator) ≡ false → SetsBack id mid new
      → TakesThese marks (more these id) old new
  by_setting_back task there creator sets = record {
    each = each_of (Some (idle_again mid.version sets.task)) sets.changes.changed sets.changes.others
        (ap (λ n. Some (idle_again n sets.task)) version_same
        ∙ ap (λ (t : Task). Some (idle_again old.version t)) same_task
        ∙ sym (taken_one task there ∙ ap (λ b. if b then None else Some (idle_again old.version task)) creator));
    queues = same_queues ∙ back.queues
        ∙ maps_same (queue_after (room_tasks mid)) (queue_after (room_tasks new)) old.queues
        (queue_same (room_tasks mid) (room_tasks new) still);
    finished = sets.finished ∙ finished_more;
    cores = sets.cores ∙ cores_more;
    frame =
        sets.frame ∙ ap (λ (q : List (List ℕ)). record mid
        { tasks = new.tasks; queues = q; finished = new.finished; cores = new.cores }) (sym same_queues)
        ∙ ap (λ (v : View). record v
        { tasks = new.tasks; queues = new.queues; finished = new.finished; cores = new.cores }) back.frame;
  }
    where
      same_queues : new.queues ≡ mid.queues
      same_queues = ap (λ (v : View). v.queues) sets.frame

      same_task : sets.task ≡ task
      same_task = let both : Some sets.task ≡ Some task = sym sets.there ∙ there in cc

      still : (k : ℕ) → is_some (room_tasks new k) ≡ is_some (room_tasks mid k)
      still k = elim (cases_eq k id) [
        | inl same ↦
            ap (λ o. is_some (option_map room_task o)) (ap (task_at new) same ∙ sets.changes.changed)
            ∙ ap (λ o. is_some (option_map room_task o)) (sym (ap (task_at mid) same ∙ sets.there))
        | inr other ↦ ap (λ o. is_some (option_map room_task o)) (sets.changes.others k other)
      ]

  -- one marked task more is taken back
  pub one_more : TakesOne marks id mid new → TakesThese marks (more these id) old new
  one_more one = elim one.taken [
    | inl leaves ↦ by_leaving one.task one.there leaves.0 leaves.1
    | inr sets ↦ by_setting_back one.task one.there sets.0 sets.1
  ]

-- a filter that leaves none out keeps the list
filter_all : (ids : List ℕ) → filter (λ k. true) ids ≡ ids
filter_all [] = refl
filter_all (k ∷ ids) = ap (λ ks. k ∷ ks) (filter_all ids)

freed_none : (held : Option ℕ) → held ≡ freed_of_these (λ k. false) held
freed_none None = refl
freed_none (Some k) = refl

map_itself : {X : Type 0} (xs : List X) → map (λ x. x) xs ≡ xs
map_itself [] = refl
map_itself (x ∷ xs) = ap (λ ys. x ∷ ys) (map_itself xs)

-- a change that leaves each item leaves the list
unchanged : {X : Type 0} (f : X → X) (xs : List X) → ((x : X) → x ≡ f x) → xs ≡ map f xs
unchanged f xs same = sym (map_itself xs) ∙ maps_same (λ x. x) f xs same

queue_itself : (tasks : ℕ → Option RoomTask) (ids : List ℕ) → ((k : ℕ) → Contains ids k → is_some (tasks k) ≡ true)
    → ids ≡ queue_after tasks ids
queue_itself tasks [] there = refl
queue_itself tasks (k ∷ ids) there =
    ap (λ ks. k ∷ ks) (queue_itself tasks ids (λ j has. there j (in_tail k ids j has)))
    ∙ ap (λ b. kept_by b k (queue_after tasks ids)) (sym (there k (has_head k ids)))

queues_itself : (tasks : ℕ → Option RoomTask) (queues : List (List ℕ))
    → ((tile k : ℕ) → Contains (slice_index_or queues tile []) k → is_some (tasks k) ≡ true)
    → queues ≡ map (queue_after tasks) queues
queues_itself tasks [] there = refl
queues_itself tasks (ids ∷ queues) there =
    λ i. queue_itself tasks ids (there 0) i ∷ queues_itself tasks queues (λ tile. there (suc tile)) i

-- at first none is taken back
pub none_taken : (size : ℕ) (view : View) → IsStored size view → (marks : List Bool)
    → TakesThese marks (λ k. false) view view
none_taken size view stored marks = record {
  each = λ id. refl;
  queues = queues_itself (room_tasks view) view.queues (λ tile k has. (
      let there = (stored.queued_are tile k).0 has in ap (λ o. is_some (option_map room_task o)) there.1
      ));
  finished = unchanged (filter (λ k. true)) view.finished (λ ids. sym (filter_all ids));
  cores = unchanged (map (freed_of_these (λ k. false))) view.cores
      (λ cores. unchanged (freed_of_these (λ k. false)) cores freed_none);
  frame = refl;
}
