-- Idle tasks that leave their queue and are pushed into a block, one after another.
use Rattle.std.proofs.Common.{◌≡◌, ◌≢◌, ◌<◌, ◌≤◌, ◌+◌, ◌∷◌, ◌++◌, ℕ, zero, suc, Bool, true, false, cond, not, eqb, List}
use Rattle.std.proofs.Common.{[], length, map, take, Option, Some, None, option_map, refl, sym, ap, subst, ◌∙◌, inl}
use Rattle.std.proofs.Common.{inr, arith, slice_get, slice_index_or}
use Rattle.std.specs.Prelude.{Contains, IsSome, IfSome, is_some, slice_set}
use Rattle.spec_state.specs.Effects.{EffectValue}
use Rattle.spec_state.specs.Told.{told_spilled}
use Rattle.std.specs.List.{AllZip}
use Rattle.std.proofs.lemmas.Bool.{cases_eq}
use Rattle.std.proofs.lemmas.Bool.Decides.{nat_tests}
use Rattle.std.proofs.lemmas.List.{set-get_or, take_more, take_all}
use Rattle.std.proofs.lemmas.List.Elements.{Contains-append_left, Contains-append_right, Contains-append_cases}
use Rattle.std.proofs.lemmas.Option.{slice_get-get_or}
use Rattle.std.specs.Ordering.{nat_cmp, ordering_then}
use Rattle.std.specs.declared.cmp.Ordering.TheVariants.{Less, Equal}
use Rattle.std.proofs.lemmas.Cmp.{tied_itself}
use Rattle.fractal_vt.specs.declared.key.Key.{Key}
use Rattle.fractal_vt.specs.declared.level.Level.{Level}
use Rattle.fractal_vt.proofs.Proved.{key_cmp_total, same_number}
use Rattle.run_journal.specs.declared.journal.Entry.{Entry}
use Rattle.spec_state.proofs.Proved.{all_same, freed_other, has_head, head_or_tail, held_at, held_place, in_tail}
use Rattle.spec_state.proofs.Proved.{keeps_none}
use Rattle.spill_store.specs.SpilledTasks.{Spilled, after_push}
use Rattle.spill_store.specs.Pushing.{after_pushes}
use Rattle.tile_queues.specs.Queue.{ids_but}
use Rattle.tile_queues.proofs.Proved.{ids_but-absent, ids_but-cons_other}
use Rattle.spec_state.specs.task_law.Room.{RoomTask, queue_after, kept_by}
use Rattle.spec_state.specs.declared.task.Status.TheVariants.{Idle, Finished}
use Rattle.spec_state.specs.declared.task.Status.{Status}
use Rattle.spec_state.specs.declared.task.Task.{Task}
use Rattle.spec_state.specs.declared.reserving.TheConstants.{MAX_MOVED}
use Rattle.spec_state.specs.Fronts.{name_given}
use Rattle.spec_state.specs.Groups.{room_tasks, room_task}
use Rattle.spec_state.specs.Least.{IsFirm, HasName, Queued, ranked_cmp, Precedes, IsQueuedAt}
use Rattle.spec_state.specs.Leaving.{TaskLeaves, freed_of}
use Rattle.spec_state.specs.Room.{IsMovable, AreChosen, IsSpilledAs, Coalesces}
use Rattle.spec_state.specs.Stored.{HasCore, IsStored}
use Rattle.spec_state.specs.Tasks.{descriptor_of, spilled_as}
use Rattle.spec_state.specs.View.{View, task_at, queue_at, finished_at, cores_at, block_at}
use Rattle.spec_commit.specs.Spilling.{IsIdleTask, Spills}
use Rattle.spec_commit.proofs.Latest.{pairs_at, in_take}

-- an idle task stands in no commit queue
module _ (size : ℕ) (view : View) (stored : IsStored size view) (id : ℕ) (task : Task) (there : task_at view id ≡ Some task) (idle : task.status ≡ Idle) where
  not_as : (kind : Status → Type 0) → (kind Idle → ⊥) → (x : Task) → task_at view id ≡ Some x → kind x.status → ⊥
  not_as kind none x at is =
      let both : Some x ≡ Some task = sym at ∙ there in
      let same : x ≡ task = cc in
      none (subst kind (ap (λ (t : Task). t.status) same ∙ idle) is)

  pub finished_same : map (ids_but id) view.finished ≡ view.finished
  finished_same = sym (all_same (ids_but id) view.finished [] (λ j. ids_but-absent id (finished_at view j) (λ has.
      (let is = (stored.finished_are j id).0 has in not_as (λ s. s ≡ Finished) (λ same. absurd (cc (same))) is.0 is.1 is.3))))

-- a task that keeps no core stands on none
pub cores_stay : (size : ℕ) (view : View) → IsStored size view → (id : ℕ) (task : Task) → task_at view id ≡ Some task
    → ((core : ℕ) → HasCore task.status core → ⊥)
    → map (map (freed_of id)) view.cores ≡ view.cores
cores_stay size view stored id task there none =
    sym (all_same (map (freed_of id)) view.cores [] (λ j. sym (all_same (freed_of id) (cores_at view j) None (λ k. freed_other id (slice_index_or (cores_at view j) k None) (λ own.
    (let is = (stored.held_are j k id).0 (held_place id (cores_at view j) k own) in
    let both : Some is.0 ≡ Some task = sym is.1 ∙ there in
    let same : is.0 ≡ task = cc in
    none k (subst (λ (t : Task). HasCore t.status k) same is.3)))))))

-- so its lists are left but for its queue
pub left_idle : (size : ℕ) (old mid : View) (id : ℕ) (task : Task) → IsStored size old → task_at old id ≡ Some task
    → task.status ≡ Idle → TaskLeaves id old mid
    → mid ≡ record old { tasks = mid.tasks; queues = mid.queues }
left_idle size old mid id task stored there idle leaves =
    leaves.frame ∙ λ i. record old {
      tasks = mid.tasks;
      queues = mid.queues;
      finished = (leaves.finished ∙ finished_same size old stored id task there idle) i;
      cores = (leaves.cores ∙ cores_stay size old stored id task there (keeps_none task.status (inl idle))) i;
    }

spills_from : (tile id : ℕ) (old new : View) (tasks : List (Option Task)) (queues : List (List ℕ)) (task : Task) (s : Spilled)
    → task_at old id ≡ Some task
    → slice_index_or tasks id None ≡ None → ((k : ℕ) → k ≢ id → slice_index_or tasks k None ≡ task_at old k)
    → queues ≡ map (ids_but id) old.queues
    → s ≡ spilled_as (name_given task.creator (length old.history)) (descriptor_of task)
    → new ≡ record old { tasks = tasks; queues = queues; blocks = slice_set old.blocks tile (after_push (block_at old tile) s) }
    → Spills tile id old new
spills_from tile id old new tasks queues task s there vacant others without_it is new_is =
    subst (Spills tile id old) (sym new_is)
    (record {
      task = task;
      there = there;
      changes = record { changed = vacant; others = others };
      queues = without_it;
      blocks = ap (λ s. slice_set old.blocks tile (after_push (block_at old tile) s)) is;
      frame = refl;
    })

-- the view with a task more in the block of a tile
abbrev with_pushed : View → ℕ → Spilled → View
with_pushed view tile s = record view { blocks = slice_set view.blocks tile (after_push (block_at view tile) s) }

-- a task that is pushed and leaves
pub spills : (size tile id : ℕ) (old pushed new : View) (task : Task) (s : Spilled) (count : ℕ) → IsStored size pushed
    → IsIdleTask old id → task_at old id ≡ Some task
    → IfSome (task_at old id) (λ t. pushed ≡ with_pushed old tile (record { desc = s.desc; domain = t.key.domain }))
    → TaskLeaves id pushed new → count ≡ length old.history
    → s ≡ spilled_as (name_given task.creator count) (descriptor_of task)
    → Spills tile id old new
spills size tile id old pushed new task s count stored idle there pushes leaves same is =
    let both : Some task ≡ Some idle.task = sym there ∙ idle.there in
    let one : task ≡ idle.task = cc in
    let given : Spilled = record { desc = s.desc; domain = task.key.domain } in
    let given_is : given ≡ s =
    ap (λ (d : List Level). record { desc = s.desc; domain = d }) (sym (ap (λ (x : Spilled). x.domain) is)) in
    let pushed_is : pushed ≡ with_pushed old tile s =
    subst (λ (o : Option Task). IfSome o
    (λ t. pushed ≡ with_pushed old tile (record { desc = s.desc; domain = t.key.domain }))) there pushes
    ∙ ap (with_pushed old tile) given_is in
    let still : (k : ℕ) → task_at pushed k ≡ task_at old k = λ k. ap (λ (v : View). task_at v k) pushed_is in
    spills_from tile id old new new.tasks new.queues task s there leaves.changes.changed
    (λ k other. leaves.changes.others k other ∙ still k)
    (leaves.queues ∙ ap (λ (v : View). map (ids_but id) v.queues) pushed_is)
    (is ∙ ap (λ n. spilled_as (name_given task.creator n) (descriptor_of task)) same)
    (left_idle size pushed new id task stored (still id ∙ there) (ap (λ (t : Task). t.status) one ∙ idle.idle) leaves
    ∙ ap (λ (v : View). record v { tasks = new.tasks; queues = new.queues }) pushed_is)

-- a queue whose ids are all tasks' stays
all_stay : (tasks : ℕ → Option RoomTask) (ids : List ℕ) → ((k : ℕ) → Contains ids k → is_some (tasks k) ≡ true)
    → queue_after tasks ids ≡ ids
all_stay tasks [] live = refl
all_stay tasks (k ∷ ids) live =
    ap (λ b. kept_by b k (queue_after tasks ids)) (live k (has_head k ids))
    ∙ ap (λ rest. k ∷ rest) (all_stay tasks ids (λ j has. live j (in_tail k ids j has)))

without_own : (id k : ℕ) (ids : List ℕ) → k ≡ id → ids_but id (k ∷ ids) ≡ ids_but id ids
without_own id k ids same =
    (let is : eqb k id ≡ true = grind (arith, nat_tests) in ap (λ test. cond (not test) (k ∷ ids_but id ids) (ids_but id ids)) is)

without_after : (id : ℕ) (was now : ℕ → Option RoomTask) → now id ≡ None → ((k : ℕ) → k ≢ id → now k ≡ was k)
    → (ids : List ℕ) → ids_but id (queue_after was ids) ≡ queue_after now ids
without_after id was now gone others [] = refl
without_after id was now gone others (k ∷ ids) = elim (cases_eq k id) [
  | inl same ↦
      own (is_some (was k)) same (without_after id was now gone others ids)
      ∙ sym (ap (λ o. kept_by (is_some o) k (queue_after now ids)) (ap now same ∙ gone))
  | inr other ↦
      rest (is_some (was k)) other (without_after id was now gone others ids)
      ∙ sym (ap (λ o. kept_by (is_some o) k (queue_after now ids)) (others k other))
]
  where
    own : (b : Bool) → k ≡ id → ids_but id (queue_after was ids) ≡ queue_after now ids
        → ids_but id (kept_by b k (queue_after was ids)) ≡ queue_after now ids
    own true same more = without_own id k (queue_after was ids) same ∙ more
    own false same more = more

    rest : (b : Bool) → k ≢ id → ids_but id (queue_after was ids) ≡ queue_after now ids
        → ids_but id (kept_by b k (queue_after was ids)) ≡ kept_by b k (queue_after now ids)
    rest true other more = ids_but-cons_other id k (queue_after was ids) other ∙ ap (λ xs. k ∷ xs) more
    rest false other more = more

queues_after : (id : ℕ) (was now : ℕ → Option RoomTask) → now id ≡ None → ((k : ℕ) → k ≢ id → now k ≡ was k)
    → (queues : List (List ℕ))
    → map (ids_but id) (map (queue_after was) queues) ≡ map (queue_after now) queues
queues_after id was now gone others [] = refl
queues_after id was now gone others (ids ∷ queues) =
    λ i. without_after id was now gone others ids i ∷ queues_after id was now gone others queues i

-- one more is pushed behind the others
pushed_more : (block moved : List Spilled) (s : Spilled)
    → after_pushes block (moved ++ s ∷ []) ≡ after_push (after_pushes block moved) s
pushed_more block [] s = refl
pushed_more block (x ∷ moved) s = pushed_more (after_push block x) moved s

-- into the block that has been changed before
set_again : (blocks : List (List Spilled)) (tile : ℕ) (block : List Spilled) (s : Spilled)
    → slice_set (slice_set blocks tile block) tile (after_push (slice_index_or (slice_set blocks tile block) tile []) s) ≡ slice_set blocks tile (after_push block s)
set_again [] tile block s = refl
set_again (b ∷ blocks) zero block s = refl
set_again (b ∷ blocks) (suc tile) block s = ap (λ rest. b ∷ rest) (set_again blocks tile block s)

zip_more : (R : ℕ → Spilled → Type 0) (ids : List ℕ) (moved : List Spilled) (id : ℕ) (s : Spilled) → AllZip R ids moved
    → R id s → AllZip R (ids ++ id ∷ []) (moved ++ s ∷ [])
zip_more R [] [] id s all is = (is, tt)
zip_more R [] (y ∷ moved) id s all is = absurd all
zip_more R (x ∷ ids) [] id s all is = absurd all
zip_more R (x ∷ ids) (y ∷ moved) id s all is = (all.0, zip_more R ids moved id s all.1 is)

-- a firm task has the name that its creator gives
firm_named : (size : ℕ) (view : View) (id : ℕ) (task : Task) → IsStored size view → task_at view id ≡ Some task
    → IsFirm view task → HasName view task.creator (name_given task.creator (length view.history))
firm_named size view id task stored there (inl committed) =
    subst (λ creator. HasName view creator (name_given creator (length view.history))) (sym committed.2)
    ((stored.tasks id task there).turn committed.0 committed.1 committed.2, refl)
firm_named size view id task stored there (inr live) =
    subst (λ creator. HasName view creator (name_given creator (length view.history))) (sym live.2) (live.3, refl)

-- the first of the ids, so many, have moved
pub record HaveMoved (tile : ℕ) (ids : List ℕ) (old now : View) (count : ℕ) : Type 0 where
  pub moved : List Spilled
  pub spilled : AllZip (IsSpilledAs old) (take count ids) moved
  pub gone : (id : ℕ) → Contains (take count ids) id → task_at now id ≡ None
  pub others : (id : ℕ) → (Contains (take count ids) id → ⊥) → task_at now id ≡ task_at old id
  pub queues : now.queues ≡ map (queue_after (room_tasks now)) old.queues
  pub blocks : now.blocks ≡ slice_set old.blocks tile (after_pushes (block_at old tile) moved)
  pub rest : now ≡ record old { tasks = now.tasks; queues = now.queues; blocks = now.blocks }

pub none_moved : (size tile : ℕ) (ids : List ℕ) (old : View) → IsStored size old → HaveMoved tile ids old old 0
none_moved size tile ids old stored = record {
  moved = [];
  spilled = tt;
  gone = λ id has. absurd (omega (arith, has.1));
  others = λ id not. refl;
  queues =
      all_same (queue_after (room_tasks old)) old.queues [] (λ j. all_stay (room_tasks old) (queue_at old j) (λ k has.
      ap (λ o. is_some (option_map room_task o)) ((stored.queued_are j k).0 has).1));
  blocks = sym (set-get_or old.blocks tile []);
  rest = refl;
}

module _ (size tile : ℕ) (ids : List ℕ) (old : View) (stored : IsStored size old) (chosen : AreChosen old tile ids) (count : ℕ) (below : count < length ids) where
  abbrev id : ℕ
  id = slice_index_or ids count 0

  at_count : slice_get ids count ≡ Some id
  at_count = slice_get-get_or ids count 0 below

  movable : IsMovable old tile id
  movable = chosen.movable id (held_at ids count id at_count)

  same_rank : (key : Key) (p : ℕ) → ranked_cmp key (Queued tile p) key (Queued tile p) ≡ Equal
  same_rank key p =
      ap (λ o. ordering_then o (ordering_then (nat_cmp tile tile) (nat_cmp p p))) (tied_itself key_cmp_total key)
      ∙ ap (λ o. ordering_then o (nat_cmp p p)) (same_number tile) ∙ same_number p

  not_self : (k : ℕ) → IsMovable old tile k → Precedes old tile k k → ⊥
  not_self k moves before =
      let has = moves.1.idle.queued in
      let at : IsQueuedAt old tile has.0 k moves.0 = record { queued = slice_get-get_or (queue_at old tile) has.0 k has.1 ∙ ap Some has.2; there = moves.1.idle.there } in
      let less : ranked_cmp moves.0.key (Queued tile has.0) moves.0.key (Queued tile has.0) ≡ Less = before has.0 has.0 moves.0 moves.0 at at in
      let equal : ranked_cmp moves.0.key (Queued tile has.0) moves.0.key (Queued tile has.0) ≡ Equal = same_rank moves.0.key has.0 in
      let both : Less ≡ Equal = sym less ∙ equal in
      absurd (cc (both))

  not_yet : Contains (take count ids) id → ⊥
  not_yet has =
      (let found = in_take count ids id has in not_self id movable (pairs_at (Precedes old tile) ids found.0 count id id chosen.rising found.1 found.2 at_count))

  module _ (now : View) (moved : HaveMoved tile ids old now count) where
    still_there : task_at now id ≡ Some movable.0
    still_there = moved.others id not_yet ∙ movable.1.idle.there

    -- the next one is idle
    pub next_idle : IsIdleTask now id
    next_idle = record { task = movable.0; there = still_there; idle = movable.1.idle.idle }

    module _ (new : View) (spills : Spills tile id now new) where
      same_task : spills.task ≡ movable.0
      same_task = let both : Some spills.task ≡ Some movable.0 = sym spills.there ∙ still_there in cc

      named : HasName old movable.0.creator (name_given movable.0.creator (length old.history))
      named = firm_named size old id movable.0 stored movable.1.idle.there movable.1.firm

      abbrev s : Spilled
      s = spilled_as (name_given movable.0.creator (length old.history)) (descriptor_of movable.0)

      same_history : now.history ≡ old.history
      same_history = ap (λ (v : View). v.history) moved.rest

      pushed_is : spilled_as (name_given spills.task.creator (length now.history)) (descriptor_of spills.task) ≡ s
      pushed_is = ap (λ (t : Task). spilled_as (name_given t.creator (length now.history)) (descriptor_of t)) same_task
          ∙ ap (λ (h : List Entry). spilled_as (name_given movable.0.creator (length h)) (descriptor_of movable.0)) same_history

      longer : take (count + 1) ids ≡ take count ids ++ id ∷ []
      longer = take_more ids count 0 below

      gone_now : (k : ℕ) → Contains (take (count + 1) ids) k → task_at new k ≡ None
      gone_now k has = elim (cases_eq k id) [
        | inl same ↦ ap (task_at new) same ∙ spills.changes.changed
        | inr other ↦ spills.changes.others k other ∙ moved.gone k (was k other (subst (λ xs. Contains xs k) longer has))
      ]
        where
          was : (k : ℕ) → k ≢ id → Contains (take count ids ++ id ∷ []) k → Contains (take count ids) k
          was k other has = elim (Contains-append_cases (take count ids) (id ∷ []) k has) [
            | inl there ↦ there
            | inr last ↦ elim (head_or_tail id [] k last) [ inl same ↦ absurd (other (sym same)) | inr none ↦ absurd (omega (arith, none.1)) ]
          ]

      others_now : (k : ℕ) → (Contains (take (count + 1) ids) k → ⊥) → task_at new k ≡ task_at old k
      others_now k not =
          spills.changes.others k (λ same. not (subst (λ xs. Contains xs k) (sym longer) (Contains-append_right (take count ids) (id ∷ []) k (subst (Contains (id ∷ [])) (sym same) (has_head id [])))))
          ∙ moved.others k (λ has. not (subst (λ xs. Contains xs k) (sym longer) (Contains-append_left (take count ids) (id ∷ []) k has)))

      queues_now : new.queues ≡ map (queue_after (room_tasks new)) old.queues
      queues_now = spills.queues ∙ ap (map (ids_but id)) moved.queues
          ∙ queues_after id (room_tasks now) (room_tasks new) (ap (option_map room_task) spills.changes.changed) (λ k other. ap (option_map room_task) (spills.changes.others k other)) old.queues

      blocks_now : new.blocks ≡ slice_set old.blocks tile (after_pushes (block_at old tile) (moved.moved ++ s ∷ []))
      blocks_now =
          spills.blocks ∙ ap (λ x. slice_set now.blocks tile (after_push (block_at now tile) x)) pushed_is
          ∙ go now.blocks moved.blocks
        where
          go : (blocks : List (List Spilled))
              → blocks ≡ slice_set old.blocks tile (after_pushes (block_at old tile) moved.moved)
              → slice_set blocks tile (after_push (slice_index_or blocks tile []) s) ≡ slice_set old.blocks tile (after_pushes (block_at old tile) (moved.moved ++ s ∷ []))
          go blocks is =
              subst (λ bs. slice_set bs tile (after_push (slice_index_or bs tile []) s) ≡ slice_set old.blocks tile (after_pushes (block_at old tile) (moved.moved ++ s ∷ []))) (sym is)
              (set_again old.blocks tile (after_pushes (block_at old tile) moved.moved) s ∙ ap (slice_set old.blocks tile) (sym (pushed_more (block_at old tile) moved.moved s)))

      -- one more has moved
      pub one_more_moved : HaveMoved tile ids old new (count + 1)
      one_more_moved = record {
        moved = moved.moved ++ s ∷ [];
        spilled = subst (λ xs. AllZip (IsSpilledAs old) xs (moved.moved ++ s ∷ [])) (sym longer)
            (zip_more (IsSpilledAs old) (take count ids) moved.moved id s moved.spilled
            (record { task = movable.0; there = movable.1.idle.there; name = name_given movable.0.creator (length old.history); named = named; spilled_is = refl }));
        gone = gone_now;
        others = others_now;
        queues = queues_now;
        blocks = blocks_now;
        rest =
            spills.frame
            ∙ ap (λ (v : View). record v { tasks = new.tasks; queues = new.queues; blocks = new.blocks }) moved.rest;
      }

-- once all have moved it is a coalescing
pub all_moved : (tile : ℕ) (ids : List ℕ) (old now : View) (count : ℕ) → AreChosen old tile ids → ids ≢ []
    → length ids ≤ count → HaveMoved tile ids old now count
    → (c : Coalesces tile old now) × (c.ids ≡ ids)
all_moved tile ids old now count chosen some past moved =
    go (take count ids) (take_all count ids past) moved.spilled moved.gone moved.others
  where
    go : (first : List ℕ) → first ≡ ids → AllZip (IsSpilledAs old) first moved.moved
        → ((id : ℕ) → Contains first id → task_at now id ≡ None)
        → ((id : ℕ) → (Contains first id → ⊥) → task_at now id ≡ task_at old id)
        → (c : Coalesces tile old now) × (c.ids ≡ ids)
    go first same spilled gone others = (
      record {
        ids = first;
        chosen = subst (AreChosen old tile) (sym same) chosen;
        some = λ none. some (sym same ∙ none);
        moved = moved.moved;
        spilled = spilled;
        gone = gone;
        others = others;
        queues = moved.queues;
        blocks = moved.blocks;
        frame = moved.rest;
      },
      same,
    )

-- as the view stays where memory is taken before
pub coalesced : (tile : ℕ) (old mid new : View) (slice : List ℕ) (n : ℕ) → mid ≡ old
    → (c : Coalesces tile mid new) × (c.ids ≡ slice) → n ≡ length slice
    → (c : Coalesces tile old new) × (n ≡ length c.ids)
coalesced tile old mid new slice n same moved count =
    subst (λ v. (c : Coalesces tile v new) × (n ≡ length c.ids)) same (moved.0, count ∙ ap length (sym moved.1))

-- where one may move some are chosen
pub some_chosen : (tile : ℕ) (old mid : View) (items slice : List ℕ) → mid ≡ old → (id : ℕ) × IsMovable old tile id
    → AreChosen mid tile items → slice ≡ items → slice ≡ [] → ⊥
some_chosen tile old mid items slice same moves chosen is none =
    go items (sym is ∙ none) (subst (λ v. AreChosen v tile items) same chosen)
  where
    go : (items : List ℕ) → items ≡ [] → AreChosen old tile items → ⊥
    go items empty chosen =
        let has = chosen.all (subst (λ xs. length xs < MAX_MOVED) (sym empty) (omega arith)) moves.0 moves.1 in
        let nothing : Contains [] moves.0 = subst (λ xs. Contains xs moves.0) empty has in
        absurd (omega (arith, nothing.1))

-- the chosen tasks are few, and are there
pub chosen_there : (tile : ℕ) (view : View) (items slice : List ℕ) → AreChosen view tile items → slice ≡ items
    → (length slice ≤ MAX_MOVED) × ((id : ℕ) → Contains slice id → IsSome (task_at view id))
chosen_there tile view items slice chosen is =
    subst (λ xs. (length xs ≤ MAX_MOVED) × ((id : ℕ) → Contains xs id → IsSome (task_at view id))) (sym is)
    (chosen.few, λ id has. (let one = chosen.movable id has in subst IsSome (sym one.1.idle.there) refl))

-- a coalescing, of which this is told
pub coalesced_telling : (tile : ℕ) (old new : View) (slice : List ℕ) (n : ℕ) (before told : EffectValue)
    → (c : Coalesces tile old new) × (c.ids ≡ slice) → n ≡ length slice
    → told ≡ record before { spilled = map (told_spilled old) slice }
    → (c : Coalesces tile old new) × (n ≡ length c.ids)
    × (told ≡ record before { spilled = map (told_spilled old) c.ids })
coalesced_telling tile old new slice n before told moved count is = (
  moved.0,
  count ∙ ap length (sym moved.1),
  is ∙ ap (λ (ids : List ℕ). record before { spilled = map (told_spilled old) ids }) (sym moved.1),
)
