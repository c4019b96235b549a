-- A task that comes to be, under whatever id, leaves views that are alike.
use Rattle.std.proofs.Common.{◌≡◌, ◌≢◌, ◌<◌, ◌+◌, ◌++◌, zero, suc, ℕ, List, [], ◌∷◌, map, take, length, Some}
use Rattle.std.proofs.Common.{option_map, refl, sym, ap, subst, ◌∙◌, inl, inr, arith}
use Rattle.std.specs.Prelude.{slice_get, slice_set, remove}
use Rattle.std.specs.Ordering.{ordering_reverse}
use Rattle.std.specs.declared.cmp.Ordering.TheVariants.{Less, Greater}
use Rattle.std.proofs.lemmas.Bool.{cases_eq}
use Rattle.std.proofs.lemmas.List.Elements.{All-contains}
use Rattle.fractal_vt.specs.declared.key.Key.{Key}
use Rattle.fractal_vt.specs.Keys.{key_cmp}
use Rattle.fractal_vt.specs.Least.{IsFirstLeast}
use Rattle.fractal_vt.proofs.Proved.{key_cmp_total}
use Rattle.rv_core.specs.LegValue.{LegValue}
use Rattle.spill_store.specs.SpilledTasks.{Spilled, open_key, IsLeastInBlock}
use Rattle.task_desc.specs.declared.desc.Name.{Name}
use Rattle.task_desc.specs.declared.desc.Spawn.{Spawn}
use Rattle.step_script.specs.spec_state.declared.task.Creator.{Creator}
use Rattle.step_script.specs.spec_state.declared.task.Creator.TheVariants.{Committed, Live}
use Rattle.step_script.specs.spec_state.declared.task.Task.{Task}
use Rattle.step_script.specs.spec_state.View.{View, task_at, block_at, queued_last, ChangesTask}
use Rattle.step_script.specs.spec_state.Tasks.{Descriptor, idle_task, spilled_descriptor, child_descriptor}
use Rattle.step_script.specs.spec_state.Changes.{Enqueues, task_past_leg}
use Rattle.step_script.specs.spec_state.Least.{HasName}
use Rattle.step_script.specs.spec_state.Room.{Splits}
use Rattle.step_script.proofs.Below.spec_state.Proved.{one_least}
use Rattle.step_script.proofs.Below.spec_law.Proved.{get_contains}
use Rattle.outcome_law.specs.Alike.{IdPermutation, permuted_creator, IsAlikeTask, IsAlikeAt, AreAlike}
use Rattle.outcome_law.proofs.Alike.{partner}
use Rattle.outcome_law.proofs.Aborts.{one_to}
use Rattle.outcome_law.proofs.Anew.{with_new, named_so, HoldsTasks, alike_anew, keeps_name}
use Rattle.outcome_law.proofs.Leasts.{block_too, name_too}
use Rattle.outcome_law.proofs.Changes.{changed_alike, ended_alike, version_same}
use Rattle.outcome_law.proofs.Picks.{task_one}

-- ---- the least spilled task is one

get_taken : {X : Type 0} (n : ℕ) (xs : List X) (p : ℕ) (x : X) → p < n → slice_get xs p ≡ Some x
    → slice_get (take n xs) p ≡ Some x
get_taken zero xs p x low at = absurd (omega arith)
get_taken (suc n) [] p x low at = at
get_taken (suc n) (y ∷ xs) zero x low at = at
get_taken (suc n) (y ∷ xs) (suc p) x low at = get_taken n xs p x (omega arith) at

not_before : (keys : List Key) (p q : ℕ) → IsFirstLeast key_cmp keys p → IsFirstLeast key_cmp keys q → p < q → ⊥
not_before keys p q one two low =
    let less : key_cmp two.key one.key ≡ Less = All-contains (λ other. key_cmp two.key other ≡ Less) (take q keys) one.key two.first (get_contains (take q keys) p one.key (get_taken q keys p one.key low one.there)) in
    All-contains (λ other. key_cmp one.key other ≢ Greater) keys two.key one.least (get_contains keys q two.key two.there)
    (key_cmp_total.antisymm one.key two.key ∙ ap ordering_reverse less)

first_least_one : (keys : List Key) (p q : ℕ) → IsFirstLeast key_cmp keys p → IsFirstLeast key_cmp keys q → p ≡ q
first_least_one keys p q one two =
    let below = not_before keys p q one two in
    let above = not_before keys q p two one in
    grind (arith, below, above)

-- ---- a name is that of one creator

creator_one : (view : View) (c d : Creator) (name : Name) → HasName view c name → HasName view d name → c ≡ d
creator_one view (Committed turn index) (Committed turn' index') name one two =
    let both : record { creator = turn; index = index } ≡ record { creator = turn'; index = index' } = sym one.1 ∙ two.1 in
    (λ i. Committed (ap (λ (n : Name). n.creator) both i) (ap (λ (n : Name). n.index) both i))
creator_one view (Committed turn index) (Live task index') name one two =
    let turns : turn ≡ length view.history + 1 = ap (λ (n : Name). n.creator) (sym one.1 ∙ two.1) in
    let upto = one.0 in
    absurd (omega arith)
creator_one view (Live task index) (Committed turn index') name one two =
    let turns : turn ≡ length view.history + 1 = ap (λ (n : Name). n.creator) (sym two.1 ∙ one.1) in
    let upto = two.0 in
    absurd (omega arith)
creator_one view (Live task index) (Live other index') name one two =
    let ids : task.0 ≡ other.0 = one_least view task.0 other.0 one.0.0 two.0.0 one.0.1 two.0.1 in
    (λ i. Live (record { 0 = ids i }) (ap (λ (n : Name). n.index) (sym one.1 ∙ two.1) i))

-- ---- a task that comes to be

-- an idle task, and the one that its creator makes under the other id
pub idle_alike : (to : ℕ → ℕ) (version : ℕ) (d : Descriptor) (c : Creator) (tile : ℕ)
    → IsAlikeTask to (idle_task version d c tile) (idle_task version d (permuted_creator to c) tile)
idle_alike to version d c tile = record { other_is = refl; touched = λ line. refl; written = λ line. refl }

-- there is a permutation under which the views are alike
abbrev pub AlikeSomehow : View → View → Type 0
AlikeSomehow a b = (r : IdPermutation) × AreAlike r a b

module _ (r : IdPermutation) (a b : View) (alike : AreAlike r a b) (holds : HoldsTasks a) where
  -- a split
  pub splits_alike : (tile : ℕ) (a' b' : View) → Splits tile a a' → Splits tile b b' → AlikeSomehow a' b'
  splits_alike tile a' b' one two =
      let s = with_new r one.id two.id in
      let now = alike_anew r a b alike holds one.id two.id one.vacant two.vacant in
      let block : block_at b tile ≡ block_at a tile = block_too r a b alike tile in
      let first : IsLeastInBlock (block_at a tile) two.least.place two.spilled = subst (λ es. IsLeastInBlock es two.least.place two.spilled) block two.least.least in
      let place : two.least.place ≡ one.least.place = first_least_one (map open_key (block_at a tile)) two.least.place one.least.place first.least one.least.least.least in
      let entries : Some two.spilled ≡ Some one.spilled = sym first.there ∙ (ap (slice_get (block_at a tile)) place ∙ one.least.least.there) in
      let entry : two.spilled ≡ one.spilled = cc in
      let blocks : two.block ≡ one.block = two.least.others ∙ ((λ i. remove (block i) (place i)) ∙ sym one.least.others) in
      let creator : two.creator ≡ permuted_creator s.to one.creator = creator_one b two.creator (permuted_creator s.to one.creator) two.spilled.desc.name two.named
      (subst (λ (e : Spilled). HasName b (permuted_creator s.to one.creator) e.desc.name) (sym entry) (name_too s a b now one.creator one.spilled.desc.name one.named)) in
      let task : idle_task b.version (spilled_descriptor two.spilled) two.creator tile ≡ idle_task a.version (spilled_descriptor one.spilled) (permuted_creator s.to one.creator) tile =
      (λ i. idle_task (version_same s a b now i) (spilled_descriptor (entry i)) (creator i) tile) in
      let changes : ChangesTask b b' (s.to one.id) (Some (idle_task a.version (spilled_descriptor one.spilled) (permuted_creator s.to one.creator) tile)) =
      subst (λ k. ChangesTask b b' k (Some (idle_task a.version (spilled_descriptor one.spilled) (permuted_creator s.to one.creator) tile))) (sym (named_so r one.id two.id))
      (subst (λ t. ChangesTask b b' two.id (Some t)) task two.changes) in
      let all_blocks : b'.blocks ≡ a'.blocks = two.blocks ∙ ((λ i. slice_set (ap (λ v. v.blocks) alike.frame i) tile (blocks i)) ∙ sym one.blocks) in (
        s,
        record {
          tasks =
              changed_alike s a b a' b' now one.id (Some (idle_task a.version (spilled_descriptor one.spilled) one.creator tile)) (Some (idle_task a.version (spilled_descriptor one.spilled) (permuted_creator s.to one.creator) tile))
              (idle_alike s.to a.version (spilled_descriptor one.spilled) one.creator tile) one.changes changes;
          queues =
              two.queues
              ∙ (ap (queued_last b tile) (sym (named_so r one.id two.id)) ∙ (ended_alike s a b now a.queues b.queues now.queues tile one.id ∙ ap (map (map s.to)) (sym one.queues)));
          finished =
              ap (λ v. v.finished) two.frame ∙ (now.finished ∙ ap (λ v. map (map s.to) v.finished) (sym one.frame));
          cores =
              ap (λ v. v.cores) two.frame ∙ (now.cores ∙ ap (λ v. map (map (option_map s.to)) v.cores) (sym one.frame));
          frame =
              two.frame
              ∙ (ap {A = View} (λ v. record v { tasks = b'.tasks; queues = b'.queues; blocks = b'.blocks }) alike.frame
              ∙ (ap {A = List (List Spilled)} (λ bs. record a { tasks = b'.tasks; queues = b'.queues; finished = b.finished; cores = b.cores; blocks = bs }) all_blocks
              ∙ (ap {A = View} (λ v. record v { tasks = b'.tasks; queues = b'.queues; finished = b.finished; cores = b.cores }) (sym one.frame)
              ∙ ap {A = View} (λ v. record a' { tasks = b'.tasks; queues = b'.queues; finished = v.finished; cores = v.cores }) (sym two.frame))));
        },
      )

  -- an enqueue
  pub enqueues_alike : (id : ℕ) (task task' : Task) → task_at a id ≡ Some task → task_at b (r.to id) ≡ Some task'
      → (leg : LegValue) (spawn : Spawn) (tile : ℕ) (a' b' : View)
      → Enqueues id task leg spawn tile a a' → Enqueues (r.to id) task' leg spawn tile b b' → AlikeSomehow a' b'
  enqueues_alike id task task' there there' leg spawn tile a' b' one two =
      let s = with_new r one.child two.child in
      let now = alike_anew r a b alike holds one.child two.child one.vacant two.vacant in
      let own : s.to id ≡ r.to id = keeps_name r a b alike holds one.child two.child one.vacant two.vacant id (task, there) in
      let p = partner s a b now id task there in
      let same : task' ≡ p.y = task_one b (r.to id) (s.to id) task' p.y (sym own) there' p.there in
      let like : IsAlikeTask s.to task task' = subst (λ t. IsAlikeTask s.to task t) (sym same) p.alike in
      let name : s.to one.child ≡ two.child = named_so r one.child two.child in
      let passed_on : IsAlikeTask s.to (record (task_past_leg task leg) { spawns = task.spawns ++ spawn ∷ [] }) (record (task_past_leg task' leg) { spawns = task'.spawns ++ spawn ∷ [] }) = record {
        other_is =
            (λ i. record (task_past_leg (like.other_is i) leg) { spawns = (like.other_is i).spawns ++ spawn ∷ [] });
        touched = λ line. like.touched line;
        written = λ line. like.written line;
      } in
      let child : idle_task b.version (child_descriptor task' spawn) (Live (record { 0 = r.to id }) (length task'.spawns)) tile
      ≡ idle_task a.version (child_descriptor task spawn) (Live (record { 0 = s.to id }) (length task.spawns)) tile =
      (λ i. idle_task (version_same s a b now i) (child_descriptor (like.other_is i) spawn) (Live (record { 0 = sym own i }) (length (like.other_is i).spawns)) tile) in
      let tasks : (k : ℕ) → IsAlikeAt s.to (task_at a' k) (task_at b' (s.to k)) = λ k. elim (cases_eq k id) [
        | inl here ↦ subst (λ u. IsAlikeAt s.to u (task_at b' (s.to k))) (sym (ap (task_at a') here ∙ one.creator))
            (subst (λ u. IsAlikeAt s.to (Some (record (task_past_leg task leg) { spawns = task.spawns ++ spawn ∷ [] })) u) (sym (ap (λ j. task_at b' (s.to j)) here ∙ (ap (task_at b') own ∙ two.creator))) passed_on)
        | inr not_id ↦ elim (cases_eq k one.child) [
          | inl here ↦ subst (λ u. IsAlikeAt s.to u (task_at b' (s.to k))) (sym (ap (task_at a') here ∙ one.made))
              (subst (λ u. IsAlikeAt s.to (Some (idle_task a.version (child_descriptor task spawn) (Live (record { 0 = id }) (length task.spawns)) tile)) u)
              (sym (ap (λ j. task_at b' (s.to j)) here ∙ (ap (task_at b') name ∙ (two.made ∙ ap Some child))))
              (idle_alike s.to a.version (child_descriptor task spawn) (Live (record { 0 = id }) (length task.spawns)) tile))
          | inr not_child ↦ subst (λ u. IsAlikeAt s.to u (task_at b' (s.to k))) (sym (one.others k not_id not_child))
              (subst (λ u. IsAlikeAt s.to (task_at a k) u) (sym (two.others (s.to k) (λ e. not_id (one_to s k id (e ∙ sym own))) (λ e. not_child (one_to s k one.child (e ∙ sym name))))) (now.tasks k))
        ]
      ] in (
        s,
        record {
          tasks = tasks;
          queues =
              two.queues
              ∙ (ap (queued_last b tile) (sym name) ∙ (ended_alike s a b now a.queues b.queues now.queues tile one.child ∙ ap (map (map s.to)) (sym one.queues)));
          finished =
              ap (λ v. v.finished) two.frame ∙ (now.finished ∙ ap (λ v. map (map s.to) v.finished) (sym one.frame));
          cores =
              ap (λ v. v.cores) two.frame ∙ (now.cores ∙ ap (λ v. map (map (option_map s.to)) v.cores) (sym one.frame));
          frame = two.frame ∙ (ap {A = View} (λ v. record v { tasks = b'.tasks; queues = b'.queues }) alike.frame
              ∙ (ap {A = View} (λ v. record v { tasks = b'.tasks; queues = b'.queues; finished = b.finished; cores = b.cores }) (sym one.frame)
              ∙ ap {A = View} (λ v. record a' { tasks = b'.tasks; queues = b'.queues; finished = v.finished; cores = v.cores }) (sym two.frame)));
        },
      )
