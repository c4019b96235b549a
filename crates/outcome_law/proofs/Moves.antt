-- Tasks that move from a task queue into a block leave views that are alike.
use Rattle.std.proofs.Common.{◌≡◌, ◌≤◌, ◌<◌, ℕ, List, [], ◌∷◌, map, None, option_map, refl, sym, ap, subst, ◌∙◌, inl}
use Rattle.std.proofs.Common.{inr, arith}
use Rattle.std.specs.Prelude.{slice_set, Contains}
use Rattle.std.specs.List.{AllZip}
use Rattle.std.proofs.lemmas.List.{length-map}
use Rattle.std.proofs.lemmas.List.Elements.{All-contains_itself}
use Rattle.fractal_vt.proofs.Proved.{AllPairs-map}
use Rattle.spill_store.specs.SpilledTasks.{Spilled}
use Rattle.spill_store.specs.Pushing.{after_pushes}
use Rattle.step_script.specs.task_law.Room.{queue_after}
use Rattle.task_desc.specs.declared.desc.Name.{Name}
use Rattle.memory_law.specs.Tasks.{In}
use Rattle.step_script.specs.spec_state.declared.task.Creator.{Creator}
use Rattle.step_script.specs.spec_state.declared.task.Creator.TheVariants.{Committed, Live}
use Rattle.step_script.specs.spec_state.declared.task.Task.{Task}
use Rattle.step_script.specs.spec_state.declared.reserving.TheConstants.{MAX_MOVED}
use Rattle.step_script.specs.spec_state.View.{View, task_at}
use Rattle.step_script.specs.spec_state.Tasks.{descriptor_of, spilled_as}
use Rattle.step_script.specs.spec_state.Groups.{room_tasks}
use Rattle.step_script.specs.spec_state.Least.{HasName, Precedes}
use Rattle.step_script.specs.spec_state.Room.{IsMovable, AreChosen, IsSpilledAs, Coalesces}
use Rattle.step_script.proofs.Below.spec_law.Proved.{contains_in, in_contains}
use Rattle.outcome_law.specs.Alike.{IdPermutation, inverse_of, permuted_creator, IsAlikeAt, AreAlike}
use Rattle.outcome_law.proofs.Alike.{partner, alike_turned}
use Rattle.outcome_law.proofs.Aborts.{was_in, in_permuted, one_to, there_same}
use Rattle.outcome_law.proofs.Leasts.{block_too, precedes_too, name_too}
use Rattle.outcome_law.proofs.Lists.{contains_mapped, map_same, left_mapped}
use Rattle.outcome_law.proofs.Queries.{idle_firm_too}
use Rattle.outcome_law.proofs.Picks.{task_one}
use Rattle.outcome_law.proofs.Chosen.{in_or_not, chosen_are_one}

module _ (r : IdPermutation) (a b : View) (alike : AreAlike r a b) (tile : ℕ) where
  pub movable_too : (k : ℕ) → IsMovable a tile k → IsMovable b tile (r.to k)
  movable_too k is = let t = idle_firm_too r a b alike tile k is.0 is.1 in (t.y, t.is)

module _ (r : IdPermutation) (a b : View) (alike : AreAlike r a b) (tile : ℕ) where
  chosen_too : (ids : List ℕ) → AreChosen a tile ids → AreChosen b tile (map r.to ids)
  chosen_too ids c =
      let way_back : (k : ℕ) → IsMovable b tile k → IsMovable a tile (r.from k) = movable_too (inverse_of r) b a (alike_turned r a b alike) tile in
      let forth : (k : ℕ) → Contains ids (r.from k) → Contains (map r.to ids) k = λ k has. subst (Contains (map r.to ids)) (r.forth k) (contains_mapped r.to ids (r.from k) has) in
      record {
        movable =
            λ k has. (let w = was_in r.to k ids (contains_in (map r.to ids) k has) in subst (IsMovable b tile) (sym w.2) (movable_too r a b alike tile w.0 (c.movable w.0 (in_contains ids w.0 w.1))));
        few = subst (λ n. n ≤ MAX_MOVED) (sym (length-map ids r.to)) c.few;
        all =
            λ less k movable. forth k (c.all (subst (λ n. n < MAX_MOVED) (length-map ids r.to) less) (r.from k) (way_back k movable));
        latest = λ stays k movable none has. (let w = was_in r.to k ids (contains_in (map r.to ids) k has) in
            let before = precedes_too r a b alike tile (r.from stays) w.0 (c.latest (r.from stays) w.0 (way_back stays movable) (λ h. none (forth stays h)) (in_contains ids w.0 w.1)) in
            subst (λ s. Precedes b tile s k) (r.forth stays) (subst (λ j. Precedes b tile (r.to (r.from stays)) j) (sym w.2) before));
        rising =
            AllPairs-map (Precedes a tile) (Precedes b tile) (Contains ids) r.to (λ k j in_k in_j before. precedes_too r a b alike tile k j before) ids (All-contains_itself ids) c.rising;
      }

-- a firm task has one name
name_one : (view : View) (c : Creator) (name other : Name) → HasName view c name → HasName view c other → name ≡ other
name_one view (Committed turn index) name other one two = one.1 ∙ sym two.1
name_one view (Live task index) name other one two = one.1 ∙ sym two.1

module _ (r : IdPermutation) (a b : View) (alike : AreAlike r a b) where
  spilled_same : (id : ℕ) (s s' : Spilled) → IsSpilledAs a id s → IsSpilledAs b (r.to id) s' → s' ≡ s
  spilled_same id s s' one two =
      let p = partner r a b alike id one.task one.there in
      let task : two.task ≡ p.y = task_one b (r.to id) (r.to id) two.task p.y refl two.there p.there in
      let like : two.task ≡ record one.task { creator = permuted_creator r.to one.task.creator; lines = p.y.lines } = task ∙ p.alike.other_is in
      let named : HasName b (permuted_creator r.to one.task.creator) two.name = subst (λ (t : Task). HasName b t.creator two.name) like two.named in
      let name : two.name ≡ one.name = name_one b (permuted_creator r.to one.task.creator) two.name one.name named (name_too r a b alike one.task.creator one.name one.named) in
      two.spilled_is ∙ ((λ i. spilled_as (name i) (descriptor_of (like i))) ∙ sym one.spilled_is)

  all_same : (ids : List ℕ) (ss ss' : List Spilled) → AllZip (IsSpilledAs a) ids ss
      → AllZip (IsSpilledAs b) (map r.to ids) ss' → ss' ≡ ss
  all_same [] [] [] one two = refl
  all_same (id ∷ ids) (s ∷ ss) (s' ∷ ss') one two =
      λ i. spilled_same id s s' one.0 two.0 i ∷ all_same ids ss ss' one.1 two.1 i
  all_same [] (s ∷ ss) ss' one two = absurd one
  all_same [] [] (s ∷ ss') one two = absurd two
  all_same (id ∷ ids) [] ss' one two = absurd one
  all_same (id ∷ ids) (s ∷ ss) [] one two = absurd two

  -- a coalescing
  pub coalesces_alike : (tile : ℕ) (a' b' : View) → Coalesces tile a a' → Coalesces tile b b' → AreAlike r a' b'
  coalesces_alike tile a' b' one two =
      let ids : two.ids ≡ map r.to one.ids = chosen_are_one b tile two.ids (map r.to one.ids) two.chosen (chosen_too r a b alike tile one.ids one.chosen) in
      let moved : two.moved ≡ one.moved = all_same one.ids one.moved two.moved one.spilled (subst (λ is. AllZip (IsSpilledAs b) is two.moved) ids two.spilled) in
      let tasks : (k : ℕ) → IsAlikeAt r.to (task_at a' k) (task_at b' (r.to k)) = λ k. elim (in_or_not k one.ids) [
        | inl is ↦ subst (λ s. IsAlikeAt r.to s (task_at b' (r.to k))) (sym (one.gone k (in_contains one.ids k is)))
            (subst (λ s. IsAlikeAt r.to None s) (sym (two.gone (r.to k) (in_contains two.ids (r.to k) (subst (In (r.to k)) (sym ids) (in_permuted r.to k one.ids is))))) tt)
        | inr none ↦ subst (λ s. IsAlikeAt r.to s (task_at b' (r.to k))) (sym (one.others k (λ has. none (contains_in one.ids k has))))
            (subst (λ s. IsAlikeAt r.to (task_at a k) s) (sym (two.others (r.to k) (λ has. (let w = was_in r.to (r.to k) one.ids (subst (In (r.to k)) ids (contains_in two.ids (r.to k) has)) in
            none (subst (λ j. In j one.ids) (sym (one_to r k w.0 w.2)) w.1))))) (alike.tasks k))
      ] in
      let blocks : b'.blocks ≡ a'.blocks = two.blocks ∙ ((λ i. slice_set (ap (λ v. v.blocks) alike.frame i) tile (after_pushes (block_too r a b alike tile i) (moved i))) ∙ sym one.blocks) in
      record {
        tasks = tasks;
        queues = two.queues ∙ (ap (map (queue_after (room_tasks b'))) alike.queues
            ∙ (map_same (queue_after (room_tasks b')) (map r.to) (map r.to) (queue_after (room_tasks a')) (left_mapped r.to (room_tasks a') (room_tasks b') (λ k. there_same r.to (task_at a' k) (task_at b' (r.to k)) (tasks k))) a.queues
            ∙ ap (map (map r.to)) (sym one.queues)));
        finished =
            ap (λ v. v.finished) two.frame ∙ (alike.finished ∙ ap (λ v. map (map r.to) v.finished) (sym one.frame));
        cores =
            ap (λ v. v.cores) two.frame ∙ (alike.cores ∙ ap (λ v. map (map (option_map r.to)) v.cores) (sym one.frame));
        frame =
            two.frame
            ∙ (ap {A = View} (λ v. record v { tasks = b'.tasks; queues = b'.queues; blocks = b'.blocks }) alike.frame
            ∙ (ap {A = List (List Spilled)} (λ bs. record a { tasks = b'.tasks; queues = b'.queues; finished = b.finished; cores = b.cores; blocks = bs }) blocks
            ∙ (ap {A = View} (λ v. record v { tasks = b'.tasks; queues = b'.queues; finished = b.finished; cores = b.cores }) (sym one.frame)
            ∙ ap {A = View} (λ v. record a' { tasks = b'.tasks; queues = b'.queues; finished = v.finished; cores = v.cores }) (sym two.frame))));
      }
