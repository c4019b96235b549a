-- What a coalescing is for the bags of pending tasks: it leaves the free tasks as they are, and names apart.
use Rattle.std.proofs.Common.{ℕ, ◌≡◌, ◌<◌, Bool, true, false, List, [], ◌∷◌, Some, sym, ap, subst, ◌∙◌}
use Rattle.std.specs.Prelude.{length, slice_get, slice_index_or, map, flat_map, option_map, Contains}
use Rattle.std.specs.List.{AllZip, AllByRecursion}
use Rattle.std.specs.Ordering.{ordering_reverse}
use Rattle.std.specs.declared.cmp.Ordering.TheVariants.{Less, Greater}
use Rattle.std.proofs.lemmas.List.Elements.{recursion_from_All, Contains-get_or}
use Rattle.std.proofs.lemmas.Option.{slice_get-get_or}
use Rattle.spill_store.specs.SpilledTasks.{Spilled}
use Rattle.task_desc.specs.declared.desc.Name.{Name}
use Rattle.spec_state.specs.task_law.Tasks as bags
use Rattle.spec_state.specs.task_law.Tasks.{Names, SpilledBagTask}
use Rattle.spec_state.specs.task_law.Sound.{AreSound, SameFree}
use Rattle.spec_state.specs.task_law.Moves as move
use Rattle.spec_state.proofs.Below.task_law.Proved.{coalesces_keep}
use Rattle.spec_state.specs.declared.task.Creator.{Creator}
use Rattle.spec_state.specs.declared.task.Status.TheVariants.{Idle}
use Rattle.spec_state.specs.declared.task.Task.{Task}
use Rattle.spec_state.specs.View.{View, task_at, queue_at}
use Rattle.spec_state.specs.Tasks.{is_dispatched}
use Rattle.spec_state.specs.Groups.{bag_creator, bag_task, bag_tasks, bag_spilled, bags_spilled, all_spilled}
use Rattle.spec_state.specs.Least.{Queued, HasName, IsQueuedAt, Precedes, ranked_cmp}
use Rattle.spec_state.specs.Room.{IsMovable, IsSpilledAs, Coalesces}
use Rattle.spec_law.proofs.Moves.CoalesceOne.{AreApart, apart_from, MovesOne, one_by_one}
use Rattle.spec_law.proofs.Moves.Added.{AddsEach, added_mapped, pushed_in_one}
use Rattle.spec_law.proofs.Tasks.Ranked.{ranked_turned}

-- a queued task does not come before itself
not_before_itself : (view : View) (tile id : ℕ) (task : Task) → Contains (queue_at view tile) id
    → task_at view id ≡ Some task → Precedes view tile id id → ⊥
not_before_itself view tile id task c there precedes =
    let queued : slice_get (queue_at view tile) c.0 ≡ Some id = slice_get-get_or (queue_at view tile) c.0 id c.1 ∙ ap Some c.2 in
    let at : IsQueuedAt view tile c.0 id task = record { queued = queued; there = there } in
    let less : ranked_cmp task.key (Queued tile c.0) task.key (Queued tile c.0) ≡ Less = precedes c.0 c.0 task task at at in
    let no_way : Less ≡ Greater = sym less ∙ (ranked_turned task.key (Queued tile c.0) task.key (Queued tile c.0) ∙ ap ordering_reverse less) in
    absurd (cc (no_way))

-- for any names that the bags give firm tasks
module _ (count least : ℕ) (runs : Bool) (tile : ℕ) (old new : View) (c : Coalesces tile old new) (inside : tile < length old.blocks) (idle : (id : ℕ) (task : Task) → task_at old id ≡ Some task → task.status ≡ Idle → is_dispatched task ≡ false) (names : (creator : Creator) (name : Name) → HasName old creator name → Names count least (bag_creator creator) name) (heirs : (creator : Creator) (name : Name) → HasName old creator name → (k index : ℕ) → bag_creator creator ≡ bags.Live k index → runs ≡ true) where
  -- the ids that move differ
  moved_apart : AreApart c.ids
  moved_apart =
      apart_from (Precedes old tile) c.ids c.chosen.rising
      (λ k there precedes. (let one = c.chosen.movable k there in not_before_itself old tile k one.0 one.1.idle.queued one.1.idle.there precedes))

  -- each of them moves
  all_movable : AllByRecursion (IsMovable old tile) c.ids
  all_movable =
      recursion_from_All (IsMovable old tile) c.ids (λ k d below. c.chosen.movable (slice_index_or c.ids k d) (Contains-get_or c.ids k d below))

  -- one of them
  moves_one : (id : ℕ) (s : Spilled) → IsMovable old tile id → IsSpilledAs old id s
      → MovesOne count least runs (bag_tasks old) id (bag_spilled s)
  moves_one id s movable as_is =
      let both : Some movable.0 ≡ Some as_is.task = sym movable.1.idle.there ∙ as_is.there in
      let same : movable.0 ≡ as_is.task = cc in
      record {
        task = bag_task as_is.task;
        name = as_is.name;
        there = ap (option_map bag_task) as_is.there;
        idle = idle id as_is.task as_is.there (ap (λ t. t.status) (sym same) ∙ movable.1.idle.idle);
        named = names as_is.task.creator as_is.name as_is.named;
        heir = heirs as_is.task.creator as_is.name as_is.named;
        is = ap bag_spilled as_is.spilled_is;
      }

  -- all of them
  move_all : (ids : List ℕ) (moved : List Spilled) → AllByRecursion (IsMovable old tile) ids
      → AllZip (IsSpilledAs old) ids moved
      → AllZip (MovesOne count least runs (bag_tasks old)) ids (map bag_spilled moved)
  move_all [] [] movable zip = tt
  move_all [] (s ∷ moved) movable zip = absurd zip
  move_all (id ∷ ids) [] movable zip = absurd zip
  move_all (id ∷ ids) (s ∷ moved) movable zip = (moves_one id s movable.0 zip.0, move_all ids moved movable.1 zip.1)

  -- for the bags they are spilled one after another
  bags_coalesce : move.CoalescesInBags count least runs c.ids (bag_tasks old) (bags_spilled old) (bag_tasks new) (bags_spilled new)
  bags_coalesce =
      one_by_one count least runs c.ids (map bag_spilled c.moved) (bag_tasks old) (bag_tasks new) (bags_spilled old) (bags_spilled new)
      moved_apart (move_all c.ids c.moved all_movable c.spilled)
      (λ k there. ap (option_map bag_task) (c.gone k there)) (λ k other. ap (option_map bag_task) (c.others k other))
      (added_mapped bag_spilled c.moved (all_spilled old) (all_spilled new)
      (subst (λ (blocks : List (List Spilled)). AddsEach c.moved (all_spilled old) (flat_map (λ block. block) blocks)) (sym c.blocks)
      (pushed_in_one old.blocks tile c.moved inside)))

  -- so the free tasks stay, and names are apart, families whole and spilled tasks firm as before
  pub coalesced_bags : SameFree count (bag_tasks old) (bags_spilled old) (bag_tasks new) (bags_spilled new)
      × (AreSound count least runs (bag_tasks old) (bags_spilled old) → AreSound count least runs (bag_tasks new) (bags_spilled new))
  coalesced_bags =
      coalesces_keep c.ids (bag_tasks old) (bag_tasks new) (bags_spilled old) (bags_spilled new) count least runs bags_coalesce
