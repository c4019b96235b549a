-- A renumbering keeps the group of order, and every number of the new view is below how many there are.
use Rattle.std.proofs.Common.{◌≡◌, ◌-◌, ◌∷◌, ℕ, Bool, true, false, List, [], length, Option, Some, None, refl, sym, ap}
use Rattle.std.proofs.Common.{subst, ◌∙◌, inl, inr, map, option_map, slice_get, nat_lt, nat_le, if◌then◌else◌}
use Rattle.std.specs.Prelude.{Contains}
use Rattle.std.proofs.lemmas.List.{length-map}
use Rattle.std.proofs.lemmas.List.Elements.{recursion_from_All}
use Rattle.std.proofs.lemmas.Option.{slice_get-map}
use Rattle.fractal_vt.specs.declared.level.Level.{Level}
use Rattle.fractal_vt.specs.declared.key.Key.{Key}
use Rattle.fractal_vt.specs.Levels.{closed_level}
use Rattle.fractal_vt.specs.Keys.{last}
use Rattle.fractal_vt.specs.Renumbered.{place_in, with_number, renumbered_levels, renumbered_key, renumbered_level}
use Rattle.fractal_vt.specs.Renumbered.{IsHeld}
use Rattle.order_law.specs.Events.{beside}
use Rattle.order_law.specs.Ordered.{IsOrdered}
use Rattle.order_law.specs.Renumber as order
use Rattle.order_law.specs.Renumber.{IsTableOf}
use Rattle.order_law.specs.Tasks.{Keyed, levels_of}
use Rattle.order_law.proofs.Proved.{renumber_law}
use Rattle.spill_store.specs.SpilledTasks.{Spilled, open_key, renumbered_spilled}
use Rattle.spec_state.specs.declared.task.Task.{Task}
use Rattle.spec_state.specs.View.{View, task_at}
use Rattle.spec_state.specs.Tasks.{ordered_to, is_ordered_at}
use Rattle.spec_state.specs.Groups.{all_keyed, all_spilled, heir_unless, keyed_tasks, keyed_spilled, keyed_task}
use Rattle.spec_state.specs.Groups.{live_creator}
use Rattle.spec_state.specs.Numbers.{Renumbers, renumbered_task}
use Rattle.spec_state.proofs.Proved.{table_holds_path, table_holds_spilled, table_holds_task}
use Rattle.spec_law.proofs.Tasks.Beside.{which}
use Rattle.spec_law.proofs.Tasks.Places.{get_contains}
use Rattle.spec_law.proofs.Renumbers.One.{after, all_are, each}

-- closed levels renumbered
pub closed_levels : (table : List ℕ) (ds : List Level)
    → map closed_level (renumbered_levels table ds) ≡ map (with_number (place_in table)) (map closed_level ds)
closed_levels table [] = refl
closed_levels table (d ∷ ds) = ap (λ xs. closed_level (renumbered_level table d) ∷ xs) (closed_levels table ds)

-- what the order reads of a task of these kinds, this key and this creator
keyed_as : ℕ → Key → Option ℕ → Keyed
keyed_as kinds key creator = record {
  domain = map closed_level key.domain;
  last = last key;
  kinds = ordered_to (length key.domain) kinds;
  ordered = is_ordered_at (length key.domain) kinds;
  creator = creator;
}

-- what the order reads of a renumbered key is what it reads of the key, renumbered
keyed_renumbered : (table : List ℕ) (kinds : ℕ) (key : Key) (creator : Option ℕ)
    → keyed_as kinds (renumbered_key table key) creator ≡ order.new_task (place_in table) (keyed_as kinds key creator)
unfolding keyed_as
keyed_renumbered table kinds key creator =
    let deep : length (renumbered_levels table key.domain) ≡ length key.domain = length-map key.domain (renumbered_level table) in
    λ i. record {
      domain = closed_levels table key.domain i;
      last = with_number (place_in table) (last key);
      kinds = ordered_to (deep i) kinds;
      ordered = is_ordered_at (deep i) kinds;
      creator = creator;
    }

-- what stands under an id where tasks and spilled ones are mapped is what stood there, mapped
beside_mapped : (bound : ℕ) (g : Keyed → Keyed) (tasks : ℕ → Option Keyed) (spilled_list : List Keyed) (k : ℕ)
    → beside bound (λ id. option_map g (tasks id)) (map g spilled_list) k
    ≡ option_map g (beside bound tasks spilled_list k)
beside_mapped bound g tasks spilled_list k = by_test (nat_lt k bound)
  where
    by_test : (b : Bool)
        → (if b then option_map g (tasks k) else slice_get (map g spilled_list) (k - bound)) ≡ option_map g (if b then tasks k else slice_get spilled_list (k - bound))
    by_test true = refl
    by_test false = slice_get-map g spilled_list (k - bound)

module _ (old new : View) (r : Renumbers old new) (heir : Option ℕ) where
  abbrev new_keyed : Keyed → Keyed
  new_keyed = order.new_task (place_in r.table)

  task_keyed : (t : Task) → keyed_task (renumbered_task r.table t) ≡ new_keyed (keyed_task t)
  unfolding keyed_as
  task_keyed t = keyed_renumbered r.table t.kinds t.key (live_creator t.creator)

  queued_keyed : (id : ℕ) → keyed_tasks (after old new r) id ≡ option_map new_keyed (keyed_tasks old id)
  queued_keyed id = ap (option_map keyed_task) (each old new r id) ∙ by_task (task_at old id)
    where
      by_task : (o : Option Task)
          → option_map keyed_task (option_map (renumbered_task r.table) o) ≡ option_map new_keyed (option_map keyed_task o)
      by_task None = refl
      by_task (Some t) = ap Some (task_keyed t)

  spilled_keyed : (s : Spilled)
      → keyed_spilled (length old.history) heir (renumbered_spilled r.table s) ≡ new_keyed (keyed_spilled (length old.history) heir s)
  unfolding keyed_as
  spilled_keyed s =
      keyed_renumbered r.table s.desc.kinds (open_key s) (heir_unless (nat_le s.desc.name.creator (length old.history)) heir)

  all_spilled_keyed : (ss : List Spilled)
      → map (keyed_spilled (length old.history) heir) (map (renumbered_spilled r.table) ss)
      ≡ map new_keyed (map (keyed_spilled (length old.history) heir) ss)
  all_spilled_keyed [] = refl
  all_spilled_keyed (s ∷ ss) = λ i. spilled_keyed s i ∷ all_spilled_keyed ss i

  -- all tasks are renumbered
  all_renumbered : all_keyed (after old new r) heir
      ≡ order.renumbered_keyed_tasks (place_in r.table) (all_keyed old heir)
  all_renumbered =
      (λ i. beside (length-map old.tasks (option_map (renumbered_task r.table)) i) (λ id. queued_keyed id i)
      ((ap (map (keyed_spilled (length old.history) heir)) (all_are old new r) ∙ all_spilled_keyed (all_spilled old)) i))
      ∙ (λ i k. beside_mapped (length old.tasks) new_keyed (keyed_tasks old) (map (keyed_spilled (length old.history) heir) (all_spilled old)) k i)

  -- the table is one of all of them
  is_table : IsTableOf r.table (all_keyed old heir) (map closed_level old.path)
  is_table = record {
    rising = r.is_table.rising;
    of_path = recursion_from_All (IsHeld r.table) (map closed_level old.path) (table_holds_path old r.table r.is_table);
    of_tasks = λ id x there. elim (which old heir id x there) [
      | inl queued ↦
          subst (order.LevelsIn (Contains r.table)) (ap levels_of (sym queued.2))
          (recursion_from_All (IsHeld r.table) (levels_of (keyed_task queued.0)) (table_holds_task old r.table r.is_table id queued.0 queued.1))
      | inr spilled ↦
          subst (order.LevelsIn (Contains r.table)) (ap levels_of (sym spilled.3))
          (recursion_from_All (IsHeld r.table) (levels_of (keyed_spilled (length old.history) heir spilled.1))
          (table_holds_spilled old r.table r.is_table spilled.1 (get_contains (all_spilled old) spilled.0 spilled.1 spilled.2)))
    ];
  }

  -- the order holds of them
  pub renumbered_order : IsOrdered (all_keyed old heir) (map closed_level old.path) old.next
      → IsOrdered (all_keyed (after old new r) heir) (map closed_level (renumbered_levels r.table old.path))
      (length r.table)
  renumbered_order ordered =
      subst (λ tasks. IsOrdered tasks (map closed_level (renumbered_levels r.table old.path)) (length r.table))
      (sym all_renumbered)
      (subst (λ path. IsOrdered (order.renumbered_keyed_tasks (place_in r.table) (all_keyed old heir)) path (length r.table)) (sym (closed_levels r.table old.path))
      (renumber_law r.table (all_keyed old heir) (map closed_level old.path) old.next is_table ordered))
