-- A renumbered view: each number is replaced by its place in a table that has them all.
use Rattle.std.proofs.Common.{◌≡◌, ◌++◌, ◌∷◌, ℕ, zero, suc, List, [], length, Some, None, refl, sym, ap, subst, ◌∙◌}
use Rattle.std.proofs.Common.{arith, map, flat_map, option_map, slice_get}
use Rattle.std.specs.Prelude.{Contains}
use Rattle.std.proofs.lemmas.List.{map-append}
use Rattle.fractal_vt.specs.declared.key.Key.{Key}
use Rattle.fractal_vt.specs.Keys.{key_cmp}
use Rattle.fractal_vt.specs.Renumbered.{renumbered_levels, renumbered_key, HoldsKey}
use Rattle.fractal_vt.proofs.Proved.{keeps_order, mapped_some}
use Rattle.spill_store.specs.SpilledTasks.{Spilled, open_key, renumbered_spilled}
use Rattle.spec_state.specs.declared.task.Task.{Task}
use Rattle.spec_state.specs.View.{View, task_at, block_at}
use Rattle.spec_state.specs.Groups.{all_spilled}
use Rattle.spec_state.specs.Numbers.{Renumbers, renumbered_task}
use Rattle.spec_state.proofs.Proved.{table_holds_spilled, table_holds_task, map_at}
use Rattle.spec_law.proofs.Tasks.Filtered.{list_mapped, get_mapped, got_mapped}
use Rattle.spec_law.proofs.Tasks.Places.{place_in_all, get_contains}

-- lists of lists, each mapped, are one mapped list
flat_mapped : {X Y : Type 0} (f : X → Y) (lists : List (List X))
    → flat_map (λ xs. xs) (map (map f) lists) ≡ map f (flat_map (λ xs. xs) lists)
flat_mapped f [] = refl
flat_mapped f (xs ∷ lists) =
    ap (λ ys. map f xs ++ ys) (flat_mapped f lists) ∙ sym (map-append f xs (flat_map (λ ys. ys) lists))

module _ (old new : View) (r : Renumbers old new) where
  -- the view after the renumbering
  abbrev pub after : View
  after = record old {
    tasks = map (option_map (renumbered_task r.table)) old.tasks;
    blocks = map (map (renumbered_spilled r.table)) old.blocks;
    path = renumbered_levels r.table old.path;
    next = length r.table;
  }

  -- the new view is that one
  pub is_after : new ≡ after
  is_after = r.frame ∙ (λ i. record old { tasks = r.tasks i; blocks = r.blocks i; path = r.path i; next = r.next i })

  -- each task is renumbered
  pub each : (id : ℕ) → task_at after id ≡ option_map (renumbered_task r.table) (task_at old id)
  each id = map_at (option_map (renumbered_task r.table)) old.tasks id None

  -- a task that was there is there, renumbered
  pub now : (id : ℕ) (t : Task) → task_at old id ≡ Some t → task_at after id ≡ Some (renumbered_task r.table t)
  now id t there = each id ∙ ap (option_map (renumbered_task r.table)) there

  -- a task that is there is one that was there, renumbered
  pub was : (id : ℕ) (t : Task) → task_at after id ≡ Some t
      → (w : Task) × (task_at old id ≡ Some w) × (t ≡ renumbered_task r.table w)
  was id t there = mapped_some (renumbered_task r.table) (task_at old id) t (sym (each id) ∙ there)

  -- what holds of each task renumbered holds of all that are there
  pub each_now : (holds : ℕ → Task → Type 0)
      → ((id : ℕ) (w : Task) → task_at old id ≡ Some w → holds id (renumbered_task r.table w))
      → (id : ℕ) (t : Task) → task_at after id ≡ Some t → holds id t
  each_now holds before id t there = let w = was id t there in subst (holds id) (sym w.2) (before id w.0 w.1)

  -- the spilled tasks, of a tile and of all
  pub block_is : (tile : ℕ) → block_at after tile ≡ map (renumbered_spilled r.table) (block_at old tile)
  block_is tile = list_mapped (map (renumbered_spilled r.table)) refl old.blocks tile

  pub all_are : all_spilled after ≡ map (renumbered_spilled r.table) (all_spilled old)
  all_are = flat_mapped (renumbered_spilled r.table) old.blocks

  pub spilled_now : (tile place : ℕ) (s : Spilled) → slice_get (block_at old tile) place ≡ Some s
      → slice_get (block_at after tile) place ≡ Some (renumbered_spilled r.table s)
  spilled_now tile place s at =
      ap (λ ss. slice_get ss place) (block_is tile)
      ∙ get_mapped (renumbered_spilled r.table) (block_at old tile) place s at

  pub spilled_was : (tile place : ℕ) (t : Spilled) → slice_get (block_at after tile) place ≡ Some t
      → (s : Spilled) × (slice_get (block_at old tile) place ≡ Some s) × (t ≡ renumbered_spilled r.table s)
  spilled_was tile place t at =
      got_mapped (renumbered_spilled r.table) (block_at old tile) place t (sym (ap (λ ss. slice_get ss place) (block_is tile)) ∙ at)

  -- a spilled task that is there was there
  pub spilled_before : (s : Spilled) → Contains (all_spilled after) s
      → (w : Spilled) × Contains (all_spilled old) w × (s ≡ renumbered_spilled r.table w)
  spilled_before s has = among (all_spilled old) (subst (λ ss. Contains ss s) all_are has)
    where
      among : (ss : List Spilled) → Contains (map (renumbered_spilled r.table) ss) s
          → (w : Spilled) × Contains ss w × (s ≡ renumbered_spilled r.table w)
      among [] has = absurd (omega (arith, has.1))
      among (w ∷ ss) (zero, low, is) = (w, (0, omega arith, refl), sym is)
      among (w ∷ ss) (suc k, low, is) =
          let more = among ss (k, omega (arith, low), is) in
          (more.0, (suc more.1.0, (let below = more.1.1 in omega (arith, below)), more.1.2), more.2)

  -- the table has each number of a task's key
  pub holds_task : (id : ℕ) (t : Task) → task_at old id ≡ Some t → HoldsKey r.table t.key
  holds_task = table_holds_task old r.table r.is_table

  -- and each number of a spilled task's domain
  pub holds_placed : (tile place : ℕ) (s : Spilled) → slice_get (block_at old tile) place ≡ Some s
      → HoldsKey r.table (open_key s)
  holds_placed tile place s at =
      let all = place_in_all old.blocks tile place s at in
      table_holds_spilled old r.table r.is_table s (get_contains (all_spilled old) all.0 s all.1)

  -- so keys compare as they did
  pub same_order : (a b : Key) → HoldsKey r.table a → HoldsKey r.table b
      → key_cmp (renumbered_key r.table a) (renumbered_key r.table b) ≡ key_cmp a b
  same_order a b in_a in_b = keeps_order r.table a b in_a in_b
