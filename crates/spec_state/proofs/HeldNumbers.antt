-- A table of the numbers in use has the numbers of the path and of every key, as a renumbering of them asks.
use Rattle.std.proofs.Common.{◌≡◌, ℕ, suc, List, [], ◌∷◌, Option, Some, None, refl, arith, map}
use Rattle.std.specs.Prelude.{All, Contains}
use Rattle.std.proofs.lemmas.List.Elements.{All-append, All-cons, All-nil}
use Rattle.fractal_vt.specs.declared.key.Key.{Key}
use Rattle.fractal_vt.specs.declared.level.Level.{Level}
use Rattle.fractal_vt.specs.Keys.{last}
use Rattle.fractal_vt.specs.Levels.{closed_level}
use Rattle.fractal_vt.specs.Renumbered.{HoldsDomain, HoldsKey, IsHeld}
use Rattle.spill_store.specs.SpilledTasks.{Spilled, open_key}
use Rattle.spec_state.specs.declared.task.Task.{Task}
use Rattle.spec_state.specs.Groups.{all_spilled}
use Rattle.spec_state.specs.Numbers.{IsNumberTable, IsTieOf, in_domain, of_spilled, of_task, on_path}
use Rattle.spec_state.specs.View.{View, task_at}

-- levels whose tiebreakers a table has are held by it
held_levels : (table : List ℕ) (ds : List Level) → ((n : ℕ) → IsTieOf ds n → Contains table n)
    → All (IsHeld table) (map closed_level ds)
held_levels table [] each = All-nil (IsHeld table)
held_levels table (d ∷ ds) each =
    All-cons (IsHeld table) (closed_level d) (map closed_level ds) (each d.tb (0, omega arith, refl))
    (held_levels table ds (λ n has. each n (suc has.0, (let low = has.1 in omega (arith, low)), has.2)))

-- and so is an own level
held_last : (table : List ℕ) (key : Key) → ((n : ℕ) → key.tb ≡ Some n → Contains table n) → IsHeld table (last key)
held_last table key each = by_tie key.tb refl
  where
    by_tie : (tie : Option ℕ) → key.tb ≡ tie → IsHeld table (record { ts = key.ts; tb = tie })
    by_tie None is = tt
    by_tie (Some n) is = each n is

module _ (view : View) (table : List ℕ) (is : IsNumberTable view table) where
  pub table_holds_path : HoldsDomain table view.path
  table_holds_path = held_levels table view.path (λ n has. (is.exact n).1 (on_path has))

  pub table_holds_task : (id : ℕ) (t : Task) → task_at view id ≡ Some t → HoldsKey table t.key
  table_holds_task id t there =
      All-append (IsHeld table) (map closed_level t.key.domain) (last t.key ∷ [])
      (held_levels table t.key.domain (λ n has. (is.exact n).1 (in_domain id t there has)))
      (All-cons (IsHeld table) (last t.key) [] (held_last table t.key (λ n own. (is.exact n).1 (of_task id t there own))) (All-nil (IsHeld table)))

  pub table_holds_spilled : (s : Spilled) → Contains (all_spilled view) s → HoldsKey table (open_key s)
  table_holds_spilled s has =
      All-append (IsHeld table) (map closed_level s.domain) (last (open_key s) ∷ [])
      (held_levels table s.domain (λ n tie. (is.exact n).1 (of_spilled s has tie)))
      (All-cons (IsHeld table) (last (open_key s)) [] tt (All-nil (IsHeld table)))
