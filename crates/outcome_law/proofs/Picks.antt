-- What is picked of a view, a free core or a task, is one.
use Rattle.std.proofs.Common.{◌≡◌, ◌<◌, ℕ, true, Option, Some, sym, ap, ◌∙◌, inl, inr, arith}
use Rattle.std.proofs.lemmas.Bool.{cases_eq}
use Rattle.fractal_vt.specs.Keys.{key_cmp}
use Rattle.fractal_vt.proofs.Proved.{key_cmp_total}
use Rattle.step_script.specs.spec_state.declared.task.Task.{Task}
use Rattle.step_script.specs.spec_state.View.{View, task_at}
use Rattle.step_script.specs.spec_state.Tasks.{is_dispatched}
use Rattle.step_script.specs.spec_state.Queries.{IsLatest, IsLowestFree}
use Rattle.step_script.specs.spec_law.Sound.{SoundOrder}
use Rattle.step_script.proofs.Below.spec_law.Proved.{no_tie, not_greater_ties}

pub lowest_free_one : (view : View) (tile p q : ℕ) → IsLowestFree view tile p → IsLowestFree view tile q → p ≡ q
lowest_free_one view tile p q one two =
    let not_below : p < q → ⊥ = λ low. two.lowest p low one.free in
    let not_above : q < p → ⊥ = λ low. one.lowest q low two.free in
    grind (arith, not_below, not_above)

-- the latest of dispatched tasks is one, since they never tie
pub latest_one : (view : View) (heir : Option ℕ) → SoundOrder view heir → (kind : ℕ → Task → Type 0)
    → ((k : ℕ) (x : Task) → kind k x → (task_at view k ≡ Some x) × (is_dispatched x ≡ true))
    → (k j : ℕ) (x y : Task) → IsLatest kind k x → IsLatest kind j y → k ≡ j
latest_one view heir order kind runs k j x y one two = elim (cases_eq k j) [
  | inl same ↦ same
  | inr other ↦ (let a = runs k x one.of_kind in
      let b = runs j y two.of_kind in
      absurd (no_tie view heir order k j x y a.0 b.0 a.1 (λ e. other (sym e))
      (not_greater_ties (key_cmp x.key y.key) (key_cmp y.key x.key) (key_cmp_total.antisymm x.key y.key) (two.latest k x one.of_kind) (one.latest j y two.of_kind))))
]

-- a task of an id is one
pub task_one : (view : View) (k j : ℕ) (x y : Task) → k ≡ j → task_at view k ≡ Some x → task_at view j ≡ Some y → x ≡ y
task_one view k j x y same one two =
    let both : Some x ≡ Some y = sym one ∙ (ap (task_at view) same ∙ two) in
    cc
