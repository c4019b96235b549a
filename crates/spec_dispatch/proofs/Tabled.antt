-- The numbers that are noted are those of the path and of the dispatched tasks.
use Rattle.std.proofs.Common.{◌≡◌, ◌∷◌, ◌++◌, ℕ, List, [], map, Option, Some, None, refl, sym, ap, subst, ◌∙◌, inl, inr}
use Rattle.std.proofs.Common.{arith, slice_index_or}
use Rattle.std.specs.Prelude.{Contains, ◌↔◌}
use Rattle.std.specs.List.{cons_option}
use Rattle.std.proofs.lemmas.List.Elements.{Contains-append_cases, Contains-append_left, Contains-append_right}
use Rattle.fractal_vt.specs.declared.level.Level.{Level}
use Rattle.slab.specs.Slab.{Slab, entries}
use Rattle.slab.proofs.SlabLemmas.{Contains-entries}
use Rattle.spec_state.specs.declared.task.Task.{Task}
use Rattle.spec_state.specs.View.{View}
use Rattle.spec_state.specs.Numbers.{IsPathsOrTasks}
use Rattle.spec_state.proofs.Proved.{has_head, head_or_tail, in_tail}
use Rattle.spec_dispatch.specs.Table.{dispatch_numbers_of, held_numbers}

in_rest : (es : List (ℕ × Task)) (e : ℕ × Task) (n : ℕ) (tie : Option ℕ) → e.1.key.tb ≡ tie
    → Contains (dispatch_numbers_of es) n → Contains (dispatch_numbers_of (e ∷ es)) n
in_rest es e n None is has = subst (λ o. Contains (cons_option o (dispatch_numbers_of es)) n) (sym is) has
in_rest es e n (Some m) is has =
    subst (λ o. Contains (cons_option o (dispatch_numbers_of es)) n) (sym is) (in_tail m (dispatch_numbers_of es) n has)

in_numbers : (es : List (ℕ × Task)) (id : ℕ) (t : Task) (n : ℕ) → Contains es (id, t) → t.key.tb ≡ Some n
    → Contains (dispatch_numbers_of es) n
in_numbers [] id t n has is = absurd (omega (arith, has.1))
in_numbers (e ∷ es) id t n has is = elim (head_or_tail e es (id, t) has) [
  | inl head ↦
      let own : e.1.key.tb ≡ Some n = ap (λ (p : ℕ × Task). p.1.key.tb) head ∙ is in
      subst (λ o. Contains (cons_option o (dispatch_numbers_of es)) n) (sym own) (has_head n (dispatch_numbers_of es))
  | inr tail ↦ in_rest es e n e.1.key.tb refl (in_numbers es id t n tail is)
]

abbrev Has : List (ℕ × Task) → ℕ → Type 0
Has es n = (id : ℕ) × (t : Task) × Contains es (id, t) × (t.key.tb ≡ Some n)

from_numbers : (es : List (ℕ × Task)) (n : ℕ) → Contains (dispatch_numbers_of es) n → Has es n
from_numbers [] n has = absurd (omega (arith, has.1))
from_numbers (e ∷ es) n has = by_tie e.1.key.tb refl (from_numbers es n)
  where
    more : Has es n → Has (e ∷ es) n
    more one = (one.0, one.1, in_tail e es (one.0, one.1) one.2, one.3)

    by_tie : (tie : Option ℕ) → e.1.key.tb ≡ tie → (Contains (dispatch_numbers_of es) n → Has es n) → Has (e ∷ es) n
    by_tie None is rest = more (rest (subst (λ o. Contains (cons_option o (dispatch_numbers_of es)) n) is has))
    by_tie (Some m) is rest =
        elim (head_or_tail m (dispatch_numbers_of es) n (subst (λ o. Contains (cons_option o (dispatch_numbers_of es)) n) is has)) [
          | inl here ↦ (e.0, e.1, has_head e es, is ∙ ap Some here)
          | inr tail ↦ more (rest tail)
        ]

-- they are the numbers of the path and of the dispatched tasks of a view
pub held_are : (view : View) (tasks : Slab Task) (n : ℕ) → view.tasks ≡ tasks.slots
    → Contains (held_numbers view.path tasks) n ↔ IsPathsOrTasks view n
held_are view tasks n same = (
  λ has. elim
      (Contains-append_cases (map (λ (level : Level). level.tb) view.path)
      (dispatch_numbers_of (entries tasks)) n has) [
        | inl on ↦ inl on
        | inr task ↦
            let one = from_numbers (entries tasks) n task in
            inr (one.0, one.1, ap (λ ts. slice_index_or ts one.0 None) same ∙ (Contains-entries tasks one.0 one.1).0 one.2, one.3)
      ],
  λ is. elim is [
    | inl on
        ↦ Contains-append_left (map (λ (level : Level). level.tb) view.path) (dispatch_numbers_of (entries tasks)) n on
    | inr one ↦
        Contains-append_right (map (λ (level : Level). level.tb) view.path) (dispatch_numbers_of (entries tasks)) n
        (in_numbers (entries tasks) one.0 one.1 n ((Contains-entries tasks one.0 one.1).1 (ap (λ ts. slice_index_or ts one.0 None) (sym same) ∙ one.2)) one.3)
  ],
)

-- what is noted in turn is these
pub noted : (path : List Level) (tasks : Slab Task) (first before all table : List ℕ) → first ≡ []
    → before ≡ first ++ map (λ (level : Level). level.tb) path
    → all ≡ before ++ dispatch_numbers_of (entries tasks) → ((n : ℕ) → Contains table n ↔ Contains all n) → (n : ℕ)
    → Contains table n ↔ Contains (held_numbers path tasks) n
noted path tasks first before all table empty with_path with_tasks same n =
    subst (λ xs. Contains table n ↔ Contains xs n) whole (same n)
  where
    whole : all ≡ held_numbers path tasks
    whole =
        with_tasks
        ∙ ap (λ xs. xs ++ dispatch_numbers_of (entries tasks)) (with_path ∙ ap (λ xs. xs ++ map (λ (level : Level). level.tb) path) empty)
