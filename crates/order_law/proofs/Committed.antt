-- A commit of the least task keeps the order.
use Rattle.std.proofs.Common.{◌≡◌, ◌≢◌, ◌⊎◌, ℕ, ◌<◌, List, [], ◌∷◌, ◌++◌, Option, Some, None, refl, sym, ap, subst, ◌∙◌}
use Rattle.std.proofs.Common.{inl, inr, arith}
use Rattle.std.proofs.lemmas.List.{length-append}
use Rattle.std.proofs.lemmas.Bool.{cases_eq}
use Rattle.std.specs.declared.cmp.Ordering.TheVariants.{Less}
use Rattle.fractal_vt.specs.Levels.{Open, level_cmp, levels_cmp}
use Rattle.fractal_vt.specs.Paths.{OnPath, Below}
use Rattle.order_law.specs.Tasks.{Keyed, levels_of, HasNumber, Kin}
use Rattle.order_law.specs.Ordered.{TieBelow, LevelsBelow, IsNumberOf, HasCreator, IsShaped, IsOrdered}
use Rattle.order_law.specs.Events.{without_creator, CommitsInKeys, IsLeastInKeys}
use Rattle.fractal_vt.proofs.Proved.{level_cmp_total, not_both, same_child_on_path, stays_on_path, sub_child_on_path}
use Rattle.fractal_vt.proofs.Proved.{super_child_on_path}
use Rattle.fractal_vt.proofs.Proved.{cases_some}
use Rattle.order_law.proofs.Least.{IsBelowAll, least_is_below}
use Rattle.order_law.proofs.Numbers.{LevelsBelow-append, number_in, differ_more, domain_in_path, domain_differs}

module _ (old new : ℕ → Option Keyed) (path : List Open) (next id n : ℕ) (task : Keyed) (there : old id ≡ Some task) (number : HasNumber task n) (least : IsBelowAll old id task) (commits : CommitsInKeys old new id) (ordered : IsOrdered old path next) where
  -- what a task is now, it was before, or it was a child
  which : (k : ℕ) (x : Keyed) → new k ≡ Some x
      → ((k ≢ id) × (old k ≡ Some x) × (x.creator ≢ Some id)) ⊎ ((y : Keyed) × (k ≢ id) × (old k ≡ Some y) × (y.creator ≡ Some id) × (x ≡ without_creator y))
  which k x at = elim (cases_eq k id) [
    | inl here ↦ absurd (cc (commits.gone, ap new here, at))
    | inr other ↦ by_old (old k) refl other
  ]
    where
      by_old : (o : Option Keyed) → old k ≡ o → k ≢ id
          → ((k ≢ id) × (old k ≡ Some x) × (x.creator ≢ Some id)) ⊎ ((y : Keyed) × (k ≢ id) × (old k ≡ Some y) × (y.creator ≡ Some id) × (x ≡ without_creator y))
      by_old None was other = absurd (cc (commits.none k was, at))
      by_old (Some y) was other = elim (cases_some y.creator id) [
        | inl child ↦ let same : Some (without_creator y) ≡ Some x = sym (commits.children k y other was child) ∙ at in inr (y, other, was, child, cc)
        | inr free ↦
            let same : Some y ≡ Some x = sym (commits.others k y other was free) ∙ at in
            let eq : y ≡ x = cc in
            inl (other, was ∙ ap Some eq, subst (λ z. z.creator ≢ Some id) eq free)
      ]

  -- the least task has no creator here
  pub least_is_free : task.creator ≡ None
  least_is_free = by_creator task.creator refl
    where
      by_creator : (p : Option ℕ) → task.creator ≡ p → task.creator ≡ None
      by_creator None is = is
      by_creator (Some c) is =
          let has = ordered.creators id task c there is in
          elim (cases_eq c id) [
            | inl here ↦
                let same : Some has.task ≡ Some task = sym has.there ∙ ap old here ∙ there in
                let eq : has.task ≡ task = cc in
                let below : levels_cmp (levels_of task) (levels_of task) ≡ Less = ap (λ t. levels_cmp (levels_of t) (levels_of task)) (sym eq) ∙ has.below in
                absurd (not_both level_cmp level_cmp_total (levels_of task) (levels_of task) below below)
            | inr other ↦ absurd (not_both level_cmp level_cmp_total (levels_of task) (levels_of has.task) (least c has.task other has.there) has.below)
          ]

  kept_creator : (creator : ℕ) (child : Keyed) → creator ≢ id → HasCreator old creator child
      → HasCreator new creator child
  kept_creator creator child other has = elim (cases_some has.task.creator id) [
    | inl parent ↦ record { task = without_creator has.task; there = commits.children creator has.task other has.there parent; number = has.number; dispatched = has.dispatched; below = has.below; kin = has.kin }
    | inr free ↦ record { task = has.task; there = commits.others creator has.task other has.there free; number = has.number; dispatched = has.dispatched; below = has.below; kin = has.kin }
  ]

  child_on_path : (child : Keyed) → Kin task child → levels_cmp (levels_of task) (levels_of child) ≡ Less
      → OnPath level_cmp (levels_of task) child.domain child.last
  child_on_path child kin below = elim kin [
    | inl same ↦
        let below' : Below level_cmp task.domain task.last task.domain child.last = ap (λ d. levels_cmp (levels_of task) (d ++ child.last ∷ [])) (sym same.0) ∙ below in
        subst (λ d. OnPath level_cmp (levels_of task) d child.last) (sym same.0) (same_child_on_path level_cmp level_cmp_total task.domain task.last child.last below')
    | inr later ↦ elim later [
      | inl sub ↦ subst (λ d. OnPath level_cmp (levels_of task) d child.last) (sym sub.0) (sub_child_on_path level_cmp level_cmp_total (levels_of task) child.last)
      | inr super ↦
          let below' : Below level_cmp (child.domain ++ super.0 ∷ []) task.last child.domain child.last = ap (λ d. levels_cmp (d ++ task.last ∷ []) (levels_of child)) (sym super.1.0) ∙ below in
          subst (λ d. OnPath level_cmp (d ++ task.last ∷ []) child.domain child.last) (sym super.1.0) (super_child_on_path level_cmp level_cmp_total child.domain super.0 task.last child.last below')
    ]
  ]

  task_on_path : OnPath level_cmp path task.domain task.last
  task_on_path = ordered.on_path id task there least_is_free

  -- no other task has a number of the new path: each is one of the old path or the task's own
  off_new_path : (k : ℕ) (x : Keyed) (m : ℕ) → k ≢ id → old k ≡ Some x → HasNumber x m
      → IsNumberOf m (levels_of task) → ⊥
  off_new_path k x m other at has on = elim (number_in task.domain task.last m on) [
    | inl inside ↦ ordered.off_path k x m at has (domain_in_path level_cmp path task.domain task.last m task_on_path inside)
    | inr last ↦ other (ordered.numbers_differ k id x task m at there has last)
  ]

  pub commit_keeps_order : IsOrdered new (levels_of task) next
  commit_keeps_order =
      record {
        path_short =
            (let short = (ordered.shaped id task there).0 in
            let whole = length-append task.domain (task.last ∷ []) in
            omega (arith, short, whole));
        path_numbers =
            let below : n < next = ordered.number_below id task n there number in
            LevelsBelow-append next task.domain task.last (ordered.domain_numbers id task there) (subst (TieBelow next) (sym number) below);
        path_differs =
            differ_more task.domain task.last (domain_differs level_cmp path task.domain task.last task_on_path ordered.path_differs)
            (λ m has inside. ordered.off_path id task m there has (domain_in_path level_cmp path task.domain task.last m task_on_path inside));
        off_path = λ k x m at has on. elim (which k x at) [
          | inl was ↦ off_new_path k x m was.0 was.1 has on
          | inr child ↦ off_new_path k child.0 m child.1 child.2 (ap (λ y. y.last.tb) (sym child.4) ∙ has) on
        ];
        shaped = λ k x at. elim (which k x at) [
          | inl was ↦ ordered.shaped k x was.1
          | inr child ↦ subst IsShaped (sym child.4) (ordered.shaped k child.0 child.2)
        ];
        domain_numbers = λ k x at. elim (which k x at) [
          | inl was ↦ ordered.domain_numbers k x was.1
          | inr child ↦ subst (λ y. LevelsBelow next y.domain) (sym child.4) (ordered.domain_numbers k child.0 child.2)
        ];
        number_below = λ k x m at has. elim (which k x at) [
          | inl was ↦ ordered.number_below k x m was.1 has
          | inr child ↦ ordered.number_below k child.0 m child.2 (ap (λ y. y.last.tb) (sym child.4) ∙ has)
        ];
        numbers_differ = λ a b x y m at at' has has'. elim (which a x at) [
          | inl was ↦ elim (which b y at') [
            | inl was' ↦ ordered.numbers_differ a b x y m was.1 was'.1 has has'
            | inr child' ↦ ordered.numbers_differ a b x child'.0 m was.1 child'.2 has (ap (λ z. z.last.tb) (sym child'.4) ∙ has')
          ]
          | inr child ↦ elim (which b y at') [
            | inl was' ↦ ordered.numbers_differ a b child.0 y m child.2 was'.1 (ap (λ z. z.last.tb) (sym child.4) ∙ has) has'
            | inr child' ↦ ordered.numbers_differ a b child.0 child'.0 m child.2 child'.2 (ap (λ z. z.last.tb) (sym child.4) ∙ has) (ap (λ z. z.last.tb) (sym child'.4) ∙ has')
          ]
        ];
        creators = λ k x creator at parent. elim (which k x at) [
          | inl was ↦ kept_creator creator x (λ here. was.2 (parent ∙ ap Some here)) (ordered.creators k x creator was.1 parent)
          | inr child ↦ absurd (cc (ap (λ y. y.creator) child.4, parent))
        ];
        on_path = λ k x at parent. elim (which k x at) [
          | inl was ↦ stays_on_path level_cmp level_cmp_total path task.domain x.domain task.last x.last (ordered.on_path id task there least_is_free) (ordered.on_path k x was.1 parent) (least k x was.0 was.1)
          | inr child ↦
              let has = ordered.creators k child.0 id child.2 child.3 in
              let same : Some has.task ≡ Some task = sym has.there ∙ there in
              let eq : has.task ≡ task = cc in
              subst (λ y. OnPath level_cmp (levels_of task) y.domain y.last) (sym child.4)
              (child_on_path child.0 (subst (λ t. Kin t child.0) eq has.kin) (ap (λ t. levels_cmp (levels_of t) (levels_of child.0)) (sym eq) ∙ has.below))
        ];
      }

pub commit_law : (old new : ℕ → Option Keyed) (path : List Open) (next id n : ℕ) (task : Keyed)
    → IsLeastInKeys old id task → HasNumber task n → CommitsInKeys old new id → IsOrdered old path next
    → IsOrdered new (levels_of task) next
commit_law old new path next id n task least number commits ordered =
    commit_keeps_order old new path next id n task least.there number (least_is_below old path next id n task ordered least number) commits ordered
