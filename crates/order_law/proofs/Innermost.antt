-- The least task stands in the innermost domain that has a task of a committed creator, at the least timestamp of its depth.
use Rattle.std.proofs.Common.{◌≡◌, ℕ, List, [], ◌∷◌, length, Option, Some, None, refl, sym, ap, ◌∙◌, inl, inr, arith}
use Rattle.std.proofs.lemmas.Bool.{cases_lt}
use Rattle.std.specs.Ordering.{ordering_then, ordering_reverse}
use Rattle.std.specs.declared.cmp.Ordering.TheVariants.{Less, Greater}
use Rattle.fractal_vt.proofs.Proved.{deeper_is_less, level_cmp_total, levels_cmp_total, same_depth, greater_number}
use Rattle.fractal_vt.specs.Levels.{Open, tie_cmp, level_cmp, levels_cmp}
use Rattle.fractal_vt.specs.Paths.{OnPath}
use Rattle.order_law.specs.Tasks.{Keyed, levels_of}
use Rattle.order_law.specs.Ordered.{IsOrdered}
use Rattle.order_law.specs.Events.{IsLeastInKeys}
use Rattle.order_law.specs.Innermost.{IsInnermost}

-- where one is less, the other one is greater
turned : (a b : List Open) → levels_cmp b a ≡ Less → levels_cmp a b ≡ Greater
turned a b less = levels_cmp_total.antisymm a b ∙ ap ordering_reverse less

module _ (tasks : ℕ → Option Keyed) (path : List Open) (next id : ℕ) (task : Keyed) (ordered : IsOrdered tasks path next) (least : IsLeastInKeys tasks id task) where
  committed : task.creator ≡ None
  committed = by_creator task.creator refl
    where
      by_creator : (c : Option ℕ) → task.creator ≡ c → task.creator ≡ None
      by_creator None is = is
      by_creator (Some c) is =
          let has = ordered.creators id task c least.there is in
          absurd (least.least c has.task has.there (turned (levels_of task) (levels_of has.task) has.below))

  pub innermost : IsInnermost tasks task
  innermost =
      record {
        committed = committed;
        deepest = λ k x at free. elim (cases_lt (length task.domain) (length x.domain)) [
          | inl deeper ↦ absurd (least.least k x at (turned (levels_of task) (levels_of x)
              (deeper_is_less level_cmp level_cmp_total path task.domain x.domain task.last x.last (ordered.on_path id task least.there committed) (ordered.on_path k x at free) deeper)))
          | inr upto ↦ upto
        ];
        same_domain =
            λ k x at free same. one_domain path x.domain task.domain x.last task.last (ordered.on_path k x at free) (ordered.on_path id task least.there committed) same;
        earliest = λ k x at free same. elim (cases_lt x.last.ts task.last.ts) [
          | inl earlier ↦ absurd (least.least k x at (
              same_depth level_cmp level_cmp_total path task.domain x.domain task.last x.last (ordered.on_path id task least.there committed) (ordered.on_path k x at free) (sym same)
              ∙ ap (λ o. ordering_then o (tie_cmp task.last.tb x.last.tb)) (greater_number task.last.ts x.last.ts earlier)))
          | inr upto ↦ upto
        ];
      }
    where
      one_domain : (path ds es : List Open) (l m : Open) → OnPath level_cmp path ds l → OnPath level_cmp path es m
          → length ds ≡ length es → ds ≡ es
      one_domain path [] [] l m one two same = refl
      one_domain path [] (e ∷ es) l m one two same = absurd (omega arith)
      one_domain path (d ∷ ds) [] l m one two same = absurd (omega arith)
      one_domain [] (d ∷ ds) (e ∷ es) l m one two same = absurd one
      one_domain (p ∷ path) (d ∷ ds) (e ∷ es) l m one two same =
          let head : d ≡ e = one.0 ∙ sym two.0 in
          let rest : ds ≡ es = one_domain path ds es l m one.1 two.1 (omega arith) in
          λ i. head i ∷ rest i
