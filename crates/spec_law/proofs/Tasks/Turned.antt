-- Of two tasks of a queue at most one comes before the other, and so a tile has one least idle task at most.
use Rattle.std.proofs.Common.{◌≡◌, ℕ, Some, inl, inr, ap, sym, ◌∙◌}
use Rattle.std.proofs.lemmas.Bool.{cases_eq}
use Rattle.std.specs.Ordering.{ordering_reverse}
use Rattle.std.specs.declared.cmp.Ordering.TheVariants.{Less, Greater}
use Rattle.spec_state.specs.declared.task.Task.{Task}
use Rattle.spec_state.specs.Least.{IsQueuedAt, Precedes, Queued, ranked_cmp}
use Rattle.spec_state.specs.Queries.{IsLeastIdle, IsQueued}
use Rattle.spec_state.specs.View.{View, queue_at, task_at}
use Rattle.spec_law.proofs.Tasks.Places.{contains_get}
use Rattle.spec_law.proofs.Tasks.Ranked.{ranked_turned}

pub not_both_ways : (view : View) (tile k j : ℕ) (x y : Task) → IsQueued view tile k → task_at view k ≡ Some x
    → IsQueued view tile j → task_at view j ≡ Some y → Precedes view tile k j → Precedes view tile j k → ⊥
not_both_ways view tile k j x y in_k there in_j there' before behind =
    let p = contains_get (queue_at view tile) k in_k in
    let q = contains_get (queue_at view tile) j in_j in
    let one : IsQueuedAt view tile p.0 k x = record { queued = p.1; there = there } in
    let two : IsQueuedAt view tile q.0 j y = record { queued = q.1; there = there' } in
    let less : ranked_cmp x.key (Queued tile p.0) y.key (Queued tile q.0) ≡ Less = before p.0 q.0 x y one two in
    let more : ranked_cmp x.key (Queued tile p.0) y.key (Queued tile q.0) ≡ Greater =
    ranked_turned x.key (Queued tile p.0) y.key (Queued tile q.0) ∙ ap ordering_reverse (behind q.0 p.0 y x two one) in
    absurd (cc (less, more))

-- a tile has one least idle task at most
pub one_least_idle : (view : View) (tile k j : ℕ) (x y : Task) → IsLeastIdle view tile k x
    → IsLeastIdle view tile j y → k ≡ j
one_least_idle view tile k j x y one two = elim (cases_eq k j) [
  | inl same ↦ same
  | inr other ↦ absurd (not_both_ways view tile k j x y one.idle.queued one.idle.there two.idle.queued two.idle.there
      (one.least j y (λ e. other (sym e)) two.idle) (two.least k x other one.idle))
]
