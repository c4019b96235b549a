-- Who made a spilled task, by its name.
use Rattle.std.proofs.Common.{◌≡◌, ◌<◌, ◌+◌, ℕ, List, length, Option, Some, None, option_map, ◌∙◌, refl, ap, arith}
use Rattle.std.specs.Prelude.{Contains, IsSome}
use Rattle.std.proofs.lemmas.Option.{slice_get_within, get_or_from_slice_get}
use Rattle.task_desc.specs.declared.desc.Name.{Name}
use Rattle.spill_store.specs.SpilledTasks.{Spilled, TakesLeast}
use Rattle.spec_state.specs.declared.task.Creator.{Creator}
use Rattle.spec_state.specs.declared.task.Creator.TheVariants.{Committed, Live}
use Rattle.spec_state.specs.declared.task.TaskId.{TaskId}
use Rattle.spec_state.specs.View.{View}
use Rattle.spec_state.specs.Least.{IsHeir, HasName}

-- what is taken was there
pub taken_there : (old new : List Spilled) (s : Spilled) → TakesLeast old new s → Contains old s
taken_there old new s takes =
    (takes.place, slice_get_within old takes.place s takes.least.there, get_or_from_slice_get old takes.place s s takes.least.there)

-- where the creator's number is no commit so far, the creator is the heir; the blocks don't matter
pub named_by_heir : (view mid : View) (blocks : List (List Spilled)) (name : Name) (count : ℕ) (heir : Option TaskId)
    → IsHeir view (option_map (λ id. id.0) heir) → mid ≡ record view { blocks = blocks } → count ≡ length mid.history
    → (creator : Creator) × HasName view creator name → count < name.creator → IsSome heir × (name.creator ≡ count + 1)
named_by_heir view mid blocks name count heir is rest same named more =
    go heir is (same ∙ ap (λ (v : View). length v.history) rest) named.0 named.1
  where
    go : (heir : Option TaskId) → IsHeir view (option_map (λ id. id.0) heir) → count ≡ length view.history
        → (creator : Creator) → HasName view creator name → IsSome heir × (name.creator ≡ count + 1)
    go heir is same (Committed turn index) named =
        let by : name.creator ≡ turn = ap (λ (n : Name). n.creator) named.1 in
        absurd (omega (arith, by, named.0, same, more))
    go None is same (Live task index) named = absurd (is task.0 named.0.0 named.0.1 named.0.2)
    go (Some id) is same (Live task index) named =
        let by : name.creator ≡ length view.history + 1 = ap (λ (n : Name). n.creator) named.1 in
        (refl, omega (arith, by, same))
