-- Each spilled task has the name of a firm task.
use Rattle.std.proofs.Common.{◌≡◌, ◌+◌, ℕ, true, length, Option, Some, None, refl, inl, inr, is_some}
use Rattle.task_desc.specs.declared.desc.Name.{Name}
use Rattle.spec_state.specs.declared.task.Creator.{Creator}
use Rattle.spec_state.specs.declared.task.Creator.TheVariants.{Committed, Live}
use Rattle.spec_state.specs.View.{View}
use Rattle.spec_state.specs.Groups.{all_spilled, bag_spilled}
use Rattle.spec_state.specs.Least.{HasName, IsHeir}
use Rattle.spec_law.specs.Laws.{SpilledAreFirm}
use Rattle.spec_law.proofs.Tasks.Places.{contained_in_map}

-- a name with the next commit number is that of a child of the heir, where there is one
heir_name : (view : View) (heir : Option ℕ) (name : Name)
    → IsHeir view heir → is_some heir ≡ true → name.creator ≡ length view.history + 1
    → (creator : Creator) × HasName view creator name
heir_name view None name is_heir some next = absurd (cc)
heir_name view (Some id) name is_heir some next =
    (Live (record { 0 = id }) name.index, (is_heir, λ i. record { creator = next i; index = name.index }))

pub spilled_are_firm : SpilledAreFirm
spilled_are_firm image view sound s has =
    elim (sound.tasks.names.firm s.desc.depth (bag_spilled s).task (contained_in_map bag_spilled (all_spilled view) s has)) [
      | inl low ↦ (Committed s.desc.name.creator s.desc.name.index, (low, refl))
      | inr next ↦ heir_name view sound.heir s.desc.name sound.is_heir next.1 next.0
    ]
