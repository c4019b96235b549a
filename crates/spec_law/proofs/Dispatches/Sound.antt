-- A dispatch keeps a view sound.
use Rattle.std.proofs.Common.{◌≡◌, ◌<◌, ◌≤◌, ◌∷◌, ℕ, true, nat_le, List, [], length, map, Option, Some, None, refl, sym}
use Rattle.std.proofs.Common.{ap, subst, ◌∙◌, inl, inr, arith, suc}
use Rattle.std.specs.Prelude.{Contains}
use Rattle.std.proofs.lemmas.Bool.{le-leb}
use Rattle.guest_image.specs.ImageValue.{ImageValue}
use Rattle.fractal_vt.specs.Levels.{closed_level}
use Rattle.order_law.specs.Events.{beside}
use Rattle.order_law.specs.Ordered.{IsOrdered}
use Rattle.spill_store.specs.SpilledTasks.{Spilled}
use Rattle.spec_state.specs.declared.numbers.TheConstants.{DISPATCH_NUMBERS}
use Rattle.spec_state.specs.View.{View}
use Rattle.spec_state.specs.Groups.{all_spilled, heir_unless, keyed_tasks, keyed_spilled}
use Rattle.spec_state.specs.Least.{IsHeir}
use Rattle.spec_state.specs.Changes.{Dispatches}
use Rattle.spec_law.specs.Keeping.{DispatchStaysSound}
use Rattle.spec_law.specs.Sound.{Sound, SoundOrder, SoundTasks, StaysSound}
use Rattle.spec_law.proofs.Dispatches.One.{after, is_after, was_idle}
use Rattle.spec_law.proofs.Dispatches.Order.{dispatched_order}
use Rattle.spec_law.proofs.Dispatches.Memory.{dispatched_memory}
use Rattle.spec_law.proofs.Dispatches.Tasks.{same_heir_tasks, new_heir_tasks, none_next}
use Rattle.spec_law.proofs.Dispatches.Sizes.{dispatched_sizes}
use Rattle.spec_law.proofs.Dispatches.Heir.{heir_stays, heir_other, heir_after}

-- spilled tasks with committed creators are read the same, whatever the heir
read_alike : (count : ℕ) (one other : Option ℕ) (spilled_list : List Spilled)
    → ((s : Spilled) → Contains spilled_list s → s.desc.name.creator ≤ count)
    → map (keyed_spilled count one) spilled_list ≡ map (keyed_spilled count other) spilled_list
read_alike count one other [] low = refl
read_alike count one other (s ∷ spilled_list) low =
    let test : nat_le s.desc.name.creator count ≡ true = le-leb s.desc.name.creator count (low s (0, omega arith, refl)) in
    let none : heir_unless (nat_le s.desc.name.creator count) one ≡ heir_unless (nat_le s.desc.name.creator count) other =
    ap (λ b. heir_unless b one) test ∙ sym (ap (λ b. heir_unless b other) test)
    in
    let rest = read_alike count one other spilled_list (λ x has. low x (suc has.0, (let below = has.1 in omega (arith, below)), has.2)) in
    λ i. record (keyed_spilled count one s) { creator = none i } ∷ rest i

-- so the order of all tasks does not read the heir then
order_alike : (view : View) (one other : Option ℕ)
    → ((s : Spilled) → Contains (all_spilled view) s → s.desc.name.creator ≤ length view.history)
    → SoundOrder view one → SoundOrder view other
order_alike view one other low sound = record {
  order =
      subst (λ spilled_list. IsOrdered (beside (length view.tasks) (keyed_tasks view) spilled_list) (map closed_level view.path) view.next)
      (read_alike (length view.history) one other (all_spilled view) low) sound.order;
  numbers = sound.numbers;
}

module _ (image : ImageValue) (old new : View) (sound : Sound image old) (tile : ℕ) (left : old.next < DISPATCH_NUMBERS) (d : Dispatches tile old new) where
  -- sound with this heir
  with_heir : (heir : Option ℕ) → IsHeir (after old new tile d) heir
      → SoundTasks image (after old new tile d) heir sound.serial
      → SoundOrder (after old new tile d) heir → StaysSound image old sound (after old new tile d)
  with_heir heir is_heir tasks order = (
    record {
      version = sound.version;
      serial = sound.serial;
      is_run = sound.is_run;
      heir = heir;
      is_heir = is_heir;
      tasks = tasks;
      memory =
          dispatched_memory old new sound.heir tile d (was_idle old new tile d image sound.heir sound.serial sound.tasks) sound.order sound.serial sound.memory;
      order = order;
      sizes = dispatched_sizes old new tile d sound.sizes;
    },
    refl,
  )

  -- the heir of before stays, or there was none
  by_heir : (heir : Option ℕ) → IsHeir old heir → SoundTasks image old heir sound.serial → SoundOrder old heir
      → StaysSound image old sound (after old new tile d)
  by_heir (Some h) is_heir tasks order =
      let idle = was_idle old new tile d image (Some h) sound.serial tasks in
      let open' = ap (λ t. t.key.tb) idle in
      let sizes = dispatched_sizes old new tile d sound.sizes in
      let order' = dispatched_order old new (Some h) tile d open' left order in
      let other = heir_other old new (Some h) tile d open' order sound.sizes sizes order' h is_heir in
      with_heir (Some h) (heir_stays old new (Some h) tile d open' order sound.sizes sizes order' h is_heir)
      (same_heir_tasks image old new (Some h) sound.serial tile d idle order tasks (λ k is same. (let eq : h ≡ k = cc in other (eq ∙ same))))
      order'
  by_heir None is_heir tasks order =
      let idle = was_idle old new tile d image None sound.serial tasks in
      let open' = ap (λ t. t.key.tb) idle in
      let sizes = dispatched_sizes old new tile d sound.sizes in
      let order' = dispatched_order old new None tile d open' left order in
      elim (heir_after old new None tile d open' order sound.sizes sizes order' is_heir) [
        | inl this ↦
            with_heir (Some d.id) this (new_heir_tasks image old new None sound.serial tile d idle order tasks refl)
            (order_alike (after old new tile d) None (Some d.id) (none_next image old new None sound.serial tile d idle order tasks refl) order')
        | inr none ↦
            with_heir None none
            (same_heir_tasks image old new None sound.serial tile d idle order tasks (λ k is. absurd (cc (is)))) order'
      ]

-- so the new view is sound
pub dispatch_stays_sound : DispatchStaysSound
dispatch_stays_sound image old new sound tile left d =
    subst (StaysSound image old sound) (sym (is_after old new tile d)) (by_heir image old new sound tile left d sound.heir sound.is_heir sound.tasks sound.order)
