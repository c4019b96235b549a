-- A coalescing moves idle firm tasks of a tile into its block.
use Rattle.std.proofs.Common.{◌≡◌, ◌⊎◌, ◌<◌, ◌∷◌, ℕ, zero, suc, false, List, [], length, Option, Some, refl, sym, ap}
use Rattle.std.proofs.Common.{subst, ◌∙◌, inl, inr, arith, is_some}
use Rattle.std.specs.Prelude.{Contains, flat_map}
use Rattle.std.specs.List.{AllZip}
use Rattle.guest_image.specs.ImageValue.{ImageValue}
use Rattle.spec_state.specs.serial_machine.State.{SerialState}
use Rattle.spill_store.specs.SpilledTasks.{Spilled}
use Rattle.spec_state.specs.declared.task.Status.TheVariants.{Idle}
use Rattle.spec_state.specs.declared.task.Task.{Task}
use Rattle.spec_state.specs.View.{View, task_at}
use Rattle.spec_state.specs.Tasks.{idle_again, is_dispatched}
use Rattle.spec_state.specs.Groups.{all_spilled}
use Rattle.spec_state.specs.Room.{IsSpilledAs, Coalesces}
use Rattle.spec_state.proofs.Proved.{within_lists}
use Rattle.spec_law.specs.Sound.{StandsAs, SoundTasks, SoundSizes}
use Rattle.spec_law.proofs.Tasks.Contained.{decided, some_first}
use Rattle.spec_law.proofs.Moves.Moving.{IsSpillOf, IsSpilledIn, IsQueuedIn, Moves}
use Rattle.spec_law.proofs.Moves.Added.{AddsEach, pushed_in_one, added_now, added_was, added_is}

-- of two lists of which each pair is so, each element of the one has one in the other
zipped_left : (R : ℕ → Spilled → Type 0) (ids : List ℕ) (ss : List Spilled) → AllZip R ids ss → (id : ℕ)
    → Contains ids id → (s : Spilled) × Contains ss s × R id s
zipped_left R [] ss zip id has = absurd (omega (arith, has.1))
zipped_left R (k ∷ ids) [] zip id has = absurd zip
zipped_left R (k ∷ ids) (s ∷ ss) zip id (zero, below, at) = (s, (0, omega arith, refl), subst (λ j. R j s) at zip.0)
zipped_left R (k ∷ ids) (s ∷ ss) zip id (suc i, below, at) =
    let rest = zipped_left R ids ss zip.1 id (i, omega (arith, below), at) in
    (rest.0, (suc rest.1.0, (let under = rest.1.1 in omega (arith, under)), rest.1.2), rest.2)

-- and the other way round
zipped_right : (R : ℕ → Spilled → Type 0) (ids : List ℕ) (ss : List Spilled) → AllZip R ids ss → (s : Spilled)
    → Contains ss s → (id : ℕ) × Contains ids id × R id s
zipped_right R ids [] zip s has = absurd (omega (arith, has.1))
zipped_right R [] (e ∷ ss) zip s has = absurd zip
zipped_right R (k ∷ ids) (e ∷ ss) zip s (zero, below, at) = (k, (0, omega arith, refl), subst (λ x. R k x) at zip.0)
zipped_right R (k ∷ ids) (e ∷ ss) zip s (suc i, below, at) =
    let rest = zipped_right R ids ss zip.1 s (i, omega (arith, below), at) in
    (rest.0, (suc rest.1.0, (let under = rest.1.1 in omega (arith, under)), rest.1.2), rest.2)

module _ (image : ImageValue) (old new : View) (heir : Option ℕ) (serial : SerialState) (tile : ℕ) (tasks : SoundTasks image old heir serial) (sizes : SoundSizes old) (c : Coalesces tile old new) where
  -- the tile has a block
  pub inside : tile < length old.blocks
  inside =
      let first = some_first c.ids c.some in
      let movable = c.chosen.movable first.0 first.1 in
      let below = within_lists old.queues tile first.0 movable.1.idle.queued in
      let queues = sizes.queues in
      let blocks = sizes.blocks in
      omega (arith, below, queues, blocks)

  -- a task whose status is idle has done nothing
  pub idle_is : (id : ℕ) (t : Task) → task_at old id ≡ Some t → t.status ≡ Idle → t ≡ idle_again old.version t
  idle_is id t there idle = subst (StandsAs image old.version old.settings.budget t) idle (tasks.stands id t there)

  -- and is not dispatched
  pub idle_is_off : (id : ℕ) (t : Task) → task_at old id ≡ Some t → t.status ≡ Idle → is_dispatched t ≡ false
  idle_is_off id t there idle = ap (λ x. is_some x.key.tb) (idle_is id t there idle)

  -- each id that moves is that of a task that has done nothing
  moved_idle : (id : ℕ) (t : Task) → Contains c.ids id → task_at old id ≡ Some t → t ≡ idle_again old.version t
  moved_idle id t has there =
      let movable = c.chosen.movable id has in
      let both : Some movable.0 ≡ Some t = sym movable.1.idle.there ∙ there in
      let same : movable.0 ≡ t = cc in
      idle_is id t there (ap (λ x. x.status) (sym same) ∙ movable.1.idle.idle)

  -- what is spilled under such an id is its task
  spill_of : (id : ℕ) (s : Spilled) → Contains c.ids id → (as_is : IsSpilledAs old id s) → IsSpillOf old as_is.task s
  spill_of id s has as_is =
      record {
        idle = moved_idle id as_is.task has as_is.there;
        name = as_is.name;
        named = as_is.named;
        is = as_is.spilled_is;
      }

  -- what moved is added to the spilled tasks
  pub spilled_added : AddsEach c.moved (all_spilled old) (all_spilled new)
  spilled_added =
      subst (λ (blocks : List (List Spilled)). AddsEach c.moved (all_spilled old) (flat_map (λ block. block) blocks)) (sym c.blocks)
      (pushed_in_one old.blocks tile c.moved inside)

  -- each task that is queued still was queued
  pub queued_was : (k : ℕ) (t : Task) → task_at new k ≡ Some t → task_at old k ≡ Some t
  queued_was k t at = elim (decided c.ids k) [
    | inl moved ↦ absurd (cc (sym (c.gone k moved) ∙ at))
    | inr none ↦ sym (c.others k none) ∙ at
  ]

  -- each task that was queued is queued still, or spilled
  queued_still : (k : ℕ) (t : Task) → task_at old k ≡ Some t → (task_at new k ≡ Some t) ⊎ IsSpilledIn old new t
  queued_still k t there = elim (decided c.ids k) [
    | inl moved ↦
        let entry = zipped_left (IsSpilledAs old) c.ids c.moved c.spilled k moved in
        let both : Some entry.2.task ≡ Some t = sym entry.2.there ∙ there in
        let same : entry.2.task ≡ t = cc in
        inr (entry.0, added_is c.moved (all_spilled old) (all_spilled new) entry.0 spilled_added entry.1, subst (λ x. IsSpillOf old x entry.0) same (spill_of k entry.0 moved entry.2))
    | inr none ↦ inl (c.others k none ∙ there)
  ]

  -- each spilled task was spilled or queued
  spilled_was : (s : Spilled) → Contains (all_spilled new) s → Contains (all_spilled old) s ⊎ IsQueuedIn old old s
  spilled_was s has = elim (added_now c.moved (all_spilled old) (all_spilled new) s spilled_added has) [
    | inl was ↦ inl was
    | inr moved ↦
        let id = zipped_right (IsSpilledAs old) c.ids c.moved c.spilled s moved in
        inr (id.0, id.2.task, id.2.there, spill_of id.0 s id.1 id.2)
  ]

  -- so tasks move between queues and blocks
  pub coalesce_moves : Moves old new
  coalesce_moves = record {
    queued = λ k t at. inl (queued_was k t at);
    spilled = spilled_was;
    queued_still = queued_still;
    spilled_still = λ s has. inl (added_was c.moved (all_spilled old) (all_spilled new) s spilled_added has);
  }
