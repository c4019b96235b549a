-- Tasks that move between queues and blocks keep the group of tasks, where the bags of pending tasks find the same tasks.
use Rattle.std.proofs.Common.{◌≡◌, ◌+◌, ◌≤◌, ℕ, length, Option, Some, None, refl, sym, ap, subst, ◌∙◌, inl, inr, arith}
use Rattle.std.proofs.Common.{slice_get, is_some, unwrap_or}
use Rattle.std.specs.Prelude.{Contains}
use Rattle.guest_image.specs.ImageValue.{ImageValue}
use Rattle.spec_state.specs.serial_machine.State.{SerialState}
use Rattle.spill_store.specs.SpilledTasks.{Spilled}
use Rattle.spec_state.specs.task_law.Commit.{Matches}
use Rattle.spec_state.specs.task_law.Domains.{FitsBags}
use Rattle.spec_state.specs.task_law.Sound.{AreSound}
use Rattle.spec_state.specs.declared.task.Creator.{Creator}
use Rattle.spec_state.specs.declared.task.Creator.TheVariants.{Committed, Live}
use Rattle.spec_state.specs.declared.task.Task.{Task}
use Rattle.spec_state.specs.declared.task.TaskId.{TaskId}
use Rattle.spec_state.specs.View.{View, task_at}
use Rattle.spec_state.specs.Tasks.{Descriptor, descriptor_of, spilled_descriptor}
use Rattle.spec_state.specs.Groups.{all_spilled, bag_tasks, bags_spilled, domains_of}
use Rattle.spec_state.specs.Least.{IsHeir, HasName}
use Rattle.spec_law.specs.Sound.{StandsAs, IsMadeBy, SoundTasks}
use Rattle.spec_law.proofs.Moves.Moving.{IsSpillOf, Moves, moved_to}
use Rattle.spec_law.proofs.Rooms.Fit.{heirs_are_one}

module _ (image : ImageValue) (old new : View) (heir : Option ℕ) (serial : SerialState) (moves : Moves old new) (is_heir : IsHeir old heir) (sound : SoundTasks image old heir serial) where
  -- what a creator made it has made still: it has a child, and so is not idle, and stays
  made_still : (id index : ℕ) (d : Descriptor) → IsMadeBy old id index d → IsMadeBy (moved_to old new) id index d
  made_still id index d made = elim (moves.queued_still id made.creator made.there) [
    | inl stays
        ↦ record {
          creator = made.creator;
          there = stays;
          spawn = made.spawn;
          made = made.made;
          descriptor_is =
              made.descriptor_is;
        }
    | inr spilled ↦
        let none : slice_get made.creator.spawns index ≡ None = ap (λ t. slice_get t.spawns index) spilled.2.idle in
        absurd (cc (none, made.made))
  ]

  -- the domains of a spilled task are those of the bags
  abbrev FitsSpilled : Spilled → Type 0
  FitsSpilled s = FitsBags (domains_of s.desc.kinds s.domain) serial.stack

  -- the domains of each queued task of a committed creator are those of the bags
  domains : (id : ℕ) (t : Task) (turn index : ℕ) → task_at new id ≡ Some t → t.creator ≡ Committed turn index
      → FitsBags (domains_of t.kinds t.key.domain) serial.stack
  domains id t turn index at made = elim (moves.queued id t at) [
    | inl was ↦ sound.domains id t turn index was made
    | inr spilled ↦
        let named : HasName old (Committed turn index) spilled.2.name = subst (λ c. HasName old c spilled.2.name) made spilled.2.named in
        let name : spilled.0.desc.name.creator ≡ turn = ap (λ s. s.desc.name.creator) spilled.2.is ∙ ap (λ n. n.creator) named.1 in
        subst FitsSpilled spilled.2.is (sound.spilled_domains spilled.0 spilled.1 (omega (arith, name, named.0)))
  ]

  -- so are those of each spilled one
  spilled_domains : (s : Spilled) → Contains (all_spilled new) s → s.desc.name.creator ≤ length old.history
      → FitsSpilled s
  spilled_domains s has low = elim (moves.spilled s has) [
    | inl was ↦ sound.spilled_domains s was low
    | inr queued ↦ subst FitsSpilled (sym queued.3.is) (by_creator queued.0 queued.1 queued.2 queued.3 queued.1.creator refl queued.3.named)
  ]
    where
      by_creator : (k : ℕ) (t : Task) (there : task_at old k ≡ Some t) (spill : IsSpillOf old t s) (c : Creator)
          → t.creator ≡ c → HasName old c spill.name
          → FitsBags (domains_of t.kinds t.key.domain) serial.stack
      by_creator k t there spill (Committed turn index) made named = sound.domains k t turn index there made
      by_creator k t there spill (Live task index) made named =
          let name : s.desc.name.creator ≡ length old.history + 1 = ap (λ s. s.desc.name.creator) spill.is ∙ ap (λ n. n.creator) named.1 in
          absurd (omega (arith, name, low))

  -- each task has done what its status says
  stands : (id : ℕ) (t : Task) → task_at new id ≡ Some t → StandsAs image old.version old.settings.budget t t.status
  stands id t at = elim (moves.queued id t at) [
    | inl was ↦ sound.stands id t was
    | inr spilled ↦ subst (StandsAs image old.version old.settings.budget t) (sym (ap (λ x. x.status) spilled.2.idle)) spilled.2.idle
  ]

  -- each queued child is as its creator made it
  children : (id : ℕ) (t : Task) (creator : TaskId) (index : ℕ) → task_at new id ≡ Some t
      → t.creator ≡ Live creator index
      → IsMadeBy (moved_to old new) creator.0 index (descriptor_of t)
  children id t creator index at made = made_still creator.0 index (descriptor_of t) (elim (moves.queued id t at) [
    | inl was ↦ sound.children id t creator index was made
    | inr spilled ↦
        let named : HasName old (Live creator index) spilled.2.name = subst (λ c. HasName old c spilled.2.name) made spilled.2.named in
        let next : spilled.0.desc.name.creator ≡ length old.history + 1 = ap (λ s. s.desc.name.creator) spilled.2.is ∙ ap (λ n. n.creator) named.1 in
        let place : spilled.0.desc.name.index ≡ index = ap (λ s. s.desc.name.index) spilled.2.is ∙ ap (λ n. n.index) named.1 in
        let from = sound.spilled_children spilled.0 spilled.1 next in
        let both : Some from.0 ≡ Some creator.0 = sym from.1 ∙ heirs_are_one old heir creator.0 is_heir named.0 in
        let same : from.0 ≡ creator.0 = cc in
        let is : spilled_descriptor spilled.0 ≡ descriptor_of t = ap spilled_descriptor spilled.2.is in
        subst (λ d. IsMadeBy old creator.0 index d) is
        (subst (λ i. IsMadeBy old creator.0 i (spilled_descriptor spilled.0)) place
        (subst (λ k. IsMadeBy old k spilled.0.desc.name.index (spilled_descriptor spilled.0)) same from.2))
  ])

  -- a spilled child of the heir
  abbrev IsHeirs : Spilled → Type 0
  IsHeirs s = (id : ℕ) × (heir ≡ Some id) × IsMadeBy (moved_to old new) id s.desc.name.index (spilled_descriptor s)

  -- so is each spilled one
  spilled_children : (s : Spilled) → Contains (all_spilled new) s → s.desc.name.creator ≡ length old.history + 1
      → IsHeirs s
  spilled_children s has next = elim (moves.spilled s has) [
    | inl was ↦ let from = sound.spilled_children s was next in (from.0, from.1, made_still from.0 s.desc.name.index (spilled_descriptor s) from.2)
    | inr queued ↦ by_creator queued.0 queued.1 queued.2 queued.3 queued.1.creator refl queued.3.named
  ]
    where
      by_creator : (k : ℕ) (t : Task) (there : task_at old k ≡ Some t) (spill : IsSpillOf old t s) (c : Creator)
          → t.creator ≡ c → HasName old c spill.name → IsHeirs s
      by_creator k t there spill (Committed turn index) made named =
          let name : s.desc.name.creator ≡ turn = ap (λ s. s.desc.name.creator) spill.is ∙ ap (λ n. n.creator) named.1 in
          absurd (omega (arith, name, next, named.0))
      by_creator k t there spill (Live creator index) made named =
          let place : s.desc.name.index ≡ index = ap (λ s. s.desc.name.index) spill.is ∙ ap (λ n. n.index) named.1 in
          let is : spilled_descriptor s ≡ descriptor_of t = ap spilled_descriptor spill.is in (
            creator.0,
            heirs_are_one old heir creator.0 is_heir named.0,
            subst (λ d. IsMadeBy (moved_to old new) creator.0 s.desc.name.index d) (sym is)
                (subst (λ i. IsMadeBy (moved_to old new) creator.0 i (descriptor_of t)) (sym place)
                (made_still creator.0 index (descriptor_of t) (sound.children k t creator index there made))),
          )

  -- the group of tasks, where the bags have names and matches
  pub moved_tasks : AreSound (length old.history) (unwrap_or heir 0) (is_some heir) (bag_tasks new) (bags_spilled new)
      → Matches (length old.history) (bag_tasks new) (bags_spilled new) serial.stack
      → SoundTasks image (moved_to old new) heir serial
  moved_tasks names matches =
      record {
        few = sound.few;
        output = sound.output;
        names = names;
        matches = matches;
        domains = domains;
        spilled_domains = spilled_domains;
        stands = stands;
        children = children;
        spilled_children = spilled_children;
      }
