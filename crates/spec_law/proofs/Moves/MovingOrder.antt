-- Tasks that move between queues and blocks keep the group of order.
use Rattle.std.proofs.Common.{◌≡◌, ℕ, true, Option, Some, sym, ap, ◌∙◌, inl, inr, is_some, map}
use Rattle.fractal_vt.specs.Levels.{closed_level}
use Rattle.order_law.specs.Tasks.{Keyed, HasNumber}
use Rattle.order_law.proofs.Proved.{rename_keeps_order, Renames}
use Rattle.spec_state.specs.declared.task.Task.{Task}
use Rattle.spec_state.specs.View.{View, task_at}
use Rattle.spec_state.specs.Tasks.{is_dispatched}
use Rattle.spec_state.specs.Groups.{all_keyed, all_spilled}
use Rattle.spec_state.specs.Least.{IsHeir}
use Rattle.spec_law.specs.Sound.{SoundOrder}
use Rattle.spec_law.proofs.Tasks.Beside.{queued_stands, spilled_stands, which}
use Rattle.spec_law.proofs.Moves.Moving.{Moves, moved_to, runs_still, runs_was, spill_keyed}
use Rattle.spec_law.proofs.Tasks.Places.{contains_get, get_contains}

-- a task with a number stands in the other view, where that has each dispatched task
numbered : (one other : View) (heir : Option ℕ)
    → ((k : ℕ) (t : Task) → task_at one k ≡ Some t → is_dispatched t ≡ true → task_at other k ≡ Some t)
    → (k n : ℕ) (x : Keyed) → all_keyed one heir k ≡ Some x → HasNumber x n → all_keyed other heir k ≡ Some x
numbered one other heir stays k n x at number = elim (which one heir k x at) [
  | inl q ↦
      let runs : is_dispatched q.0 ≡ true = ap is_some (sym (ap (λ y. y.last.tb) q.2) ∙ number) in
      queued_stands other heir k q.0 (stays k q.0 q.1 runs) ∙ ap Some (sym q.2)
  | inr s ↦ absurd (cc (sym (ap (λ y. y.last.tb) s.3) ∙ number))
]

module _ (old new : View) (heir : Option ℕ) (moves : Moves old new) (is_heir : IsHeir old heir) where
  -- for the order of all tasks some have other ids
  moved_renames : Renames (all_keyed old heir) (all_keyed (moved_to old new) heir)
  moved_renames =
      record {
        from = λ k x at. elim (which (moved_to old new) heir k x at) [
          | inl q ↦ elim (moves.queued k q.0 q.1) [
            | inl was ↦ (k, queued_stands old heir k q.0 was ∙ ap Some (sym q.2))
            | inr spilled ↦
                let place = contains_get (all_spilled old) spilled.0 spilled.1 in
                let stands = spilled_stands old heir place.0 spilled.0 place.1 in
                (stands.0, stands.1 ∙ ap Some (spill_keyed old heir q.0 spilled.0 is_heir spilled.2 ∙ sym q.2))
          ]
          | inr s ↦ elim (moves.spilled s.1 (get_contains (all_spilled new) s.0 s.1 s.2)) [
            | inl was ↦
                let place = contains_get (all_spilled old) s.1 was in
                let stands = spilled_stands old heir place.0 s.1 place.1 in
                (stands.0, stands.1 ∙ ap Some (sym s.3))
            | inr queued ↦
                (queued.0, queued_stands old heir queued.0 queued.1 queued.2 ∙ ap Some (sym (spill_keyed old heir queued.1 s.1 is_heir queued.3) ∙ sym s.3))
          ]
        ];
        stays = numbered old (moved_to old new) heir (runs_still old new moves);
        was = numbered (moved_to old new) old heir (runs_was old new moves);
      }

  -- so the order is kept
  pub moved_order : SoundOrder old heir → SoundOrder (moved_to old new) heir
  moved_order sound =
      record {
        order =
            rename_keeps_order (all_keyed old heir) (all_keyed (moved_to old new) heir) (map closed_level old.path) old.next moved_renames sound.order;
        numbers = sound.numbers;
      }
