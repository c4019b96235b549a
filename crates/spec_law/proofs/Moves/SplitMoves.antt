-- A split moves one spilled task of a tile back into a queue.
use Rattle.std.proofs.Common.{◌≡◌, ◌⊎◌, ◌∷◌, ◌++◌, ℕ, List, [], length, map, Option, Some, refl, sym, ap, subst, ◌∙◌}
use Rattle.std.proofs.Common.{inl, inr, option_map, is_some, unwrap_or}
use Rattle.std.specs.Prelude.{Contains, flat_map, slice_set}
use Rattle.std.proofs.lemmas.Bool.{cases_eq}
use Rattle.std.proofs.lemmas.List.{map-append}
use Rattle.std.proofs.lemmas.List.Elements.{Contains-append_left, Contains-append_right, Contains-append_cases}
use Rattle.spill_store.specs.SpilledTasks.{Spilled}
use Rattle.spec_state.specs.task_law.Moves.{SpillsOneInBags}
use Rattle.spec_state.specs.task_law.Sound.{AreSound, SameFree}
use Rattle.spec_state.proofs.Below.task_law.Proved.{splits_keep}
use Rattle.spec_state.specs.declared.task.Task.{Task}
use Rattle.spec_state.specs.View.{View, task_at}
use Rattle.spec_state.specs.Tasks.{descriptor_of, idle_task, spilled_as, spilled_descriptor}
use Rattle.spec_state.specs.Groups.{all_spilled, bag_spilled, bag_task, bag_tasks, bags_spilled}
use Rattle.spec_state.specs.Least.{IsHeir}
use Rattle.spec_state.specs.Room.{Splits}
use Rattle.spec_state.proofs.Proved.{head_or_tail}
use Rattle.spec_law.specs.Sound.{SoundSizes}
use Rattle.spec_law.proofs.Tasks.Contained.{less_in_one}
use Rattle.spec_law.proofs.Moves.Moving.{IsSpillOf, IsSpilledIn, IsQueuedIn, Moves}
use Rattle.spec_law.proofs.Moves.MovingBags.{names_of, heirs_of}
use Rattle.spec_law.proofs.Tasks.Places.{get_contains, place_in_all}

module _ (old new : View) (tile : ℕ) (sizes : SoundSizes old) (c : Splits tile old new) where
  -- the task that comes back
  abbrev pub back_task : Task
  back_task = idle_task old.version (spilled_descriptor c.spilled) c.creator tile

  -- all spilled tasks, before and after, around the one that comes back
  parts : (front : List Spilled) × (back : List Spilled) × (all_spilled old ≡ front ++ c.spilled ∷ back) × (all_spilled new ≡ front ++ back)
  parts =
      let less = less_in_one old.blocks tile c.least.place c.spilled c.least.least.there in (
        less.0,
        less.1,
        less.2,
        ap (λ (blocks : List (List Spilled)). flat_map (λ block. block) blocks)
            (c.blocks ∙ ap (λ block. slice_set old.blocks tile block) c.least.others)
            ∙ less.3,
      )

  -- it was spilled
  was_there : Contains (all_spilled old) c.spilled
  was_there =
      let all = place_in_all old.blocks tile c.least.place c.spilled c.least.least.there in
      get_contains (all_spilled old) all.0 c.spilled all.1

  -- the spilled task is the one that comes back, spilled under its name
  spilled_is : c.spilled ≡ spilled_as c.spilled.desc.name (descriptor_of back_task)
  spilled_is =
      let deep = (sizes.spilled c.spilled was_there).1 in
      λ i. record { desc = record c.spilled.desc { depth = sym deep i }; domain = c.spilled.domain }

  -- it is the same task as the spilled one, under its name
  spill : IsSpillOf old back_task c.spilled
  spill = record { idle = refl; name = c.spilled.desc.name; named = c.named; is = spilled_is }

  -- what stands under its id is this task
  pub is_back : (k : ℕ) (t : Task) → k ≡ c.id → task_at new k ≡ Some t → t ≡ back_task
  is_back k t same at = let both : Some t ≡ Some back_task = sym at ∙ ap (task_at new) same ∙ c.changes.changed in cc

  -- the tasks that were queued are queued still
  pub queued_still : (k : ℕ) (t : Task) → task_at old k ≡ Some t → task_at new k ≡ Some t
  queued_still k t there = elim (cases_eq k c.id) [
    | inl same ↦ absurd (cc (sym there ∙ ap (task_at old) same ∙ c.vacant))
    | inr other ↦ c.changes.others k other ∙ there
  ]

  -- each queued task was queued, or is the one that comes back
  queued_was : (k : ℕ) (t : Task) → task_at new k ≡ Some t → (task_at old k ≡ Some t) ⊎ IsSpilledIn old old t
  queued_was k t at = elim (cases_eq k c.id) [
    | inl same ↦ inr (c.spilled, was_there, subst (λ x. IsSpillOf old x c.spilled) (sym (is_back k t same at)) spill)
    | inr other ↦ inl (sym (c.changes.others k other) ∙ at)
  ]

  -- each spilled task was spilled
  spilled_was : (s : Spilled) → Contains (all_spilled new) s → Contains (all_spilled old) s
  spilled_was s has =
      subst (λ xs. Contains xs s) (sym parts.2) (elim (Contains-append_cases parts.0 parts.1 s (subst (λ xs. Contains xs s) parts.3 has)) [
        | inl front ↦ Contains-append_left parts.0 (c.spilled ∷ parts.1) s front
        | inr back
            ↦ Contains-append_right parts.0 (c.spilled ∷ parts.1) s (Contains-append_right (c.spilled ∷ []) parts.1 s back)
      ])

  -- each that was spilled is so still, or has come back
  spilled_still : (s : Spilled) → Contains (all_spilled old) s → Contains (all_spilled new) s ⊎ IsQueuedIn old new s
  spilled_still s has =
      elim (Contains-append_cases parts.0 (c.spilled ∷ parts.1) s (subst (λ xs. Contains xs s) parts.2 has)) [
        | inl front ↦ inl (subst (λ xs. Contains xs s) (sym parts.3) (Contains-append_left parts.0 parts.1 s front))
        | inr rest ↦ elim (head_or_tail c.spilled parts.1 s rest) [
          | inl same ↦ inr (c.id, back_task, c.changes.changed, subst (IsSpillOf old back_task) same spill)
          | inr back ↦ inl (subst (λ xs. Contains xs s) (sym parts.3) (Contains-append_right parts.0 parts.1 s back))
        ]
      ]

  -- so tasks move between queues and blocks
  pub split_moves : Moves old new
  split_moves = record {
    queued = queued_was;
    spilled = λ s has. inl (spilled_was s has);
    queued_still = λ k t there. inl (queued_still k t there);
    spilled_still = spilled_still;
  }

  -- for the bags it is a spill read backwards
  module _ (heir : Option ℕ) (is_heir : IsHeir old heir) where
    bags_split : SpillsOneInBags (length old.history) (unwrap_or heir 0) (is_some heir) (bag_tasks new) (bag_tasks old) (bags_spilled new) (bags_spilled old) c.id
    bags_split =
        record {
          task = bag_task back_task;
          name = c.spilled.desc.name;
          there = ap (option_map bag_task) c.changes.changed;
          idle = refl;
          gone = ap (option_map bag_task) c.vacant;
          others = λ k other. sym (ap (option_map bag_task) (c.changes.others k other));
          named = names_of old heir is_heir c.creator c.spilled.desc.name c.named;
          heir = heirs_of old heir is_heir c.creator c.spilled.desc.name c.named;
          front = map bag_spilled parts.0;
          back = map bag_spilled parts.1;
          before_is = ap (map bag_spilled) parts.3 ∙ map-append bag_spilled parts.0 parts.1;
          after_is = ap (map bag_spilled) parts.2 ∙ map-append bag_spilled parts.0 (c.spilled ∷ parts.1)
              ∙ ap (λ s. map bag_spilled parts.0 ++ bag_spilled s ∷ map bag_spilled parts.1) spilled_is;
        }

    -- so the free tasks are the same ones, names apart and families whole
    pub split_bags : SameFree (length old.history) (bag_tasks old) (bags_spilled old) (bag_tasks new) (bags_spilled new)
        × (AreSound (length old.history) (unwrap_or heir 0) (is_some heir) (bag_tasks old) (bags_spilled old)
        → AreSound (length old.history) (unwrap_or heir 0) (is_some heir) (bag_tasks new) (bags_spilled new))
    split_bags =
        splits_keep c.id (bag_tasks old) (bag_tasks new) (bags_spilled old) (bags_spilled new) (length old.history) (unwrap_or heir 0) (is_some heir) bags_split
