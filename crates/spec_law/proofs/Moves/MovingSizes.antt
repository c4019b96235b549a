-- Tasks that move between queues and blocks keep the group of sizes, where task queues stay bounded and hold the queued tasks.
use Rattle.std.proofs.Common.{◌≡◌, ◌⊎◌, ◌+◌, ◌≤◌, ◌<◌, ◌^◌, ℕ, length, Option, Some, refl, sym, ap, subst, inl, inr}
use Rattle.std.proofs.Common.{arith, map}
use Rattle.std.specs.Prelude.{All, Contains, ◌↔◌}
use Rattle.std.proofs.lemmas.List.{length-map}
use Rattle.fractal_vt.specs.Levels.{closed_level}
use Rattle.fractal_vt.specs.declared.vt.TheConstants.{MAX_LEVELS}
use Rattle.spill_store.specs.SpilledTasks.{Spilled}
use Rattle.task_desc.specs.Record.{IsDesc}
use Rattle.tile_queues.specs.Queue.{AreDistinct}
use Rattle.spec_state.specs.declared.emitted.TheConstants.{MAX_EMITTED}
use Rattle.spec_state.specs.declared.task.Status.{Status}
use Rattle.spec_state.specs.declared.task.Status.TheVariants.{Idle, Finished}
use Rattle.spec_state.specs.declared.task.Task.{Task}
use Rattle.spec_state.specs.View.{View, task_at}
use Rattle.spec_state.specs.Tasks.{depth_of}
use Rattle.spec_state.specs.Groups.{all_spilled, keyed_task}
use Rattle.spec_state.specs.Queries.{IsQueued}
use Rattle.spec_state.specs.Stored.{HasCore, HasTask}
use Rattle.spec_law.specs.Sound.{SoundOrder, SoundSizes}
use Rattle.spec_law.proofs.Moves.Moving.{Moves, moved_to}
use Rattle.spec_law.proofs.Tasks.Beside.{queued_stands}

-- a task whose status is none of an idle one is in the other view where each task stays there or is idle
pub still_has : (one other : View) (kind : Status → Type 0) → (kind Idle → ⊥)
    → ((k : ℕ) (t : Task) → task_at one k ≡ Some t → (task_at other k ≡ Some t) ⊎ (t.status ≡ Idle))
    → (tile id : ℕ) → HasTask one tile id kind → HasTask other tile id kind
still_has one other kind none stays tile id has = elim (stays id has.0 has.1) [
  | inl there ↦ (has.0, there, has.2, has.3)
  | inr idle ↦ absurd (none (subst kind idle has.3))
]

module _ (old new : View) (heir : Option ℕ) (moves : Moves old new) (order : SoundOrder old heir) (sizes : SoundSizes old) where
  -- each task stays or is idle
  stays : (k : ℕ) (t : Task) → task_at old k ≡ Some t → (task_at new k ≡ Some t) ⊎ (t.status ≡ Idle)
  stays k t there =
      elim (moves.queued_still k t there) [ inl still ↦ inl still | inr spilled ↦ inr (ap (λ x. x.status) spilled.2.idle) ]

  -- each task was there or is idle
  was_or_idle : (k : ℕ) (t : Task) → task_at new k ≡ Some t → (task_at old k ≡ Some t) ⊎ (t.status ≡ Idle)
  was_or_idle k t there =
      elim (moves.queued k t there) [ inl was ↦ inl was | inr spilled ↦ inr (ap (λ x. x.status) spilled.2.idle) ]

  -- what holds of a spilled task's descriptor
  abbrev IsSpilledDesc : Spilled → Type 0
  IsSpilledDesc s = IsDesc s.desc × (length s.domain + 1 ≡ s.desc.depth)

  -- each spilled task has the descriptor of one
  spilled_desc_is : (s : Spilled) → Contains (all_spilled new) s → IsSpilledDesc s
  spilled_desc_is s has = elim (moves.spilled s has) [
    | inl was ↦ sizes.spilled s was
    | inr queued ↦
        let shaped = order.order.shaped queued.0 (keyed_task queued.1) (queued_stands old heir queued.0 queued.1 queued.2) in
        let few : length (map closed_level queued.1.key.domain) < MAX_LEVELS = shaped.0 in
        let same : length (map closed_level queued.1.key.domain) ≡ length queued.1.key.domain = length-map queued.1.key.domain closed_level in
        subst IsSpilledDesc (sym queued.3.is)
        (record { inside = omega arith; shallow = omega (arith, few, same); kinds = sizes.kinds queued.0 queued.1 queued.2 }, refl)
  ]

  -- the kinds of each task fit its depth
  kinds : (id : ℕ) (t : Task) → task_at new id ≡ Some t → t.kinds < 2 ^ depth_of t
  kinds id t at = elim (moves.queued id t at) [
    | inl was ↦ sizes.kinds id t was
    | inr spilled ↦ subst (λ s. s.desc.kinds < 2 ^ s.desc.depth) spilled.2.is (sizes.spilled spilled.0 spilled.1).0.kinds
  ]

  -- and its bytes are no more than it may emit
  bytes : (id : ℕ) (t : Task) → task_at new id ≡ Some t → length t.bytes ≤ MAX_EMITTED
  bytes id t at = elim (moves.queued id t at) [
    | inl was ↦ sizes.bytes id t was
    | inr spilled ↦ let none : length t.bytes ≡ 0 = ap (λ x. length x.bytes) spilled.2.idle in omega (arith, none)
  ]

  -- the group of sizes, where queues and blocks have theirs
  pub moved_sizes : length new.queues ≡ old.settings.tiles → length new.blocks ≡ old.settings.tiles
      → All (λ ids. (length ids ≤ old.settings.task_queue) × AreDistinct ids) new.queues
      → ((tile id : ℕ) → IsQueued (moved_to old new) tile id ↔ HasTask (moved_to old new) tile id (λ status. Unit {0}))
      → SoundSizes (moved_to old new)
  moved_sizes queues blocks task_queues queued_are =
      record {
        settings = sizes.settings;
        queues = queues;
        finished = sizes.finished;
        cores = sizes.cores;
        blocks = blocks;
        task_queues = task_queues;
        commit_queues = sizes.commit_queues;
        core_counts = sizes.core_counts;
        queued_are = queued_are;
        finished_are = λ tile id. (
          λ has. still_has old (moved_to old new) (λ status. status ≡ Finished) (λ is. absurd (cc (is))) stays tile id ((sizes.finished_are tile id).0 has),
          λ has. (sizes.finished_are tile id).1 (still_has (moved_to old new) old (λ status. status ≡ Finished) (λ is. absurd (cc (is))) was_or_idle tile id has),
        );
        held_are = λ tile core id. (
          λ has. still_has old (moved_to old new) (λ status. HasCore status core) (λ is. is) stays tile id ((sizes.held_are tile core id).0 has),
          λ has. (sizes.held_are tile core id).1 (still_has (moved_to old new) old (λ status. HasCore status core) (λ is. is) was_or_idle tile id has),
        );
        kinds = kinds;
        bytes = bytes;
        spilled = spilled_desc_is;
      }
