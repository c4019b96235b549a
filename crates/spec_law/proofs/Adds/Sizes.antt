-- A task that comes to be, idle, as the last one of a queue with a free place keeps the group of sizes.
use Rattle.std.proofs.Common.{◌≡◌, ◌≢◌, ◌<◌, ◌≤◌, ◌^◌, ◌+◌, ◌∷◌, ◌++◌, ℕ, [], length, sym, ap, subst, ◌∙◌, inl, inr}
use Rattle.std.proofs.Common.{arith}
use Rattle.std.specs.Prelude.{Contains, All}
use Rattle.std.proofs.lemmas.Bool.{cases_eq}
use Rattle.std.proofs.lemmas.List.{length_push, length-set}
use Rattle.std.proofs.lemmas.List.Elements.{All-set, Contains-get_or, Contains-push, Contains-push_cases}
use Rattle.std.proofs.lemmas.List.Elements.{Contains-append_left}
use Rattle.std.proofs.lemmas.List.Quantifiers.{all_pairs_push}
use Rattle.tile_queues.specs.Queue.{AreDistinct}
use Rattle.spec_state.specs.declared.emitted.TheConstants.{MAX_EMITTED}
use Rattle.spec_state.specs.declared.task.Status.{Status}
use Rattle.spec_state.specs.declared.task.Status.TheVariants.{Idle, Finished}
use Rattle.spec_state.specs.declared.task.Task.{Task}
use Rattle.spec_state.specs.View.{View, task_at, queue_at}
use Rattle.spec_state.specs.Tasks.{depth_of, idle_again}
use Rattle.spec_state.specs.Opening.{Adds}
use Rattle.spec_state.specs.Queries.{IsQueued}
use Rattle.spec_state.specs.Room.{QueueHasRoom}
use Rattle.spec_law.specs.Sound.{SoundSizes}
use Rattle.spec_state.proofs.Proved.{is_new, other_queue, own_queue, still_there, was_there}
use Rattle.spec_state.specs.Stored.{HasCore, HasTask}
use Rattle.spec_law.proofs.Adds.One.{added_to}
use Rattle.spec_law.proofs.Steps.One.{each_stepped}
use Rattle.spec_law.proofs.Tasks.Distinct.{distinct_at}

module _ (old new : View) (id : ℕ) (task : Task) (adds : Adds id task old new) (sizes : SoundSizes old) (within : task.tile < old.settings.tiles) (free : QueueHasRoom old task.tile) (idle : task ≡ idle_again old.version task) where
  abbrev now : View
  now = added_to old new

  in_tiles : task.tile < length old.queues
  in_tiles = subst (λ n. task.tile < n) (sym sizes.queues) within

  -- a task whose status is of a kind stays
  has_forth : (kind : Status → Type 0) (tile k : ℕ) → HasTask old tile k kind → HasTask now tile k kind
  has_forth kind tile k has = (has.0, still_there old new id task adds k has.0 has.1, has.2, has.3)

  -- and was there, where that is no status of an idle one
  has_back : (kind : Status → Type 0) → (kind Idle → ⊥) → (tile k : ℕ) → HasTask now tile k kind
      → HasTask old tile k kind
  has_back kind none tile k has = elim (cases_eq k id) [
    | inl same ↦ absurd (none (subst kind (ap (λ t. t.status) (is_new old new id task adds k has.0 same has.1 ∙ idle)) has.3))
    | inr other ↦ (has.0, was_there old new id task adds k has.0 other has.1, has.2, has.3)
  ]

  queued_forth : (tile k : ℕ) → IsQueued now tile k → HasTask now tile k (λ status. Unit {0})
  queued_forth tile k has = elim (cases_eq tile task.tile) [
    | inl own ↦
        let here : Contains (queue_at old task.tile ++ id ∷ []) k = subst (λ ids. Contains ids k) (own_queue old new id task adds in_tiles) (subst (λ n. Contains (queue_at new n) k) own has) in
        elim (Contains-push_cases (queue_at old task.tile) id k here) [
          | inl was ↦ has_forth (λ status. Unit {0}) tile k ((sizes.queued_are tile k).0 (subst (λ n. Contains (queue_at old n) k) (sym own) was))
          | inr last ↦ (task, ap (task_at new) (sym last) ∙ adds.changes.changed, sym own, tt)
        ]
    | inr other ↦ has_forth (λ status. Unit {0}) tile k ((sizes.queued_are tile k).0 (subst (λ ids. Contains ids k) (other_queue old new id task adds tile other) has))
  ]

  -- who stood in a queue stands there
  stays_queued : (tile k : ℕ) → Contains (queue_at old tile) k → Contains (queue_at new tile) k
  stays_queued tile k has = elim (cases_eq tile task.tile) [
    | inl own ↦
        subst (λ n. Contains (queue_at new n) k) (sym own)
        (subst (λ ids. Contains ids k) (sym (own_queue old new id task adds in_tiles))
        (Contains-append_left (queue_at old task.tile) (id ∷ []) k (subst (λ n. Contains (queue_at old n) k) own has)))
    | inr other ↦ subst (λ ids. Contains ids k) (sym (other_queue old new id task adds tile other)) has
  ]

  queued_back : (tile k : ℕ) → HasTask now tile k (λ status. Unit {0}) → IsQueued now tile k
  queued_back tile k has = elim (cases_eq k id) [
    | inl same ↦
        let own : task.tile ≡ tile = ap (λ t. t.tile) (sym (is_new old new id task adds k has.0 same has.1)) ∙ has.2 in
        subst (λ n. Contains (queue_at new n) k) own
        (subst (λ ids. Contains ids k) (sym (own_queue old new id task adds in_tiles)) (subst (Contains (queue_at old task.tile ++ id ∷ [])) (sym same) (Contains-push (queue_at old task.tile) id)))
    | inr other ↦ stays_queued tile k ((sizes.queued_are tile k).1 (has.0, was_there old new id task adds k has.0 other has.1, has.2, tt))
  ]

  -- the queue is no longer than it may be, and holds each task once
  longer : (length (queue_at old task.tile ++ id ∷ []) ≤ old.settings.task_queue) × AreDistinct (queue_at old task.tile ++ id ∷ [])
  longer =
      let long : length (queue_at old task.tile ++ id ∷ []) ≡ length (queue_at old task.tile) + 1 = length_push (queue_at old task.tile) id in (
        omega (arith, long, free),
        all_pairs_push (λ a b. a ≢ b) (queue_at old task.tile) id (distinct_at old.settings.task_queue old.queues task.tile sizes.task_queues)
            (λ k d below same. (
            let has = (sizes.queued_are task.tile id).0 (subst (Contains (queue_at old task.tile)) same (Contains-get_or (queue_at old task.tile) k d below)) in
            absurd (cc (has.1, adds.vacant))
            )),
      )

  pub add_keeps_sizes : task.kinds < 2 ^ depth_of task → SoundSizes new
  add_keeps_sizes kinds = subst SoundSizes (sym adds.frame)
      (record {
        settings = sizes.settings;
        queues =
            ap length adds.queues ∙ length-set old.queues task.tile (queue_at old task.tile ++ id ∷ []) ∙ sizes.queues;
        finished = sizes.finished;
        cores = sizes.cores;
        blocks = sizes.blocks;
        task_queues = subst (All (λ ids. (length ids ≤ old.settings.task_queue) × AreDistinct ids)) (sym adds.queues)
            (All-set (λ ids. (length ids ≤ old.settings.task_queue) × AreDistinct ids) old.queues task.tile (queue_at old task.tile ++ id ∷ []) longer sizes.task_queues);
        commit_queues = sizes.commit_queues;
        core_counts = sizes.core_counts;
        queued_are = λ tile k. (queued_forth tile k, queued_back tile k);
        finished_are = λ tile k. (
          λ has. has_forth (λ status. status ≡ Finished) tile k ((sizes.finished_are tile k).0 has),
          λ has. (sizes.finished_are tile k).1 (has_back (λ status. status ≡ Finished) (λ is. absurd (cc (is))) tile k has),
        );
        held_are = λ tile core k. (
          λ held. has_forth (λ status. HasCore status core) tile k ((sizes.held_are tile core k).0 held),
          λ has. (sizes.held_are tile core k).1 (has_back (λ status. HasCore status core) (λ is. is) tile k has),
        );
        kinds =
            each_stepped old new id task adds.changes (λ k t. t.kinds < 2 ^ depth_of t) (λ k t other at. sizes.kinds k t at) kinds;
        bytes =
            each_stepped old new id task adds.changes (λ k t. length t.bytes ≤ MAX_EMITTED) (λ k t other at. sizes.bytes k t at)
            (let none : length task.bytes ≡ 0 = ap (λ t. length t.bytes) idle in omega (arith, none));
        spilled = sizes.spilled;
      })
