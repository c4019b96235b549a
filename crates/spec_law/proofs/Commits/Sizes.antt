-- A commit keeps the group of sizes.
use Rattle.std.proofs.Common.{◌≡◌, ◌≢◌, ◌≤◌, ◌<◌, ◌^◌, ◌==◌, ℕ, Bool, true, List, [], length, not, Some, refl, sym, ap}
use Rattle.std.proofs.Common.{subst, ◌∙◌, map, slice_get, slice_index_or}
use Rattle.std.specs.Prelude.{Contains, ◌↔◌}
use Rattle.std.proofs.lemmas.List.{length-map}
use Rattle.tile_queues.specs.Queue.{ids_but}
use Rattle.spec_state.specs.declared.emitted.TheConstants.{MAX_EMITTED}
use Rattle.spec_state.specs.declared.task.Status.{Status}
use Rattle.spec_state.specs.declared.task.Status.TheVariants.{Finished}
use Rattle.spec_state.specs.View.{View, task_at, cores_at}
use Rattle.spec_state.specs.Tasks.{depth_of}
use Rattle.spec_state.specs.Changes.{Commits}
use Rattle.spec_state.specs.Stored.{HasCore, HasTask}
use Rattle.spec_state.proofs.Proved.{same_test, other_test}
use Rattle.spec_law.specs.Sound.{SoundSizes}
use Rattle.spec_law.proofs.Tasks.Filtered.{filter_was, filter_is, filter_leaves, list_mapped}
use Rattle.spec_law.proofs.Aborted.KeptSizes.{bounded_filtered}
use Rattle.spec_law.proofs.Commits.Taken.{left, stays, was_there, each_left}

-- what passes the test for another id is another one
other_of : (k id : ℕ) → not (k == id) ≡ true → k ≢ id
other_of k id is same = absurd (cc (sym (ap not (ap (λ j. j == id) same ∙ same_test id)) ∙ is))

module _ (old new : View) (commit : Commits old new) (sizes : SoundSizes old) where
  -- an id other than that of the task that leaves
  abbrev stands : ℕ → Bool
  stands k = not (k == commit.id)

  -- the view after the commit, with its lists written out
  abbrev listed : View
  listed = record old {
    tasks = new.tasks;
    history = new.history;
    output = new.output;
    path = new.path;
    queues = map (ids_but commit.id) old.queues;
    finished = map (ids_but commit.id) old.finished;
  }

  -- the view after the commit is this one
  new_is : new ≡ listed
  new_is =
      commit.frame
      ∙ (λ i. record old {
        tasks = new.tasks;
        history = new.history;
        output = new.output;
        path = new.path;
        queues = commit.queues i;
        finished = commit.finished i;
      })

  -- of the tasks of a kind in one of the lists the task that commits is taken out
  module _ (lists : List (List ℕ)) (kind : Status → Type 0) (lists_are : (tile k : ℕ) → Contains (slice_index_or lists tile []) k ↔ HasTask old tile k kind) where
    abbrev after : ℕ → List ℕ
    after tile = slice_index_or (map (ids_but commit.id) lists) tile []

    forth : (tile k : ℕ) → Contains (after tile) k → HasTask listed tile k kind
    forth tile k has =
        let before = slice_index_or lists tile [] in
        let kept : Contains (ids_but commit.id before) k = subst (λ ids. Contains ids k) (list_mapped (ids_but commit.id) refl lists tile) has in
        let was = (lists_are tile k).0 (filter_was stands before k kept) in
        (left old new commit was.0, stays old new commit k was.0 (other_of k commit.id (filter_is stands before k kept)) was.1, was.2, was.3)

    back : (tile k : ℕ) → HasTask listed tile k kind → Contains (after tile) k
    back tile k now =
        let was = was_there old new commit k now.0 now.1 in
        let before = slice_index_or lists tile [] in
        let has : Contains before k = (lists_are tile k).1 (was.was, was.there, sym (ap (λ t. t.tile) was.is) ∙ now.2, subst (λ t. kind t.status) was.is now.3) in
        subst (λ ids. Contains ids k) (sym (list_mapped (ids_but commit.id) refl lists tile))
        (filter_leaves stands before k has (ap not (other_test k commit.id was.other)))

  -- the task that commits holds no core
  not_held : (tile core k : ℕ) → HasTask old tile k (λ status. HasCore status core) → k ≢ commit.id
  not_held tile core k has same =
      let both : Some has.0 ≡ Some commit.task = sym has.1 ∙ ap (task_at old) same ∙ commit.least.queued_at.there in
      let task_is : has.0 ≡ commit.task = cc in
      subst (λ status. HasCore status core) (ap (λ t. t.status) task_is ∙ commit.finished_is) has.3

  -- what a core holds stays there
  held_forth : (tile core k : ℕ) → slice_get (cores_at old tile) core ≡ Some (Some k)
      → HasTask listed tile k (λ status. HasCore status core)
  held_forth tile core k held =
      let was = (sizes.held_are tile core k).0 held in
      (left old new commit was.0, stays old new commit k was.0 (not_held tile core k was) was.1, was.2, was.3)

  -- and held it before
  held_back : (tile core k : ℕ) → HasTask listed tile k (λ status. HasCore status core)
      → slice_get (cores_at old tile) core ≡ Some (Some k)
  held_back tile core k now =
      let was = was_there old new commit k now.0 now.1 in
      (sizes.held_are tile core k).1
      (was.was, was.there, sym (ap (λ t. t.tile) was.is) ∙ now.2, subst (λ t. HasCore t.status core) was.is now.3)

  -- the group holds of the view with its lists written out
  listed_sizes : SoundSizes listed
  listed_sizes =
      record {
        settings = sizes.settings;
        queues = length-map old.queues (ids_but commit.id) ∙ sizes.queues;
        finished = length-map old.finished (ids_but commit.id) ∙ sizes.finished;
        cores = sizes.cores;
        blocks = sizes.blocks;
        task_queues = bounded_filtered stands old.settings.task_queue old.queues sizes.task_queues;
        commit_queues = bounded_filtered stands old.settings.commit_queue old.finished sizes.commit_queues;
        core_counts = sizes.core_counts;
        queued_are = λ tile k.
            (forth old.queues (λ status. Unit {0}) sizes.queued_are tile k, back old.queues (λ status. Unit {0}) sizes.queued_are tile k);
        finished_are = λ tile k.
            (forth old.finished (λ status. status ≡ Finished) sizes.finished_are tile k, back old.finished (λ status. status ≡ Finished) sizes.finished_are tile k);
        held_are = λ tile core k. (held_forth tile core k, held_back tile core k);
        kinds = each_left old new commit (λ k t. t.kinds < 2 ^ depth_of t) (λ k t other there. sizes.kinds k t there);
        bytes =
            each_left old new commit (λ k t. length t.bytes ≤ MAX_EMITTED) (λ k t other there. sizes.bytes k t there);
        spilled = sizes.spilled;
      }

  -- and so of the view after the commit
  pub commit_keeps_sizes : SoundSizes new
  commit_keeps_sizes = subst SoundSizes (sym new_is) listed_sizes
