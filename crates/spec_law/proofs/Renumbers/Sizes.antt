-- A renumbering keeps the group of sizes.
use Rattle.std.proofs.Common.{◌≡◌, ◌+◌, ◌<◌, ◌≤◌, ◌^◌, ℕ, length, sym, ap, subst, ◌∙◌, map}
use Rattle.std.proofs.lemmas.List.{length-map}
use Rattle.spill_store.specs.SpilledTasks.{renumbered_spilled}
use Rattle.task_desc.specs.Record.{IsDesc}
use Rattle.spec_state.specs.declared.emitted.TheConstants.{MAX_EMITTED}
use Rattle.spec_state.specs.declared.task.Status.{Status}
use Rattle.spec_state.specs.declared.task.Status.TheVariants.{Finished}
use Rattle.spec_state.specs.View.{View}
use Rattle.spec_state.specs.Tasks.{depth_of}
use Rattle.spec_state.specs.Numbers.{Renumbers, renumbered_task}
use Rattle.spec_state.specs.Stored.{HasCore, HasTask}
use Rattle.spec_law.specs.Sound.{SoundSizes}
use Rattle.spec_law.proofs.Renumbers.One.{after, each_now, now, spilled_before, was}
use Rattle.spec_law.proofs.Renumbers.Tasks.{deep}

module _ (old new : View) (r : Renumbers old new) (sizes : SoundSizes old) where
  -- a task of a tile and a kind is one still
  has_now : (kind : Status → Type 0) (tile id : ℕ) → HasTask old tile id kind → HasTask (after old new r) tile id kind
  has_now kind tile id has = (renumbered_task r.table has.0, now old new r id has.0 has.1, has.2, has.3)

  -- and was one
  had : (kind : Status → Type 0) (tile id : ℕ) → HasTask (after old new r) tile id kind → HasTask old tile id kind
  had kind tile id has =
      let w = was old new r id has.0 has.1 in
      (w.0, w.1, sym (ap (λ t. t.tile) w.2) ∙ has.2, subst kind (ap (λ t. t.status) w.2) has.3)

  pub renumbered_sizes : SoundSizes (after old new r)
  renumbered_sizes =
      record {
        settings = sizes.settings;
        queues = sizes.queues;
        finished = sizes.finished;
        cores = sizes.cores;
        blocks = length-map old.blocks (map (renumbered_spilled r.table)) ∙ sizes.blocks;
        task_queues = sizes.task_queues;
        commit_queues = sizes.commit_queues;
        core_counts = sizes.core_counts;
        queued_are = λ tile id. (
          λ has. has_now (λ status. Unit {0}) tile id ((sizes.queued_are tile id).0 has),
          λ has. (sizes.queued_are tile id).1 (had (λ status. Unit {0}) tile id has),
        );
        finished_are = λ tile id. (
          λ has. has_now (λ status. status ≡ Finished) tile id ((sizes.finished_are tile id).0 has),
          λ has. (sizes.finished_are tile id).1 (had (λ status. status ≡ Finished) tile id has),
        );
        held_are = λ tile core id. (
          λ has. has_now (λ status. HasCore status core) tile id ((sizes.held_are tile core id).0 has),
          λ has. (sizes.held_are tile core id).1 (had (λ status. HasCore status core) tile id has),
        );
        kinds = each_now old new r (λ k t. t.kinds < 2 ^ depth_of t)
            (λ k w at. subst (λ d. w.kinds < 2 ^ (d + 1)) (sym (deep r.table w.key.domain)) (sizes.kinds k w at));
        bytes = each_now old new r (λ k t. length t.bytes ≤ MAX_EMITTED) (λ k w at. sizes.bytes k w at);
        spilled = λ s has.
            (let w = spilled_before old new r s has in
            subst (λ x. IsDesc x.desc × (length x.domain + 1 ≡ x.desc.depth)) (sym w.2)
            ((sizes.spilled w.0 w.1).0, ap (λ n. n + 1) (deep r.table w.0.domain) ∙ (sizes.spilled w.0 w.1).1));
      }
