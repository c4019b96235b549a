-- The group of sizes at the opening.
use Rattle.std.proofs.Common.{ℕ, ◌+◌, ◌^◌, ◌≡◌, ◌<◌, ◌≤◌, ◌↔◌, List, [], Option, Some, None, refl, sym, ap, subst, ◌∙◌}
use Rattle.std.proofs.Common.{arith}
use Rattle.std.specs.Prelude.{length, slice_get, slice_index_or, replicate, Contains}
use Rattle.std.specs.List.{All}
use Rattle.std.proofs.lemmas.List.{length-replicate}
use Rattle.std.proofs.lemmas.List.Elements.{All-nil, All-replicate, All-contains}
use Rattle.std.proofs.lemmas.Option.{none-some}
use Rattle.guest_image.specs.declared.image.ImageTask.{ImageTask}
use Rattle.guest_image.specs.declared.image.Kind.{Kind}
use Rattle.guest_image.specs.declared.image.Kind.TheVariants.{Unordered, Ordered}
use Rattle.guest_image.specs.ImageValue.{ImageValue}
use Rattle.spill_store.specs.SpilledTasks.{Spilled}
use Rattle.task_desc.specs.Record.{IsDesc}
use Rattle.event_def.specs.spec_state.declared.emitted.TheConstants.{MAX_EMITTED}
use Rattle.event_def.specs.spec_state.declared.settings.Settings.{Settings}
use Rattle.event_def.specs.spec_state.declared.task.Status.{Status}
use Rattle.event_def.specs.spec_state.declared.task.Status.TheVariants.{Idle, Finished}
use Rattle.event_def.specs.spec_state.declared.task.Task.{Task}
use Rattle.event_def.specs.spec_state.Settings.{IsValid}
use Rattle.event_def.specs.spec_state.View.{View, task_at, finished_at, cores_at}
use Rattle.event_def.specs.spec_state.Tasks.{depth_of}
use Rattle.event_def.specs.spec_state.Groups.{all_spilled}
use Rattle.event_def.specs.spec_state.Stored.{HasCore, HasTask}
use Rattle.spec_law.specs.Sound.{SoundSizes}
use Rattle.event_def.specs.Opening.{root_kinds}
use Rattle.event_law.proofs.Lists.{at_each_place, all_of_lists}
use Rattle.event_law.proofs.Openings.Rooted.{IsImageSpilled, AreImageTasks}
use Rattle.event_law.proofs.Openings.Sized.{IsSized, FitsQueue, none_fit}
use Rattle.event_law.proofs.Openings.Tiles.{HaveTiles}
use Rattle.event_law.proofs.Openings.Untouched.{IsUntouched}
use Rattle.fractal_vt.proofs.Proved.{all_get}

-- the root's kind is one bit
one_bit : (kind : Kind) → root_kinds kind < 2
one_bit Unordered = omega arith
one_bit Ordered = omega arith

-- free cores hold no task
pub none_held : (tiles cores tile core id : ℕ)
    → slice_get (slice_index_or (replicate tiles (replicate cores None)) tile []) core ≡ Some (Some id) → ⊥
none_held tiles cores tile core id held =
    let free : (list : List (Option ℕ)) → All (λ (o : Option ℕ). o ≡ None) list → slice_get list core ≡ Some (Some id) → ⊥ =
    λ list all at. none-some id (sym (all_get (λ (o : Option ℕ). o ≡ None) list core (Some id) all at)) in
    let each : All (λ (o : Option ℕ). o ≡ None) (slice_index_or (replicate tiles (replicate cores None)) tile []) =
    at_each_place (λ (list : List (Option ℕ)). All (λ (o : Option ℕ). o ≡ None) list) (replicate tiles (replicate cores None)) tile []
    (All-replicate (λ (list : List (Option ℕ)). All (λ (o : Option ℕ). o ≡ None) list) tiles (replicate cores None) (All-replicate (λ (o : Option ℕ). o ≡ None) cores None refl))
    (All-nil (λ (o : Option ℕ). o ≡ None)) in
    free (slice_index_or (replicate tiles (replicate cores None)) tile []) each held

-- empty commit queues hold none
none_finished : (tiles tile id : ℕ) → Contains (slice_index_or (replicate tiles []) tile []) id → ⊥
none_finished tiles tile id =
    at_each_place (λ (ids : List ℕ). Contains ids id → ⊥) (replicate tiles []) tile []
    (All-replicate (λ (ids : List ℕ). Contains ids id → ⊥) tiles [] (λ c. omega (arith, c.1))) (λ c. omega (arith, c.1))

module _ (kind : Kind) (image : ImageValue) (settings : Settings) (among : ℕ → ImageTask → Type 0) (view : View) (are : AreImageTasks kind among view) (is : IsUntouched image settings view) (sized : IsSized view) (valid : IsValid settings) (tiles : HaveTiles view) where
  -- each task is idle
  all_idle : (id : ℕ) (task : Task) → task_at view id ≡ Some task → task.status ≡ Idle
  all_idle id task there = ap (λ t. t.status) (are.tasks id task there).is

  -- no commit queue holds a task, and none is finished
  finished_are : (tile id : ℕ)
      → Contains (finished_at view tile) id ↔ HasTask view tile id (λ status. status ≡ Finished)
  finished_are tile id = (
    λ c. absurd (none_finished settings.tiles tile id (subst (λ (qs : List (List ℕ)). Contains (slice_index_or qs tile []) id) is.finished c)),
    λ h. (let no_way : Idle ≡ Finished = sym (all_idle id h.0 h.1) ∙ h.3 in absurd (cc (no_way))),
  )

  -- no core holds a task, and none runs or is trapped
  held_are : (tile core id : ℕ)
      → (slice_get (cores_at view tile) core ≡ Some (Some id)) ↔ HasTask view tile id (λ status. HasCore status core)
  held_are tile core id = (
    λ held. absurd (none_held settings.tiles settings.cores tile core id
        (subst (λ (cs : List (List (Option ℕ))). slice_get (slice_index_or cs tile []) core ≡ Some (Some id)) is.cores held)),
    λ h. absurd (subst (λ (status : Status). HasCore status core) (all_idle id h.0 h.1) h.3),
  )

  -- a spilled task has a valid descriptor, and as many levels as it is deep
  spilled_desc : (s : Spilled) → IsImageSpilled kind among s → IsDesc s.desc × (length s.domain + 1 ≡ s.desc.depth)
  spilled_desc s one =
      subst (λ (x : Spilled). IsDesc x.desc × (length x.domain + 1 ≡ x.desc.depth)) (sym one.is)
      (record { inside = omega arith; shallow = omega arith; kinds = one_bit kind }, refl)

  pub sizes_are : SoundSizes view
  sizes_are = record {
    settings = subst IsValid (sym is.settings_are) valid;
    queues = sized.queues;
    finished = ap length is.finished ∙ (length-replicate settings.tiles [] ∙ ap (λ s. s.tiles) (sym is.settings_are));
    cores =
        ap length is.cores
        ∙ (length-replicate settings.tiles (replicate settings.cores None) ∙ ap (λ s. s.tiles) (sym is.settings_are));
    blocks = sized.blocks;
    task_queues = sized.task_queues;
    commit_queues = subst (All (FitsQueue view.settings.commit_queue)) (sym is.finished)
        (All-replicate (FitsQueue view.settings.commit_queue) settings.tiles [] (none_fit view.settings.commit_queue));
    core_counts = subst (All (λ held. length held ≡ view.settings.cores)) (sym is.cores)
        (All-replicate (λ held. length held ≡ view.settings.cores) settings.tiles (replicate settings.cores None)
        (length-replicate settings.cores None ∙ ap (λ s. s.cores) (sym is.settings_are)));
    queued_are =
        λ tile id. (sized.queued tile id, λ h. sized.has tile id (subst (λ t. t < view.settings.tiles) h.2 (tiles id h.0 h.1)) h);
    finished_are = finished_are;
    held_are = held_are;
    kinds =
        λ id task there. subst (λ (t : Task). t.kinds < 2 ^ depth_of t) (sym (are.tasks id task there).is) (one_bit kind);
    bytes =
        λ id task there. subst (λ (t : Task). length t.bytes ≤ MAX_EMITTED) (sym (are.tasks id task there).is) (omega arith);
    spilled =
        λ s there. spilled_desc s (All-contains (IsImageSpilled kind among) (all_spilled view) s (all_of_lists (IsImageSpilled kind among) view.blocks are.spilled) there);
  }
