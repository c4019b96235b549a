-- The tasks of the opening: each is one of the image's, idle, in the root domain.
use Rattle.std.proofs.Common.{ℕ, ◌≡◌, ◌⊎◌, inl, inr, List, [], ◌∷◌, Some, None, sym, ap, subst, ◌∙◌}
use Rattle.std.specs.Prelude.{Contains}
use Rattle.std.specs.List.{All, AllZip, AllByRecursion}
use Rattle.std.proofs.lemmas.Bool.{cases_eq}
use Rattle.std.proofs.lemmas.List.Elements.{All-nil, All-cons, All-set, All-replicate}
use Rattle.guest_image.specs.declared.image.ImageTask.{ImageTask}
use Rattle.guest_image.specs.declared.image.Kind.{Kind}
use Rattle.guest_image.specs.ImageValue.{ImageValue}
use Rattle.spill_store.specs.SpilledTasks.{Spilled}
use Rattle.spill_store.specs.Pushing.{after_pushes}
use Rattle.event_def.specs.spec_state.declared.settings.Settings.{Settings}
use Rattle.event_def.specs.spec_state.declared.task.Creator.TheVariants.{Committed}
use Rattle.event_def.specs.spec_state.declared.task.Task.{Task}
use Rattle.event_def.specs.spec_state.View.{View, task_at, block_at}
use Rattle.event_def.specs.spec_state.Tasks.{idle_task, descriptor_of, spilled_as}
use Rattle.event_def.specs.spec_state.Least.{HasName}
use Rattle.event_def.specs.spec_state.Room.{IsSpilledAs, Coalesces, QueueHasRoom, IsFull}
use Rattle.event_def.specs.Book.{BookView, picked_tile}
use Rattle.event_def.specs.spec_state.Opening.{IsEmptyView}
use Rattle.event_def.specs.Opening.{image_descriptor, PlacesImageTask, PlacesAll}
use Rattle.spec_law.proofs.Proved.{all_added, pushes_each}
use Rattle.event_law.proofs.Lists.{at_each_place}

-- a task that is there after a coalescing was there before
pub coalesced_was : (tile : ℕ) (old new : View) → Coalesces tile old new → (id : ℕ) (task : Task)
    → task_at new id ≡ Some task → task_at old id ≡ Some task
coalesced_was tile old new c id task there =
    let stays : Contains c.ids id → ⊥ = λ moved. (let gone : None ≡ Some task = sym (c.gone id moved) ∙ there in cc) in
    sym (c.others id stays) ∙ there

-- the initial tasks that are spoken of, each with its place in the image
module _ (kind : Kind) (among : ℕ → ImageTask → Type 0) where
  -- the task is an initial task of these, idle, in this version and in some tile
  pub record IsImageTask (version : ℕ) (task : Task) : Type 0 where
    pub index : ℕ
    pub tile : ℕ
    pub from : ImageTask
    pub one_of : among index from
    pub is : task ≡ idle_task version (image_descriptor kind index from) (Committed 0 index) tile

  -- the spilled task is one of these
  pub record IsImageSpilled (s : Spilled) : Type 0 where
    pub index : ℕ
    pub from : ImageTask
    pub one_of : among index from
    pub is : s ≡ spilled_as (record { creator = 0; index = index }) (image_descriptor kind index from)

  -- each uncommitted task is one of these
  pub record AreImageTasks (view : View) : Type 0 where
    pub tasks : (id : ℕ) (task : Task) → task_at view id ≡ Some task → IsImageTask view.version task
    pub spilled : All (λ block. All IsImageSpilled block) view.blocks

  -- an initial task is spilled as one
  spilled_one : (view : View) (id : ℕ) (s : Spilled) → AreImageTasks view → IsSpilledAs view id s → IsImageSpilled s
  spilled_one view id s are as_is =
      let root = are.tasks id as_is.task as_is.there in
      let named : HasName view (Committed 0 root.index) as_is.name = subst (λ (t : Task). HasName view t.creator as_is.name) root.is as_is.named in
      record {
        index = root.index;
        from = root.from;
        one_of = root.one_of;
        is = as_is.spilled_is ∙ (λ i. spilled_as (named.1 i) (descriptor_of (root.is i)));
      }

  -- so are several
  spilled_all : (view : View) (ids : List ℕ) (moved : List Spilled) → AreImageTasks view
      → AllZip (IsSpilledAs view) ids moved → All IsImageSpilled moved
  spilled_all view [] [] are zip = All-nil IsImageSpilled
  spilled_all view [] (s ∷ moved) are zip = absurd zip
  spilled_all view (id ∷ ids) [] are zip = absurd zip
  spilled_all view (id ∷ ids) (s ∷ moved) are zip =
      All-cons IsImageSpilled s moved (spilled_one view id s are zip.0) (spilled_all view ids moved are zip.1)

  -- a coalescing leaves no task that isn't an initial one
  pub coalesces_keeps : (tile : ℕ) (old new : View) → AreImageTasks old → Coalesces tile old new → AreImageTasks new
  coalesces_keeps tile old new are c =
      record {
        tasks =
            λ id task there. subst (λ v. IsImageTask v task) (sym (ap (λ (v : View). v.version) c.frame)) (are.tasks id task (coalesced_was tile old new c id task there));
        spilled = subst (λ blocks. All (λ block. All IsImageSpilled block) blocks) (sym c.blocks)
            (All-set (λ block. All IsImageSpilled block) old.blocks tile (after_pushes (block_at old tile) c.moved)
            (all_added IsImageSpilled c.moved (block_at old tile) (after_pushes (block_at old tile) c.moved) (pushes_each c.moved (block_at old tile))
            (at_each_place (λ block. All IsImageSpilled block) old.blocks tile [] are.spilled (All-nil IsImageSpilled))
            (spilled_all old c.ids c.moved are c.spilled))
            are.spilled);
      }

  -- so does what makes room for one more
  room_keeps : (tile : ℕ) (old mid : View) → AreImageTasks old
      → (QueueHasRoom old tile × (mid ≡ old)) ⊎ (IsFull old tile × Coalesces tile old mid) → AreImageTasks mid
  room_keeps tile old mid are (inl free) = subst AreImageTasks (sym free.1) are
  room_keeps tile old mid are (inr full) = coalesces_keeps tile old mid are full.1

  -- and so does a placement of one of them
  pub places_keeps : (index : ℕ) (task : ImageTask) (old new : BookView) → among index task → AreImageTasks old.view
      → PlacesImageTask kind index task old new → AreImageTasks new.view
  places_keeps index task old new one_of are p =
      let mid = room_keeps (picked_tile old index) old.view p.mid are p.room in
      record {
        tasks = λ id x there. by_case id x there mid (cases_eq id p.id);
        spilled =
            subst (λ blocks. All (λ block. All IsImageSpilled block) blocks) (sym (ap (λ v. v.blocks) p.frame)) mid.spilled;
      }
    where
      by_case : (id : ℕ) (x : Task) → task_at new.view id ≡ Some x → AreImageTasks p.mid → (id ≡ p.id) ⊎ (id ≡ p.id → ⊥)
          → IsImageTask new.view.version x
      by_case id x there mid (inl here) =
          let both : Some (idle_task p.mid.version (image_descriptor kind index task) (Committed 0 index) (picked_tile old index)) ≡ Some x =
          sym p.changes.changed ∙ (ap (task_at new.view) (sym here) ∙ there) in
          let same : idle_task p.mid.version (image_descriptor kind index task) (Committed 0 index) (picked_tile old index) ≡ x = cc in
          subst (λ v. IsImageTask v x) (sym (ap (λ (v : View). v.version) p.frame)) (record { index = index; tile = picked_tile old index; from = task; one_of = one_of; is = sym same })
      by_case id x there mid (inr other) =
          subst (λ v. IsImageTask v x) (sym (ap (λ (v : View). v.version) p.frame)) (mid.tasks id x (sym (p.changes.others id other) ∙ there))

  -- so do all placements
  pub all_kept : (es : List (ℕ × ImageTask)) (old new : BookView) → AllByRecursion (λ e. among e.0 e.1) es
      → AreImageTasks old.view → PlacesAll kind es old new → AreImageTasks new.view
  all_kept [] old new each are same = subst (λ (b : BookView). AreImageTasks b.view) same are
  all_kept (e ∷ es) old new each are placed =
      all_kept es placed.0 new each.1 (places_keeps e.0 e.1 old placed.0 each.0 are placed.1) placed.2

  -- the view without a task has none
  pub none_are : (image : ImageValue) (settings : Settings) (view : View) → IsEmptyView image settings view
      → AreImageTasks view
  none_are image settings view empty =
      record {
        tasks = λ id task there. (let no_way : None ≡ Some task = sym (empty.none id) ∙ there in absurd (cc (no_way)));
        spilled =
            subst (λ blocks. All (λ block. All IsImageSpilled block) blocks) (sym (ap (λ v. v.blocks) empty.frame))
            (All-replicate (λ block. All IsImageSpilled block) settings.tiles [] (All-nil IsImageSpilled));
      }
