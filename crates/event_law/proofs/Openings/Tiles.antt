-- At the opening each task's tile is one of the machine's.
use Rattle.std.proofs.Common.{ℕ, ◌≡◌, ◌<◌, ◌⊎◌, inl, inr, List, [], ◌∷◌, Some, None, sym, ap, subst, ◌∙◌}
use Rattle.std.proofs.lemmas.Bool.{cases_eq}
use Rattle.guest_image.specs.declared.image.ImageTask.{ImageTask}
use Rattle.guest_image.specs.declared.image.Kind.{Kind}
use Rattle.guest_image.specs.ImageValue.{ImageValue}
use Rattle.event_def.specs.spec_state.declared.settings.Settings.{Settings}
use Rattle.event_def.specs.spec_state.declared.task.Creator.TheVariants.{Committed}
use Rattle.event_def.specs.spec_state.declared.task.Task.{Task}
use Rattle.event_def.specs.spec_state.View.{View, task_at}
use Rattle.event_def.specs.spec_state.Tasks.{idle_task}
use Rattle.event_def.specs.spec_state.Opening.{IsEmptyView}
use Rattle.event_def.specs.spec_state.Room.{Coalesces, QueueHasRoom, IsFull}
use Rattle.event_def.specs.Book.{BookView, picked_tile}
use Rattle.event_def.specs.Opening.{image_descriptor, PlacesImageTask, PlacesAll}
use Rattle.event_law.proofs.Openings.Rooted.{coalesced_was}

-- each task's tile is there
abbrev pub HaveTiles : View → Type 0
HaveTiles view = (id : ℕ) (task : Task) → task_at view id ≡ Some task → task.tile < view.settings.tiles

-- what makes room for one more changes no settings
room_settings : (tile : ℕ) (old mid : View)
    → (QueueHasRoom old tile × (mid ≡ old)) ⊎ (IsFull old tile × Coalesces tile old mid) → mid.settings ≡ old.settings
room_settings tile old mid (inl free) = ap (λ v. v.settings) free.1
room_settings tile old mid (inr full) = ap (λ v. v.settings) full.1.frame

-- and leaves each task in a tile that there is
room_tiles : (tile : ℕ) (old mid : View) → HaveTiles old
    → (QueueHasRoom old tile × (mid ≡ old)) ⊎ (IsFull old tile × Coalesces tile old mid) → HaveTiles mid
room_tiles tile old mid have (inl free) = subst HaveTiles (sym free.1) have
room_tiles tile old mid have (inr full) =
    λ id task there. subst (λ s. task.tile < s.tiles) (sym (ap (λ v. v.settings) full.1.frame)) (have id task (coalesced_was tile old mid full.1 id task there))

-- a task is placed in a tile that there is
places_tiles : (kind : Kind) (index : ℕ) (task : ImageTask) (old new : BookView) → HaveTiles old.view
    → PlacesImageTask kind index task old new → HaveTiles new.view
places_tiles kind index task old new have p id x there =
    subst (λ s. x.tile < s.tiles) (sym (ap (λ v. v.settings) p.frame)) (by_case (cases_eq id p.id))
  where
    by_case : (id ≡ p.id) ⊎ (id ≡ p.id → ⊥) → x.tile < p.mid.settings.tiles
    by_case (inl here) =
        let both : Some (idle_task p.mid.version (image_descriptor kind index task) (Committed 0 index) (picked_tile old index)) ≡ Some x =
        sym p.changes.changed ∙ (ap (task_at new.view) (sym here) ∙ there) in
        let same : idle_task p.mid.version (image_descriptor kind index task) (Committed 0 index) (picked_tile old index) ≡ x = cc in
        let inside : picked_tile old index < p.mid.settings.tiles = subst (λ s. picked_tile old index < s.tiles) (sym (room_settings (picked_tile old index) old.view p.mid p.room)) p.inside in
        subst (λ (t : Task). t.tile < p.mid.settings.tiles) same inside
    by_case (inr other) =
        room_tiles (picked_tile old index) old.view p.mid have p.room id x (sym (p.changes.others id other) ∙ there)

-- so are all that are placed
pub all_have_tiles : (kind : Kind) (es : List (ℕ × ImageTask)) (old new : BookView) → HaveTiles old.view
    → PlacesAll kind es old new → HaveTiles new.view
all_have_tiles kind [] old new have same = subst (λ (b : BookView). HaveTiles b.view) same have
all_have_tiles kind (e ∷ es) old new have placed =
    all_have_tiles kind es placed.0 new (places_tiles kind e.0 e.1 old placed.0 have placed.1) placed.2

-- the view without a task has none elsewhere
pub none_elsewhere : (image : ImageValue) (settings : Settings) (view : View) → IsEmptyView image settings view
    → HaveTiles view
none_elsewhere image settings view empty id task there =
    (let no_way : None ≡ Some task = sym (empty.none id) ∙ there in absurd (cc (no_way)))
