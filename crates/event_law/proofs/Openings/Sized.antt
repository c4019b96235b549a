-- At the opening each task queue holds the tasks of its tile, and no more than it may.
use Rattle.std.proofs.Common.{ℕ, ◌≡◌, ◌≢◌, ◌<◌, ◌≤◌, ◌⊎◌, inl, inr, true, false, List, [], ◌∷◌, ◌++◌, Option, Some}
use Rattle.std.proofs.Common.{None, refl, sym, ap, subst, ◌∙◌, arith}
use Rattle.std.specs.Prelude.{length, slice_index_or, slice_set, is_some, option_map, Contains, replicate}
use Rattle.std.specs.List.{All, AllPairs}
use Rattle.std.proofs.lemmas.Bool.{cases_eq}
use Rattle.std.proofs.lemmas.List.{length-set, length-map, length-replicate, length_push}
use Rattle.std.proofs.lemmas.List.Elements.{All-map, All-set, All-replicate, All-weaker, Contains-get_or}
use Rattle.std.proofs.lemmas.List.Quantifiers.{all_pairs_push}
use Rattle.guest_image.specs.declared.image.ImageTask.{ImageTask}
use Rattle.guest_image.specs.declared.image.Kind.{Kind}
use Rattle.guest_image.specs.ImageValue.{ImageValue}
use Rattle.event_def.specs.task_law.Room.{queue_after}
use Rattle.event_def.specs.spec_state.declared.settings.Settings.{Settings}
use Rattle.event_def.specs.spec_state.declared.task.Creator.TheVariants.{Committed}
use Rattle.event_def.specs.spec_state.declared.task.Task.{Task}
use Rattle.event_def.specs.spec_state.View.{View, task_at, queue_at}
use Rattle.event_def.specs.spec_state.Tasks.{idle_task}
use Rattle.event_def.specs.spec_state.Groups.{room_tasks, room_task}
use Rattle.event_def.specs.spec_state.Queries.{IsQueued}
use Rattle.event_def.specs.spec_state.Room.{Coalesces, QueueHasRoom, IsFull}
use Rattle.spec_law.proofs.Proved.{some_first}
use Rattle.event_def.specs.Book.{BookView, picked_tile}
use Rattle.event_def.specs.spec_state.Opening.{IsEmptyView}
use Rattle.event_def.specs.spec_state.Stored.{HasTask}
use Rattle.event_def.specs.Opening.{image_descriptor, PlacesImageTask, PlacesAll}
use Rattle.event_law.proofs.Lists.{at_each_place}
use Rattle.event_law.proofs.Openings.Queued.{kept_was, kept_there, kept_stays, kept_few, kept_fewer, kept_distinct}
use Rattle.event_law.proofs.Openings.Queued.{kept_at, last_was, last_is, last_stays}
use Rattle.event_law.proofs.Openings.Rooted.{coalesced_was}

-- a task of this tile
abbrev HasAny : View → ℕ → ℕ → Type 0
HasAny view tile id = HasTask view tile id (λ status. Unit {0})

-- a queue of so many ids at most, none of them twice
abbrev pub FitsQueue : ℕ → List ℕ → Type 0
FitsQueue capacity ids = (length ids ≤ capacity) × AllPairs (λ a b. a ≢ b) ids

-- each tile has a task queue and a block; a task queue holds the tasks of its tile, no more than it may and none twice
pub record IsSized (view : View) : Type 0 where
  pub queues : length view.queues ≡ view.settings.tiles
  pub blocks : length view.blocks ≡ view.settings.tiles
  pub task_queues : All (FitsQueue view.settings.task_queue) view.queues
  pub queued : (tile id : ℕ) → IsQueued view tile id → HasTask view tile id (λ status. Unit {0})
  pub has : (tile id : ℕ) → tile < view.settings.tiles → HasTask view tile id (λ status. Unit {0})
      → IsQueued view tile id

-- an empty queue fits
pub none_fit : (capacity : ℕ) → FitsQueue capacity []
none_fit capacity = (omega arith, λ i j d before below. absurd (omega (arith, below)))

-- where room reads a task there is one
pub there_of : (o : Option Task) → is_some (option_map room_task o) ≡ true → (task : Task) × (o ≡ Some task)
there_of None is = absurd (cc (is))
there_of (Some task) is = (task, refl)

module _ (tile : ℕ) (old new : View) (are : IsSized old) (c : Coalesces tile old new) where
  settings_stay : new.settings ≡ old.settings
  settings_stay = ap (λ v. v.settings) c.frame

  -- a task queue is what has stayed of it
  queue_is : (t : ℕ) → queue_at new t ≡ queue_after (room_tasks new) (queue_at old t)
  queue_is t = ap (λ (qs : List (List ℕ)). slice_index_or qs t []) c.queues ∙ kept_at (room_tasks new) old.queues t

  -- what is queued is a task of the tile
  queued_now : (t id : ℕ) → IsQueued new t id → HasAny new t id
  queued_now t id q =
      let kept : Contains (queue_after (room_tasks new) (queue_at old t)) id = subst (λ (ids : List ℕ). Contains ids id) (queue_is t) q in
      let was = are.queued t id (kept_was (room_tasks new) (queue_at old t) id kept) in
      let now = there_of (task_at new id) (kept_there (room_tasks new) (queue_at old t) id kept) in
      let both : Some now.0 ≡ Some was.0 = sym (coalesced_was tile old new c id now.0 now.1) ∙ was.1 in
      let same : now.0 ≡ was.0 = cc in
      (was.0, now.1 ∙ ap Some same, was.2, tt)

  -- and a task of the tile is queued
  has_now : (t id : ℕ) → t < old.settings.tiles → HasAny new t id → IsQueued new t id
  has_now t id within h =
      let was : IsQueued old t id = are.has t id within (h.0, coalesced_was tile old new c id h.0 h.1, h.2, tt) in
      let some : is_some (room_tasks new id) ≡ true = ap (λ o. is_some (option_map room_task o)) h.1 in
      subst (λ (ids : List ℕ). Contains ids id) (sym (queue_is t)) (kept_stays (room_tasks new) (queue_at old t) id was some)

  -- a coalescing keeps the sizes
  pub coalesced_sized : IsSized new
  coalesced_sized = record {
    queues =
        ap length c.queues
        ∙ (length-map old.queues (queue_after (room_tasks new)) ∙ (are.queues ∙ ap (λ s. s.tiles) (sym settings_stay)));
    blocks = ap length c.blocks ∙ (length-set old.blocks tile _ ∙ (are.blocks ∙ ap (λ s. s.tiles) (sym settings_stay)));
    task_queues = subst (λ s. All (FitsQueue s.task_queue) new.queues) (sym settings_stay)
        (subst (All (FitsQueue old.settings.task_queue)) (sym c.queues)
        (All-map (FitsQueue old.settings.task_queue) (queue_after (room_tasks new)) old.queues
        (All-weaker (FitsQueue old.settings.task_queue) (λ ids. FitsQueue old.settings.task_queue (queue_after (room_tasks new) ids))
        (λ ids fits. (let few = kept_few (room_tasks new) ids in (omega (arith, few, fits.0), kept_distinct (room_tasks new) ids fits.1)))
        old.queues are.task_queues)));
    queued = queued_now;
    has = λ t id within h. has_now t id (subst (λ s. t < s.tiles) settings_stay within) h;
  }

  -- and makes a free place
  coalesced_free : QueueHasRoom new tile
  coalesced_free =
      let first = some_first c.ids c.some in
      let movable = c.chosen.movable first.0 first.1 in
      let gone : is_some (room_tasks new first.0) ≡ false = ap (λ o. is_some (option_map room_task o)) (c.gone first.0 first.1) in
      let fewer = kept_fewer (room_tasks new) (queue_at old tile) first.0 movable.1.idle.queued gone in
      let fits = at_each_place (FitsQueue old.settings.task_queue) old.queues tile [] are.task_queues (none_fit old.settings.task_queue) in
      let now : length (queue_at new tile) < old.settings.task_queue =
      subst (λ (ids : List ℕ). length ids < old.settings.task_queue) (sym (queue_is tile)) (omega (arith, fewer, fits.0)) in
      subst (λ s. length (queue_at new tile) < s.task_queue) (sym settings_stay) now

-- what makes room keeps the sizes, and makes a free place
pub room_sized : (tile : ℕ) (old mid : View) → IsSized old
    → (QueueHasRoom old tile × (mid ≡ old)) ⊎ (IsFull old tile × Coalesces tile old mid)
    → IsSized mid × QueueHasRoom mid tile
room_sized tile old mid are (inl free) =
    (subst IsSized (sym free.1) are, subst (λ v. QueueHasRoom v tile) (sym free.1) free.0)
room_sized tile old mid are (inr full) =
    (coalesced_sized tile old mid are full.1, coalesced_free tile old mid are full.1)

module _ (kind : Kind) (index : ℕ) (task : ImageTask) (old new : BookView) (p : PlacesImageTask kind index task old new) (are : IsSized p.mid) (free : QueueHasRoom p.mid (picked_tile old index)) where
  tiles_stay : new.view.settings ≡ p.mid.settings
  tiles_stay = ap (λ v. v.settings) p.frame

  -- the new id is in no queue
  not_queued : (t : ℕ) → IsQueued p.mid t p.id → ⊥
  not_queued t q =
      let h = are.queued t p.id q in
      let no_way : None ≡ Some h.0 = sym p.vacant ∙ h.1 in
      cc

  -- what is queued is a task of the tile
  placed_queued : (t k : ℕ) → IsQueued new.view t k → HasAny new.view t k
  placed_queued t k q =
      elim (last_was p.mid.queues (picked_tile old index) p.id t k (subst (λ (qs : List (List ℕ)). Contains (slice_index_or qs t []) k) p.queues q)) [
        | inl was ↦
            let h = are.queued t k was in
            let other : k ≢ p.id = λ same. not_queued t (subst (IsQueued p.mid t) same was) in
            (h.0, p.changes.others k other ∙ h.1, h.2, tt)
        | inr is ↦
            (idle_task p.mid.version (image_descriptor kind index task) (Committed 0 index) (picked_tile old index), ap (task_at new.view) is.1 ∙ p.changes.changed, sym is.0, tt)
      ]

  -- and a task of the tile is queued
  placed_has : (t k : ℕ) → t < p.mid.settings.tiles → HasAny new.view t k → IsQueued new.view t k
  placed_has t k within h =
      subst (λ (qs : List (List ℕ)). Contains (slice_index_or qs t []) k) (sym p.queues) (by_id (cases_eq k p.id))
    where
      by_id : (k ≡ p.id) ⊎ (k ≡ p.id → ⊥)
          → Contains (slice_index_or (slice_set p.mid.queues (picked_tile old index) (queue_at p.mid (picked_tile old index) ++ p.id ∷ [])) t []) k
      by_id (inl same) =
          let both : Some (idle_task p.mid.version (image_descriptor kind index task) (Committed 0 index) (picked_tile old index)) ≡ Some h.0 =
          sym p.changes.changed ∙ (ap (task_at new.view) (sym same) ∙ h.1) in
          let this : idle_task p.mid.version (image_descriptor kind index task) (Committed 0 index) (picked_tile old index) ≡ h.0 = cc in
          let here : picked_tile old index ≡ t = ap (λ x. x.tile) this ∙ h.2 in
          let inside : picked_tile old index < length p.mid.queues = omega (arith, here, within, are.queues) in
          let is = last_is p.mid.queues (picked_tile old index) p.id inside in
          subst (λ u. Contains (slice_index_or (slice_set p.mid.queues (picked_tile old index) (queue_at p.mid (picked_tile old index) ++ p.id ∷ [])) u []) k) here
          (subst (Contains (slice_index_or (slice_set p.mid.queues (picked_tile old index) (queue_at p.mid (picked_tile old index) ++ p.id ∷ [])) (picked_tile old index) [])) (sym same) is)
      by_id (inr other) =
          last_stays p.mid.queues (picked_tile old index) p.id t k (are.has t k within (h.0, sym (p.changes.others k other) ∙ h.1, h.2, tt))

  -- a placement keeps the sizes
  pub placed_sized : IsSized new.view
  placed_sized =
      let q = queue_at p.mid (picked_tile old index) in
      let fits = at_each_place (FitsQueue p.mid.settings.task_queue) p.mid.queues (picked_tile old index) [] are.task_queues (none_fit p.mid.settings.task_queue) in
      record {
        queues =
            ap length p.queues
            ∙ (length-set p.mid.queues (picked_tile old index) (queue_at p.mid (picked_tile old index) ++ p.id ∷ []) ∙ (are.queues ∙ ap (λ s. s.tiles) (sym tiles_stay)));
        blocks = ap (λ v. length v.blocks) p.frame ∙ (are.blocks ∙ ap (λ s. s.tiles) (sym tiles_stay));
        task_queues = subst (λ s. All (FitsQueue s.task_queue) new.view.queues) (sym tiles_stay)
            (subst (All (FitsQueue p.mid.settings.task_queue)) (sym p.queues)
            (All-set (FitsQueue p.mid.settings.task_queue) p.mid.queues (picked_tile old index) (queue_at p.mid (picked_tile old index) ++ p.id ∷ []) (
              omega (arith, length_push (queue_at p.mid (picked_tile old index)) p.id, free),
              all_pairs_push (λ a b. a ≢ b) (queue_at p.mid (picked_tile old index)) p.id fits.1
                  (λ k d below same. not_queued (picked_tile old index) (subst (Contains (queue_at p.mid (picked_tile old index))) same (Contains-get_or (queue_at p.mid (picked_tile old index)) k d below))),
            )
            are.task_queues));
        queued = placed_queued;
        has = λ t k within h. placed_has t k (subst (λ s. t < s.tiles) tiles_stay within) h;
      }

-- all placements keep them
pub all_sized : (kind : Kind) (es : List (ℕ × ImageTask)) (old new : BookView) → IsSized old.view
    → PlacesAll kind es old new → IsSized new.view
all_sized kind [] old new are same = subst (λ (b : BookView). IsSized b.view) same are
all_sized kind (e ∷ es) old new are placed =
    let room = room_sized (picked_tile old e.0) old.view placed.1.mid are placed.1.room in
    all_sized kind es placed.0 new (placed_sized kind e.0 e.1 old placed.0 placed.1 room.0 room.1) placed.2

-- the view without a task has them
pub none_sized : (image : ImageValue) (settings : Settings) (view : View) → IsEmptyView image settings view
    → IsSized view
none_sized image settings view empty =
    let tiles : view.settings.tiles ≡ settings.tiles = ap (λ v. v.settings.tiles) empty.frame in
    let queues : view.queues ≡ replicate settings.tiles [] = ap (λ v. v.queues) empty.frame in
    record {
      queues = ap length queues ∙ (length-replicate settings.tiles [] ∙ sym tiles);
      blocks = ap (λ v. length v.blocks) empty.frame ∙ (length-replicate settings.tiles [] ∙ sym tiles);
      task_queues =
          subst (All (FitsQueue view.settings.task_queue)) (sym queues) (All-replicate (FitsQueue view.settings.task_queue) settings.tiles [] (none_fit view.settings.task_queue));
      queued = λ t id q.
          absurd (at_each_place (λ ids. Contains ids id → ⊥) (replicate settings.tiles []) t []
          (All-replicate (λ (ids : List ℕ). Contains ids id → ⊥) settings.tiles [] (λ c. omega (arith, c.1))) (λ c. omega (arith, c.1))
          (subst (λ (qs : List (List ℕ)). Contains (slice_index_or qs t []) id) queues q));
      has = λ t id within h. (let no_way : None ≡ Some h.0 = sym (empty.none id) ∙ h.1 in absurd (cc (no_way)));
    }
