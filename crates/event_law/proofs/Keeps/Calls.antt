-- An enqueue that is granted leaves a sound view, and so does an end call.
use Rattle.std.proofs.Common.{ℕ, ◌≡◌, ◌≢◌, ◌<◌, ◌≤◌, Bool, true, false, List, [], Some, refl, sym, ap, subst, ◌∙◌}
use Rattle.std.proofs.Common.{arith}
use Rattle.std.specs.Prelude.{length, filter, not, slice_index_or, Contains}
use Rattle.std.specs.declared.cmp.Ordering.TheVariants.{Less}
use Rattle.std.proofs.lemmas.Cmp.{tied_itself}
use Rattle.std.proofs.lemmas.List.Filters.{length-filter_both}
use Rattle.std.proofs.lemmas.Bool.{false_from_ne_true}
use Rattle.fractal_vt.specs.Keys.{key_cmp}
use Rattle.fractal_vt.specs.declared.key.Key.{Key}
use Rattle.fractal_vt.proofs.Proved.{key_cmp_total}
use Rattle.guest_image.specs.ImageValue.{ImageValue}
use Rattle.place_policy.specs.Policy.{Policy}
use Rattle.rv_core.specs.LegValue.{LegValue, IsLegOfImage}
use Rattle.task_desc.specs.declared.desc.Spawn.{Spawn}
use Rattle.task_request.specs.declared.request.Request.TheVariants.{Enqueue, End}
use Rattle.task_request.specs.Requests.{request_at}
use Rattle.event_def.specs.spec_state.declared.task.Status.{Status}
use Rattle.event_def.specs.spec_state.declared.task.Status.TheVariants.{Idle, Running}
use Rattle.event_def.specs.spec_state.declared.task.Task.{Task}
use Rattle.event_def.specs.spec_state.View.{View, task_at, finished_at}
use Rattle.event_def.specs.spec_state.Tasks.{is_dispatched, context_of}
use Rattle.event_def.specs.spec_state.Least.{IsLeastTask, IsTheLeast}
use Rattle.event_def.specs.spec_state.Room.{Enqueuer, asker_of}
use Rattle.event_def.specs.spec_state.Queries.{IsLater}
use Rattle.event_def.specs.spec_state.Aborts.{Aborts, OnlyNode, is_marked}
use Rattle.spec_law.specs.RoomLaws.{AsksAsLeast}
use Rattle.event_def.specs.spec_state.Changes.{TakesLeg, request_of}
use Rattle.spec_law.specs.Sound.{Sound}
use Rattle.spec_law.proofs.Proved.{abort_of_later_is_sound, cascade_is_later, end_stays_sound, enqueue_stays_sound}
use Rattle.spec_law.proofs.Proved.{filter_leaves, list_mapped}
use Rattle.event_def.specs.Book.{BookView, picked_tile}
use Rattle.event_def.specs.Events.{EnqueueEvent, EndEvent, FreesCommit}
use Rattle.event_def.specs.Events as events
use Rattle.event_law.proofs.Lists.{at_each_place}
use Rattle.event_law.proofs.Openings.Sized.{FitsQueue, none_fit}
use Rattle.event_law.proofs.Keeps.Forced.{Follows, follows_itself, abort_follows, least_is_heir, running_is_dispatched}
use Rattle.event_law.proofs.Keeps.Forced.{still_taken, spared_stays}
use Rattle.event_law.proofs.Keeps.Room.{room_follows, asker_is_there, room_is_free}

-- a running task isn't idle
pub running_is_busy : (core : ℕ) (status : Status) → status ≡ Running core → status ≢ Idle
running_is_busy core status runs idle = (let no_way : Running core ≡ Idle = sym runs ∙ idle in absurd (cc (no_way)))

-- a filter leaves fewer where one doesn't pass
pub filter_fewer : (p : ℕ → Bool) (xs : List ℕ) (x : ℕ) → Contains xs x → not (p x) ≡ true
    → length (filter p xs) < length xs
filter_fewer p xs x has out =
    let both = length-filter_both p (λ k. not (p k)) (λ k. refl) xs in
    let left = filter_leaves (λ k. not (p k)) xs x has out in
    let some = left.1 in
    omega (arith, both, some)

module _ (image : ImageValue) (book : BookView) (sound : Sound image book.view) (tile core : ℕ) (leg : LegValue) (run : IsLegOfImage image book.view.settings.budget leg) (id : ℕ) (task : Task) (takes : TakesLeg book.view tile core leg id task) where
  -- a task that takes a leg, and is the least one, is dispatched
  least_runs : (x : Task) → IsLeastTask book.view id x → is_dispatched x ≡ true
  least_runs x least =
      let both : Some task ≡ Some x = sym takes.runs.on.there ∙ least.queued_at.there in
      let same : task ≡ x = cc in
      running_is_dispatched image book.view sound id core x least.queued_at.there (ap (λ t. t.status) (sym same) ∙ takes.runs.running)

  -- so it asks as the least one
  asks_as_least : (to : ℕ) → IsTheLeast book.view id → (low : Key) × AsksAsLeast book.view to (Enqueuer id) low
  asks_as_least to least = (least.0.key, (least.0, least.1, least_runs least.0 least.1, refl))

  -- and it is the heir
  is_heir : IsTheLeast book.view id → Enqueuer id ≡ asker_of sound.heir
  is_heir least =
      ap asker_of (sym (least_is_heir image book.view sound id least.0 least.1 (least_runs least.0 least.1)))

  -- an enqueue
  pub enqueue_leads : (spawn : Spawn) → request_of book.view task leg ≡ Enqueue spawn
      → (aborted : ℕ) (new : View) (placers : List Policy)
      → EnqueueEvent tile core leg id task spawn book aborted new placers → Follows image book.view new
  enqueue_leads spawn asks aborted new placers made =
      let to = picked_tile book spawn.hint in
      let low = asks_as_least to in
      let follows = room_follows image to (Enqueuer id) book.view sound is_heir low made.forced in
      let there = asker_is_there image to (Enqueuer id) book.view sound is_heir low id task refl takes.runs.on.there
      (running_is_busy core task.status takes.runs.running) made.forced in
      let free = room_is_free image to (Enqueuer id) book.view sound is_heir low made.forced in
      let taken = still_taken image book.view sound made.mid tile core id leg task follows there (record { takes = takes; run = run }) in
      let inside = subst (λ s. to < s.tiles) (sym follows.settings) made.inside in
      record {
        now =
            (enqueue_stays_sound image made.mid new follows.now tile core id to leg task spawn (record { is_leg = taken; asks = ap (λ v. request_at (context_of v task) leg.to leg.stop) (follows.now.version ∙ sym sound.version) ∙ asks }) inside free made.change).0;
        settings = ap (λ view. view.settings) made.change.frame ∙ follows.settings;
      }

  -- the task is queued
  there : task_at book.view id ≡ Some task
  there = takes.runs.on.there

  -- no task is below itself
  not_below_itself : key_cmp task.key task.key ≡ Less → ⊥
  not_below_itself less = absurd (cc (less, tied_itself key_cmp_total task.key))

  -- what is above a later task is another
  above_is_other : (x y : Task) → key_cmp task.key x.key ≡ Less → task_at book.view id ≡ Some y
      → key_cmp x.key y.key ≡ Less → ⊥
  above_is_other x y later at above =
      let both : Some y ≡ Some task = sym at ∙ there in
      let this : y ≡ task = cc in
      not_below_itself (key_cmp_total.trans task.key x.key task.key later (subst (λ (t : Task). key_cmp x.key t.key ≡ Less) this above))

  -- the cascade of a later task spares this one
  later_spares : (v : ℕ) (x : Task) (aborted : ℕ) (mid : View) → IsLater book.view task v x
      → (aborts : Aborts (OnlyNode v) book.view aborted mid) → is_marked aborts.marks id ≡ false
  later_spares v x aborted mid later aborts =
      false_from_ne_true (is_marked aborts.marks id)
      (λ marked.
      let apart : id ≢ v = λ same.
      (let both : Some task ≡ Some x = sym there ∙ (ap (task_at book.view) same ∙ later.there) in
      let this : task ≡ x = cc in
      not_below_itself (subst (λ (t : Task). key_cmp task.key t.key ≡ Less) (sym this) later.later)) in
      let above = cascade_is_later image book.view v x aborts.marks sound later.there aborts.cascade id marked apart in
      above_is_other x above.0 later.later above.1 above.2)

  -- freeing a place of the commit queue leaves a sound view
  commit_follows : {aborted : ℕ} {mid : View} → FreesCommit tile task book.view aborted mid
      → Follows image book.view mid
  commit_follows (events.has_free free) = follows_itself image book.view sound
  commit_follows (events.aborts_latest aborted v x new full latest later aborts) =
      abort_follows image (OnlyNode v) book.view new aborted aborts (abort_of_later_is_sound image id v task x book.view aborted new sound there later aborts).0

  -- the task that ends stays as it was
  ender_stays : {aborted : ℕ} {mid : View} → FreesCommit tile task book.view aborted mid → task_at mid id ≡ Some task
  ender_stays (events.has_free free) = there
  ender_stays (events.aborts_latest aborted v x new full latest later aborts) =
      spared_stays (OnlyNode v) book.view new aborted id aborts (later_spares v x aborted new later aborts) ∙ there

  -- no more tasks are finished than may be
  finished_fit : length (finished_at book.view tile) ≤ book.view.settings.commit_queue
  finished_fit =
      (at_each_place (FitsQueue book.view.settings.commit_queue) book.view.finished tile [] sound.sizes.commit_queues (none_fit book.view.settings.commit_queue)).0

  -- and the commit queue has a free place
  commit_free : {aborted : ℕ} {mid : View} → FreesCommit tile task book.view aborted mid
      → length (finished_at mid tile) < mid.settings.commit_queue
  commit_free (events.has_free free) = free
  commit_free (events.aborts_latest aborted v x new full latest later aborts) =
      let fits = finished_fit in
      let left : finished_at new tile ≡ filter (λ k. not (is_marked aborts.marks k)) (finished_at book.view tile) =
      ap (λ (lists : List (List ℕ)). slice_index_or lists tile []) aborts.finished
      ∙ list_mapped (filter (λ k. not (is_marked aborts.marks k))) refl book.view.finished tile in
      let marked : is_marked aborts.marks v ≡ true = aborts.cascade.least.holds v refl in
      let fewer = filter_fewer (λ k. not (is_marked aborts.marks k)) (finished_at book.view tile) v latest.of_kind.queued (ap (λ b. not (not b)) marked) in
      let less : length (finished_at new tile) < book.view.settings.commit_queue = subst (λ (ids : List ℕ). length ids < book.view.settings.commit_queue) (sym left) (omega (arith, fits, fewer)) in
      subst (λ s. length (finished_at new tile) < s.commit_queue) (sym (ap (λ view. view.settings) aborts.frame)) less

  -- an end call
  pub end_leads : request_of book.view task leg ≡ End → (aborted : ℕ) (new : View)
      → EndEvent tile core leg id task book.view aborted new → Follows image book.view new
  end_leads asks aborted new made =
      let follows = commit_follows made.forced in
      let stays = ender_stays made.forced in
      let taken = still_taken image book.view sound made.mid tile core id leg task follows stays (record { takes = takes; run = run }) in
      record {
        now =
            (end_stays_sound image made.mid new follows.now tile core id leg task (record { is_leg = taken; asks = ap (λ v. request_at (context_of v task) leg.to leg.stop) (follows.now.version ∙ sym sound.version) ∙ asks }) (commit_free made.forced) made.change).0;
        settings = ap (λ view. view.settings) made.change.frame ∙ follows.settings;
      }
