-- Books that are alike have the same causes to refuse an event, and so the same replies.
use Rattle.std.proofs.Common.{◌≡◌, ◌≢◌, ℕ, [], length, refl, sym, ap, subst, ◌∙◌, inl, inr, ◌⊎◌, arith}
use Rattle.std.proofs.lemmas.List.{length-map}
use Rattle.rv_core.specs.LegValue.{LegValue}
use Rattle.step_script.specs.spec_state.declared.task.Status.TheVariants.{Finished}
use Rattle.step_script.specs.spec_state.declared.task.Task.{Task}
use Rattle.step_script.specs.spec_state.View.{View, finished_at, block_at}
use Rattle.step_script.specs.spec_state.Least.{IsLeastTask, IsTheLeast}
use Rattle.step_script.specs.spec_state.Queries.{IsIdle, IsDispatched, IsLater}
use Rattle.step_script.specs.spec_state.Changes.{TakesLeg}
use Rattle.step_script.specs.spec_state.Room.{Enqueuer, IsMovable, Stalls}
use Rattle.step_script.specs.event_def.Book.{BookView, picked_tile}
use Rattle.step_script.specs.event_def.Causes.{IsBusy, IsStale, StallsAtEnqueue, IsCommitFull, StallsAtEnd}
use Rattle.step_script.specs.event_def.Causes.{LatestIsLeast}
use Rattle.step_script.specs.event_def.Causes.{StallsAtSplit, Cause, IsRefused, IsGranted}
use Rattle.step_script.specs.event_def.declared.event.Event.{Event}
use Rattle.step_script.specs.event_def.declared.event.Event.TheVariants as event
use Rattle.step_script.specs.event_def.declared.event.Reply.{Reply}
use Rattle.step_script.specs.event_def.declared.event.Reply.TheVariants as replies
use Rattle.outcome_law.specs.Alike.{IdPermutation, inverse_of, AreAlike}
use Rattle.outcome_law.specs.Alike.{AreAlikeBooks}
use Rattle.outcome_law.proofs.Alike.{alike_turned, task_turned}
use Rattle.outcome_law.proofs.Leasts.{least_too, the_least_too, spilled_too, over_too, block_too, finished_too}
use Rattle.outcome_law.proofs.Moves.{movable_too}
use Rattle.outcome_law.proofs.Picks.{task_one}
use Rattle.outcome_law.proofs.Queries.{Too, idle_too, least_idle_too, running_too, dispatched_too, is_finished_too}
use Rattle.outcome_law.proofs.Queries.{later_too, latest_too, free_core_too}
use Rattle.outcome_law.proofs.Rooms.{full_too, none_moves_too}
use Rattle.outcome_law.proofs.Events.{picked_alike, request_same}

pub books_turned : (r : IdPermutation) (a b : BookView) → AreAlikeBooks r a b → AreAlikeBooks (inverse_of r) b a
books_turned r a b alike = record {
  view = alike_turned r a.view b.view alike.view;
  placers = sym alike.placers;
  taps = sym alike.taps;
  steps = sym alike.steps;
  stopped = sym alike.stopped;
}

module _ (r : IdPermutation) (a b : View) (alike : AreAlike r a b) where
  pub takes_too : (tile core : ℕ) (leg : LegValue) (id : ℕ) (task : Task) → TakesLeg a tile core leg id task
      → Too r.to (TakesLeg b tile core leg) id task
  takes_too tile core leg id task is =
      let t = running_too r a b alike tile core id task is.runs in
      record {
        y = t.y;
        is =
            record { runs = t.is; from = ap (λ t. t.core) t.alike.other_is ∙ is.from };
        alike = t.alike;
      }

  pub commit_full_too : (tile : ℕ) → IsCommitFull a tile → IsCommitFull b tile
  commit_full_too tile full =
      let size : length (finished_at b tile) ≡ length (finished_at a tile) = ap length (finished_too r a b alike tile) ∙ length-map (finished_at a tile) r.to in
      let room : b.settings.commit_queue ≡ a.settings.commit_queue = ap (λ v. v.settings.commit_queue) alike.frame in
      omega arith

module _ (r : IdPermutation) (old other : BookView) (alike : AreAlikeBooks r old other) where
  abbrev a : View
  a = old.view

  abbrev b : View
  b = other.view

  views : AreAlike r old.view other.view
  views = alike.view

  back : AreAlike (inverse_of r) other.view old.view
  back = alike_turned r old.view other.view alike.view

  dispatch_empty : (tile : ℕ) → ((id : ℕ) (task : Task) → IsIdle a tile id task → ⊥) → (id : ℕ) (task : Task)
      → IsIdle b tile id task → ⊥
  dispatch_empty tile none id task is =
      let t = idle_too (inverse_of r) b a back tile id task is in none (r.from id) t.y t.is

  dispatch_busy : (tile : ℕ) → IsBusy a tile → IsBusy b tile
  dispatch_busy tile busy =
      let t = least_idle_too r a b views tile busy.id busy.task busy.idle in
      record {
        held = λ core free. busy.held core (free_core_too (inverse_of r) b a back tile core free);
        id = r.to busy.id;
        task = t.y;
        idle = t.is;
        not_least =
            λ least. busy.not_least (subst (IsTheLeast a) (r.back busy.id) (the_least_too (inverse_of r) b a back (r.to busy.id) least));
      }

  step_stale : (tile core : ℕ) (leg : LegValue) → IsStale a tile core leg → IsStale b tile core leg
  step_stale tile core leg none id task is =
      let t = takes_too (inverse_of r) b a back tile core leg id task is in none (r.from id) t.y t.is

  stalls_too : (tile id : ℕ) → Stalls a tile (Enqueuer id) → Stalls b tile (Enqueuer (r.to id))
  stalls_too tile id is = record {
    full = full_too r a b views tile is.full;
    none_moves = none_moves_too r a b views tile (Enqueuer id) is.none_moves;
    not_least =
        λ least. is.not_least (subst (IsTheLeast a) (r.back id) (the_least_too (inverse_of r) b a back (r.to id) least));
  }

  step_stall : (tile core : ℕ) (leg : LegValue) → StallsAtEnqueue old tile core leg ⊎ StallsAtEnd a tile core leg
      → StallsAtEnqueue other tile core leg ⊎ StallsAtEnd b tile core leg
  step_stall tile core leg (inl is) =
      let t = takes_too r a b views tile core leg is.id is.task is.takes in
      inl (record {
        id = r.to is.id;
        task = t.y;
        takes = t.is;
        spawn = is.spawn;
        asks = request_same r a b views is.task t.y t.alike leg ∙ is.asks;
        stalls =
            subst (λ (to : ℕ). Stalls b to (Enqueuer (r.to is.id))) (sym (picked_alike r old other alike is.spawn.hint)) (stalls_too (picked_tile old is.spawn.hint) is.id is.stalls);
      })
  step_stall tile core leg (inr is) =
      let t = takes_too r a b views tile core leg is.id is.task is.takes in
      inr (record {
        id = r.to is.id;
        task = t.y;
        takes = t.is;
        asks = request_same r a b views is.task t.y t.alike leg ∙ is.asks;
        full = commit_full_too r a b views tile is.full;
        none_later = λ k x done later. (let f = is_finished_too (inverse_of r) b a back tile k x done in
            let l = later_too (inverse_of r) b a back t.y is.task (task_turned r is.task t.y t.alike) k x later in
            let same : l.y ≡ f.y = task_one a (r.from k) (r.from k) l.y f.y refl l.is.there f.is.there in
            is.none_later (r.from k) f.y f.is (subst (λ z. IsLater a is.task (r.from k) z) same l.is));
      })

  abort_empty : (tile : ℕ) → ((id : ℕ) (task : Task) → IsDispatched a tile id task → ⊥) → (id : ℕ) (task : Task)
      → IsDispatched b tile id task → ⊥
  abort_empty tile none id task is =
      let t = dispatched_too (inverse_of r) b a back tile id task is in none (r.from id) t.y t.is

  abort_firm : (tile : ℕ) → LatestIsLeast a tile → LatestIsLeast b tile
  abort_firm tile is =
      let t = latest_too r (IsDispatched a tile) (IsDispatched b tile) (dispatched_too r a b views tile) (dispatched_too (inverse_of r) b a back tile) is.id is.task is.latest in
      let l = least_too r a b views is.id is.task is.least in
      let same : l.y
      ≡ t.y = task_one b (r.to is.id) (r.to is.id) l.y t.y refl l.least.queued_at.there t.is.of_kind.there in
      record {
        id = r.to is.id;
        task = t.y;
        latest = t.is;
        least = subst (λ z. IsLeastTask b (r.to is.id) z) same l.least;
      }

  commit_empty : ((id : ℕ) (task : Task) → IsLeastTask a id task → task.status ≢ Finished) → (id : ℕ) (task : Task)
      → IsLeastTask b id task → task.status ≢ Finished
  commit_empty none id task least done =
      let l = least_too (inverse_of r) b a back id task least in
      none (r.from id) l.y l.least (ap (λ t. t.status) l.alike.other_is ∙ done)

  coalesce_empty : (tile : ℕ) → ((id : ℕ) → IsMovable a tile id → ⊥) → (id : ℕ) → IsMovable b tile id → ⊥
  coalesce_empty tile none id is = none (r.from id) (movable_too (inverse_of r) b a back tile id is)

  split_empty : (tile : ℕ) → block_at a tile ≡ [] → block_at b tile ≡ []
  split_empty tile none = block_too r a b views tile ∙ none

  split_stall : (tile : ℕ) → StallsAtSplit a tile → StallsAtSplit b tile
  split_stall tile is = record {
    some = λ none. is.some (sym (block_too r a b views tile) ∙ none);
    full = full_too r a b views tile is.full;
    not_least = λ least. is.not_least (spilled_too (inverse_of r) b a back tile least);
  }

  pub cause_too : {N : Type 0} (event : Event N) (reply : Reply) → Cause old event reply → Cause other event reply
  cause_too (event.Dispatch tile) replies.Ended has = over_too r a b views has
  cause_too (event.Dispatch tile) replies.Ok has = absurd has
  cause_too (event.Dispatch tile) replies.Empty has = dispatch_empty tile has
  cause_too (event.Dispatch tile) replies.Busy has = dispatch_busy tile has
  cause_too (event.Dispatch tile) replies.Stall has = absurd has
  cause_too (event.Dispatch tile) replies.Stale has = absurd has
  cause_too (event.Dispatch tile) replies.Firm has = absurd has
  cause_too (event.Dispatch tile) replies.Memory has = absurd has
  cause_too (event.Step tile core leg) replies.Ended has = over_too r a b views has
  cause_too (event.Step tile core leg) replies.Ok has = absurd has
  cause_too (event.Step tile core leg) replies.Empty has = absurd has
  cause_too (event.Step tile core leg) replies.Busy has = absurd has
  cause_too (event.Step tile core leg) replies.Stall has = step_stall tile core leg has
  cause_too (event.Step tile core leg) replies.Stale has = step_stale tile core leg has
  cause_too (event.Step tile core leg) replies.Firm has = absurd has
  cause_too (event.Step tile core leg) replies.Memory has = absurd has
  cause_too (event.Abort tile) replies.Ended has = over_too r a b views has
  cause_too (event.Abort tile) replies.Ok has = absurd has
  cause_too (event.Abort tile) replies.Empty has = abort_empty tile has
  cause_too (event.Abort tile) replies.Busy has = absurd has
  cause_too (event.Abort tile) replies.Stall has = absurd has
  cause_too (event.Abort tile) replies.Stale has = absurd has
  cause_too (event.Abort tile) replies.Firm has = abort_firm tile has
  cause_too (event.Abort tile) replies.Memory has = absurd has
  cause_too event.Commit replies.Ended has = over_too r a b views has
  cause_too event.Commit replies.Ok has = absurd has
  cause_too event.Commit replies.Empty has = commit_empty has
  cause_too event.Commit replies.Busy has = absurd has
  cause_too event.Commit replies.Stall has = absurd has
  cause_too event.Commit replies.Stale has = absurd has
  cause_too event.Commit replies.Firm has = absurd has
  cause_too event.Commit replies.Memory has = absurd has
  cause_too (event.Coalesce tile) replies.Ended has = over_too r a b views has
  cause_too (event.Coalesce tile) replies.Ok has = absurd has
  cause_too (event.Coalesce tile) replies.Empty has = coalesce_empty tile has
  cause_too (event.Coalesce tile) replies.Busy has = absurd has
  cause_too (event.Coalesce tile) replies.Stall has = absurd has
  cause_too (event.Coalesce tile) replies.Stale has = absurd has
  cause_too (event.Coalesce tile) replies.Firm has = absurd has
  cause_too (event.Coalesce tile) replies.Memory has = absurd has
  cause_too (event.Split tile) replies.Ended has = over_too r a b views has
  cause_too (event.Split tile) replies.Ok has = absurd has
  cause_too (event.Split tile) replies.Empty has = split_empty tile has
  cause_too (event.Split tile) replies.Busy has = absurd has
  cause_too (event.Split tile) replies.Stall has = split_stall tile has
  cause_too (event.Split tile) replies.Stale has = absurd has
  cause_too (event.Split tile) replies.Firm has = absurd has
  cause_too (event.Split tile) replies.Memory has = absurd has

module _ {N : Type 0} (r : IdPermutation) (old other : BookView) (alike : AreAlikeBooks r old other) (event : Event N) where
  pub granted_too : IsGranted old event → IsGranted other event
  granted_too granted reply has =
      granted reply (cause_too (inverse_of r) other old (books_turned r old other alike) event reply has)

  pub refused_too : (reply : Reply) → IsRefused old event reply → IsRefused other event reply
  refused_too reply is = record {
    cause = cause_too r old other alike event reply is.cause;
    first =
        λ earlier before has. is.first earlier before (cause_too (inverse_of r) other old (books_turned r old other alike) event earlier has);
  }
