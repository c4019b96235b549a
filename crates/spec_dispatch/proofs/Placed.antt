-- A task that is put on a core, by the parts of a state.
use Rattle.std.specs.Prelude.{false, is_some}
use Rattle.std.proofs.Common.{◌≡◌, ◌<◌, ◌+◌, ℕ, Vec, Global, List, [], length, map, Option, Some, None, refl, sym, ap}
use Rattle.std.proofs.Common.{subst, ◌∙◌, arith, slice_get, slice_index_or}
use Rattle.std.specs.Prelude.{All, slice_set, option_map, vec_len}
use Rattle.std.specs.Vec.{with_item}
use Rattle.std.proofs.lemmas.List.{length-map, map-set, get_or-map}
use Rattle.std.proofs.lemmas.List.Elements.{All-set}
use Rattle.std.proofs.lemmas.Option.{slice_get_within, same_Some}
use Rattle.fractal_vt.specs.declared.level.Level.{Level}
use Rattle.run_journal.specs.declared.journal.Entry.{Entry}
use Rattle.spill_store.specs.SpilledTasks.{Spilled}
use Rattle.tile_queues.specs.Queue.{QueueValue}
use Rattle.commit_arbiter.specs.Indexed.{candidate_cmp, without_candidate, IsOpenIn, IsTied}
use Rattle.commit_arbiter.specs.declared.candidate.Candidate.{Candidate}
use Rattle.fractal_vt.specs.Sorted.{after_insert}
use Rattle.spec_state.specs.declared.settings.Settings.{Settings}
use Rattle.spec_state.specs.declared.task.Task.{Task}
use Rattle.spec_state.specs.declared.task.TaskId.{TaskId}
use Rattle.spec_state.specs.declared.task.Status.TheVariants.{Idle}
use Rattle.spec_state.specs.Tasks.{kept_core}
use Rattle.spec_state.specs.View.{View, core_ids, task_at}
use Rattle.spec_state.specs.Fits.{view_of_parts}
use Rattle.spec_state.specs.Changes.{Dispatches}
use Rattle.spec_state.specs.Queries.{IsLeastIdle, IsLowestFree}
use Rattle.spec_state.specs.Stored.{candidate_of, IsIndexed, IsStored, IsWellFormed}
use Rattle.spec_state.proofs.Proved.{others_set, task_set}
use Rattle.spec_dispatch.specs.Started.{started_task}
use Rattle.spec_dispatch.proofs.Rekeyed.{rekeyed}

-- the cores of a tile
abbrev pub Cores : Type 0
Cores = Vec (Option TaskId) Global

-- the ids that all cores hold
abbrev pub held_ids : List Cores → List (List (Option ℕ))
held_ids cores = map (λ held. core_ids held.items) cores

-- what the cores of a tile hold
pub ids_of_cores : (cores : List Cores) (tile : ℕ) (held : Cores) → tile < length cores
    → held ≡ slice_index_or cores tile held
    → slice_index_or (held_ids cores) tile [] ≡ core_ids held.items
ids_of_cores cores tile held within is =
    get_or-map (λ (h : Cores). core_ids h.items) cores tile held [] within
    ∙ ap (λ (h : Cores). core_ids h.items) (sym is)

-- a core of which the ids tell something is one of the tile's
pub core_within : (cores : List Cores) (tile core : ℕ) (held : Cores) (holder : Option ℕ) → tile < length cores
    → held ≡ slice_index_or cores tile held
    → slice_get (slice_index_or (held_ids cores) tile []) core ≡ Some holder → core < vec_len held
core_within cores tile core held holder within is at =
    let low = slice_get_within (core_ids held.items) core holder (ap (λ ids. slice_get ids core) (sym (ids_of_cores cores tile held within is)) ∙ at) in
    let long = length-map held.items (option_map (λ (id : TaskId). id.0)) in
    omega (arith, low, long, held.ok.0)

-- the ids with another holder of a core
pub cores_set : (cores : List Cores) (tile core : ℕ) (id : TaskId) (held : Cores) → tile < length cores
    → held ≡ slice_index_or cores tile held
    → held_ids (slice_set cores tile (with_item held core (Some id))) ≡ slice_set (held_ids cores) tile (slice_set (slice_index_or (held_ids cores) tile []) core (Some id.0))
cores_set cores tile core id held within is =
    map-set (λ (h : Cores). core_ids h.items) cores tile (with_item held core (Some id))
    ∙ ap (slice_set (held_ids cores) tile)
    (map-set (option_map (λ (i : TaskId). i.0)) held.items core (Some id) ∙ ap (λ ids. slice_set ids core (Some id.0)) (sym (ids_of_cores cores tile held within is)))

-- each tile has as many cores as before
pub cores_counted : (cores : List Cores) (tile core count : ℕ) (id : TaskId) (held : Cores) → tile < length cores
    → held ≡ slice_index_or cores tile held
    → All (λ (h : Cores). vec_len h ≡ count) cores
    → All (λ (h : Cores). vec_len h ≡ count) (slice_set cores tile (with_item held core (Some id)))
cores_counted cores tile core count id held within is all =
    All-set (λ (h : Cores). vec_len h ≡ count) cores tile (with_item held core (Some id)) (ap vec_len is ∙ all tile held within) all

-- an idle task's tiebreaker is open
no_number : (task : Task) (size commits : ℕ) → IsWellFormed size commits task → task.status ≡ Idle → task.key.tb ≡ None
no_number task size commits formed idle =
    by_case task.key.tb (formed.dispatched ∙ ap (λ status. is_some (kept_core status task.core)) idle)
  where
    by_case : (tb : Option ℕ) → is_some tb ≡ false → tb ≡ None
    by_case None is = refl
    by_case (Some n) is = absurd (cc (is))

pub open_here : (old view : View) → old ≡ view → (size tile id : ℕ) (task was : Task) → IsLeastIdle view tile id task
    → task_at old id ≡ Some was → IsStored size old → was.key.tb ≡ None
open_here old view same size tile id task was least there stored =
    let one : was ≡ task = same_Some was task (sym there ∙ ap (λ (v : View). task_at v id) same ∙ least.idle.there) in
    no_number was size (length old.history) (stored.tasks id was there) (ap (λ (t : Task). t.status) one ∙ least.idle.idle)

-- it has its candidate in the index, with its tiebreaker open
pub open_in : (tasks : List (Option Task)) (lists : List (List ℕ)) (arrivals : List ℕ) (next id : ℕ) (listed : List Candidate) (task : Task)
    → IsIndexed tasks lists arrivals next listed → slice_index_or tasks id None ≡ Some task → task.key.tb ≡ None
    → IsOpenIn id listed
open_in tasks lists arrivals next id listed task is there none = record {
  candidate = candidate_of arrivals id task;
  there = is.all id task there;
  id_is = refl;
  open_tie = none;
}

-- and closed
pub indexed_closed : (version : ℕ) (tasks : List (Option Task)) (lists : List (List ℕ)) (arrivals : List ℕ) (next id core number : ℕ) (listed listed_now : List Candidate) (task now : Task)
    → IsIndexed tasks lists arrivals next listed → slice_index_or tasks id None ≡ Some task
    → now ≡ started_task version core number task → IsTied id (Some number) listed listed_now
    → IsIndexed (slice_set tasks id (Some now)) lists arrivals next listed_now
indexed_closed version tasks lists arrivals next id core number listed listed_now task now is there starts tie =
    subst (IsIndexed (slice_set tasks id (Some now)) lists arrivals next)
    (sym (tie (candidate_of arrivals id task) (is.all id task there) refl ∙ ap (λ (t : Task). after_insert candidate_cmp (candidate_of arrivals id t) (without_candidate id listed)) (sym starts)))
    (rekeyed tasks (slice_set tasks id (Some now)) lists arrivals next id listed now is (task_set tasks id task now there) (others_set tasks id now))

-- the dispatch, by the parts
pub dispatches_seen : (version : ℕ) (settings : Settings) (tasks : List (Option Task)) (memory : List ℕ) (history : List Entry) (output : List ℕ) (next : ℕ) (path : List Level)
    (queues finished : List QueueValue) (cores : List Cores) (blocks : List (List Spilled)) (tile core : ℕ) (id : TaskId) (was now : Task) (held : Cores)
    → tile < length cores → held ≡ slice_index_or cores tile held → slice_index_or tasks id.0 None ≡ Some was
    → now ≡ started_task version core next was
    → (view : View)
    → view_of_parts version settings tasks memory history output next path queues finished (held_ids cores) blocks ≡ view
    → (task : Task) → IsLeastIdle view tile id.0 task → IsLowestFree view tile core
    → Dispatches tile view (view_of_parts version settings (slice_set tasks id.0 (Some now)) memory history output (next + 1) path queues finished (held_ids (slice_set cores tile (with_item held core (Some id)))) blocks)
dispatches_seen version settings tasks memory history output next path queues finished cores blocks tile core id was now held within is there starts view same task least free =
    subst (λ v. IsLeastIdle v tile id.0 task → IsLowestFree v tile core
    → Dispatches tile v (view_of_parts version settings (slice_set tasks id.0 (Some now)) memory history output (next + 1) path queues finished (held_ids (slice_set cores tile (with_item held core (Some id)))) blocks)) same
    (λ its_least its_free.
    (let one : was ≡ task = same_Some was task (sym there ∙ its_least.idle.there) in
    record {
      id = id.0;
      task = task;
      least = its_least;
      core = core;
      free = its_free;
      changes = record {
        changed = task_set tasks id.0 was now there ∙ ap Some (starts ∙ ap (started_task version core next) one);
        others = others_set tasks id.0 now;
      };
      next = refl;
      cores = cores_set cores tile core id held within is;
      frame = refl;
    })) least free
