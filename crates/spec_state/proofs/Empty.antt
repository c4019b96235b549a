-- A state without a task: its lists hold nothing.
use Rattle.std.proofs.Common.{◌≡◌, ◌≤◌, ◌*◌, ◌-◌, ◌++◌, ℕ, zero, suc, List, [], length, map, replicate, Option, Some}
use Rattle.std.proofs.Common.{None, refl, sym, ap, subst, ◌∙◌, arith, slice_get, slice_index_or}
use Rattle.std.specs.Prelude.{All, Contains}
use Rattle.std.proofs.lemmas.List.Sums.{sum_by-le}
use Rattle.std.proofs.lemmas.List.{length-append, length-replicate}
use Rattle.commit_arbiter.specs.declared.candidate.Candidate.{Candidate}
use Rattle.tile_queues.specs.Queue.{QueueValue}
use Rattle.spec_state.specs.declared.task.Status.{Status}
use Rattle.spec_state.specs.declared.task.Status.TheVariants.{Finished}
use Rattle.spec_state.specs.declared.task.Task.{Task}
use Rattle.spec_state.specs.View.{View, task_at}
use Rattle.spec_state.specs.Fits.{queued_count}
use Rattle.spec_state.specs.Stored.{HasCore, HasTask, IsStored, IsIndexed}
use Rattle.spec_state.proofs.Joined.{ids_at}

-- of empty lists each one is empty
nothing_at : (n k : ℕ) → slice_index_or (replicate n (let none : List ℕ = [] in none)) k [] ≡ []
nothing_at zero k = refl
nothing_at (suc n) zero = refl
nothing_at (suc n) (suc k) = nothing_at n k

-- and contains nothing
none_in : (lists : List (List ℕ)) (n tile id : ℕ) → lists ≡ replicate n [] → Contains (slice_index_or lists tile []) id
    → ⊥
none_in lists n tile id empty has =
    let same : slice_index_or lists tile [] ≡ [] = ap (λ ls. slice_index_or ls tile []) empty ∙ nothing_at n tile in
    let nothing : Contains [] id = subst (λ ids. Contains ids id) same has in
    absurd (omega (arith, nothing.1))

no_holder : (n core id : ℕ) → slice_get (replicate n (let none : Option ℕ = None in none)) core ≡ Some (Some id) → ⊥
no_holder zero core id at = cc
no_holder (suc n) zero id at = cc
no_holder (suc n) (suc core) id at = no_holder n core id at

none_held : (n cores tile core id : ℕ) → slice_get (slice_index_or (replicate n (replicate cores (let none : Option ℕ = None in none))) tile []) core ≡ Some (Some id) → ⊥
none_held zero cores tile core id at = cc
none_held (suc n) cores zero core id at = no_holder cores core id at
none_held (suc n) cores (suc tile) core id at = none_held n cores tile core id at

-- no task is there
none_there : (view : View) (tile id : ℕ) (kind : Status → Type 0) → view.tasks ≡ [] → HasTask view tile id kind → ⊥
none_there view tile id kind empty has =
    let none : task_at view id ≡ None = ap (λ (tasks : List (Option Task)). slice_index_or tasks id None) empty in
    absurd (cc (none, has.1))

pub stored_empty : (view : View) (size tiles cores : ℕ) → view.tasks ≡ [] → view.queues ≡ replicate tiles []
    → view.finished ≡ replicate tiles []
    → view.cores ≡ replicate tiles (replicate cores None) → length view.memory ≡ size → IsStored size view
stored_empty view size tiles cores tasks queues finished held memory = record {
  queued_are =
      λ tile id. (λ has. absurd (none_in view.queues tiles tile id queues has), λ has. absurd (none_there view tile id (λ status. Unit {0}) tasks has));
  finished_are =
      λ tile id. (λ has. absurd (none_in view.finished tiles tile id finished has), λ has. absurd (none_there view tile id (λ status. status ≡ Finished) tasks has));
  held_are = λ tile core id. (
    λ at. absurd (none_held tiles cores tile core id (ap (λ lists. slice_get (slice_index_or lists tile []) core) (sym held) ∙ at)),
    λ has. absurd (none_there view tile id (λ status. HasCore status core) tasks has),
  );
  tasks = λ id task at. absurd (cc (at, ap (λ (tasks : List (Option Task)). slice_index_or tasks id None) tasks));
  memory = memory;
}

pub indexed_empty : (tasks : List (Option Task)) (queues : List (List ℕ)) (arrivals : List ℕ) (next tiles : ℕ) (listed : List Candidate)
    → tasks ≡ [] → queues ≡ replicate tiles [] → listed ≡ []
    → IsIndexed tasks queues arrivals next listed
indexed_empty tasks queues arrivals next tiles listed none empty nothing = record {
  all = λ id task at. absurd (cc (at, ap (λ (ts : List (Option Task)). slice_index_or ts id None) none));
  each =
      λ entry has. (let has' : Contains [] entry = subst (λ es. Contains es entry) nothing has in absurd (omega (arith, has'.1)));
  early = λ tile id has. absurd (none_in queues tiles tile id empty has);
  rising = λ tile p q a b less at bt.
      (let none : slice_index_or queues tile [] ≡ [] = ap (λ ls. slice_index_or ls tile []) empty ∙ nothing_at tiles tile in absurd (cc (ap (λ ids. slice_get ids p) none, at)));
}

-- empty queues hold nothing, and none too much
pub short_empty : (queues : List QueueValue) (tiles bound : ℕ) → map (λ queue. queue.ids) queues ≡ replicate tiles []
    → All (λ queue. length queue.ids ≤ bound) queues
short_empty queues tiles bound empty k d within =
    let ids : (slice_index_or queues k d).ids ≡ [] = sym (ids_at queues k d within) ∙ ap (λ lists. slice_index_or lists k []) empty ∙ nothing_at tiles k in
    let none : length (slice_index_or queues k d).ids ≡ 0 = ap length ids in
    omega (arith, none)

pub count_empty : (queues : List QueueValue) (tiles : ℕ) → map (λ queue. queue.ids) queues ≡ replicate tiles []
    → queued_count queues ≡ 0
count_empty queues tiles empty =
    let few : queued_count queues ≤ length queues * 0 = sum_by-le (λ queue. length queue.ids) 0 queues (short_empty queues tiles 0 empty) in
    omega (arith, few)

-- the memory is as large as it is said to be
pub size_opening : (initial memory : List ℕ) (size : ℕ) → memory ≡ initial ++ replicate (size - length initial) 0
    → length initial ≤ size → length memory ≡ size
size_opening initial memory size is within =
    let long = ap length is ∙ length-append initial (replicate (size - length initial) 0) in
    let rest = length-replicate {A = ℕ} (size - length initial) 0 in
    omega (arith, long, rest, within)
