-- An event that is made of books that are alike leaves views that are alike, and takes as many tasks back.
use Rattle.std.proofs.Common.{◌≡◌, ◌+◌, ◌++◌, ◌/◌, ℕ, Bool, true, false, List, [], ◌∷◌, map, length, Some, refl, sym}
use Rattle.std.proofs.Common.{ap, subst, ◌∙◌}
use Rattle.fractal_vt.specs.declared.key.Key.{Key}
use Rattle.guest_image.specs.ImageValue.{ImageValue}
use Rattle.place_policy.specs.Policy.{Policy}
use Rattle.place_policy.specs.Serving.{serving_tile, first_placed}
use Rattle.rv_core.specs.LegValue.{LegValue}
use Rattle.rv_core.specs.Memory.{load_width}
use Rattle.rv_core.specs.Legs.{after_other_of, after_load_of}
use Rattle.task_desc.specs.declared.desc.Spawn.{Spawn}
use Rattle.task_request.specs.declared.request.Request.{Request}
use Rattle.task_request.specs.declared.request.Request.TheVariants.{Continue, Load, Store, Enqueue, MakeSub, Emit, End}
use Rattle.task_request.specs.declared.request.Request.TheVariants.{Trap}
use Rattle.task_request.specs.Requests.{request_at}
use Rattle.undo_log.specs.Number.{number_at}
use Rattle.undo_log.specs.Undo as undo
use Rattle.step_script.specs.spec_state.declared.task.Status.TheVariants as status
use Rattle.step_script.specs.spec_state.declared.task.Status.TheVariants.{Trapped}
use Rattle.step_script.specs.spec_state.declared.task.Task.{Task}
use Rattle.step_script.specs.spec_state.View.{View, task_at, loads}
use Rattle.step_script.specs.spec_state.Tasks.{is_dispatched, context_of}
use Rattle.step_script.specs.spec_state.Least.{IsLeastTask, IsTheLeast}
use Rattle.step_script.specs.spec_state.Queries.{IsDispatched, Conflicts}
use Rattle.step_script.specs.spec_state.Aborts.{Aborts}
use Rattle.step_script.specs.spec_state.Changes.{TakesLeg, request_of, task_past_leg, Enqueues}
use Rattle.std.proofs.lemmas.List.{length-map}
use Rattle.rv_table.specs.declared.instr.LoadWidth.{LoadWidth}
use Rattle.step_script.specs.spec_state.Room.{Enqueuer, Splitter, MakesRoom, asker_of}
use Rattle.step_script.specs.spec_law.RoomLaws.{AsksAsLeast}
use Rattle.step_script.specs.spec_law.Sound.{Sound}
use Rattle.step_script.specs.event_def.Book.{BookView, picked_tile, placers_after_commit}
use Rattle.step_script.specs.event_def.declared.event.Event.{Event}
use Rattle.step_script.specs.event_def.declared.event.Event.TheVariants as event
use Rattle.step_script.specs.event_def.Events.{DispatchEvent, LoadEvent, StoreEvent, EnqueueEvent, EndEvent, ComesTo}
use Rattle.step_script.specs.event_def.Events.{StepEvent}
use Rattle.step_script.specs.event_def.Events.{AbortEvent, SplitEvent, Makes}
use Rattle.step_script.proofs.Below.event_law.Proved.{running_is_dispatched, least_is_heir, room_follows}
use Rattle.step_script.proofs.Below.event_law.Proved.{asker_is_there, spilled_asks}
use Rattle.step_script.proofs.Below.event_law.Proved.{spilled_no_heir}
use Rattle.step_script.proofs.Below.event_law.Proved.{running_is_busy}
use Rattle.step_script.proofs.Below.event_basis.Proved.{finished_is_dispatched, holder_is_dispatched}
use Rattle.outcome_law.specs.Alike.{IdPermutation, inverse_of, IsAlikeTask, AreAlike}
use Rattle.outcome_law.specs.Alike.{AreAlikeBooks}
use Rattle.outcome_law.proofs.Alike.{alike_turned, task_turned}
use Rattle.outcome_law.proofs.Aborts.{AreFirsts, AbortAlike, aborts_alike}
use Rattle.outcome_law.proofs.Anew.{holds_tasks}
use Rattle.outcome_law.proofs.Changes.{dispatches_alike, keeps_alike, accesses_alike, finishes_alike, version_same}
use Rattle.outcome_law.proofs.Changes.{memory_same, settings_same}
use Rattle.outcome_law.proofs.Commits.{commits_alike}
use Rattle.outcome_law.proofs.Moves.{coalesces_alike}
use Rattle.outcome_law.proofs.News.{AlikeSomehow, splits_alike, enqueues_alike}
use Rattle.outcome_law.proofs.Picks.{task_one}
use Rattle.outcome_law.proofs.Queries.{running_too, dispatched_too, conflicts_too}
use Rattle.outcome_law.proofs.Renumbers.{frees_number_alike}
use Rattle.outcome_law.proofs.Rooms.{cores_alike, commit_alike, latest_taken, rooms_alike}

-- ---- a task that asks for room

module _ (image : ImageValue) (view : View) (sound : Sound image view) (tile core id : ℕ) (leg : LegValue) (task : Task) (takes : TakesLeg view tile core leg id task) where
  least_runs : (x : Task) → IsLeastTask view id x → is_dispatched x ≡ true
  least_runs x least =
      let same : task ≡ x = task_one view id id task x refl takes.runs.on.there least.queued_at.there in
      running_is_dispatched image view sound id core x least.queued_at.there (ap (λ t. t.status) (sym same) ∙ takes.runs.running)

  asks : (to : ℕ) → IsTheLeast view id → (low : Key) × AsksAsLeast view to (Enqueuer id) low
  asks to least = (least.0.key, (least.0, least.1, least_runs least.0 least.1, refl))

  is_heir : IsTheLeast view id → Enqueuer id ≡ asker_of sound.heir
  is_heir least = ap asker_of (sym (least_is_heir image view sound id least.0 least.1 (least_runs least.0 least.1)))

  -- room leaves a sound view, in which the task that asks is as it was
  pub room_sound : (to : ℕ) {n : ℕ} {mid : View} → MakesRoom to (Enqueuer id) view n mid → Sound image mid
  room_sound to forced = (room_follows image to (Enqueuer id) view sound is_heir (asks to) forced).now

  pub asker_stays : (to : ℕ) {n : ℕ} {mid : View} → MakesRoom to (Enqueuer id) view n mid → task_at mid id ≡ Some task
  asker_stays to forced =
      asker_is_there image to (Enqueuer id) view sound is_heir (asks to) id task refl takes.runs.on.there (running_is_busy core task.status takes.runs.running) forced

split_sound : (image : ImageValue) (view : View) → Sound image view → (tile : ℕ) {n : ℕ} {mid : View}
    → MakesRoom tile Splitter view n mid → Sound image mid
split_sound image view sound tile forced =
    (room_follows image tile Splitter view sound (λ least. ap asker_of (sym (spilled_no_heir view tile sound.heir least sound.is_heir))) (spilled_asks view tile) forced).now

-- ---- events

pub lengths_same : (to : ℕ → ℕ) (qs : List (List ℕ)) → map length (map (map to) qs) ≡ map length qs
lengths_same to [] = refl
lengths_same to (q ∷ qs) = λ i. length-map q to i ∷ lengths_same to qs i

-- the tile that the serving placer picks is one
pub picked_alike : (r : IdPermutation) (old other : BookView) → AreAlikeBooks r old other → (hint : ℕ)
    → picked_tile other hint ≡ picked_tile old hint
picked_alike r old other alike hint =
    let lengths : loads other.view ≡ loads old.view = ap (map length) alike.view.queues ∙ lengths_same r.to old.view.queues in
    λ i. serving_tile (alike.placers i) hint (lengths i)

-- an event that is made takes as many back, leaves the same placers, and views that are alike
pub record OneMade (n m : ℕ) (new new' : View) (left left' : List Policy) : Type 0 where
  pub aborted : m ≡ n
  pub placers : left' ≡ left
  pub alike : AlikeSomehow new new'

-- a task and its partner ask for the same
module _ (r : IdPermutation) (a b : View) (alike : AreAlike r a b) where
  pub request_same : (task task' : Task) → IsAlikeTask r.to task task' → (leg : LegValue)
      → request_of b task' leg ≡ request_of a task leg
  request_same task task' like leg =
      λ i. request_at (context_of (version_same r a b alike i) (like.other_is i)) leg.to leg.stop

module _ (image : ImageValue) (r : IdPermutation) (a b : View) (sound : Sound image a) (sound' : Sound image b) (alike : AreAlike r a b) where
  dispatch_one : (tile n m : ℕ) (a' b' : View) → DispatchEvent tile a n a' → DispatchEvent tile b m b'
      → AbortAlike r n m a' b'
  dispatch_one tile n m a' b' one two =
      let core = cores_alike r a b alike sound'.heir sound'.order tile (holder_is_dispatched image b sound' tile) one.forced two.forced in
      let ready = frees_number_alike r one.mid two.mid core.alike one.ready two.ready one.number two.number in
      record {
        aborted = core.aborted;
        alike = dispatches_alike r one.ready two.ready ready tile a' b' one.change two.change;
      }

  abort_one : (tile n m : ℕ) (a' b' : View) → AbortEvent tile a n a' → AbortEvent tile b m b' → AbortAlike r n m a' b'
  abort_one tile n m a' b' one two =
      latest_taken r a b alike sound'.heir sound'.order (IsDispatched a tile) (IsDispatched b tile) (dispatched_too r a b alike tile) (dispatched_too (inverse_of r) b a (alike_turned r a b alike) tile)
      (λ k z is. is.there) (λ k z is. (is.there, is.dispatched)) one.id two.id one.task two.task one.latest two.latest n m a' b' one.aborts two.aborts

  pub line_same : b.settings.line ≡ a.settings.line
  line_same = ap (λ v. v.settings.line) alike.frame

  conflict_firsts : (task task' : Task) → IsAlikeTask r.to task task' → (offset : ℕ) (write : Bool)
      → AreFirsts r a (Conflicts a task (offset / a.settings.line) write) (Conflicts b task' (offset / b.settings.line) write)
  conflict_firsts task task' same offset write = record {
    there = λ k is. (is.other, is.later.there);
    to =
        λ k is. subst (λ (line : ℕ). Conflicts b task' (offset / line) write (r.to k)) (sym line_same) (conflicts_too r a b alike task task' same (offset / a.settings.line) write k is);
  }

  -- the running task is one
  pub record OneTaker (id id' : ℕ) (task task' : Task) : Type 0 where
    pub id_is : id' ≡ r.to id
    pub like : IsAlikeTask r.to task task'

  pub takers : (tile core : ℕ) (leg : LegValue) (id id' : ℕ) (task task' : Task) → TakesLeg a tile core leg id task
      → TakesLeg b tile core leg id' task' → OneTaker id id' task task'
  takers tile core leg id id' task task' one two =
      let t = running_too r a b alike tile core id task one.runs in
      let ids : Some (Some id') ≡ Some (Some (r.to id)) = sym two.runs.on.held ∙ t.is.on.held in
      let same : id' ≡ r.to id = cc in
      record {
        id_is = same;
        like =
            subst (λ z. IsAlikeTask r.to task z) (sym (task_one b id' (r.to id) task' t.y same two.runs.on.there t.is.on.there)) t.alike;
      }

-- an abort of the tasks in conflict with an access takes as many back, and leaves views that are alike
module _ (image : ImageValue) (r : IdPermutation) (a b : View) (sound : Sound image a) (sound' : Sound image b) (alike : AreAlike r a b) where
  conflicts_alike : (task task' : Task) → IsAlikeTask r.to task task'
      → (offset : ℕ) (write : Bool) (n m : ℕ) (a' b' : View)
      → Aborts (Conflicts a task (offset / a.settings.line) write) a n a'
      → Aborts (Conflicts b task' (offset / b.settings.line) write) b m b' → AbortAlike r n m a' b'
  conflicts_alike task task' same offset write n m a' b' one two =
      aborts_alike r a b alike (Conflicts a task (offset / a.settings.line) write) (Conflicts b task' (offset / b.settings.line) write)
      (conflict_firsts image r a b sound sound' alike task task' same offset write)
      (conflict_firsts image (inverse_of r) b a sound' sound (alike_turned r a b alike) task' task (task_turned r task task' same) offset write)
      n m a' b' one two

module _ (image : ImageValue) (r : IdPermutation) (old other : BookView) (sound : Sound image old.view) (sound' : Sound image other.view) (alike : AreAlikeBooks r old other) where
  quietly : (n m : ℕ) (new new' : View) (p p' : List Policy) → n ≡ 0 → m ≡ 0 → p ≡ old.placers → p' ≡ other.placers
      → AreAlike r new new' → OneMade n m new new' p p'
  quietly n m new new' p p' none none' same same' views =
      record { aborted = none' ∙ sym none; placers = same' ∙ (alike.placers ∙ sym same); alike = (r, views) }

  by_abort : (n m : ℕ) (new new' : View) (p p' : List Policy) → p ≡ old.placers → p' ≡ other.placers
      → AbortAlike r n m new new' → OneMade n m new new' p p'
  by_abort n m new new' p p' same same' taken =
      record { aborted = taken.aborted; placers = same' ∙ (alike.placers ∙ sym same); alike = (r, taken.alike) }

  module _ (tile core : ℕ) (leg : LegValue) (id : ℕ) (task task' : Task) (like : IsAlikeTask r.to task task')
      (takes : TakesLeg old.view tile core leg id task) (takes' : TakesLeg other.view tile core leg (r.to id) task') (n m : ℕ) (new new' : View) (p p' : List Policy) where
    enqueue_one : (spawn : Spawn) → EnqueueEvent tile core leg id task spawn old n new p
        → EnqueueEvent tile core leg (r.to id) task' spawn other m new' p' → OneMade n m new new' p p'
    enqueue_one spawn one two =
        let to = picked_tile old spawn.hint in
        let same = picked_alike r old other alike spawn.hint in
        let forced : MakesRoom to (Enqueuer (r.to id)) other.view m two.mid = subst (λ t. MakesRoom t (Enqueuer (r.to id)) other.view m two.mid) same two.forced in
        let change = subst (λ t. Enqueues (r.to id) task' leg spawn t two.mid new') same two.change in
        let room = rooms_alike r old.view other.view alike.view to (Enqueuer id) (holds_tasks image old.view sound) one.forced forced in
        let mid = room_sound image old.view sound tile core id leg task takes to one.forced in
        record {
          aborted = room.aborted;
          placers = two.told ∙ ((λ i. first_placed (alike.placers i) (same i)) ∙ sym one.told);
          alike =
              enqueues_alike r one.mid two.mid room.alike (holds_tasks image one.mid mid) id task task' (asker_stays image old.view sound tile core id leg task takes to one.forced)
              (asker_stays image other.view sound' tile core (r.to id) leg task' takes' to forced) leg spawn to new new' one.change change;
        }

    load_one : (width : LoadWidth) (rd offset : ℕ) → LoadEvent tile core leg id task width rd offset old.view n new
        → LoadEvent tile core leg (r.to id) task' width rd offset other.view m new' → AbortAlike r n m new new'
    load_one width rd offset one two =
        let taken = conflicts_alike image r old.view other.view sound sound' alike.view task task' like offset false n m one.mid two.mid one.forced two.forced in
        let cores = ap (λ mem. after_load_of leg.to width rd (number_at mem offset (load_width width))) (memory_same r one.mid two.mid taken.alike) in
        record {
          aborted = taken.aborted;
          alike =
              accesses_alike r one.mid two.mid taken.alike id task task' like (undo.Load offset (load_width width)) (after_load_of leg.to width rd (number_at one.mid.memory offset (load_width width)))
              (after_load_of leg.to width rd (number_at two.mid.memory offset (load_width width))) cores new new' one.change two.change;
        }

    store_one : (offset bytes value : ℕ) → StoreEvent tile core leg id task offset bytes value old.view n new
        → StoreEvent tile core leg (r.to id) task' offset bytes value other.view m new' → AbortAlike r n m new new'
    store_one offset bytes value one two =
        let taken = conflicts_alike image r old.view other.view sound sound' alike.view task task' like offset true n m one.mid two.mid one.forced two.forced in
        record {
          aborted = taken.aborted;
          alike =
              accesses_alike r one.mid two.mid taken.alike id task task' like (undo.Store offset bytes value) (after_other_of leg.to) (after_other_of leg.to) refl new new' one.change two.change;
        }

    end_one : EndEvent tile core leg id task old.view n new → EndEvent tile core leg (r.to id) task' other.view m new'
        → AbortAlike r n m new new'
    end_one one two =
        let freed = commit_alike r old.view other.view alike.view sound'.heir sound'.order tile task task' (finished_is_dispatched image other.view sound' tile) one.forced two.forced in
        record {
          aborted = freed.aborted;
          alike =
              finishes_alike r one.mid two.mid freed.alike tile core id task task' leg like new new' one.change two.change;
        }

    pub comes_one : (request : Request) → ComesTo tile core leg id task request old n new p
        → ComesTo tile core leg (r.to id) task' request other m new' p' → OneMade n m new new' p p'
    comes_one Continue one two = quietly n m new new' p p' one.1.none two.1.none one.1.same two.1.same
        (keeps_alike r old.view other.view alike.view id (record task { core = leg.to }) (record task' { core = leg.to }) (record { other_is = λ i. record (like.other_is i) { core = leg.to }; touched = like.touched; written = like.written }) new new' one.0 two.0)
    comes_one (Load width rd offset) one two =
        by_abort n m new new' p p' one.1 two.1 (load_one width rd offset one.0 two.0)
    comes_one (Store offset bytes value) one two =
        by_abort n m new new' p p' one.1 two.1 (store_one offset bytes value one.0 two.0)
    comes_one (Enqueue spawn) one two = enqueue_one spawn one two
    comes_one (MakeSub kind) one two = quietly n m new new' p p' one.1.none two.1.none one.1.same two.1.same
        (keeps_alike r old.view other.view alike.view id (record (task_past_leg task leg) { sub = Some kind }) (record (task_past_leg task' leg) { sub = Some kind }) (record { other_is = λ i. record (task_past_leg (like.other_is i) leg) { sub = Some kind }; touched = like.touched; written = like.written }) new new' one.0 two.0)
    comes_one (Emit byte) one two = quietly n m new new' p p' one.1.none two.1.none one.1.same two.1.same
        (keeps_alike r old.view other.view alike.view id (record (task_past_leg task leg) { bytes = task.bytes ++ byte ∷ [] }) (record (task_past_leg task' leg) { bytes = task'.bytes ++ byte ∷ [] })
        (record { other_is = λ i. record (task_past_leg (like.other_is i) leg) { bytes = (like.other_is i).bytes ++ byte ∷ [] }; touched = like.touched; written = like.written }) new new' one.0 two.0)
    comes_one End one two = by_abort n m new new' p p' one.1 two.1 (end_one one.0 two.0)
    comes_one (Trap cause) one two = quietly n m new new' p p' one.1.none two.1.none one.1.same two.1.same
        (keeps_alike r old.view other.view alike.view id (record task { core = leg.to; status = status.Trapped core cause }) (record task' { core = leg.to; status = status.Trapped core cause })
        (record { other_is = λ i. record (like.other_is i) { core = leg.to; status = status.Trapped core cause }; touched = like.touched; written = like.written }) new new' one.0 two.0)

  step_one : (tile core : ℕ) (leg : LegValue) (n m : ℕ) (new new' : View) (p p' : List Policy)
      → StepEvent tile core leg old n new p → StepEvent tile core leg other m new' p' → OneMade n m new new' p p'
  step_one tile core leg n m new new' p p' one two =
      let same = takers image r old.view other.view sound sound' alike.view tile core leg one.id two.id one.task two.task one.takes two.takes in
      let takes' : TakesLeg other.view tile core leg (r.to one.id) two.task = subst (λ k. TakesLeg other.view tile core leg k two.task) same.id_is two.takes in
      let request = request_same r old.view other.view alike.view one.task two.task same.like leg in
      let comes' = subst (λ k. ComesTo tile core leg k two.task (request_of old.view one.task leg) other m new' p') same.id_is (subst (λ q. ComesTo tile core leg two.id two.task q other m new' p') request two.comes) in
      comes_one tile core leg one.id one.task two.task same.like one.takes takes' n m new new' p p' (request_of old.view one.task leg) one.comes comes'

  split_one : (tile n m : ℕ) (new new' : View) (p p' : List Policy) → p ≡ old.placers → p' ≡ other.placers
      → SplitEvent tile old.view n new → SplitEvent tile other.view m new' → OneMade n m new new' p p'
  split_one tile n m new new' p p' same same' one two =
      let room = rooms_alike r old.view other.view alike.view tile Splitter (holds_tasks image old.view sound) one.forced two.forced in
      record {
        aborted = room.aborted;
        placers = same' ∙ (alike.placers ∙ sym same);
        alike =
            splits_alike r one.mid two.mid room.alike (holds_tasks image one.mid (split_sound image old.view sound tile one.forced)) tile new new' one.change two.change;
      }

  commit_one : (n m : ℕ) (new new' : View) (p p' : List Policy) → Makes {N = ℕ} old event.Commit n new p
      → Makes {N = ℕ} other event.Commit m new' p' → OneMade n m new new' p p'
  commit_one n m new new' p p' one two =
      let views = commits_alike r old.view other.view alike.view new new' one.0 two.0 in
      let count : length new'.history ≡ length new.history = ap (λ v. length v.history) views.frame in
      record {
        aborted = two.1 ∙ sym one.1;
        placers =
            two.2
            ∙ ((λ i. placers_after_commit (settings_same r old.view other.view alike.view i).phase (count i) (alike.placers i)) ∙ sym one.2);
        alike = (r, views);
      }

  -- an event that is made
  pub makes_one : (N : Type 0) (event : Event N) (n m : ℕ) (new new' : View) (p p' : List Policy)
      → Makes old event n new p → Makes other event m new' p' → OneMade n m new new' p p'
  makes_one N (event.Dispatch tile) n m new new' p p' one two =
      by_abort n m new new' p p' one.1 two.1 (dispatch_one image r old.view other.view sound sound' alike.view tile n m new new' one.0 two.0)
  makes_one N (event.Step tile core leg) n m new new' p p' one two = step_one tile core leg n m new new' p p' one two
  makes_one N (event.Abort tile) n m new new' p p' one two =
      by_abort n m new new' p p' one.1 two.1 (abort_one image r old.view other.view sound sound' alike.view tile n m new new' one.0 two.0)
  makes_one N event.Commit n m new new' p p' one two = commit_one n m new new' p p' one two
  makes_one N (event.Coalesce tile) n m new new' p p' one two =
      quietly n m new new' p p' one.1.none two.1.none one.1.same two.1.same (coalesces_alike r old.view other.view alike.view tile new new' one.0 two.0)
  makes_one N (event.Split tile) n m new new' p p' one two = split_one tile n m new new' p p' one.1 two.1 one.0 two.0
