-- Two openings are alike.
use Rattle.std.proofs.Common.{◌≡◌, ◌<◌, zero, suc, ℕ, List, [], ◌∷◌, map, length, Option, Some, None, option_map}
use Rattle.std.proofs.Common.{is_some, refl, sym, ap, subst, ◌∙◌, inl, inr, ◌⊎◌, arith}
use Rattle.std.specs.Prelude.{slice_get, slice_index_or, Contains, replicate}
use Rattle.std.specs.List.{enumerate_from}
use Rattle.std.proofs.lemmas.Bool.{cases_eq}
use Rattle.guest_image.specs.declared.image.ImageTask.{ImageTask}
use Rattle.guest_image.specs.declared.image.Kind.{Kind}
use Rattle.guest_image.specs.ImageValue.{ImageValue}
use Rattle.place_policy.specs.Serving.{first_placed}
use Rattle.step_script.specs.spec_state.declared.settings.Settings.{Settings}
use Rattle.step_script.specs.task_law.Room.{queue_after}
use Rattle.step_script.specs.spec_state.declared.task.Creator.TheVariants.{Committed}
use Rattle.step_script.specs.spec_state.declared.task.Task.{Task}
use Rattle.step_script.specs.spec_state.View.{View, task_at, queue_at, finished_at, cores_at, queued_last, ChangesTask}
use Rattle.step_script.specs.spec_state.Tasks.{idle_task}
use Rattle.step_script.specs.spec_state.Groups.{room_tasks, live_creator}
use Rattle.step_script.specs.spec_state.Opening.{IsEmptyView}
use Rattle.step_script.specs.spec_state.Room.{QueueHasRoom, IsFull, Coalesces}
use Rattle.step_script.proofs.Below.spec_law.Proved.{queue_filtered, filter_is, contains_in, in_contains}
use Rattle.step_script.specs.event_def.Book.{BookView, picked_tile}
use Rattle.step_script.specs.event_def.Opening.{PlacesImageTask, PlacesAll, opening_book, image_descriptor}
use Rattle.step_script.proofs.Below.event_law.Proved.{kept_at, last_was, opening_is_sound, there_of, none_held}
use Rattle.outcome_law.specs.Alike.{IdPermutation, IsAlikeAt, AreAlike, AreAlikeBooks}
use Rattle.outcome_law.specs.Laws.{AreSameBooks, OpeningIsOne, ScriptIsOne}
use Rattle.outcome_law.proofs.Closes.{close_is_one}
use Rattle.outcome_law.proofs.Leasts.{end_is_alike}
use Rattle.outcome_law.proofs.Scripts.{play_is_one}
use Rattle.outcome_law.proofs.Anew.{HoldsTasks, IsThere, with_new, named_so, alike_anew}
use Rattle.outcome_law.proofs.Changes.{changed_alike, ended_alike, version_same}
use Rattle.outcome_law.proofs.Chosen.{in_or_not}
use Rattle.outcome_law.proofs.Events.{picked_alike}
use Rattle.outcome_law.proofs.Moves.{coalesces_alike}
use Rattle.outcome_law.proofs.News.{idle_alike}
use Rattle.outcome_law.proofs.Rooms.{has_room_too, full_too}

-- each queued id is that of a task, none is finished or on a core, and each task has a committed creator
record IsFresh (view : View) : Type 0 where
  queued : (tile k : ℕ) → Contains (queue_at view tile) k → IsThere view k
  ended : (tile k : ℕ) → Contains (finished_at view tile) k → ⊥
  held : (tile core k : ℕ) → slice_get (cores_at view tile) core ≡ Some (Some k) → ⊥
  rooted : (k : ℕ) (x : Task) → task_at view k ≡ Some x → live_creator x.creator ≡ None

fresh_holds : (view : View) → IsFresh view → HoldsTasks view
fresh_holds view is = record {
  queued = is.queued;
  ended = λ tile k has. absurd (is.ended tile k has);
  held = λ tile core k has. absurd (is.held tile core k has);
  creators =
      λ k x task index there made. absurd (let clash : None ≡ Some task.0 = sym (is.rooted k x there) ∙ ap live_creator made in cc (clash));
}

-- ---- the view without a task

none_stands : {X : Type 0} (n tile : ℕ) → slice_index_or {A = List X} (replicate n []) tile [] ≡ []
none_stands zero tile = refl
none_stands (suc n) zero = refl
none_stands (suc n) (suc tile) = none_stands n tile

not_in_none : (ids : List ℕ) (k : ℕ) → ids ≡ [] → Contains ids k → ⊥
not_in_none ids k none has =
    absurd (let low : has.0 < length ids = has.1 in let size : length ids ≡ 0 = ap length none in omega arith)

module _ (image : ImageValue) (settings : Settings) where
  empty_fresh : (view : View) → IsEmptyView image settings view → IsFresh view
  empty_fresh view is = record {
    queued =
        λ tile k has. absurd (not_in_none (queue_at view tile) k (ap (λ v. queue_at v tile) is.frame ∙ none_stands settings.tiles tile) has);
    ended =
        λ tile k has. not_in_none (finished_at view tile) k (ap (λ v. finished_at v tile) is.frame ∙ none_stands settings.tiles tile) has;
    held =
        λ tile core k at. none_held settings.tiles settings.cores tile core k (sym (ap (λ v. slice_get (cores_at v tile) core) is.frame) ∙ at);
    rooted = λ k x there. absurd (let clash : None ≡ Some x = sym (is.none k) ∙ there in cc (clash));
  }

same_permutation : IdPermutation
same_permutation = record { to = λ k. k; from = λ k. k; back = λ k. refl; forth = λ k. refl }

module _ (image : ImageValue) (settings : Settings) (a b : View) (one : IsEmptyView image settings a) (two : IsEmptyView image settings b) where
  none_alike : (s t : Option Task) → s ≡ None → t ≡ None → IsAlikeAt (λ k. k) s t
  none_alike s t e f = subst (λ x. IsAlikeAt (λ k. k) x t) (sym e) (subst (λ y. IsAlikeAt (λ k. k) None y) (sym f) tt)

  mapped_none : {X : Type 0} (f : X → X) (n : ℕ) (x : X) → f x ≡ x → map f (replicate n x) ≡ replicate n x
  mapped_none f zero x same = refl
  mapped_none f (suc n) x same = λ i. same i ∷ mapped_none f n x same i

  empty_alike : (r : IdPermutation) → r.to ≡ (λ k. k) → AreAlike r a b
  empty_alike r same = record {
    tasks =
        λ k. subst (λ (to : ℕ → ℕ). IsAlikeAt to (task_at a k) (task_at b (to k))) (sym same) (none_alike (task_at a k) (task_at b k) (one.none k) (two.none k));
    queues =
        ap (λ v. v.queues) two.frame
        ∙ (sym (mapped_none (map r.to) settings.tiles [] refl) ∙ ap (λ v. map (map r.to) v.queues) (sym one.frame));
    finished =
        ap (λ v. v.finished) two.frame
        ∙ (sym (mapped_none (map r.to) settings.tiles [] refl) ∙ ap (λ v. map (map r.to) v.finished) (sym one.frame));
    cores =
        ap (λ v. v.cores) two.frame
        ∙ (sym (mapped_none (map (option_map r.to)) settings.tiles (replicate settings.cores None) (mapped_none (option_map r.to) settings.cores None refl)) ∙ ap (λ v. map (map (option_map r.to)) v.cores) (sym one.frame));
    frame =
        two.frame
        ∙ (ap {A = View} (λ v. record v { tasks = b.tasks }) (sym one.frame) ∙ (ap {A = View} (λ v. record a { tasks = b.tasks; queues = v.queues; finished = v.finished; cores = v.cores }) one.frame ∙ ap {A = View} (λ v. record a { tasks = b.tasks; queues = v.queues; finished = v.finished; cores = v.cores }) (sym two.frame)));
  }

-- ---- placing

coalesced_fresh : (tile : ℕ) (old new : View) → IsFresh old → Coalesces tile old new → IsFresh new
coalesced_fresh tile old new is c = record {
  queued = λ t k has.
      (let at : queue_at new t ≡ queue_after (room_tasks new) (queue_at old t) = ap (λ (qs : List (List ℕ)). slice_index_or qs t []) c.queues ∙ kept_at (room_tasks new) old.queues t in
      let left = subst (λ (q : List ℕ). Contains q k) (at ∙ queue_filtered (room_tasks new) (queue_at old t)) has in
      there_of (task_at new k) (filter_is (λ j. is_some (room_tasks new j)) (queue_at old t) k left));
  ended = λ t k has. is.ended t k (subst (λ v. Contains (finished_at v t) k) c.frame has);
  held = λ t core k at. is.held t core k (sym (ap (λ v. slice_get (cores_at v t) core) c.frame) ∙ at);
  rooted = λ k x there. elim (in_or_not k c.ids) [
    | inl moved ↦ absurd (let clash : None ≡ Some x = sym (c.gone k (in_contains c.ids k moved)) ∙ there in cc (clash))
    | inr stays ↦ is.rooted k x (sym (c.others k (λ has. stays (contains_in c.ids k has))) ∙ there)
  ];
}

module _ (kind : Kind) (index : ℕ) (task : ImageTask) where
  mid_fresh : (old new : BookView) → IsFresh old.view → (p : PlacesImageTask kind index task old new) → IsFresh p.mid
  mid_fresh old new is p = elim p.room [
    | inl free ↦ subst IsFresh (sym free.1) is
    | inr full ↦ coalesced_fresh (picked_tile old index) old.view p.mid is full.1
  ]

  placed_fresh : (old new : BookView) → IsFresh old.view → PlacesImageTask kind index task old new → IsFresh new.view
  placed_fresh old new is p =
      let mid = mid_fresh old new is p in
      record {
        queued = λ t k has. elim (cases_eq k p.id) [
          | inl here ↦ subst (IsThere new.view) (sym here) (idle_task p.mid.version (image_descriptor kind index task) (Committed 0 index) (picked_tile old index), p.changes.changed)
          | inr other ↦ elim (last_was p.mid.queues (picked_tile old index) p.id t k (subst (λ (qs : List (List ℕ)). Contains (slice_index_or qs t []) k) p.queues has)) [
            | inl was ↦ (let there = mid.queued t k was in (there.0, p.changes.others k other ∙ there.1))
            | inr last ↦ absurd (other last.1)
          ]
        ];
        ended = λ t k has. mid.ended t k (subst (λ v. Contains (finished_at v t) k) p.frame has);
        held = λ t core k at. mid.held t core k (sym (ap (λ v. slice_get (cores_at v t) core) p.frame) ∙ at);
        rooted = λ k x there. elim (cases_eq k p.id) [
          | inl here ↦ (let both : Some (idle_task p.mid.version (image_descriptor kind index task) (Committed 0 index) (picked_tile old index)) ≡ Some x = sym p.changes.changed ∙ (ap (task_at new.view) (sym here) ∙ there) in
              let same : idle_task p.mid.version (image_descriptor kind index task) (Committed 0 index) (picked_tile old index) ≡ x = cc in
              sym (ap (λ (t : Task). live_creator t.creator) same))
          | inr other ↦ mid.rooted k x (sym (p.changes.others k other) ∙ there)
        ];
      }

  room_alike : (r : IdPermutation) (a b mid mid' : View) (tile : ℕ) → AreAlike r a b
      → (QueueHasRoom a tile × (mid ≡ a)) ⊎ (IsFull a tile × Coalesces tile a mid)
      → (QueueHasRoom b tile × (mid' ≡ b)) ⊎ (IsFull b tile × Coalesces tile b mid') → AreAlike r mid mid'
  room_alike r a b mid mid' tile alike (inl free) (inl free') =
      subst (λ x. AreAlike r x mid') (sym free.1) (subst (λ y. AreAlike r a y) (sym free'.1) alike)
  room_alike r a b mid mid' tile alike (inl free) (inr full) =
      absurd (let low = has_room_too r a b alike tile free.0 in let high = full.0 in omega arith)
  room_alike r a b mid mid' tile alike (inr full) (inl free) =
      absurd (let high = full_too r a b alike tile full.0 in let low = free.0 in omega arith)
  room_alike r a b mid mid' tile alike (inr full) (inr full') = coalesces_alike r a b alike tile mid mid' full.1 full'.1

  placed_one : (r : IdPermutation) (old other new new' : BookView) → AreAlikeBooks r old other → IsFresh old.view
      → PlacesImageTask kind index task old new → PlacesImageTask kind index task other new' → AreSameBooks new new'
  placed_one r old other new new' alike fresh one two =
      let tile = picked_tile old index in
      let same = picked_alike r old other alike index in
      let room' = subst (λ (t : ℕ). (QueueHasRoom other.view t × (two.mid ≡ other.view)) ⊎ (IsFull other.view t × Coalesces t other.view two.mid)) same two.room in
      let mids = room_alike r old.view other.view one.mid two.mid tile alike.view one.room room' in
      let holds = fresh_holds one.mid (mid_fresh old new fresh one) in
      let s = with_new r one.id two.id in
      let now = alike_anew r one.mid two.mid mids holds one.id two.id one.vacant two.vacant in
      let name : s.to one.id ≡ two.id = named_so r one.id two.id in
      let placed : Task = idle_task one.mid.version (image_descriptor kind index task) (Committed 0 index) tile in
      let tasks : idle_task two.mid.version (image_descriptor kind index task) (Committed 0 index) (picked_tile other index) ≡ placed = λ i. idle_task (version_same s one.mid two.mid now i) (image_descriptor kind index task) (Committed 0 index) (same i) in
      let changes : ChangesTask two.mid new'.view (s.to one.id) (Some placed) = subst (λ k. ChangesTask two.mid new'.view k (Some placed)) (sym name) (subst (λ t. ChangesTask two.mid new'.view two.id (Some t)) tasks two.changes) in
      let queues : new'.view.queues ≡ queued_last two.mid tile (s.to one.id) = two.queues ∙ (λ i. queued_last two.mid (same i) (sym name i)) in (
        s,
        record {
          view = record {
            tasks =
                changed_alike s one.mid two.mid new.view new'.view now one.id (Some placed) (Some placed) (idle_alike s.to one.mid.version (image_descriptor kind index task) (Committed 0 index) tile) one.changes changes;
            queues =
                queues
                ∙ (ended_alike s one.mid two.mid now one.mid.queues two.mid.queues now.queues tile one.id ∙ ap (map (map s.to)) (sym one.queues));
            finished =
                ap (λ v. v.finished) two.frame ∙ (now.finished ∙ ap (λ v. map (map s.to) v.finished) (sym one.frame));
            cores =
                ap (λ v. v.cores) two.frame
                ∙ (now.cores ∙ ap (λ v. map (map (option_map s.to)) v.cores) (sym one.frame));
            frame =
                two.frame
                ∙ (ap {A = View} (λ v. record v { tasks = new'.view.tasks; queues = new'.view.queues }) mids.frame
                ∙ (ap {A = View} (λ v. record v { tasks = new'.view.tasks; queues = new'.view.queues; finished = two.mid.finished; cores = two.mid.cores }) (sym one.frame)
                ∙ ap {A = View} (λ v. record new.view { tasks = new'.view.tasks; queues = new'.view.queues; finished = v.finished; cores = v.cores }) (sym two.frame)));
          };
          placers = two.told ∙ ((λ i. first_placed (alike.placers i) (same i)) ∙ sym one.told);
          taps = ap (λ (v : BookView). v.taps) two.same ∙ (alike.taps ∙ sym (ap (λ (v : BookView). v.taps) one.same));
          steps =
              ap (λ (v : BookView). v.steps) two.same ∙ (alike.steps ∙ sym (ap (λ (v : BookView). v.steps) one.same));
          stopped =
              ap (λ (v : BookView). v.stopped) two.same
              ∙ (alike.stopped ∙ sym (ap (λ (v : BookView). v.stopped) one.same));
        },
      )

all_placed : (kind : Kind) (tasks : List (ℕ × ImageTask)) (old other new new' : BookView) → AreSameBooks old other
    → IsFresh old.view → PlacesAll kind tasks old new → PlacesAll kind tasks other new' → AreSameBooks new new'
all_placed kind [] old other new new' same fresh one two =
    subst (λ (x : BookView). AreSameBooks x new') one (subst (λ (y : BookView). AreSameBooks old y) two same)
all_placed kind (e ∷ es) old other new new' same fresh one two =
    all_placed kind es one.0 two.0 new new' (placed_one kind e.0 e.1 same.0 old other one.0 two.0 same.1 fresh one.1 two.1) (placed_fresh kind e.0 e.1 old one.0 fresh one.1) one.2 two.2

pub opening_is_one : OpeningIsOne
unfolding same_permutation
opening_is_one image settings placers taps book other one two =
    let empty = empty_alike image settings one.empty two.empty one.is_empty two.is_empty same_permutation refl in
    all_placed image.kind (enumerate_from 0 image.tasks) (opening_book one.empty placers taps) (opening_book two.empty placers taps) book other
    (same_permutation, record { view = empty; placers = refl; taps = refl; steps = refl; stopped = refl })
    (empty_fresh image settings one.empty one.is_empty) one.placed two.placed

-- so a script from the opening on says and leaves the same
pub script_is_one : (N : Type 0) → ScriptIsOne N
script_is_one N image settings placers taps script first other new other_new said other_said is_image valid one two inside plays plays' =
    let sound = opening_is_sound image settings placers taps first is_image valid one in
    let sound' = opening_is_sound image settings placers taps other is_image valid two in
    let played = play_is_one N image script first other new other_new said other_said sound sound' (opening_is_one image settings placers taps first other one two) inside plays plays' in (
      played.0,
      (λ closed other_closed left left'. close_is_one new other_new closed other_closed played.1 left left'),
      (λ end has. end_is_alike played.1.0 new.view other_new.view end played.1.1.view has),
    )
