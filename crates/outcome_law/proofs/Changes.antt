-- The one change of an event leaves views that are alike.
use Rattle.std.proofs.Common.{◌≡◌, ◌+◌, ◌++◌, ℕ, List, [], ◌∷◌, map, Option, Some, None, option_map, sym, ap, subst}
use Rattle.std.proofs.Common.{◌∙◌, inl, inr, arith}
use Rattle.std.specs.Prelude.{slice_index_or, slice_set}
use Rattle.std.proofs.lemmas.Bool.{cases_eq}
use Rattle.std.proofs.lemmas.List.{map-set, map-append}
use Rattle.line_table.specs.Lines.{touched_by, wrote_by}
use Rattle.line_table.proofs.Proved.{lines_agree}
use Rattle.memory_law.specs.Notes.{notes_of}
use Rattle.rv_core.specs.declared.state.Core.{Core}
use Rattle.rv_core.specs.LegValue.{LegValue}
use Rattle.undo_log.specs.Undo.{MemoryCall, access_of, after_call}
use Rattle.step_script.specs.spec_state.declared.task.Status.TheVariants as status
use Rattle.step_script.specs.spec_state.declared.task.Task.{Task}
use Rattle.step_script.specs.spec_state.View.{View, task_at, cores_at, ChangesTask}
use Rattle.step_script.specs.spec_state.Changes.{Dispatches, Keeps, Accesses, Finishes, with_core, task_past_leg}
use Rattle.step_script.specs.spec_state.Tasks.{start_core}
use Rattle.step_script.specs.spec_state.Filters.{HasNotes}
use Rattle.step_script.proofs.Below.spec_state.Proved.{map_at, told_touched, told_written}
use Rattle.outcome_law.specs.Alike.{IdPermutation, IsAlikeTask, IsAlikeAt, AreAlike}
use Rattle.outcome_law.proofs.Alike.{partner}
use Rattle.outcome_law.proofs.Leasts.{cores_too}
use Rattle.outcome_law.proofs.Queries.{least_idle_too, lowest_free_too}
use Rattle.outcome_law.proofs.Picks.{lowest_free_one, task_one}
use Rattle.outcome_law.proofs.Aborts.{one_to}
use Rattle.step_script.proofs.Below.spec_law.Proved.{one_least_idle}

-- one task changes, and its partner changes alike
pub changed_alike : (r : IdPermutation) (a b a' b' : View) → AreAlike r a b → (id : ℕ) (s t : Option Task)
    → IsAlikeAt r.to s t
    → ChangesTask a a' id s → ChangesTask b b' (r.to id) t → (k : ℕ)
    → IsAlikeAt r.to (task_at a' k) (task_at b' (r.to k))
changed_alike r a b a' b' alike id s t same one two k = elim (cases_eq k id) [
  | inl here ↦ subst (λ u. IsAlikeAt r.to u (task_at b' (r.to k))) (sym (ap (task_at a') here ∙ one.changed))
      (subst (λ u. IsAlikeAt r.to s u) (sym (ap (λ j. task_at b' (r.to j)) here ∙ two.changed)) same)
  | inr other ↦ subst (λ u. IsAlikeAt r.to u (task_at b' (r.to k))) (sym (one.others k other))
      (subst (λ u. IsAlikeAt r.to (task_at a k) u) (sym (two.others (r.to k) (λ e. other (one_to r k id e)))) (alike.tasks k))
]

module _ (r : IdPermutation) (a b : View) (alike : AreAlike r a b) where
  pub settings_same : b.settings ≡ a.settings
  settings_same = ap (λ v. v.settings) alike.frame

  pub version_same : b.version ≡ a.version
  version_same = ap (λ v. v.version) alike.frame

  pub memory_same : b.memory ≡ a.memory
  memory_same = ap (λ v. v.memory) alike.frame

  -- a task that is another one in some of its fields, and its partner
  pub keeps_alike : (id : ℕ) (now now' : Task) → IsAlikeTask r.to now now' → (a' b' : View) → Keeps id now a a'
      → Keeps (r.to id) now' b b' → AreAlike r a' b'
  keeps_alike id now now' same a' b' one two = record {
    tasks = changed_alike r a b a' b' alike id (Some now) (Some now') same one.changes two.changes;
    queues = ap (λ v. v.queues) two.frame ∙ (alike.queues ∙ ap (λ v. map (map r.to) v.queues) (sym one.frame));
    finished = ap (λ v. v.finished) two.frame ∙ (alike.finished ∙ ap (λ v. map (map r.to) v.finished) (sym one.frame));
    cores = ap (λ v. v.cores) two.frame ∙ (alike.cores ∙ ap (λ v. map (map (option_map r.to)) v.cores) (sym one.frame));
    frame =
        two.frame
        ∙ (ap {A = View} (λ v. record v { tasks = b'.tasks }) alike.frame ∙ ap {A = View} (λ v. record v { tasks = b'.tasks; queues = b.queues; finished = b.finished; cores = b.cores }) (sym one.frame)
        ∙ ap {A = View} (λ v. record a' { tasks = b'.tasks; queues = v.queues; finished = v.finished; cores = v.cores }) (sym two.frame));
  }

  -- the cores with another holder
  pub with_core_alike : (tile core : ℕ) (holder : Option ℕ)
      → with_core b tile core (option_map r.to holder) ≡ map (map (option_map r.to)) (with_core a tile core holder)
  with_core_alike tile core holder =
      (λ i. slice_set (alike.cores i) tile (slice_set (cores_too r a b alike tile i) core (option_map r.to holder)))
      ∙ (ap (slice_set (map (map (option_map r.to)) a.cores) tile) (sym (map-set (option_map r.to) (cores_at a tile) core holder))
      ∙ sym (map-set (map (option_map r.to)) a.cores tile (slice_set (cores_at a tile) core holder)))

  -- a dispatch
  pub dispatches_alike : (tile : ℕ) (a' b' : View) → Dispatches tile a a' → Dispatches tile b b' → AreAlike r a' b'
  dispatches_alike tile a' b' one two =
      let least = least_idle_too r a b alike tile one.id one.task one.least in
      let ids : two.id ≡ r.to one.id = one_least_idle b tile two.id (r.to one.id) two.task least.y two.least least.is in
      let tasks : two.task ≡ least.y = task_one b two.id (r.to one.id) two.task least.y ids two.least.idle.there least.is.idle.there in
      let core : two.core ≡ one.core = lowest_free_one b tile two.core one.core two.free (lowest_free_too r a b alike tile one.core one.free) in
      let next : b.next ≡ a.next = ap (λ v. v.next) alike.frame in
      let now : Task = record one.task { key = record one.task.key { tb = Some a.next }; status = status.Running one.core; core = start_core a.version one.task } in
      let now' : Task = record two.task { key = record two.task.key { tb = Some b.next }; status = status.Running two.core; core = start_core b.version two.task } in
      let like : IsAlikeTask r.to one.task two.task = subst (λ t. IsAlikeTask r.to one.task t) (sym tasks) least.alike in
      let same : IsAlikeTask r.to now now' = record {
        other_is =
            (λ i. record (like.other_is i) { key = record (like.other_is i).key { tb = Some (next i) }; status = status.Running (core i); core = start_core (version_same i) (like.other_is i) });
        touched = λ line. like.touched line;
        written = λ line. like.written line;
      } in
      record {
        tasks =
            changed_alike r a b a' b' alike one.id (Some now) (Some now') same one.changes (subst (λ k. ChangesTask b b' k (Some now')) ids two.changes);
        queues = ap (λ v. v.queues) two.frame ∙ (alike.queues ∙ ap (λ v. map (map r.to) v.queues) (sym one.frame));
        finished =
            ap (λ v. v.finished) two.frame ∙ (alike.finished ∙ ap (λ v. map (map r.to) v.finished) (sym one.frame));
        cores =
            two.cores
            ∙ ((λ i. with_core b tile (core i) (Some (ids i))) ∙ (with_core_alike tile one.core (Some one.id) ∙ ap (map (map (option_map r.to))) (sym one.cores)));
        frame = (let nexts : b'.next ≡ a'.next = two.next ∙ (ap (λ n. n + 1) next ∙ sym one.next) in
            two.frame
            ∙ (ap {A = View} (λ v. record v { tasks = b'.tasks; next = b'.next; cores = b'.cores }) alike.frame
            ∙ (ap {A = ℕ} (λ n. record a { tasks = b'.tasks; queues = b.queues; finished = b.finished; next = n; cores = b'.cores }) nexts
            ∙ (ap {A = View} (λ v. record v { tasks = b'.tasks; queues = b.queues; finished = b.finished; cores = b'.cores }) (sym one.frame)
            ∙ ap {A = View} (λ v. record a' { tasks = b'.tasks; queues = v.queues; finished = v.finished; cores = b'.cores }) (sym two.frame)))));
      }

  -- an access
  pub accesses_alike : (id : ℕ) (task task' : Task) → IsAlikeTask r.to task task'
      → (call : MemoryCall) (core core' : Core) → core' ≡ core → (a' b' : View)
      → Accesses id task call core a a' → Accesses (r.to id) task' call core' b b' → AreAlike r a' b'
  accesses_alike id task task' like call core core' cores a' b' one two =
      let logs : task'.log ++ access_of b.memory call ∷ [] ≡ task.log ++ access_of a.memory call ∷ [] = λ i. (like.other_is i).log ++ access_of (memory_same i) call ∷ [] in
      let log = task.log ++ access_of a.memory call ∷ [] in
      let noted : HasNotes a.settings two.lines log =
      subst (λ s. HasNotes s two.lines log) settings_same (subst (HasNotes b.settings two.lines) logs two.notes) in
      let now : Task = record task { core = core; log = task.log ++ access_of a.memory call ∷ []; lines = one.lines } in
      let now' : Task = record task' { core = core'; log = task'.log ++ access_of b.memory call ∷ []; lines = two.lines } in
      let agree = lines_agree a.settings.filter a.settings.line two.lines one.lines (notes_of a.settings.line log)
      noted one.notes in
      let same : IsAlikeTask r.to now now' = record {
        other_is = (λ i. record (like.other_is i) { core = cores i; log = logs i; lines = two.lines });
        touched = λ line. ap (λ l. touched_by two.lines (notes_of two.lines.size l) line) logs
            ∙ told_touched a.settings (record task { log = log; lines = two.lines }) line noted
            ∙ (agree line).0
            ∙ sym (told_touched a.settings now line one.notes);
        written = λ line. ap (λ l. wrote_by two.lines (notes_of two.lines.size l) line) logs
            ∙ told_written a.settings (record task { log = log; lines = two.lines }) line noted
            ∙ (agree line).1
            ∙ sym (told_written a.settings now line one.notes);
      } in
      let memory : b'.memory ≡ a'.memory = two.memory ∙ (ap (λ m. after_call m call) memory_same ∙ sym one.memory) in
      record {
        tasks = changed_alike r a b a' b' alike id (Some now) (Some now') same one.changes two.changes;
        queues = ap (λ v. v.queues) two.frame ∙ (alike.queues ∙ ap (λ v. map (map r.to) v.queues) (sym one.frame));
        finished =
            ap (λ v. v.finished) two.frame ∙ (alike.finished ∙ ap (λ v. map (map r.to) v.finished) (sym one.frame));
        cores =
            ap (λ v. v.cores) two.frame ∙ (alike.cores ∙ ap (λ v. map (map (option_map r.to)) v.cores) (sym one.frame));
        frame = two.frame ∙ (ap {A = View} (λ v. record v { tasks = b'.tasks; memory = b'.memory }) alike.frame
            ∙ (ap {A = List ℕ} (λ m. record a { tasks = b'.tasks; queues = b.queues; finished = b.finished; cores = b.cores; memory = m }) memory
            ∙ (ap {A = View} (λ v. record v { tasks = b'.tasks; queues = b.queues; finished = b.finished; cores = b.cores }) (sym one.frame)
            ∙ ap {A = View} (λ v. record a' { tasks = b'.tasks; queues = v.queues; finished = v.finished; cores = v.cores }) (sym two.frame))));
      }

  -- one id more at the end of one of several lists
  pub ended_alike : (lists lists' : List (List ℕ)) → lists' ≡ map (map r.to) lists → (tile id : ℕ)
      → slice_set lists' tile (slice_index_or lists' tile [] ++ r.to id ∷ []) ≡ map (map r.to) (slice_set lists tile (slice_index_or lists tile [] ++ id ∷ []))
  ended_alike lists lists' same tile id =
      let own : slice_index_or lists' tile [] ≡ map r.to (slice_index_or lists tile []) = ap (λ (qs : List (List ℕ)). slice_index_or qs tile []) same ∙ map_at (map r.to) lists tile [] in
      (λ i. slice_set (same i) tile (own i ++ r.to id ∷ []))
      ∙ (ap (slice_set (map (map r.to) lists) tile) (sym (map-append r.to (slice_index_or lists tile []) (id ∷ [])))
      ∙ sym (map-set (map r.to) lists tile (slice_index_or lists tile [] ++ id ∷ [])))

  -- an end call
  pub finishes_alike : (tile core id : ℕ) (task task' : Task) (leg : LegValue) → IsAlikeTask r.to task task'
      → (a' b' : View)
      → Finishes tile core id task leg a a' → Finishes tile core (r.to id) task' leg b b' → AreAlike r a' b'
  finishes_alike tile core id task task' leg like a' b' one two =
      let now : Task = record (task_past_leg task leg) { status = status.Finished } in
      let now' : Task = record (task_past_leg task' leg) { status = status.Finished } in
      let same : IsAlikeTask r.to now now' = record {
        other_is = (λ i. record (task_past_leg (like.other_is i) leg) { status = status.Finished });
        touched = λ line. like.touched line;
        written = λ line. like.written line;
      } in
      record {
        tasks = changed_alike r a b a' b' alike id (Some now) (Some now') same one.changes two.changes;
        queues = ap (λ v. v.queues) two.frame ∙ (alike.queues ∙ ap (λ v. map (map r.to) v.queues) (sym one.frame));
        finished =
            two.finished
            ∙ (ended_alike a.finished b.finished alike.finished tile id ∙ ap (map (map r.to)) (sym one.finished));
        cores = two.cores ∙ (with_core_alike tile core None ∙ ap (map (map (option_map r.to))) (sym one.cores));
        frame =
            two.frame
            ∙ (ap {A = View} (λ v. record v { tasks = b'.tasks; finished = b'.finished; cores = b'.cores }) alike.frame
            ∙ (ap {A = View} (λ v. record v { tasks = b'.tasks; queues = b.queues; finished = b'.finished; cores = b'.cores }) (sym one.frame)
            ∙ ap {A = View} (λ v. record a' { tasks = b'.tasks; queues = v.queues; finished = b'.finished; cores = b'.cores }) (sym two.frame)));
      }
