-- A step of the least task brings it nearer to its commit, or to the end of the run.
use Rattle.std.proofs.Common.{ℕ, ◌+◌, ◌-◌, ◌/◌, ◌≡◌, ◌≤◌, ◌<◌, [], ◌∷◌, ◌++◌, Bool, true, false, Some, refl, sym, ap}
use Rattle.std.proofs.Common.{subst, ◌∙◌, arith}
use Rattle.guest_image.specs.ImageValue.{ImageValue}
use Rattle.rv_core.specs.declared.state.Core.{Core}
use Rattle.rv_core.specs.LegValue.{LegValue}
use Rattle.rv_table.specs.declared.instr.LoadWidth.{LoadWidth}
use Rattle.guest_image.specs.declared.image.Kind.{Kind}
use Rattle.task_request.specs.declared.request.Request.{Request}
use Rattle.task_request.specs.declared.request.Request.TheVariants.{Continue, Load, Store, MakeSub, Emit}
use Rattle.task_request.proofs.Proved.{request_at-continue}
use Rattle.undo_log.specs.Undo.{MemoryCall, access_of}
use Rattle.event_def.specs.spec_state.declared.task.Status.TheVariants.{Running, Trapped, Finished}
use Rattle.event_def.specs.spec_state.declared.task.Task.{Task}
use Rattle.event_def.specs.spec_state.View.{View, task_at}
use Rattle.event_def.specs.spec_state.Tasks.{is_dispatched, context_of}
use Rattle.event_def.specs.spec_state.Least.{IsHeir, IsLeastTask}
use Rattle.event_def.specs.spec_state.Changes.{TakesLeg, request_of, task_past_leg, Keeps, KeepsQuantum, KeepsTrap}
use Rattle.event_def.specs.spec_state.Changes.{MakesSub}
use Rattle.event_def.specs.spec_state.Changes.{Emits, Accesses, Finishes}
use Rattle.spec_law.specs.Sound.{Sound}
use Rattle.spec_law.proofs.Proved.{keeps_steps, step_keeps_heir, StepsOne, stepped_task}
use Rattle.event_def.specs.Advancing.{HasRest, IsLeastLeg}
use Rattle.event_def.specs.End.{IsOver}
use Rattle.event_def.specs.Events.{TakesConflicts, LoadEvent, StoreEvent, EndEvent}
use Rattle.event_law.proofs.Falls.Heir.{conflicts_leave_heir, conflicts_leave_it, commit_leaves_heir, commit_leaves_it}
use Rattle.event_law.proofs.Falls.Heir.{commit_settings}
use Rattle.event_law.proofs.Falls.Legs.{IsExecuted, quantum_leads_on, ask_leads_on}
use Rattle.event_law.proofs.Falls.Rest.{most_left, at_most, running_at_least}
use Rattle.event_law.proofs.Granted.{taker_is, taken_is, least_runs}

-- the heir, where it is this task now, is the least task
pub heir_is_least : (view : View) (id : ℕ) (now : Task) → IsHeir view (Some id) → task_at view id ≡ Some now
    → IsLeastTask view id now
heir_is_least view id now is at =
    let both : Some is.0 ≡ Some now = sym is.1.queued_at.there ∙ at in
    let one : is.0 ≡ now = cc in
    subst (IsLeastTask view id) one is.1

-- a load or a store is a step of one task
access_steps : (mid new : View) (id : ℕ) (task : Task) (call : MemoryCall) (to : Core) → task_at mid id ≡ Some task
    → (does : Accesses id task call to mid new)
    → StepsOne mid new id task (record task { core = to; log = task.log ++ access_of mid.memory call ∷ []; lines = does.lines })
access_steps mid new id task call to there does = record {
  there = there;
  changes = does.changes;
  rest = does.frame ∙ (λ i. record mid {
    tasks = new.tasks;
    memory = new.memory;
    finished = sym (ap (λ view. view.finished) does.frame) i;
    cores = sym (ap (λ view. view.cores) does.frame) i;
  });
}

-- so is an end
finish_steps : (mid new : View) (tile core id : ℕ) (task : Task) (leg : LegValue) → task_at mid id ≡ Some task
    → Finishes tile core id task leg mid new
    → StepsOne mid new id task (record (task_past_leg task leg) { status = Finished })
finish_steps mid new tile core id task leg there ends = record {
  there = there;
  changes = ends.changes;
  rest =
      ends.frame
      ∙ (λ i. record mid { tasks = new.tasks; memory = ap (λ view. view.memory) (sym ends.frame) i; finished = new.finished; cores = new.cores });
}

module _ (image : ImageValue) (old : View) (sound : Sound image old) (tile core : ℕ) (leg : LegValue) (next : IsLeastLeg image old tile core leg) (goes_on : IsOver old → ⊥) (before : ℕ) (had : HasRest old before) where
  module _ (id : ℕ) (task : Task) (takes : TakesLeg old tile core leg id task) where
    -- what takes the leg is the least task
    pub taker_is_least : IsLeastTask old id task
    taker_is_least =
        subst (λ k. IsLeastTask old k task) (sym (taker_is image old sound tile core leg next id task takes))
        (subst (IsLeastTask old next.id) (sym (taken_is image old sound tile core leg next id task takes)) next.least)

    -- and the heir
    pub taker_is_heir : IsHeir old (Some id)
    taker_is_heir = (
      task,
      taker_is_least,
      subst (λ (t : Task). is_dispatched t ≡ true) (sym (taken_is image old sound tile core leg next id task takes)) (least_runs image old sound tile core leg next),
    )

    -- at least so much was left
    left_before : old.settings.budget - leg.from.used + 2 ≤ before
    left_before =
        subst (λ (c : Core). old.settings.budget - c.used + 2 ≤ before) takes.from (running_at_least old id task taker_is_least core goes_on takes.runs.running before had)

    module _ (new : View) (same : new.settings ≡ old.settings) (after : ℕ) (has : HasRest new after) (now : Task) (least : IsLeastTask new id now) where
      -- less is left where the task runs further on
      pub runs_further : now.status ≡ Running core
          → old.settings.budget - now.core.used + 2 < old.settings.budget - leg.from.used + 2 → after < before
      runs_further runs further =
          let most : after ≤ old.settings.budget - now.core.used + 2 =
          subst (λ s. after ≤ s.budget - now.core.used + 2) same
          (subst (λ s. after ≤ most_left new.settings.budget s now.core.used) runs (at_most new id now least after has)) in
          let first = left_before in
          omega (arith, most, further, first)

      -- or where it came to its end or to a trap
      pub runs_out : most_left new.settings.budget now.status now.core.used ≡ 1 → after < before
      runs_out none =
          let most : after ≤ 1 = subst (λ n. after ≤ n) none (at_most new id now least after has) in
          let first = left_before in
          omega (arith, most, first)

    -- a change of the task alone leaves it the least one
    kept_least : (new : View) (behind : Task) → Keeps id (stepped_task task behind) old new
        → IsLeastTask new id (stepped_task task behind)
    kept_least new behind keeps =
        heir_is_least new id (stepped_task task behind)
        (step_keeps_heir old new id task behind (keeps_steps old new id task behind takes.runs.on.there keeps) (Some id) taker_is_heir) keeps.changes.changed

  module _ (new : View) (after : ℕ) (has : HasRest new after) (id : ℕ) (task : Task) (takes : TakesLeg old tile core leg id task) where
    -- a leg that did its quantum
    pub quantum_falls : request_of old task leg ≡ Continue → KeepsQuantum id task leg old new → after < before
    quantum_falls asks change =
        runs_further id task takes new (ap (λ view. view.settings) change.frame) after has (record task { core = leg.to })
        (kept_least id task takes new (record task { core = leg.to }) change) takes.runs.running
        (quantum_leads_on image old.settings.budget old.settings.quantum leg next.runs_on.is_leg sound.sizes.settings.quantum.0
        (request_at-continue (context_of old.version task) leg.to leg.stop asks))

    -- a trap
    pub trap_falls : (cause : ℕ) → KeepsTrap id task leg core cause old new → after < before
    trap_falls cause change =
        let now : Task = record task { core = leg.to; status = Trapped core cause } in
        runs_out id task takes new (ap (λ view. view.settings) change.frame) after has now (kept_least id task takes new now change) refl

    -- a subdomain or a byte
    call_falls : (asked : Request) → request_of old task leg ≡ asked → IsExecuted asked → (behind : Task)
        → behind.status ≡ task.status → behind.core.used ≡ leg.to.used + 1
        → Keeps id (stepped_task task behind) old new → after < before
    call_falls asked asks is_executed behind same counts change =
        runs_further id task takes new (ap (λ view. view.settings) change.frame) after has (stepped_task task behind)
        (kept_least id task takes new behind change) (same ∙ takes.runs.running)
        (ask_leads_on image old.settings.budget old.settings.quantum leg next.runs_on.is_leg (context_of old.version task) asked asks is_executed behind.core counts)

    pub sub_falls : (kind : Kind) → request_of old task leg ≡ MakeSub kind → MakesSub id task leg kind old new
        → after < before
    sub_falls kind asks change =
        call_falls (MakeSub kind) asks tt (record (task_past_leg task leg) { sub = Some kind }) refl refl change

    pub byte_falls : (byte : ℕ) → request_of old task leg ≡ Emit byte → Emits id task leg byte old new → after < before
    byte_falls byte asks change =
        call_falls (Emit byte) asks tt (record (task_past_leg task leg) { bytes = task.bytes ++ byte ∷ [] }) refl refl change

    -- a load or a store
    access_falls : (asked : Request) → request_of old task leg ≡ asked → IsExecuted asked
        → (offset : ℕ) (write : Bool) (aborted : ℕ) (mid : View)
        → TakesConflicts task offset write old aborted mid → (call : MemoryCall) (to : Core) → to.used ≡ leg.to.used + 1
        → Accesses id task call to mid new → after < before
    access_falls asked asks is_executed offset write aborted mid forced call to counts change =
        let line : ℕ = offset / old.settings.line in
        let was = takes.runs.on.there in
        let heir = taker_is_heir id task takes in
        let there : task_at mid id ≡ Some task = conflicts_leave_it image old sound id heir id line task write aborted mid was forced ∙ was in
        let heir_mid = conflicts_leave_heir image old sound id heir id line task write aborted mid was forced in
        let now : Task = record task { core = to; log = task.log ++ access_of mid.memory call ∷ []; lines = change.lines } in
        let heir_now = step_keeps_heir mid new id task now (access_steps mid new id task call to there change) (Some id) heir_mid in
        runs_further id task takes new (ap (λ view. view.settings) change.frame ∙ ap (λ view. view.settings) forced.frame) after has now
        (heir_is_least new id now heir_now change.changes.changed) takes.runs.running
        (ask_leads_on image old.settings.budget old.settings.quantum leg next.runs_on.is_leg (context_of old.version task) asked asks is_executed to counts)

    pub load_falls : (width : LoadWidth) (rd offset : ℕ) → request_of old task leg ≡ Load width rd offset
        → (aborted : ℕ)
        → LoadEvent tile core leg id task width rd offset old aborted new → after < before
    load_falls width rd offset asks aborted made =
        access_falls (Load width rd offset) asks tt offset false aborted made.mid made.forced _ _ refl made.change

    pub store_falls : (offset bytes value : ℕ) → request_of old task leg ≡ Store offset bytes value → (aborted : ℕ)
        → StoreEvent tile core leg id task offset bytes value old aborted new → after < before
    store_falls offset bytes value asks aborted made =
        access_falls (Store offset bytes value) asks tt offset true aborted made.mid made.forced _ _ refl made.change

    -- an end call
    pub end_falls : (aborted : ℕ) → EndEvent tile core leg id task old aborted new → after < before
    end_falls aborted made =
        let was = takes.runs.on.there in
        let heir = taker_is_heir id task takes in
        let there = commit_leaves_it image old sound id heir tile task was made.forced in
        let heir_mid = commit_leaves_heir image old sound id heir tile task was made.forced in
        let same = commit_settings image old sound id heir tile task made.forced in
        let now : Task = record (task_past_leg task leg) { status = Finished } in
        let heir_now = step_keeps_heir made.mid new id task now (finish_steps made.mid new tile core id task leg there made.change) (Some id) heir_mid in
        runs_out id task takes new (ap (λ view. view.settings) made.change.frame ∙ same) after has now
        (heir_is_least new id now heir_now made.change.changes.changed) refl
