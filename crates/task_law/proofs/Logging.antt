-- A logged run whose log replays on a memory is the run on that memory.
use Rattle.std.proofs.Common.{◌≡◌, ℕ, ◌+◌, ◌-◌, ◌≤◌, ◌<◌, ◌≢◌, List, [], ◌∷◌, ◌++◌, length, refl, sym, ap, subst, ◌∙◌}
use Rattle.std.proofs.Common.{inl, inr, arith}
use Rattle.std.proofs.lemmas.Bool.{cases_lt}
use Rattle.guest_image.specs.ImageValue.{ImageValue}
use Rattle.rv_core.specs.declared.state.Stop.{Stop}
use Rattle.rv_core.specs.Next.{Goes, Stops}
use Rattle.rv_core.specs.Legs.{next_at, after_load_of}
use Rattle.rv_core.specs.Memory.{load_width}
use Rattle.rv_core.proofs.Proved.{PlainInstruction-counted, PlainInstruction-within}
use Rattle.task_desc.specs.declared.desc.Ctx.{Ctx}
use Rattle.undo_log.specs.declared.access.Access.{Access}
use Rattle.undo_log.specs.Number.{number_at, after_write}
use Rattle.pending_list.specs.declared.task.PendingTask.{PendingTask}
use Rattle.task_request.specs.declared.request.Request.{Request}
use Rattle.task_request.specs.declared.request.Request.TheVariants as ask
use Rattle.task_request.specs.Conditions.{IsCall}
use Rattle.task_request.specs.Effects.{after_request, task_at_next}
use Rattle.task_request.specs.TaskState.{TaskState}
use Rattle.task_request.proofs.Proved.{after_request-used, HasUsed}
use Rattle.run_law.specs.serial_machine.TaskRun.{task_end_after, after_instructions, task_at_start, task_run}
use Rattle.run_law.specs.serial_machine.TaskRun.{after_stop}
use Rattle.run_law.specs.serial_machine.TaskRun.{Continuation, Continues, Ends, Traps, TaskEnd, Done, Trapped}
use Rattle.run_law.specs.serial_machine.Turn.{context_in_bag}
use Rattle.run_law.proofs.Below.serial_machine.Proved.{spent_traps, after_instructions-task_at_start}
use Rattle.run_law.proofs.Below.serial_machine.Proved.{after_instructions-one_plain}
use Rattle.run_law.proofs.Below.serial_machine.Proved.{after_instructions-stop, turn-done}
use Rattle.memory_law.specs.Accesses.{written_if, after_access, after_accesses, Replays}
use Rattle.memory_law.proofs.Proved.{length-after_accesses, after_accesses-append, Replays-back, Replays-front}
use Rattle.task_law.specs.Logged.{CoreAsks, LoggedRun, none, plain, call, load, store, FinishesWithLog, TrapsWithLog}
use Rattle.task_law.specs.Logged.{LoggedRunIsTurn, LoggedTrapIsSerial}

-- a log's last access
after_accesses-more : (memory : List ℕ) (log : List Access) (access : Access)
    → after_accesses memory (log ++ access ∷ []) ≡ after_access (after_accesses memory log) access
after_accesses-more memory log access = after_accesses-append memory log (access ∷ [])

Replays-more : (memory : List ℕ) (log : List Access) (access : Access) → Replays memory (log ++ access ∷ [])
    → Replays memory log × (number_at (after_accesses memory log) access.offset access.width ≡ access.old)
Replays-more memory log access chain =
    (Replays-front memory log (access ∷ []) chain, sym (Replays-back memory log (access ∷ []) chain).0.old_is)

-- a task on another memory, and what a request leads to, on that memory
abbrev pub on_memory : List ℕ → TaskState → TaskState
on_memory memory task = record task { memory = memory }

abbrev pub stepped_on : List ℕ → Continuation → Continuation
stepped_on memory (Continues task) = Continues (on_memory memory task)
stepped_on memory (Ends task) = Ends (on_memory memory task)
stepped_on memory (Traps cause pc) = Traps cause pc

-- a call that goes on doesn't read the memory, and is no request to go on
call-on : (memory : List ℕ) (task : TaskState) (request : Request) → IsCall request
    → after_request (on_memory memory task) request ≡ stepped_on memory (after_request task request)
call-on memory task ask.Continue never = absurd never
call-on memory task (ask.Load width rd offset) never = absurd never
call-on memory task (ask.Store offset bytes value) never = absurd never
call-on memory task (ask.Enqueue child) is_call = refl
call-on memory task (ask.MakeSub kind) is_call = refl
call-on memory task (ask.Emit byte) is_call = refl
call-on memory task ask.End never = absurd never
call-on memory task (ask.Trap cause) never = absurd never

call-other : (request : Request) → IsCall request → request ≢ ask.Continue
call-other request is_call same = subst IsCall same is_call

module _ (image : ImageValue) (budget : ℕ) (ctx : Ctx) (memory : List ℕ) where
  -- what the instructions that are left come to
  abbrev left : TaskState → TaskEnd
  left t = after_instructions image budget ctx (budget - t.core.used) t

  -- what stands next for the memory's size stands next on that memory after a log
  sized : (log : List Access) (task : TaskState)
      → next_at image (length (after_accesses memory log)) budget task.core ≡ next_at image (length memory) budget task.core
  sized log task = ap (λ n. next_at image n budget task.core) (length-after_accesses memory log)

  record Runs (start : TaskState) (log : List Access) (task : TaskState) : Type 0 where
    pub within : task.core.used ≤ budget
    pub same : left (on_memory memory start) ≡ left (on_memory (after_accesses memory log) task)

  -- where a stop goes on, the budget isn't used up
  budget_left : (t : TaskState) (s : Stop) (new : TaskState) → next_at image (length t.memory) budget t.core ≡ Stops s
      → after_stop ctx t s ≡ Continues new → t.core.used < budget
  budget_left t s new at goes = elim (cases_lt t.core.used budget) [
    | inl lt ↦ lt
    | inr ge ↦ (let traps : Traps 17 t.core.pc ≡ Continues new = sym (ap (after_stop ctx t) (spent_traps image (length t.memory) budget t.core s at ge)) ∙ goes in absurd (cc (traps)))
  ]

  -- one more request that goes on
  ask_on : (start : TaskState) (log more : List Access) (task after : TaskState) (request : Request)
      → Runs start log task
      → CoreAsks image budget (length memory) ctx task request
      → after_request (on_memory (after_accesses memory log) task) request ≡ Continues (on_memory (after_accesses memory more) after)
      → after.core.used ≡ task.core.used + 1
      → Runs start more after
  ask_on start log more task after request before asks goes counts =
      let t : TaskState = on_memory (after_accesses memory log) task in
      let new : TaskState = on_memory (after_accesses memory more) after in
      let at : next_at image (length t.memory) budget t.core ≡ Stops asks.found = sized log task ∙ asks.stands in
      let goes_on : after_stop ctx t asks.found ≡ Continues new = ap (after_request t) asks.asks ∙ goes in
      let left_over : t.core.used < budget = budget_left t asks.found new at goes_on in
      record {
        within = omega (arith, left_over, counts);
        same = before.same ∙ after_instructions-stop image budget ctx t asks.found at before.within
            ∙ ap (task_end_after (after_instructions image budget ctx (budget - (t.core.used + 1)))) goes_on
            ∙ ap (λ n. after_instructions image budget ctx (budget - n) new) (sym counts);
      }

  runs_so : (start : TaskState) {log : List Access} {task : TaskState}
      → LoggedRun image budget (length memory) ctx start log task → start.core.used ≤ budget → Replays memory log
      → Runs start log task
  runs_so start none low chain = record { within = low; same = refl }
  runs_so start (plain {log} {task} core run at) low chain =
      let before = runs_so start run low chain in
      let t : TaskState = on_memory (after_accesses memory log) task in
      let step : next_at image (length t.memory) budget t.core ≡ Goes core = sized log task ∙ at in
      let left_over = PlainInstruction-within image (length t.memory) budget t.core core step in
      let counts = PlainInstruction-counted image (length t.memory) budget t.core core step in
      record {
        within = omega (arith, left_over, counts);
        same = before.same ∙ after_instructions-one_plain image budget ctx t core step;
      }
  runs_so start (call {log} {task} request after run asks is_call goes) low chain =
      ask_on start log log task after request (runs_so start run low chain) asks
      (call-on (after_accesses memory log) task request is_call ∙ ap (stepped_on (after_accesses memory log)) goes)
      (subst (HasUsed (task.core.used + 1)) goes (after_request-used task request (call-other request is_call)))
  runs_so start (load {log} {task} access width rd run asks is_width is_load) low chain =
      let parts = Replays-more memory log access chain in
      let m : List ℕ = after_accesses memory log in
      let same : after_accesses memory (log ++ access ∷ []) ≡ m = after_accesses-more memory log access ∙ ap (λ o. written_if m access.offset access.width o) is_load in
      let found : number_at m access.offset (load_width width) ≡ access.old = ap (number_at m access.offset) (sym is_width) ∙ parts.1 in
      ask_on start log (log ++ access ∷ []) task (record task { core = after_load_of task.core width rd access.old }) (ask.Load width rd access.offset) (runs_so start run low parts.0) asks
      (ap (λ n. Continues (record task { core = after_load_of task.core width rd n; memory = m })) found ∙ ap (λ x. Continues (record task { core = after_load_of task.core width rd access.old; memory = x })) (sym same))
      refl
  runs_so start (store {log} {task} access value run asks is_store) low chain =
      let parts = Replays-more memory log access chain in
      let m : List ℕ = after_accesses memory log in
      let same : after_accesses memory (log ++ access ∷ []) ≡ after_write m access.offset access.width value =
      after_accesses-more memory log access ∙ ap (λ o. written_if m access.offset access.width o) is_store
      in
      ask_on start log (log ++ access ∷ []) task (task_at_next task) (ask.Store access.offset access.width value) (runs_so start run low parts.0) asks
      (ap (λ x. Continues (record (task_at_next task) { memory = x })) (sym same))
      refl

  -- a request that ends the run on this memory
  last_ask : (task : PendingTask) (log : List Access) (before : TaskState) (request : Request) (x : Continuation)
      → LoggedRun image budget (length memory) ctx (task_at_start image.version task.entry ctx.ts task.args []) log before
      → Replays memory log
      → CoreAsks image budget (length memory) ctx before request
      → after_request (on_memory (after_accesses memory log) before) request ≡ x
      → task_run image budget ctx task.entry task.args memory ≡ task_end_after (after_instructions image budget ctx (budget - (before.core.used + 1))) x
  last_ask task log before request x run chain asks leads =
      let start : TaskState = task_at_start image.version task.entry ctx.ts task.args [] in
      let low : start.core.used ≤ budget = omega arith in
      let runs = runs_so start run low chain in
      let t : TaskState = on_memory (after_accesses memory log) before in
      let at : next_at image (length t.memory) budget t.core ≡ Stops asks.found = sized log before ∙ asks.stands in
      sym (after_instructions-task_at_start image budget ctx task.entry ctx.ts task.args memory memory (on_memory memory start) refl refl refl)
      ∙ runs.same ∙ after_instructions-stop image budget ctx t asks.found at runs.within
      ∙ ap (task_end_after (after_instructions image budget ctx (budget - (t.core.used + 1))))
      (ap (after_request t) asks.asks ∙ leads)

  -- a logged run that came to its end call
  pub finished : (task : PendingTask) (log : List Access) (after : TaskState)
      → FinishesWithLog image budget (length memory) ctx task log after → Replays memory log
      → task_run image budget ctx task.entry task.args memory ≡ Done (on_memory (after_accesses memory log) after)
  finished task log after is chain =
      last_ask task log is.before ask.End (Ends (on_memory (after_accesses memory log) after)) is.run chain is.ends
      (ap (λ t. Ends (on_memory (after_accesses memory log) t)) (sym is.leaves))

  -- a logged run that came to a trap
  pub trapped : (task : PendingTask) (log : List Access) (cause pc : ℕ)
      → TrapsWithLog image budget (length memory) ctx task log cause pc → Replays memory log
      → task_run image budget ctx task.entry task.args memory ≡ Trapped cause pc
  trapped task log cause pc is chain =
      last_ask task log is.before (ask.Trap cause) (Traps cause pc) is.run chain is.traps (ap (Traps cause) (sym is.at))

pub logged_run_is_turn : LoggedRunIsTurn
logged_run_is_turn image budget depth s task log after next is chain =
    turn-done image budget s task.name next.bag next.outer task (on_memory (after_accesses s.memory log) after) next.may
    (finished image budget (context_in_bag image.version next.bag next.outer task) s.memory task log after is chain)

pub logged_trap_is_serial : LoggedTrapIsSerial
logged_trap_is_serial image budget depth s task log cause pc next is chain =
    record {
      bag = next.bag;
      outer = next.outer;
      task = task;
      may = next.may;
      run = trapped image budget (context_in_bag image.version next.bag next.outer task) s.memory task log cause pc is chain;
    }
