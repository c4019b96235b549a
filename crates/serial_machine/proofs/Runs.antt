-- The instructions of a task that are left come to the same behind a leg, and behind what stands at its end.
use Rattle.std.proofs.Common.{◌≡◌, refl, sym, ◌∙◌, ap, ℕ, zero, suc, ◌+◌, ◌-◌, ◌^◌, ◌≤◌, ◌<◌, ◌≢◌, inl, inr, nat_lt}
use Rattle.std.proofs.Common.{length, arith, false, subst}
use Rattle.std.proofs.lemmas.Bool.{cases_lt}
use Rattle.std.proofs.lemmas.Bool.Decides.{nat_tests}
use Rattle.guest_image.specs.ImageValue.{ImageValue}
use Rattle.rv_core.specs.declared.state.Core.{Core}
use Rattle.rv_core.specs.declared.state.Stop.{Stop}
use Rattle.rv_core.specs.declared.state.Stop.TheVariants as stop
use Rattle.rv_core.specs.Next.{Stops}
use Rattle.rv_core.specs.Legs.{next_at, PlainInstruction, PlainInstructions, IsLeg, StopIsInData}
use Rattle.rv_core.proofs.Proved.{PlainInstruction-counted, PlainInstruction-within}
use Rattle.task_desc.specs.declared.desc.Ctx.{Ctx}
use Rattle.serial_machine.specs.declared.progress.Flow.{Flow}
use Rattle.serial_machine.specs.declared.progress.Flow.TheVariants as flow
use Rattle.serial_machine.specs.declared.running.RunEnd.TheVariants as ends
use Rattle.serial_machine.specs.TaskState.{TaskState}
use Rattle.task_request.specs.declared.request.Request.{Request}
use Rattle.task_request.specs.declared.request.Request.TheVariants as request
use Rattle.task_request.specs.Conditions.{IsInData, KeepsLimits}
use Rattle.task_request.specs.Requests.{request_at}
use Rattle.task_request.proofs.Proved.{after_request-size, after_stop-used, call_at-is, HasSize, HasUsed}
use Rattle.serial_machine.specs.TaskRun.{context, after_instructions, task_end_after, after_stop, TaskEnd, Continuation}
use Rattle.serial_machine.specs.TaskRun.{Continues, Ends, Traps}
use Rattle.serial_machine.specs.Legs.{LegLeads, CanCount, StopCanCount, CanPerform, Leads, FinishesRun}

-- where the budget is used up, trap 17 stands
pub spent_traps : (image : ImageValue) (size budget : ℕ) (core : Core) (s : Stop)
    → next_at image size budget core ≡ Stops s → budget ≤ core.used → s ≡ stop.Trap 17 core.pc
unfolding next_at
spent_traps image size budget core s h ge =
    let e : nat_lt core.used budget ≡ false = grind (arith, nat_tests) in let k = rw e at h in cc

-- what an instruction leads to is how the run is over, or what is followed
pub task_end_after-Continues : (rest : TaskState → TaskEnd) (x : Continuation) (new : TaskState)
    → Leads x flow.Continues new → task_end_after rest x ≡ rest new
task_end_after-Continues rest (Continues t) new h = ap rest (sym h)
task_end_after-Continues rest (Ends t) new h = absurd h
task_end_after-Continues rest (Traps cause pc) new h = absurd h

pub task_end_after-Ended : (rest : TaskState → TaskEnd) (x : Continuation) (new : TaskState) → Leads x flow.Ended new
    → FinishesRun (task_end_after rest x) ends.Done new
task_end_after-Ended rest (Continues t) new h = absurd h
task_end_after-Ended rest (Ends t) new h = h
task_end_after-Ended rest (Traps cause pc) new h = absurd h

pub task_end_after-Trapped : (rest : TaskState → TaskEnd) (x : Continuation) (cause pc : ℕ) (new : TaskState)
    → Leads x (flow.Trapped cause pc) new → FinishesRun (task_end_after rest x) (ends.Trapped cause pc) new
task_end_after-Trapped rest (Continues t) cause pc new h = absurd h
task_end_after-Trapped rest (Ends t) cause pc new h = absurd h
task_end_after-Trapped rest (Traps c p) cause pc new h = h

-- an instruction that goes on, to a task that has used so many
Leads-used : (used : ℕ) (x : Continuation) (new : TaskState) → Leads x flow.Continues new → HasUsed used x
    → new.core.used ≡ used
Leads-used used (Continues t) new leads has = ap (λ t. t.core.used) leads ∙ has
Leads-used used (Ends t) new leads has = absurd leads
Leads-used used (Traps cause pc) new leads has = absurd leads

-- an instruction that goes on, to a task with a memory of this size
Leads-size : (size : ℕ) (x : Continuation) (new : TaskState) → Leads x flow.Continues new → HasSize size x
    → length new.memory ≡ size
Leads-size size (Continues t) new leads has = ap (λ t. length t.memory) leads ∙ has
Leads-size size (Ends t) new leads has = absurd leads
Leads-size size (Traps cause pc) new leads has = absurd leads

-- what stands next, if it is no trap, stands within the budget, so it can be counted
pub can_count : (image : ImageValue) (size budget : ℕ) (core : Core) (s : Stop)
    → next_at image size budget core ≡ Stops s → budget < 2 ^ 32 → StopCanCount core.used s
can_count image size budget core s h fits =
    elim (cases_lt core.used budget) [ inl lt ↦ within s lt | inr ge ↦ (let P : Stop → Type 0 = StopCanCount core.used in subst P (sym (spent_traps image size budget core s h ge)) tt) ] where
      within : (s : Stop) → core.used < budget → StopCanCount core.used s
      within stop.Quantum lt = tt
      within (stop.Trap cause pc) lt = tt
      within stop.Call lt = omega arith
      within (stop.Load width rd addr) lt = omega arith
      within (stop.Store width addr value) lt = omega arith

-- a request that is executed can be counted
abbrev RequestCanCount : ℕ → Request → Type 0
RequestCanCount used request.Continue = Unit {0}
RequestCanCount used (request.Trap cause) = Unit {0}
RequestCanCount used other = CanCount used

-- so can what a task asks for at its stop
request-can_count : (ctx : Ctx) (core : Core) (s : Stop) → StopCanCount core.used s
    → RequestCanCount core.used (request_at ctx core s)
request-can_count ctx core (stop.Load width rd addr) can = can
request-can_count ctx core (stop.Store width addr value) can = can
request-can_count ctx core stop.Call can =
    call_at-is (RequestCanCount core.used) ctx core can (λ place ts is. can) (λ kind is. can) (λ is. can) (λ cause. tt)
request-can_count ctx core (stop.Trap cause pc) can = tt
request-can_count ctx core stop.Quantum can = tt

-- the code can do what can be counted, lies in the memory and keeps the limits
can_do : (ctx : Ctx) (task : TaskState) (asked : Request) → RequestCanCount task.core.used asked
    → IsInData (length task.memory) asked
    → KeepsLimits (context ctx task) asked → CanPerform task asked
can_do ctx task request.Continue count lies limits = tt
can_do ctx task (request.Load width rd offset) count lies limits = (count, lies)
can_do ctx task (request.Store offset bytes value) count lies limits = (count, lies)
can_do ctx task (request.Enqueue child) count lies limits = (count, limits)
can_do ctx task (request.MakeSub kind) count lies limits = count
can_do ctx task (request.Emit byte) count lies limits = (count, limits)
can_do ctx task request.End count lies limits = count
can_do ctx task (request.Trap cause) count lies limits = tt

-- it can do what a task asks for at its stop
pub can_perform : (ctx : Ctx) (task : TaskState) (s : Stop) (asked : Request)
    → asked ≡ request_at (context ctx task) task.core s
    → StopCanCount task.core.used s → StopIsInData (length task.memory) s
    → ((size : ℕ) → StopIsInData size s → IsInData size asked)
    → KeepsLimits (context ctx task) asked → CanPerform task asked
can_perform ctx task s asked is count inside lies limits =
    let P : Request → Type 0 = RequestCanCount task.core.used in
    can_do ctx task asked (subst P (sym is) (request-can_count (context ctx task) task.core s count)) (lies (length task.memory) inside) limits

module _ (image : ImageValue) (budget : ℕ) (ctx : Ctx) where
  pub after_instructions-one_plain : (t : TaskState) (to : Core)
      → PlainInstruction image (length t.memory) budget t.core to
      → after_instructions image budget ctx (budget - t.core.used) t ≡ after_instructions image budget ctx (budget - to.used) (record t { core = to })
  after_instructions-one_plain t to h =
      let within = PlainInstruction-within image (length t.memory) budget t.core to h in
      let counted = PlainInstruction-counted image (length t.memory) budget t.core to h in
      let e : budget - t.core.used ≡ suc (budget - to.used) = omega arith in
      rw (e, h) refl

  pub after_instructions-all_plain : (n : ℕ) (t : TaskState) (to : Core)
      → PlainInstructions image (length t.memory) budget n t.core to
      → after_instructions image budget ctx (budget - t.core.used) t ≡ after_instructions image budget ctx (budget - to.used) (record t { core = to })
  after_instructions-all_plain zero t to e = rw (← e) refl
  after_instructions-all_plain (suc n) t to (mid, before, last) =
      after_instructions-all_plain n t mid before ∙ after_instructions-one_plain (record t { core = mid }) to last

  -- what stands at the end of a leg is followed, also where the budget is used up
  pub after_instructions-stop : (t : TaskState) (s : Stop) → next_at image (length t.memory) budget t.core ≡ Stops s
      → t.core.used ≤ budget
      → after_instructions image budget ctx (budget - t.core.used) t ≡ task_end_after (after_instructions image budget ctx (budget - (t.core.used + 1))) (after_stop ctx t s)
  after_instructions-stop t s h le = elim (cases_lt t.core.used budget) [ inl lt ↦ within lt | inr ge ↦ spent ge ] where
    within : t.core.used < budget
        → after_instructions image budget ctx (budget - t.core.used) t ≡ task_end_after (after_instructions image budget ctx (budget - (t.core.used + 1))) (after_stop ctx t s)
    within lt = let e : budget - t.core.used ≡ suc (budget - (t.core.used + 1)) = omega arith in rw (e, h) refl

    spent : budget ≤ t.core.used
        → after_instructions image budget ctx (budget - t.core.used) t ≡ task_end_after (after_instructions image budget ctx (budget - (t.core.used + 1))) (after_stop ctx t s)
    spent ge =
        let e : budget - t.core.used ≡ zero = omega arith in
        let k : s ≡ stop.Trap 17 t.core.pc = spent_traps image (length t.memory) budget t.core s h ge in
        rw (e, k) refl

  -- where a stop is followed and goes on, the budget isn't used up
  pub budget_left : (t : TaskState) (s : Stop) (new : TaskState)
      → next_at image (length t.memory) budget t.core ≡ Stops s → Leads (after_stop ctx t s) flow.Continues new
      → t.core.used < budget
  budget_left t s new h leads = elim (cases_lt t.core.used budget) [ inl lt ↦ lt | inr ge ↦ absurd (spent ge) ] where
    spent : budget ≤ t.core.used → ⊥
    spent ge =
        let P : Stop → Type 0 = λ x. Leads (after_stop ctx t x) flow.Continues new in
        subst P (spent_traps image (length t.memory) budget t.core s h ge) leads

  -- a leg that stopped before its quantum's end
  pub leg-stopped : (old : TaskState) (to : Core) (n : ℕ) (s : Stop) (f : Flow) (new : TaskState)
      → PlainInstructions image (length old.memory) budget n old.core to → to.used ≡ old.core.used + n
      → to.used ≤ budget
      → next_at image (length old.memory) budget to ≡ Stops s → s ≢ stop.Quantum
      → Leads (after_stop ctx (record old { core = to }) s) f new → LegLeads image budget ctx old f new
  leg-stopped old to n s flow.Continues new run used within next other leads =
      let mid : TaskState = record old { core = to } in
      let one = Leads-used (to.used + 1) (after_stop ctx mid s) new leads (after_stop-used ctx mid s other) in
      record {
        same =
            ap (λ k. after_instructions image budget ctx (budget - k) new) one
            ∙ sym (after_instructions-all_plain n old to run ∙ after_instructions-stop mid s next within ∙ task_end_after-Continues _ _ new leads);
        used = omega arith;
        within = let lt = budget_left mid s new next leads in omega (arith, lt);
        memory =
            Leads-size (length old.memory) (after_stop ctx mid s) new leads (after_request-size mid (request_at (context ctx mid) to s));
      }
  leg-stopped old to n s flow.Ended new run used within next other leads =
      let P : TaskEnd → Type 0 = λ o. FinishesRun o ends.Done new in
      subst P (sym (after_instructions-all_plain n old to run ∙ after_instructions-stop (record old { core = to }) s next within)) (task_end_after-Ended _ _ new leads)
  leg-stopped old to n s (flow.Trapped cause pc) new run used within next other leads =
      let P : TaskEnd → Type 0 = λ o. FinishesRun o (ends.Trapped cause pc) new in
      subst P (sym (after_instructions-all_plain n old to run ∙ after_instructions-stop (record old { core = to }) s next within)) (task_end_after-Trapped _ _ cause pc new leads)

  -- a leg that came to its quantum's end
  pub leg-full : (old : TaskState) (to : Core) (n : ℕ) (s : Stop) (f : Flow) (new : TaskState)
      → PlainInstructions image (length old.memory) budget n old.core to → to.used ≡ old.core.used + n
      → to.used ≤ budget → 0 < n → s ≡ stop.Quantum
      → Leads (after_stop ctx (record old { core = to }) s) f new → LegLeads image budget ctx old f new
  leg-full old to n s f new run used within some e leads =
      let P : Stop → Type 0 = λ x. Leads (after_stop ctx (record old { core = to }) x) f new in
      goes f (subst P e leads)
    where
      goes : (f : Flow) → Leads (Continues (record old { core = to })) f new → LegLeads image budget ctx old f new
      goes flow.Continues same = rw same (record {
        same = sym (after_instructions-all_plain n old to run);
        used = omega arith;
        within = within;
        memory = refl;
      })
      goes flow.Ended never = absurd never
      goes (flow.Trapped cause pc) never = absurd never

  -- a leg of at most so many instructions, whatever it stopped for
  pub leg-leads : (quantum : ℕ) (old : TaskState) (to : Core) (n : ℕ) (s : Stop) (f : Flow) (new : TaskState)
      → 0 < quantum → IsLeg image (length old.memory) budget quantum old.core to n s → to.used ≡ old.core.used + n
      → to.used ≤ budget
      → Leads (after_stop ctx (record old { core = to }) s) f new → LegLeads image budget ctx old f new
  leg-leads quantum old to n s f new some leg used within leads =
      elim (cases_lt n quantum) [ inl lt ↦ before lt | inr ge ↦ full ge ] where
        before : n < quantum → LegLeads image budget ctx old f new
        before lt = leg-stopped old to n s f new leg.run used within (leg.next lt) (leg.other lt) leads

        full : quantum ≤ n → LegLeads image budget ctx old f new
        full ge =
            let b : n ≤ quantum = leg.bound in
            let e : n ≡ quantum = omega arith in
            leg-full old to n s f new leg.run used within (omega arith) (leg.full e) leads

-- after a leg that ended its quantum nothing is to be counted; else what stands next can be
pub leg-can_count : (image : ImageValue) (size budget quantum : ℕ) (from to : Core) (n : ℕ) (s : Stop)
    → IsLeg image size budget quantum from to n s → budget < 2 ^ 32 → StopCanCount to.used s
leg-can_count image size budget quantum from to n s leg fits = elim (cases_lt n quantum) [
  | inl lt ↦ can_count image size budget to s (leg.next lt) fits
  | inr ge ↦ (let b : n ≤ quantum = leg.bound in let e : n ≡ quantum = omega arith in let P : Stop → Type 0 = StopCanCount to.used in subst P (sym (leg.full e)) tt)
]
