-- How far a leg leads.
use Rattle.std.proofs.Common.{ℕ, zero, suc, ◌+◌, ◌-◌, ◌≡◌, ◌≢◌, ◌≤◌, ◌<◌, inl, inr, List, sym, ap, subst, ◌∙◌, arith}
use Rattle.std.proofs.lemmas.Bool.{cases_eq, cases_lt}
use Rattle.guest_image.specs.ImageValue.{ImageValue}
use Rattle.rv_core.specs.declared.state.Core.{Core}
use Rattle.rv_core.specs.declared.state.Stop.TheVariants as stop
use Rattle.rv_core.specs.LegValue.{LegValue, IsLegOfImage}
use Rattle.rv_core.specs.Legs.{IsLeg, PlainInstructions, next_at}
use Rattle.rv_core.specs.Next.{Stops}
use Rattle.rv_core.proofs.Proved.{next_at-inside, PlainInstruction-within, PlainInstructions-counted}
use Rattle.event_def.proofs.Below.serial_machine.Proved.{spent_traps}
use Rattle.task_desc.specs.declared.desc.Ctx.{Ctx}
use Rattle.task_request.specs.declared.request.Request.{Request}
use Rattle.task_request.specs.declared.request.Request.TheVariants.{Continue, Trap}
use Rattle.task_request.specs.Requests.{request_at}

-- the request is one of an instruction that is executed
abbrev pub IsExecuted : Request → Type 0
IsExecuted Continue = ⊥
IsExecuted (Trap cause) = ⊥
IsExecuted other = Unit {0}

-- plain instructions, one at least, begin within the budget
begins_within : (image : ImageValue) (size budget n : ℕ) (from to : Core)
    → PlainInstructions image size budget n from to → 1 ≤ n → from.used < budget
begins_within image size budget zero from to run some = absurd (omega (arith, some))
begins_within image size budget (suc n) from to run some =
    let counted = PlainInstructions-counted image size budget n from run.0 run.1 in
    let within = PlainInstruction-within image size budget run.0 to run.2 in
    omega (arith, counted, within)

module _ (image : ImageValue) (budget quantum : ℕ) (leg : LegValue) (is : IsLeg image image.data_size budget quantum leg.from leg.to leg.steps leg.stop) where
  -- each instruction of the leg is counted
  pub counted : leg.to.used ≡ leg.from.used + leg.steps
  counted = PlainInstructions-counted image image.data_size budget leg.steps leg.from leg.to is.run

  -- what stops the leg before its quantum stands at its end
  pub stands : leg.stop ≢ stop.Quantum → next_at image image.data_size budget leg.to ≡ Stops leg.stop
  stands other = elim (cases_eq leg.steps quantum) [
    | inl all ↦ absurd (other (is.full all))
    | inr fewer ↦ let bound = is.bound in is.next (omega (arith, bound, fewer))
  ]

  -- a leg that did its quantum leads further
  pub quantum_leads_on : 1 ≤ quantum → leg.stop ≡ stop.Quantum → budget - leg.to.used + 2 < budget - leg.from.used + 2
  quantum_leads_on some full =
      let all : leg.steps ≡ quantum = elim (cases_eq leg.steps quantum) [
        | inl all ↦ all
        | inr fewer ↦ let bound = is.bound in absurd (is.other (omega (arith, bound, fewer)) full)
      ] in
      let one : 1 ≤ leg.steps = omega (arith, all, some) in
      let within = begins_within image image.data_size budget leg.steps leg.from leg.to is.run one in
      let count = counted in
      omega (arith, one, within, count)

  module _ (ctx : Ctx) (asked : Request) (asks : request_at ctx leg.to leg.stop ≡ asked) (is_executed : IsExecuted asked) where
    -- it isn't at its quantum's end
    no_quantum : leg.stop ≢ stop.Quantum
    no_quantum full = subst IsExecuted (sym asks ∙ ap (request_at ctx leg.to) full) is_executed

    -- a leg whose last request is executed ends within the budget
    ends_within : leg.to.used < budget
    ends_within = elim (cases_lt leg.to.used budget) [
      | inl below ↦ below
      | inr spent ↦
          let traps = spent_traps image image.data_size budget leg.to leg.stop (stands no_quantum) spent in
          absurd (subst IsExecuted (sym asks ∙ ap (request_at ctx leg.to) traps) is_executed)
    ]

    -- so it is a run
    pub is_run : IsLegOfImage image budget leg
    is_run = record {
      run = is.run;
      next = stands;
      inside = next_at-inside image image.data_size budget leg.to leg.stop (stands no_quantum);
      counted = counted;
      within = let within = ends_within in omega (arith, within);
    }

    -- and one more instruction leads further
    pub ask_leads_on : (after : Core) → after.used ≡ leg.to.used + 1
        → budget - after.used + 2 < budget - leg.from.used + 2
    ask_leads_on after counts =
        let within = ends_within in
        let count = counted in
        omega (arith, counts, within, count)
