-- A run that met its commit limit leaves the tasks that pend; where no end is told of a run, it is still one by
-- events of the least tasks.
use Rattle.std.proofs.Common.{◌≡◌, ◌<◌, ◌==◌, refl, ap, ◌∙◌, subst, zero, suc, ℕ, true, List, [], ◌∷◌, length, map}
use Rattle.std.proofs.Common.{Bool, Option, Some, None, if◌then◌else◌, arith}
use Rattle.std.specs.Prelude.{IfSome}
use Rattle.std.proofs.lemmas.Bool.Decides.{nat_tests}
use Rattle.std.proofs.lemmas.Grind.{common_steps}
use Rattle.std.proofs.lemmas.List.{length-append, length-map}
use Rattle.std.proofs.lemmas.List.Sorted.{length_permutation}
use Rattle.guest_image.specs.ImageValue.{ImageValue}
use Rattle.place_policy.specs.Policy.{Policy}
use Rattle.trace_tap.specs.TapValue.{TapValue}
use Rattle.run_journal.specs.declared.closed.Closed.{Closed}
use Rattle.run_journal.specs.declared.end.End.{End}
use Rattle.run_journal.specs.declared.end.End.TheVariants as ends
use Rattle.outcome_law.specs.serial_machine.BagValue.{BagValue}
use Rattle.outcome_law.specs.serial_machine.Run.{opening}
use Rattle.outcome_law.specs.serial_machine.State.{SerialState}
use Rattle.outcome_law.specs.serial_machine.Turn.{inner}
use Rattle.outcome_law.specs.serial_machine.WholeRun.{IsRunOf}
use Rattle.outcome_law.specs.spec_state.declared.pending.Pending.{Pending}
use Rattle.outcome_law.specs.spec_state.declared.settings.Settings.{Settings}
use Rattle.outcome_law.specs.spec_state.Pendings.{all_pending, pending_at, RunLeaves}
use Rattle.outcome_law.specs.event_def.End.{HasEnd}
use Rattle.outcome_law.specs.spec_state.View.{View}
use Rattle.machine_run.specs.declared.left.Ran.{Ran}
use Rattle.machine_run.specs.Halted.{IsHalted, IsLeftOf, KeepsPending}
use Rattle.machine_run.specs.Least.{IsLeastRun, run_of_closed}
use Rattle.machine_run.specs.Stopping.{IsStoppedWith}
use Rattle.machine_run.proofs.Standing.{over_is_closed}
use Rattle.outcome_law.proofs.Below.run_law.Proved.{Runs-same}

-- where no task pends no bag is left
none_left : (stack : List BagValue) → length (all_pending stack) ≡ 0 → inner stack ≡ []
none_left [] none = refl
none_left (bag ∷ outer) none =
    let both = length-append (map (pending_at bag.depth) bag.tasks) (all_pending outer) in
    let here = length-map bag.tasks (pending_at bag.depth) in
    let rest : length (all_pending outer) ≡ 0 = omega (arith, both, none) in
    let empty : length bag.tasks ≡ 0 = omega (arith, both, here, none) in
    let test : (length bag.tasks == 0) ≡ true = grind (arith, nat_tests, common_steps) in
    ap (λ b. if b then inner outer else bag ∷ outer) test ∙ none_left outer rest

some_left : (n : ℕ) → (n ≡ 0 → ⊥) → 0 < n
some_left zero some = absurd (some refl)
some_left (suc n) some = omega arith

-- where a run stands at the commit limit some task pends
pub some_pend : (image : ImageValue) (commits budget : ℕ) (closed : Closed) (pendings : List Pending)
    → IsRunOf image commits budget (run_of_closed closed (Some ends.Limit))
    → RunLeaves image budget closed.journal closed.memory closed.output pendings → 0 < length pendings
some_pend image commits budget closed pendings run left =
    some_left (length pendings) (λ none.
    let same = Runs-same image budget closed.journal (opening image) left.state run.state left.run run.is_run in
    let as_long = length_permutation pendings (all_pending left.state.stack) left.pending.held in
    let empty = none_left left.state.stack (as_long ∙ none) in
    run.end_is.0 (subst (λ (s : SerialState). inner s.stack ≡ []) same empty))

-- what met its commit limit is stopped with these tasks
pub stopped : (image : ImageValue) (commits budget : ℕ) (ran : Ran) (pendings : List Pending)
    → ran.end ≡ Some ends.Limit
    → IsRunOf image commits budget (run_of_closed ran.closed ran.end)
    → RunLeaves image budget ran.closed.journal ran.closed.memory ran.closed.output pendings
    → IsStoppedWith image budget ran pendings
stopped image commits budget ran pendings limit run left = record {
  end_is = limit;
  left = left;
  some =
      some_pend image commits budget ran.closed pendings (subst (λ end. IsRunOf image commits budget (run_of_closed ran.closed end)) limit run) left;
}

-- and keeps them
pub keeps_all : (image : ImageValue) (commits budget : ℕ) (goes_on : Bool) (ran : Ran) (pendings : List Pending)
    → ran.end ≡ Some ends.Limit
    → IsRunOf image commits budget (run_of_closed ran.closed ran.end)
    → RunLeaves image budget ran.closed.journal ran.closed.memory ran.closed.output pendings
    → KeepsPending image budget goes_on (record { ran = ran; pending = Some pendings })
keeps_all image commits budget goes_on ran pendings at run left =
    record { pending = stopped image commits budget ran pendings at run left; limit = λ on full. refl }

-- an end that is told is that of the book
pub told_has : (view : View) (end told : Option End) → IfSome end (HasEnd view) → IfSome told (λ e. end ≡ Some e)
    → IfSome told (HasEnd view)
told_has view end None has same = tt
told_has view end (Some e) has same = subst (λ o. IfSome o (HasEnd view)) same has

-- so what is left of a run that halted is of one that was led to its end, or as far as memory went
pub halts_so : (image : ImageValue) (commits budget : ℕ) (view : View) (end : Option End) (ran : Ran)
    → IfSome end (HasEnd view) → IfSome ran.end (λ told. end ≡ Some told) → IsLeftOf image commits budget ran
    → IsHalted image commits budget ran
halts_so image commits budget view end ran has same left =
    record { left = left; over = over_is_closed view ran.end (told_has view end ran.end has same) }

-- a run by events of the least tasks is one too where the same end is told of it, or none
pub with_end : (N : Type 0) (image : ImageValue) (settings : Settings) (placers : List Policy) (taps : List TapValue)
    (closed : Closed) (end told : Option End) → IfSome told (λ e. end ≡ Some e)
    → IsLeastRun N image settings placers taps closed.steps (run_of_closed closed end)
    → IsLeastRun N image settings placers taps closed.steps (run_of_closed closed told)
with_end N image settings placers taps closed end told same run = record {
  opening = run.opening;
  is_opening = run.is_opening;
  last = run.last;
  advances = run.advances;
  leaves =
      record {
        journal_is = run.leaves.journal_is;
        output_is = run.leaves.output_is;
        memory_is = run.leaves.memory_is;
        events_are = run.leaves.events_are;
      };
  end_is = told_has run.last.view end told run.end_is same;
}
