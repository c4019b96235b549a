use Rattle.std.proofs.Common.{◌≡◌, ◌∙◌, ℕ, ap, sym}
use Rattle.std.specs.Prelude.{IfSome, IsNone, None, Some, is_some, option_map}
use Rattle.std.specs.declared.option.Option.{Option}
use Rattle.script_text.specs.spec_state.declared.task.TaskId.{TaskId}
use Rattle.script_text.specs.spec_state.declared.task.Where.{Where}
use Rattle.script_text.specs.spec_state.Least.{IsLeast, IsTheLeast}
use Rattle.script_text.specs.spec_state.View.{View}
use Rattle.script_text.specs.event_basis.Whereabouts.{queued_in}
use Rattle.script_text.proofs.Below.event_basis.Proved.{least_where, none_is_least}
use Rattle.watch_text.proofs.about.least_task.Goals as goal

module _ (view : View) (w : Where) (is : IsLeast view w) where
  read : (found : Option TaskId) → option_map (λ (id : TaskId). id.0) found ≡ queued_in w
      → IfSome found (λ id. IsTheLeast view id.0)
  read None same = tt
  read (Some id) same = (least_where view w id.0 is).1 (sym same)

  not_read : (found : Option TaskId) → option_map (λ (id : TaskId). id.0) found ≡ queued_in w → IsNone found
      → (id : ℕ) → IsTheLeast view id → ⊥
  not_read None same none id least = absurd (cc (same ∙ (least_where view w id is).0 least))
  not_read (Some other) same none id least = absurd (cc (none))

pub returns-in-None-clause-none : goal.returns-in-None-clause-none
returns-in-None-clause-none g c none id least =
    none_is_least c.args.state.now.view id (c.least.ensures.none.0 (ap is_some c.in-None.is)) least

pub returns-in-Some-clause-some : goal.returns-in-Some-clause-some
returns-in-Some-clause-some g c =
    read c.args.state.now.view c.in-Some.least c.in-Some.ensures.some c.queued_in.result c.queued_in.ensures

pub returns-in-Some-clause-none : goal.returns-in-Some-clause-none
returns-in-Some-clause-none g c =
    not_read c.args.state.now.view c.in-Some.least c.in-Some.ensures.some c.queued_in.result c.queued_in.ensures
