use Rattle.std.proofs.Common.{ℕ, ◌++◌, ◌∷◌, [], refl, ap, subst, ◌∙◌, sym}
use Rattle.rv_core.specs.Legs.{after_load_of}
use Rattle.rv_core.specs.Memory.{load_width}
use Rattle.undo_log.specs.Number.{number_at, IsAccessible}
use Rattle.undo_log.specs.Undo.{Load, access_of}
use Rattle.spec_dispatch.specs.spec_state.StateValue.{StateValue}
use Rattle.spec_dispatch.proofs.Below.spec_state.Proved.{formed_kept, indexed_set, keeps_some, noted_set, same_place}
use Rattle.spec_dispatch.proofs.Below.spec_state.Proved.{slots_set, stored_set}
use Rattle.spec_access.proofs.Accessed.{asks_inside, log_accessible, accessed}
use Rattle.spec_access.proofs.accessing.load_reserved.Goals as goal

pub load_with-raw-requires-clause-within : goal.load_with-raw-requires-clause-within
load_with-raw-requires-clause-within g c =
    let size : ℕ = g.N.Naming.image.data_size in
    let inside = asks_inside size _ _ _ _ c.requires.asks c.to-to.ensures.run.inside in
    subst (λ n. IsAccessible n c.args.offset c.width_of_load.result) (sym c.state.invariant.4.memory)
    (subst (IsAccessible size c.args.offset) (sym c.width_of_load.ensures) inside)

pub invariant_of-state : goal.invariant_of-state
invariant_of-state g c =
    let found = c.index_mut-task.ensures.value in
    let was = c.state.invariant.4.tasks c.args.id.0 _ found in
    let inside = asks_inside g.N.Naming.image.data_size _ _ _ _ c.requires.asks c.to-to.ensures.run.inside in
    let log = log_accessible _ _ _ _ c.load_with-raw.ensures.logged was.accesses
    (subst (IsAccessible g.N.Naming.image.data_size c.args.offset) (sym c.width_of_load.ensures) inside) in (
      c.state.invariant.0,
      c.state.invariant.1,
      c.state.invariant.2,
      slots_set _ _ _ _ _ _ _ c.state.invariant.3 found,
      stored_set _ _ c.args.id.0 _ _ _ c.state.invariant.4 found (same_place _ _ refl refl)
          (formed_kept _ _ _ _ was refl refl refl (keeps_some _ _ _) was.inner was.children log)
          c.state.invariant.4.memory,
      indexed_set _ _ _ _ _ _ _ _ c.state.invariant.5 found refl refl,
      noted_set _ _ _ _ _ found refl c.state.invariant.6,
    )

pub returns-clause-loads : goal.returns-clause-loads
returns-clause-loads g c tile core task takes had =
    let bytes = c.width_of_load.ensures in
    let width = c.args.width in
    let rd = c.args.rd in
    let memory = c.state.inside.memory in
    let offset = c.args.offset in
    let core_is = c.put_after_load.ensures
    ∙ ap (after_load_of c.args.leg.now.to width rd)
    (c.load_with-raw.ensures.value ∙ ap (number_at memory offset) bytes) in
    let log_is = c.load_with-raw.ensures.logged
    ∙ ap (λ n. c.index_mut-task.result.now.log ++ access_of memory (Load offset n) ∷ []) bytes in
    accessed c.args.id.0 _ task (Load offset (load_width width))
    (λ m. after_load_of c.args.leg.now.to width rd (number_at m offset (load_width width)))
    _ _ _ _ _ _ (ap (λ (v : StateValue). v.view) c.state.view_is) c.index_mut-task.ensures.value takes.runs.on.there
    core_is log_is c.mark.ensures refl had
