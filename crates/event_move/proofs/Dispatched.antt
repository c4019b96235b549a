-- What comes of a dispatch.
use Rattle.std.proofs.Common.{ℕ, ◌≡◌, None, refl, sym, subst}
use Rattle.trace_tap.specs.declared.record.Deed.TheVariants as deed
use Rattle.trace_tap.specs.declared.record.Record.{Record}
use Rattle.event_prelude.specs.spec_state.declared.task.Task.{Task}
use Rattle.event_prelude.specs.spec_state.Effects.{EffectValue}
use Rattle.event_prelude.specs.spec_state.View.{View}
use Rattle.event_prelude.specs.spec_state.Least.{IsTheLeast}
use Rattle.event_prelude.specs.spec_state.Queries.{IsLeastIdle}
use Rattle.spec_dispatch.specs.Numbered.{NumbersAndDispatches}
use Rattle.event_prelude.specs.event_def.declared.event.Came.TheVariants.{Made}
use Rattle.event_prelude.specs.event_def.declared.event.Event.TheVariants as event
use Rattle.event_prelude.specs.event_def.Causes.{AllCoresHeld}
use Rattle.event_prelude.specs.event_def.End.{IsOver}
use Rattle.event_prelude.specs.event_def.Events.{FreesCore}
use Rattle.event_prelude.specs.event_def.Telling.{TellsCore}
use Rattle.event_prelude.specs.event_def.Trace.{record_of}
use Rattle.event_prelude.specs.event_def.Book.{book_of}
use Rattle.event_prelude.proofs.Below.event_basis.Proved.{dispatch_is_granted, least_is_not_busy}
use Rattle.event_move.specs.Moving.{ComesSo}

module _ (N : Type 0) (view : View) (going : IsOver view → ⊥) (tile : ℕ) where
  -- its least idle task is dispatched, and it is told who was taken back for its core
  pub dispatched : (id aborted : ℕ) (task : Task) (mid new : View) (cleared effect : EffectValue) (seen : Record)
      → IsLeastIdle view tile id task → (AllCoresHeld view tile → IsTheLeast view id)
      → (frees : FreesCore tile view aborted mid) × TellsCore tile view aborted mid frees cleared
      → cleared.arrived ≡ None → NumbersAndDispatches tile mid new → effect ≡ cleared
      → seen ≡ record_of deed.Dispatch tile None aborted new
      → ComesSo N view (event.Dispatch tile) (Made seen) new effect
  dispatched id aborted task mid new cleared effect seen idle may frees arrived change same is =
      subst (λ (e : EffectValue). ComesSo N view (event.Dispatch tile) (Made seen) new e) (sym same)
      (subst (λ r. ComesSo N view (event.Dispatch tile) (Made r) new cleared) (sym is)
      (λ placers taps steps. (
        (
          dispatch_is_granted N (book_of view placers taps steps) going tile id task idle.idle
              (λ b. least_is_not_busy view tile id task idle (may b.held) b),
          (
            record {
              mid = mid;
              forced = frees.0;
              ready = change.ready;
              number = change.number;
              change = change.change;
            },
            refl,
          ),
          refl,
        ),
        (frees.1, arrived),
      )))
