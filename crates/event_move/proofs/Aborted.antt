-- What comes of an abort.
use Rattle.std.proofs.Common.{ℕ, ◌≡◌, None, Some, refl, sym, ap, subst, ◌∙◌}
use Rattle.guest_image.specs.ImageValue.{ImageValue}
use Rattle.trace_tap.specs.declared.record.Deed.TheVariants as deed
use Rattle.trace_tap.specs.declared.record.Record.{Record}
use Rattle.event_prelude.specs.spec_state.declared.task.Task.{Task}
use Rattle.event_prelude.specs.spec_state.View.{View}
use Rattle.event_prelude.specs.spec_state.Aborts.{Aborts, OnlyNode}
use Rattle.event_prelude.specs.spec_state.Effects.{EffectValue, nothing}
use Rattle.event_prelude.specs.spec_state.Least.{IsLeastTask, IsTheLeast}
use Rattle.event_prelude.specs.spec_state.Queries.{IsLatestDispatched}
use Rattle.event_prelude.specs.spec_state.Told.{TellsBack}
use Rattle.event_prelude.specs.spec_law.Sound.{Sound}
use Rattle.event_prelude.specs.event_def.declared.event.Came.TheVariants.{Made, Refused}
use Rattle.event_prelude.specs.event_def.declared.event.Event.TheVariants as event
use Rattle.event_prelude.specs.event_def.declared.event.Reply.TheVariants as reply
use Rattle.event_prelude.specs.event_def.Causes.{LatestIsLeast}
use Rattle.event_prelude.specs.event_def.End.{IsOver}
use Rattle.event_prelude.specs.event_def.Trace.{record_of}
use Rattle.event_prelude.specs.event_def.Book.{book_of}
use Rattle.event_prelude.proofs.Below.event_basis.Proved.{firm_is_refused, abort_is_granted, latest_is_not_least}
use Rattle.event_move.specs.Moving.{ComesSo}

module _ (N : Type 0) (view : View) (going : IsOver view → ⊥) (tile : ℕ) where
  -- the latest one is the least task, and stays
  pub least_stays : (id : ℕ) (task : Task) (effect : EffectValue) → effect ≡ nothing
      → IsLatestDispatched view tile id task → IsTheLeast view id
      → ComesSo N view (event.Abort tile) (Refused reply.Firm) view effect
  least_stays id task effect fresh latest least placers taps steps =
      let both : Some least.0 ≡ Some task = sym least.1.queued_at.there ∙ latest.of_kind.there in
      let same : least.0 ≡ task = cc in
      let firm : LatestIsLeast view tile = record {
        id = id;
        task = task;
        latest = latest;
        least = subst (IsLeastTask view id) same least.1;
      } in
      ((firm_is_refused N (book_of view placers taps steps) going tile firm, (refl, refl)), fresh)

  -- the latest one is taken back, and its cascade is told
  pub aborted_latest : (image : ImageValue) (id aborted : ℕ) (task : Task) (new : View) (effect : EffectValue)
      (seen : Record) → Sound image view
      → IsLatestDispatched view tile id task → (IsTheLeast view id → ⊥)
      → (aborts : Aborts (OnlyNode id) view aborted new) × TellsBack view aborts.marks effect.back
      → effect ≡ record nothing { back = effect.back } → seen ≡ record_of deed.Abort tile None aborted new
      → ComesSo N view (event.Abort tile) (Made seen) new effect
  aborted_latest image id aborted task new effect seen sound latest other aborts rest is =
      subst (λ r. ComesSo N view (event.Abort tile) (Made r) new effect) (sym is)
      (λ placers taps steps. (
        (
          abort_is_granted N (book_of view placers taps steps) going tile id task latest.of_kind
              (latest_is_not_least image view tile id task sound latest other),
          (record { id = id; task = task; latest = latest; aborts = aborts.0 }, refl),
          refl,
        ),
        ((aborts.1, ap (λ (e : EffectValue). e.spilled) rest), ap (λ (e : EffectValue). e.arrived) rest),
      ))
