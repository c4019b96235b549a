-- What comes of a commit.
use Rattle.std.proofs.Common.{ℕ, ◌≡◌, ◌≢◌, None, refl, sym, ap, subst, ◌∙◌}
use Rattle.trace_tap.specs.declared.record.Deed.TheVariants as deed
use Rattle.trace_tap.specs.declared.record.Record.{Record}
use Rattle.event_prelude.specs.spec_state.declared.task.Status.TheVariants.{Finished}
use Rattle.event_prelude.specs.spec_state.declared.task.Task.{Task}
use Rattle.event_prelude.specs.spec_state.View.{View}
use Rattle.event_prelude.specs.spec_state.Changes.{Commits}
use Rattle.event_prelude.specs.spec_state.Effects.{EffectValue, nothing}
use Rattle.event_prelude.specs.spec_state.Least.{IsLeastTask}
use Rattle.event_prelude.specs.event_def.declared.event.Came.TheVariants.{Made, Refused}
use Rattle.event_prelude.specs.event_def.declared.event.Reply.TheVariants as reply
use Rattle.event_prelude.specs.event_def.declared.event.Event.TheVariants as event
use Rattle.event_prelude.specs.event_def.End.{IsOver}
use Rattle.event_prelude.specs.event_def.Trace.{record_of}
use Rattle.event_prelude.specs.event_def.Book.{book_of}
use Rattle.event_prelude.proofs.Below.event_basis.Proved.{commit_is_granted, empty_is_refused}
use Rattle.event_move.specs.Moving.{CommitComes}

module _ (N : Type 0) (view : View) (going : IsOver view → ⊥) (effect : EffectValue) (fresh : effect ≡ nothing) where
  -- the least task isn't finished
  pub none_finished : ((id : ℕ) (task : Task) → IsLeastTask view id task → task.status ≢ Finished)
      → CommitComes N view (Refused reply.Empty) view effect
  none_finished none placers taps steps =
      ((empty_is_refused N (book_of view placers taps steps) going event.Commit none, (refl, refl)), fresh)

  module _ (id : ℕ) (task : Task) (least : IsLeastTask view id task) (finished : task.status ≡ Finished) where
    -- memory runs out
    pub commit_runs_out : (new : View) → new ≡ view → CommitComes N view (Refused reply.Memory) new effect
    commit_runs_out new same placers taps steps = (
      (commit_is_granted N (book_of view placers taps steps) going id task least finished, tt, (same, refl)),
      fresh,
    )

    -- it commits
    pub committed : (tile : ℕ) (new : View) (seen : Record) → Commits view new → tile ≡ task.tile
        → seen ≡ record_of deed.Commit tile None 0 new → CommitComes N view (Made seen) new effect
    committed tile new seen commits there is =
        subst (λ r. CommitComes N view (Made r) new effect)
        (sym (is ∙ ap (λ t. record_of deed.Commit t None 0 new) there))
        (λ placers taps steps. (
          (
            commit_is_granted N (book_of view placers taps steps) going id task least finished,
            (commits, refl, refl),
            (id, task, least, refl),
          ),
          fresh,
        ))
