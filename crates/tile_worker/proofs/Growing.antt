-- Events leave the journal and the output as they are, but for a commit, which adds an entry to the journal and the
-- task's bytes to the output.
use Rattle.std.proofs.Common.{ℕ, zero, suc, List, [], ◌++◌, refl, sym, ap, subst, ◌∙◌}
use Rattle.std.proofs.lemmas.List.{append-nil, append_assoc}
use Rattle.guest_image.specs.ImageValue.{ImageValue}
use Rattle.place_policy.specs.Policy.{Policy}
use Rattle.conflict_book.specs.spec_state.View.{View}
use Rattle.conflict_book.specs.event_def.declared.event.Event.{Event}
use Rattle.conflict_book.specs.event_def.declared.event.Event.TheVariants as event
use Rattle.conflict_book.specs.event_def.declared.event.Halt.{Halt}
use Rattle.conflict_book.specs.event_def.Advancing.{AdvancesBy}
use Rattle.conflict_book.specs.event_def.Book.{BookView}
use Rattle.conflict_book.specs.event_def.Events.{Makes}
use Rattle.conflict_book.proofs.Below.event_law.Proved.{Stays, event_stays}
use Rattle.conflict_book.specs.Halting.{RunsLeast}
use Rattle.tile_worker.specs.Grows.{Grows}

-- what stays goes on with nothing
grows_by_none : (old new : View) → Stays old new → Grows old new
grows_by_none old new stays =
    record {
      entries = [];
      history = ap (λ p. p.0) stays ∙ sym (append-nil old.history);
      bytes = [];
      output = ap (λ p. p.1) stays ∙ sym (append-nil old.output);
    }

pub grows_refl : (view : View) → Grows view view
grows_refl view = grows_by_none view view refl

pub grows_trans : (old mid new : View) → Grows old mid → Grows mid new → Grows old new
grows_trans old mid new one other =
    record {
      entries = one.entries ++ other.entries;
      history =
          other.history ∙ ap (λ es. es ++ other.entries) one.history
          ∙ append_assoc old.history one.entries other.entries;
      bytes = one.bytes ++ other.bytes;
      output = other.output ∙ ap (λ bs. bs ++ other.bytes) one.output ∙ append_assoc old.output one.bytes other.bytes;
    }

-- whatever event was made, the run goes on
pub event_grows : (N : Type 0) (book : BookView) (aborted : ℕ) (new : View) (placers : List Policy) (e : Event N)
    → Makes book e aborted new placers → Grows book.view new
event_grows N book aborted new placers event.Commit made =
    record { entries = _; history = made.0.history; bytes = _; output = made.0.output }
event_grows N book aborted new placers (event.Dispatch tile) made =
    grows_by_none book.view new (event_stays book aborted new placers N (event.Dispatch tile) tt made)
event_grows N book aborted new placers (event.Step tile core leg) made =
    grows_by_none book.view new (event_stays book aborted new placers N (event.Step tile core leg) tt made)
event_grows N book aborted new placers (event.Abort tile) made =
    grows_by_none book.view new (event_stays book aborted new placers N (event.Abort tile) tt made)
event_grows N book aborted new placers (event.Coalesce tile) made =
    grows_by_none book.view new (event_stays book aborted new placers N (event.Coalesce tile) tt made)
event_grows N book aborted new placers (event.Split tile) made =
    grows_by_none book.view new (event_stays book aborted new placers N (event.Split tile) tt made)

grows_by : (N : Type 0) (image : ImageValue) (made : ℕ) (old new : BookView) → AdvancesBy N image made old new
    → Grows old.view new.view
grows_by N image zero old new same = subst (λ (b : BookView). Grows old.view b.view) same (grows_refl old.view)
grows_by N image (suc made) old new is =
    let one = is.3 in
    grows_trans old.view is.0.view new.view (grows_by N image made old is.0 is.2)
    (event_grows N is.0 is.1 new.view new.placers one.event one.happens.makes)

-- so it does in a run by the least tasks
pub runs_grow : (N : Type 0) (image : ImageValue) (old new : BookView) (halt : Halt) → RunsLeast N image old halt new
    → Grows old.view new.view
runs_grow N image old new halt runs = grows_by N image runs.made old new runs.advances
