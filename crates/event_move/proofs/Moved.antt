-- What comes of a coalescing, and of a split.
use Rattle.std.proofs.Common.{ℕ, ◌≡◌, ◌≢◌, ◌⊎◌, [], None, Some, map, refl, sym, subst}
use Rattle.std.specs.declared.option.Option.{Option}
use Rattle.std.specs.Prelude.{Result, Ok, Err, IsOk, OnOk}
use Rattle.trace_tap.specs.declared.record.Deed.TheVariants as deed
use Rattle.trace_tap.specs.declared.record.Record.{Record}
use Rattle.event_prelude.specs.spec_state.declared.task.TaskId.{TaskId}
use Rattle.event_prelude.specs.spec_state.Effects.{EffectValue, nothing}
use Rattle.event_prelude.specs.spec_state.View.{View, block_at}
use Rattle.event_prelude.specs.spec_state.Least.{IsLeastSpilled}
use Rattle.event_prelude.specs.spec_state.Room.{Coalesces, IsMovable, MakesRoom, QueueHasRoom, Splits, Splitter}
use Rattle.event_prelude.specs.spec_state.Told.{told_spilled}
use Rattle.event_prelude.specs.event_def.declared.event.Came.TheVariants.{Made, Refused}
use Rattle.event_prelude.specs.event_def.declared.event.Event.TheVariants as event
use Rattle.event_prelude.specs.event_def.declared.event.Reply.TheVariants as reply
use Rattle.event_prelude.specs.event_def.End.{IsOver}
use Rattle.event_prelude.specs.event_def.Telling.{TellsRoom}
use Rattle.event_prelude.specs.event_def.Trace.{record_of}
use Rattle.event_prelude.specs.event_def.Book.{book_of}
use Rattle.event_prelude.proofs.Below.event_basis.Proved.{split_is_granted, coalesce_is_granted}
use Rattle.event_prelude.proofs.Proved.{room_told}
use Rattle.event_move.specs.Moving.{ComesSo}

-- what a call leaves that succeeds
pub of_ok : {T E P : Type 0} (result : Result T E) → IsOk result → OnOk result P → P
of_ok (Ok value) ok left = left
of_ok (Err error) ok left = absurd (cc (ok))

module _ (N : Type 0) (view : View) (going : IsOver view → ⊥) (tile : ℕ) where
  module _ (id : ℕ) (moves : IsMovable view tile id) (effect : EffectValue) where
    -- memory runs out
    pub coalesce_runs_out : (new : View) → new ≡ view → effect ≡ nothing
        → ComesSo N view (event.Coalesce tile) (Refused reply.Memory) new effect
    coalesce_runs_out new same fresh placers taps steps =
        ((coalesce_is_granted N (book_of view placers taps steps) going tile id moves, tt, (same, refl)), fresh)

    -- its idle firm tasks move, and they are told
    pub coalesced : (new : View) (seen : Record) (change : Coalesces tile view new)
        → effect ≡ record nothing { spilled = map (told_spilled view) change.ids }
        → seen ≡ record_of deed.Coalesce tile None 0 new
        → ComesSo N view (event.Coalesce tile) (Made seen) new effect
    coalesced new seen change told is =
        subst (λ r. ComesSo N view (event.Coalesce tile) (Made r) new effect) (sym is)
        (λ placers taps steps. (
          (
            coalesce_is_granted N (book_of view placers taps steps) going tile id moves,
            (change, record { none = refl; same = refl }),
            refl,
          ),
          told,
        ))

  -- once the queue has made room for it, the least task of its block comes back, and is told beside what room cost
  pub came_back : (aborted : ℕ) (mid new : View) (made effect : EffectValue) (seen : Record)
      → block_at view tile ≢ [] → QueueHasRoom view tile ⊎ IsLeastSpilled view tile
      → (makes : MakesRoom tile Splitter view aborted mid) × TellsRoom tile Splitter view aborted mid makes made
      → (splits : Splits tile mid new) × (effect ≡ record made { arrived = Some (record { 0 = splits.id }) })
      → seen ≡ record_of deed.Split tile None aborted new
      → ComesSo N view (event.Split tile) (Made seen) new effect
  came_back aborted mid new made effect seen some tried room splits is =
      let arrived : Option TaskId = Some (record { 0 = splits.0.id }) in
      subst (λ (e : EffectValue). ComesSo N view (event.Split tile) (Made seen) new e) (sym splits.1)
      (subst (λ r. ComesSo N view (event.Split tile) (Made r) new (record made { arrived = arrived })) (sym is)
      (λ placers taps steps. (
        (
          split_is_granted N (book_of view placers taps steps) going tile some tried,
          (record { mid = mid; tried = tried; forced = room.0; change = splits.0 }, refl),
          refl,
        ),
        (room_told tile Splitter view aborted mid room.0 made arrived room.1, refl),
      )))
