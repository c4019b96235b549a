-- What is taken back for a victim is later than the least task.
use Rattle.std.proofs.Common.{◌≡◌, ◌≢◌, ℕ, true, map, Option, Some, None, is_some, option_map, refl, sym, ap, subst}
use Rattle.std.proofs.Common.{◌∙◌, inl, inr}
use Rattle.std.specs.declared.cmp.Ordering.TheVariants.{Less}
use Rattle.fractal_vt.specs.declared.key.Key.{Key}
use Rattle.fractal_vt.specs.Keys.{levels}
use Rattle.fractal_vt.specs.Levels.{closed_level, levels_cmp}
use Rattle.guest_image.specs.ImageValue.{ImageValue}
use Rattle.order_law.specs.Tasks.{Keyed}
use Rattle.order_law.specs.Tasks as order
use Rattle.order_law.specs.Events as events
use Rattle.order_law.proofs.Proved.{below_dispatched}
use Rattle.spec_state.specs.task_law.Room as room
use Rattle.spec_state.proofs.Below.task_law.Proved.{victims_are_legal}
use Rattle.spec_state.specs.declared.task.Task.{Task}
use Rattle.spec_state.specs.View.{View, task_at, queue_at}
use Rattle.spec_state.specs.Tasks.{is_dispatched}
use Rattle.spec_state.specs.Groups.{keyed_task, all_keyed, room_task, room_tasks}
use Rattle.spec_state.specs.Least.{Spot, Queued, Spilled_at, IsLeastSpot, IsHeir}
use Rattle.spec_state.specs.Room.{Asker, Enqueuer, Splitter, NoneMoves, IsVictim, IsTakenFor}
use Rattle.spec_law.specs.RoomLaws.{AsksAsLeast, MayBeTaken, VictimIsLater, asking_task}
use Rattle.spec_law.specs.Sound.{Sound}
use Rattle.spec_law.proofs.Tasks.Beside.{spilled_in_keys, queued_stands, spilled_stands, which}
use Rattle.spec_law.proofs.Tasks.Next.{queued_key, none_below}
use Rattle.spec_law.proofs.Tasks.Places.{place_in_all}
use Rattle.spec_law.proofs.Tasks.Ranked.{least_is_one}
use Rattle.spec_law.proofs.Rooms.Fit.{heirs_are_one, firm_is_firm, movable_is_movable, victim_is_victim}
use Rattle.fractal_vt.proofs.Proved.{mapped_some}

-- what is there has a value
pub there_is : {X : Type 0} (o : Option X) → is_some o ≡ true → (x : X) × (o ≡ Some x)
there_is None is = absurd (cc (is))
there_is (Some x) is = (x, refl)

-- where the least task is spilled, there is no heir
no_heir : (view : View) (tile place : ℕ) (heir : Option ℕ) → IsLeastSpot view (Spilled_at tile place) → IsHeir view heir
    → heir ≡ None
no_heir view tile place None least is = refl
no_heir view tile place (Some id) least is =
    let same : Queued is.0.tile is.1.place ≡ Spilled_at tile place = least_is_one view _ _ is.1.least least in
    absurd (cc (same))

module _ (image : ImageValue) (view : View) (sound : Sound image view) where
  -- an uncommitted creator is dispatched
  creators_run : room.CreatorsAreDispatched (room_tasks view)
  creators_run k c w at made =
      let from = mapped_some room_task (task_at view k) w at in
      let of = sym (ap (λ z. z.creator) from.2) ∙ made in
      let creator = sound.order.order.creators k (keyed_task from.0) c (queued_stands view sound.heir k from.0 from.1) of in
      elim (which view sound.heir c creator.task creator.there) [
        | inl q ↦ (room_task q.0, ap (option_map room_task) q.1, ap is_some (sym (ap (λ z. z.last.tb) q.2) ∙ creator.dispatched))
        | inr s ↦ absurd (cc (creator.dispatched, ap (λ z. z.last.tb) s.3))
      ]

  -- what stands at the least spot is the least in the order of tasks
  pub least_stands : (spot : Spot) (least : IsLeastSpot view spot) (k : ℕ) (x : Keyed)
      → all_keyed view sound.heir k ≡ Some x → order.levels_of x ≡ levels least.key
      → events.IsLeastInKeys (all_keyed view sound.heir) k x
  least_stands spot least k x at same = record {
    there = at;
    least =
        λ j y there e. none_below view sound.sizes sound.heir spot least j y there (ap (λ ls. levels_cmp ls (order.levels_of y)) (sym same) ∙ e);
  }

  -- each dispatched task but the least is above it
  others_above : (id k : ℕ) (least : Keyed) (x : Task) → events.IsLeastInKeys (all_keyed view sound.heir) id least
      → k ≢ id → task_at view k ≡ Some x → is_dispatched x ≡ true
      → levels_cmp (order.levels_of least) (levels x.key) ≡ Less
  others_above id k least x is apart at dispatched =
      let number = there_is x.key.tb dispatched in
      below_dispatched (all_keyed view sound.heir) (map closed_level view.path) view.next id k number.0 least (keyed_task x) sound.order.order is apart
      (queued_stands view sound.heir k x at) number.1

  -- who asks as the least task does so for the laws of room
  asks : (tile : ℕ) (asker : Asker) (low : Key) → AsksAsLeast view tile asker low
      → room.AsksAsLeastInQueue (room_tasks view) sound.heir (asking_task asker) (levels low)
  asks tile (Enqueuer l) low is =
      let task = is.0 in
      let key : is.1.least.key ≡ task.key = queued_key view task.tile is.1.place l task is.1.least.key is.1.queued_at is.1.least.has in
      let least = least_stands (Queued task.tile is.1.place) is.1.least l (keyed_task task) (queued_stands view sound.heir l task is.1.queued_at.there) (ap levels (sym key)) in
      record {
        is_heir = sym (heirs_are_one view sound.heir l sound.is_heir (task, is.1, is.2));
        others_above = λ k w at other runs.
            let from = mapped_some room_task (task_at view k) w at in
            let above = others_above l k (keyed_task task) from.0 least (λ e. other (ap Some (sym e))) from.1 (sym (ap (λ z. z.dispatched) from.2) ∙ runs) in
            subst (λ z. levels_cmp (levels low) z.levels ≡ Less) (sym from.2) (subst (λ z. levels_cmp (levels z) (levels from.0.key) ≡ Less) (sym is.3) above);
      }
  asks tile Splitter low is =
      let spot = is.0.least in
      let s = spot.has.0 in
      let among = place_in_all view.blocks tile is.0.place s spot.has.1 in
      let stands = spilled_stands view sound.heir among.0 s among.1 in
      let least = least_stands (Spilled_at tile is.0.place) spot stands.0 (spilled_in_keys view sound.heir s) stands.1 (ap levels (sym spot.has.2)) in
      record {
        is_heir = sym (no_heir view tile is.0.place sound.heir spot sound.is_heir);
        others_above = λ k w at other runs.
            let from = mapped_some room_task (task_at view k) w at in
            let dispatched : is_dispatched from.0 ≡ true = sym (ap (λ z. z.dispatched) from.2) ∙ runs in
            let apart : k ≢ stands.0 = λ e.
            let both : Some (keyed_task from.0) ≡ Some (spilled_in_keys view sound.heir s) = sym (queued_stands view sound.heir k from.0 from.1) ∙ ap (all_keyed view sound.heir) e ∙ stands.1 in
            let same : keyed_task from.0 ≡ spilled_in_keys view sound.heir s = cc in
            absurd (cc (ap (λ z. is_some z.last.tb) same, dispatched)) in
            let above = others_above stands.0 k (spilled_in_keys view sound.heir s) from.0 least apart from.1 dispatched in
            subst (λ z. levels_cmp (levels low) z.levels ≡ Less) (sym from.2)
            (subst (λ z. levels_cmp (levels z) (levels from.0.key) ≡ Less) (sym (is.1 ∙ spot.has.2)) above);
      }

  -- what is taken back for the victim is so by the laws of room
  first_to : (v first : ℕ) (task : Task) → IsTakenFor view v task first
      → room.IsFirst sound.heir v (room_task task) first
  first_to v first task (inl firm) = inl ((firm_is_firm image view sound task).0 firm.0, firm.1)
  first_to v first task (inr loose) = inr (λ firm. loose.0 ((firm_is_firm image view sound task).1 firm), loose.1)

  taken_later : (tile : ℕ) (asker : Asker) (low : Key) (v first : ℕ) (task : Task)
      → AsksAsLeast view tile asker low → NoneMoves view tile → IsVictim view tile asker v task
      → IsTakenFor view v task first → MayBeTaken view asker low first
  taken_later tile asker low v first task asker_is none victim taken =
      let may = victims_are_legal (room_tasks view) sound.heir (queue_at view tile) (asking_task asker) (levels low) v first (room_task task) creators_run (asks tile asker low asker_is)
      (λ k moves. none k ((movable_is_movable image view sound tile k).1 moves)) (victim_is_victim view tile asker v task victim) (first_to v first task taken) in
      let from = mapped_some room_task (task_at view first) may.task may.there in
      record {
        task = from.0;
        there = from.1;
        dispatched = sym (ap (λ z. z.dispatched) from.2) ∙ may.dispatched;
        other = λ is. may.other (ap asking_task is);
        above = subst (λ z. levels_cmp (levels low) z.levels ≡ Less) from.2 may.above;
      }

pub victim_is_later : VictimIsLater
victim_is_later image view tile asker low v first task sound asker_is none victim taken =
    taken_later image view sound tile asker low v first task asker_is none victim taken
