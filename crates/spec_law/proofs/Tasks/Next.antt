-- In a sound view the least task may take the serial machine's next turn.
use Rattle.std.proofs.Common.{◌≡◌, ◌≢◌, ℕ, ◌+◌, ◌≤◌, le_refl, nat_le, false, length, map, Option, Some, None, is_some}
use Rattle.std.proofs.Common.{unwrap_or, option_map, refl, sym, ap, ◌∙◌, inl, inr, arith, slice_get}
use Rattle.std.proofs.lemmas.Bool.Decides.{nat_tests}
use Rattle.std.proofs.lemmas.List.{length-map, get_or_past}
use Rattle.std.proofs.lemmas.Option.{slice_get_read, slice_get-map}
use Rattle.std.specs.declared.cmp.Ordering.TheVariants.{Greater}
use Rattle.fractal_vt.specs.declared.key.Key.{Key}
use Rattle.fractal_vt.specs.Keys.{levels, key_cmp}
use Rattle.fractal_vt.specs.Levels.{closed_level, levels_cmp}
use Rattle.guest_image.specs.ImageValue.{ImageValue}
use Rattle.order_law.specs.Innermost.{IsInnermost}
use Rattle.order_law.specs.Tasks.{Keyed}
use Rattle.order_law.specs.Tasks as order
use Rattle.order_law.proofs.Proved.{innermost}
use Rattle.spill_store.specs.SpilledTasks.{Spilled, open_key}
use Rattle.spec_state.specs.task_law.Tasks.{IsSpilled}
use Rattle.spec_state.specs.task_law.Commit.{HasTurn}
use Rattle.spec_state.proofs.Below.task_law.Proved.{least_has_turn}
use Rattle.spec_state.specs.declared.task.Creator.{Creator}
use Rattle.spec_state.specs.declared.task.Creator.TheVariants.{Committed, Live}
use Rattle.spec_state.specs.declared.task.Task.{Task}
use Rattle.spec_state.specs.View.{View, task_at, queue_at, block_at}
use Rattle.spec_state.specs.Tasks.{depth_of}
use Rattle.spec_state.specs.Groups.{live_creator, heir_unless, keyed_task, all_keyed, all_spilled, bag_creator}
use Rattle.spec_state.specs.Groups.{bag_task, bag_tasks, bag_spilled, bags_spilled}
use Rattle.spec_state.specs.Least.{Spot, Queued, Spilled_at, IsQueuedAt, HasKey, spot_cmp, IsLeastSpot, IsLeastTask}
use Rattle.spec_law.specs.Laws.{MayTakeTurn, LeastIsNext, LeastSpilledIsNext}
use Rattle.spec_law.specs.Sound.{Sound, SoundSizes}
use Rattle.spec_law.proofs.Tasks.Places.{place_in_all, place_in_one, parted, in_map, get_contains}
use Rattle.spec_law.proofs.Tasks.Beside.{spilled_in_keys, queued_stands, spilled_stands, which}
use Rattle.spec_law.proofs.Tasks.Foremost.{foremost}
use Rattle.spec_law.proofs.Tasks.Returned.{spilled_has_turn}
use Rattle.spec_law.proofs.Tasks.Stacked.{run_stack}
use Rattle.fractal_vt.proofs.Proved.{first_not_greater}

-- a task without an uncommitted creator has a committed one
pub none_is_committed : (c : Creator) → live_creator c ≡ None → (turn : ℕ) × (index : ℕ) × (c ≡ Committed turn index)
none_is_committed (Committed turn index) e = (turn, index, refl)
none_is_committed (Live task index) e = absurd (cc (e))

-- the key at a place of a queue is that of the task there
pub queued_key : (view : View) (tile place id : ℕ) (task : Task) (key : Key) → IsQueuedAt view tile place id task
    → HasKey view (Queued tile place) key → key ≡ task.key
queued_key view tile place id task key at has =
    let ids : Some has.0 ≡ Some id = sym has.2.queued ∙ at.queued in
    let id_is : has.0 ≡ id = cc in
    let tasks : Some has.1 ≡ Some task = sym has.2.there ∙ ap (task_at view) id_is ∙ at.there in
    let task_is : has.1 ≡ task = cc in
    has.3 ∙ ap (λ t. t.key) task_is

-- the key at a place of a block is that of the task there
pub spilled_key_is : (view : View) (tile place : ℕ) (s : Spilled) (key : Key)
    → slice_get (block_at view tile) place ≡ Some s → HasKey view (Spilled_at tile place) key → key ≡ open_key s
spilled_key_is view tile place s key at has =
    let both : Some has.0 ≡ Some s = sym has.1 ∙ at in
    let same : has.0 ≡ s = cc in
    has.2 ∙ ap open_key same

-- the number behind another is not at most that one
pub above_test : (a b : ℕ) → a ≡ b + 1 → nat_le a b ≡ false
above_test a b above = grind (arith, nat_tests)

-- a spilled task is one for the bags
pub in_spilled : (view : View) (k : ℕ) (s : Spilled) → slice_get (all_spilled view) k ≡ Some s
    → IsSpilled (bags_spilled view) s.desc.depth (bag_spilled s).task
in_spilled view k s at = in_map bag_spilled (all_spilled view) k s at

-- the spot of a task, queued or spilled, with its levels
pub record HasSpot (view : View) (x : Keyed) : Type 0 where
  pub spot : Spot
  pub key : Key
  pub has : HasKey view spot key
  pub same : order.levels_of x ≡ levels key

module _ (view : View) (sizes : SoundSizes view) (heir : Option ℕ) where
  -- each task stands at some spot
  pub spot_of : (k : ℕ) (x : Keyed) → all_keyed view heir k ≡ Some x → HasSpot view x
  spot_of k x at = elim (which view heir k x at) [
    | inl q ↦
        let at_tile = (sizes.queued_are q.0.tile k).1 (q.0, q.1, refl, tt) in
        record {
          spot = Queued q.0.tile at_tile.0;
          key = q.0.key;
          has = (
            k,
            q.0,
            record { queued = slice_get_read (queue_at view q.0.tile) (length (queue_at view q.0.tile)) at_tile.0 k refl at_tile.1 (sym at_tile.2); there = q.1 },
            refl,
          );
          same = ap order.levels_of q.2;
        }
    | inr s ↦
        let at_tile = place_in_one view.blocks s.0 s.1 s.2 in
        record {
          spot = Spilled_at at_tile.0 at_tile.1;
          key = open_key s.1;
          has = (s.1, at_tile.2, refl);
          same = ap order.levels_of s.3;
        }
  ]

  -- below what stands at the least spot ranks no task
  pub none_below : (spot : Spot) (least : IsLeastSpot view spot) (k : ℕ) (x : Keyed) → all_keyed view heir k ≡ Some x
      → levels_cmp (levels least.key) (order.levels_of x) ≢ Greater
  none_below spot least k x at e =
      let one = spot_of k x at in
      first_not_greater (key_cmp least.key one.key) (spot_cmp spot one.spot) (least.least one.spot one.key one.has)
      (ap (levels_cmp (levels least.key)) (sym one.same) ∙ e)

module _ (image : ImageValue) (view : View) (sound : Sound image view) where
  -- the task at the least spot stands innermost in the order of tasks
  pub least_is_innermost : (spot : Spot) (least : IsLeastSpot view spot) (k : ℕ) (x : Keyed)
      → all_keyed view sound.heir k ≡ Some x → order.levels_of x ≡ levels least.key
      → IsInnermost (all_keyed view sound.heir) x
  least_is_innermost spot least k x at same =
      innermost (all_keyed view sound.heir) (map closed_level view.path) view.next k x sound.order.order
      (record { there = at; least = λ j y there e. none_below view sound.sizes sound.heir spot least j y there (ap (λ ls. levels_cmp ls (order.levels_of y)) (sym same) ∙ e) })

  -- where a queued task is the least, it may take the next turn
  may_take_turn : (id : ℕ) (task : Task) → IsLeastTask view id task → MayTakeTurn sound.serial.stack task
  may_take_turn id task is =
      let key : is.least.key
      ≡ task.key = queued_key view task.tile is.place id task is.least.key is.queued_at is.least.has in
      let inner = least_is_innermost (Queued task.tile is.place) is.least id (keyed_task task) (queued_stands view sound.heir id task is.queued_at.there) (ap levels (sym key)) in
      let by = none_is_committed task.creator inner.committed in
      let front = foremost view sound.sizes sound.heir (keyed_task task) (depth_of task) task.key.ts inner (ap (λ n. n + 1) (length-map task.key.domain closed_level)) refl in
      record {
        turn = by.0;
        index = by.1;
        creator = by.2;
        next =
            least_has_turn (length view.history) (unwrap_or sound.heir 0) id by.0 by.1 (is_some sound.heir) (bag_tasks view) (bags_spilled view)
            sound.serial.stack (bag_task task) sound.tasks.names sound.tasks.matches
            (run_stack image view.settings.budget view.history sound.serial sound.is_run)
            (record { there = ap (option_map bag_task) is.queued_at.there; creator = ap bag_creator by.2; deepest = front.deepest; first = front.first });
      }

  -- a spilled task without an uncommitted creator has a committed one: were it a child of the heir, the heir would be its creator
  pub firm_is_committed : (k : ℕ) (s : Spilled) → slice_get (all_spilled view) k ≡ Some s
      → heir_unless (nat_le s.desc.name.creator (length view.history)) sound.heir ≡ None
      → s.desc.name.creator ≤ length view.history
  firm_is_committed k s at none =
      elim (sound.tasks.names.firm s.desc.depth (bag_spilled s).task (in_spilled view k s at)) [
        | inl low ↦ low
        | inr next ↦
            let high : nat_le s.desc.name.creator (length view.history) ≡ false = above_test s.desc.name.creator (length view.history) next.0 in
            let no_heir : sound.heir ≡ None = sym (ap (λ b. heir_unless b sound.heir) high) ∙ none in
            absurd (cc (ap is_some no_heir, next.1))
      ]

  -- where a spilled task is the least, it may take the next turn, once it has come back
  spilled_may_take_turn : (tile place : ℕ) (s : Spilled) → IsLeastSpot view (Spilled_at tile place)
      → slice_get (block_at view tile) place ≡ Some s
      → (s.desc.name.creator ≤ length view.history) × HasTurn sound.serial.stack s.desc.depth (bag_spilled s).task
  spilled_may_take_turn tile place s is at =
      let key : is.key ≡ open_key s = spilled_key_is view tile place s is.key at is.has in
      let among = place_in_all view.blocks tile place s at in
      let stands = spilled_stands view sound.heir among.0 s among.1 in
      let inner = least_is_innermost (Spilled_at tile place) is stands.0 (spilled_in_keys view sound.heir s) stands.1 (ap levels (sym key)) in
      let low = firm_is_committed among.0 s among.1 inner.committed in
      let deep = (sound.sizes.spilled s (get_contains (all_spilled view) among.0 s among.1)).1 in
      let front = foremost view sound.sizes sound.heir (spilled_in_keys view sound.heir s) s.desc.depth s.desc.ts inner (ap (λ n. n + 1) (length-map s.domain closed_level) ∙ deep) refl in
      let around = parted (bags_spilled view) among.0 (bag_spilled s) (slice_get-map bag_spilled (all_spilled view) among.0 ∙ ap (option_map bag_spilled) among.1) in (
        low,
        spilled_has_turn (length view.history) (unwrap_or sound.heir 0) (length view.tasks) (is_some sound.heir) (bag_tasks view) (bags_spilled view)
            around.0 around.1 (bag_spilled s) (ap (option_map bag_task) (get_or_past view.tasks (length view.tasks) None (le_refl (length view.tasks)))) around.2 low
            sound.serial.stack sound.tasks.names sound.tasks.matches (run_stack image view.settings.budget view.history sound.serial sound.is_run)
            front.deepest front.first,
      )

-- the least task, where it is queued
pub least_is_next : LeastIsNext
least_is_next image view sound id task is = may_take_turn image view sound id task is

-- the least task, where it is spilled
pub least_spilled_is_next : LeastSpilledIsNext
least_spilled_is_next image view sound tile place s is at = spilled_may_take_turn image view sound tile place s is at
