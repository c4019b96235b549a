-- What it says where the least task stands: which task it is, whether it commits, and how the run ended or that it
-- goes on.
use Rattle.std.proofs.Common.{ℕ, ◌≡◌, ◌≢◌, ◌<◌, ◌⊎◌, inl, inr, Some, sym, ap, subst, ◌∙◌, arith}
use Rattle.std.proofs.lemmas.Bool.{cases_eq}
use Rattle.std.specs.Prelude.{◌↔◌, length}
use Rattle.guest_image.specs.ImageValue.{ImageValue}
use Rattle.run_journal.specs.declared.end.End.TheVariants as ends
use Rattle.task_desc.specs.declared.desc.Name.{Name}
use Rattle.event_law.specs.spec_state.declared.task.Creator.{Creator}
use Rattle.event_law.specs.spec_state.declared.task.Creator.TheVariants.{Committed}
use Rattle.event_law.specs.spec_state.declared.task.Status.{Status}
use Rattle.event_law.specs.spec_state.declared.task.Status.TheVariants.{Idle, Running, Trapped, Finished}
use Rattle.event_law.specs.spec_state.declared.task.Task.{Task}
use Rattle.event_law.specs.spec_state.declared.task.TaskId.{TaskId}
use Rattle.event_law.specs.spec_state.declared.task.Where.{Where}
use Rattle.event_law.specs.spec_state.declared.task.Where.TheVariants as where_
use Rattle.event_law.specs.spec_state.View.{View, task_at}
use Rattle.event_law.specs.spec_state.Tasks.{trap_cause}
use Rattle.event_law.specs.spec_state.Least.{Spot, Queued, Spilled_at, HasName, IsAllCommitted, IsFirm, IsLeast}
use Rattle.event_law.specs.spec_state.Least.{IsLeastSpot}
use Rattle.event_law.specs.spec_state.Least.{IsLeastTask, IsLeastSpilled, IsTheLeast}
use Rattle.event_law.proofs.Below.spec_state.Heirs.{one_least as one_least_id}
use Rattle.event_law.specs.event_def.End.{HasEnd, IsOver}
use Rattle.event_law.specs.spec_law.Sound.{Sound}
use Rattle.event_law.proofs.Below.spec_law.Proved.{least_is_one}
use Rattle.event_law.proofs.Proved.{goes_on, not_all, not_both, one_least}
use Rattle.event_basis.specs.Whereabouts.{IsUnfinished, IsUntrapped, queued_in, spilled_in}
use Rattle.event_basis.proofs.Views.{least_is_committed, trap_ends}

-- the spot of the least task
spot_in : (view : View) (w : Where) → IsLeast view w → (spot : Spot) × IsLeastSpot view spot
spot_in view (where_.Idle id) is = (Queued is.0.tile is.1.place, is.1.least)
spot_in view (where_.Running id) is = (Queued is.0.tile is.2.place, is.2.least)
spot_in view (where_.Trapped id) is = (Queued is.0.tile is.3.place, is.3.least)
spot_in view (where_.Finished id) is = (Queued is.0.tile is.1.place, is.1.least)
spot_in view (where_.Spilled tile) is = (Spilled_at tile is.place, is.least)

-- where there is a least task, not all are committed
pub least_is_uncommitted : (view : View) (w : Where) → IsLeast view w → IsAllCommitted view → ⊥
least_is_uncommitted view w is all = let at = spot_in view w is in all at.0 at.1.key at.1.has

-- two tiles with the least spilled task are one
pub one_least_tile : (view : View) (tile other : ℕ) → IsLeastSpilled view tile → IsLeastSpilled view other
    → tile ≡ other
one_least_tile view tile other one two =
    let spots : Spilled_at tile one.place ≡ Spilled_at other two.place = least_is_one view (Spilled_at tile one.place) (Spilled_at other two.place) one.least two.least in
    cc

module _ (view : View) where
  -- the least task is the one that is read, where that is queued
  read_is : (w : Where) → IsLeast view w → (id : ℕ) → queued_in w ≡ Some id → IsTheLeast view id
  read_is (where_.Idle k) is id same = let one : k.0 ≡ id = cc in subst (IsTheLeast view) one (is.0, is.1)
  read_is (where_.Running k) is id same = let one : k.0 ≡ id = cc in subst (IsTheLeast view) one (is.0, is.2)
  read_is (where_.Trapped k) is id same = let one : k.0 ≡ id = cc in subst (IsTheLeast view) one (is.0, is.3)
  read_is (where_.Finished k) is id same = let one : k.0 ≡ id = cc in subst (IsTheLeast view) one (is.0, is.1)
  read_is (where_.Spilled tile) is id same = absurd (cc (same))

  is_read : (w : Where) → IsLeast view w → (id : ℕ) → IsTheLeast view id → queued_in w ≡ Some id
  is_read (where_.Idle k) is id least = ap Some (one_least_id view k.0 id is.0 least.0 is.1 least.1)
  is_read (where_.Running k) is id least = ap Some (one_least_id view k.0 id is.0 least.0 is.2 least.1)
  is_read (where_.Trapped k) is id least = ap Some (one_least_id view k.0 id is.0 least.0 is.3 least.1)
  is_read (where_.Finished k) is id least = ap Some (one_least_id view k.0 id is.0 least.0 is.1 least.1)
  is_read (where_.Spilled tile) is id least = absurd (not_both view id tile least.0 least.1 is)

  -- so is the tile where it is spilled
  read_is_spilled : (w : Where) → IsLeast view w → (tile : ℕ) → spilled_in w ≡ Some tile → IsLeastSpilled view tile
  read_is_spilled (where_.Spilled other) is tile same =
      let one : other ≡ tile = cc in subst (IsLeastSpilled view) one is
  read_is_spilled other is tile same = absurd (cc (same))

  spilled_is_read : (w : Where) → IsLeast view w → (tile : ℕ) → IsLeastSpilled view tile → spilled_in w ≡ Some tile
  spilled_is_read (where_.Idle k) is tile least = absurd (not_both view k.0 tile is.0 is.1 least)
  spilled_is_read (where_.Running k) is tile least = absurd (not_both view k.0 tile is.0 is.2 least)
  spilled_is_read (where_.Trapped k) is tile least = absurd (not_both view k.0 tile is.0 is.3 least)
  spilled_is_read (where_.Finished k) is tile least = absurd (not_both view k.0 tile is.0 is.1 least)
  spilled_is_read (where_.Spilled other) is tile least = ap Some (one_least_tile view other tile is least)

  -- two tasks that are the least one have one status
  one_status : (a b : ℕ) (x y : Task) (status : Status) → IsLeastTask view a x → x.status ≡ status
      → IsLeastTask view b y → y.status ≡ status
  one_status a b x y status one stands two =
      ap (λ (t : Task). t.status) (sym (one_least view (least_is_one view) a b x y one two)) ∙ stands

  -- a least task that is read as another than a trapped one isn't trapped
  untrapped : (w : Where) → IsLeast view w → IsUntrapped w → (id core cause : ℕ) (task : Task)
      → IsLeastTask view id task → task.status ≢ Trapped core cause
  untrapped (where_.Idle k) is free id core cause task least trapped =
      absurd (cc (sym (one_status k.0 id is.0 task Idle is.1 is.2 least) ∙ trapped))
  untrapped (where_.Running k) is free id core cause task least trapped =
      absurd (cc (sym (one_status k.0 id is.0 task (Running is.1) is.2 is.3 least) ∙ trapped))
  untrapped (where_.Trapped k) is free id core cause task least trapped = absurd free
  untrapped (where_.Finished k) is free id core cause task least trapped =
      absurd (cc (sym (one_status k.0 id is.0 task Finished is.1 is.2 least) ∙ trapped))
  untrapped (where_.Spilled tile) is free id core cause task least trapped =
      absurd (not_both view id tile task least is)

  -- likewise for a finished one
  unfinished : (w : Where) → IsLeast view w → IsUnfinished w → (id : ℕ) (task : Task) → IsLeastTask view id task
      → task.status ≢ Finished
  unfinished (where_.Idle k) is free id task least finished =
      absurd (cc (sym (one_status k.0 id is.0 task Idle is.1 is.2 least) ∙ finished))
  unfinished (where_.Running k) is free id task least finished =
      absurd (cc (sym (one_status k.0 id is.0 task (Running is.1) is.2 is.3 least) ∙ finished))
  unfinished (where_.Trapped k) is free id task least finished =
      absurd (cc (sym (one_status k.0 id is.0 task (Trapped is.1 is.2) is.3 is.4 least) ∙ finished))
  unfinished (where_.Finished k) is free id task least finished = absurd free
  unfinished (where_.Spilled tile) is free id task least finished = absurd (not_both view id tile task least is)

-- the least task is of this id exactly where it is read so
pub least_where : (view : View) (w : Where) (id : ℕ) → IsLeast view w → IsTheLeast view id ↔ (queued_in w ≡ Some id)
least_where view w id is = (is_read view w is id, read_is view w is id)

-- and spilled in this tile exactly where it is read so
pub spilled_where : (view : View) (w : Where) (tile : ℕ) → IsLeast view w
    → IsLeastSpilled view tile ↔ (spilled_in w ≡ Some tile)
spilled_where view w tile is = (spilled_is_read view w is tile, read_is_spilled view w is tile)

-- where all are committed, no task is the least one
pub none_is_least : (view : View) (id : ℕ) → IsAllCommitted view → IsTheLeast view id → ⊥
none_is_least view id all least = not_all view (least_is_one view) id least.0 least.1 all

-- and none that is spilled is
pub none_is_spilled : (view : View) (tile : ℕ) → IsAllCommitted view → IsLeastSpilled view tile → ⊥
none_is_spilled view tile all least = all (Spilled_at tile least.place) least.least.key least.least.has

-- where it is read as another than a finished one, the least task isn't finished, so none commits
pub none_commits : (view : View) (w : Where) → IsLeast view w → IsUnfinished w → (id : ℕ) (task : Task)
    → IsLeastTask view id task → task.status ≢ Finished
none_commits view w is free id task least = unfinished view w is free id task least

-- where as many have committed as may, and a task is left, the run ended at the limit
pub limit_ends : (view : View) (w : Where) → IsLeast view w → length view.history ≡ view.settings.commits
    → HasEnd view ends.Limit
limit_ends view w is full = (least_is_uncommitted view w is, full)

-- the least task is firm, so it has a name
pub least_is_firm : (image : ImageValue) (view : View) (id : ℕ) (task : Task) → Sound image view
    → IsLeastTask view id task → IsFirm view task
least_is_firm image view id task sound least = inl (least_is_committed image view id task sound least)

-- the name of a task of a committed creator
named_by : (view : View) (c : Creator) (turn index : ℕ) (name : Name) → c ≡ Committed turn index → HasName view c name
    → c ≡ Committed name.creator name.index
named_by view c turn index name made_by named =
    let has : HasName view (Committed turn index) name = subst (λ d. HasName view d name) made_by named in
    made_by ∙ ap (λ (n : Name). Committed n.creator n.index) (sym has.1)

-- a trapped least task before the limit ends the run, under its name
pub trapped_ends : (image : ImageValue) (view : View) (id core cause : ℕ) (task : Task) (name : Name) → Sound image view
    → length view.history ≢ view.settings.commits → IsLeastTask view id task → task.status ≡ Trapped core cause
    → HasName view task.creator name
    → HasEnd view (ends.Trap name cause task.core.pc)
trapped_ends image view id core cause task name sound few least trapped named =
    let by = least_is_committed image view id task sound least in
    trap_ends view id core cause name.creator name.index task few least trapped (named_by view task.creator by.0 by.1 name by.2 named)

-- where the least task is trapped the run is over
pub trapped_is_over : (image : ImageValue) (view : View) (id : TaskId) → Sound image view
    → IsLeast view (where_.Trapped id) → IsOver view
trapped_is_over image view id sound is = by_limit (cases_eq (length view.history) view.settings.commits)
  where
    by_limit : (length view.history ≡ view.settings.commits) ⊎ (length view.history ≡ view.settings.commits → ⊥)
        → IsOver view
    by_limit (inl full) = (ends.Limit, limit_ends view (where_.Trapped id) is full)
    by_limit (inr few) =
        let made = least_is_committed image view id.0 is.0 sound is.3 in (
          ends.Trap (record { creator = made.0; index = made.1 }) is.2 is.0.core.pc,
          trap_ends view id.0 is.1 is.2 made.0 made.1 is.0 few is.3 is.4 made.2,
        )

-- by what is read of it: its cause, and its name
pub read_trap_ends : (image : ImageValue) (view : View) (id : TaskId) (cause : ℕ) (task : Task) (name : Name)
    → Sound image view
    → length view.history ≢ view.settings.commits → IsLeast view (where_.Trapped id) → task_at view id.0 ≡ Some task
    → Some cause ≡ trap_cause task.status
    → HasName view task.creator name → HasEnd view (ends.Trap name cause task.core.pc)
read_trap_ends image view id cause task name sound few is there read named =
    let both : Some is.0 ≡ Some task = sym is.3.queued_at.there ∙ there in
    let same : is.0 ≡ task = cc in
    let stands : task.status ≡ Trapped is.1 is.2 = ap (λ (t : Task). t.status) (sym same) ∙ is.4 in
    let causes : Some cause ≡ Some is.2 = read ∙ ap trap_cause stands in
    let one : is.2 ≡ cause = cc in
    trapped_ends image view id.0 is.1 cause task name sound few (subst (IsLeastTask view id.0) same is.3) (stands ∙ ap (Trapped is.1) one) named

-- with a least task that is not trapped, before the limit, the run goes on
pub untrapped_goes_on : (view : View) (w : Where) → IsLeast view w → IsUntrapped w
    → length view.history ≢ view.settings.commits → IsOver view → ⊥
untrapped_goes_on view w is free few =
    goes_on view (least_is_uncommitted view w is) few (λ name cause pc trap. untrapped view w is free trap.id trap.core cause trap.task trap.least trap.trapped)

-- where a task is left and the run goes on, fewer have committed than may
pub below_limit : (image : ImageValue) (view : View) (id : ℕ) (task : Task) → Sound image view → (IsOver view → ⊥)
    → IsLeastTask view id task
    → length view.history < view.settings.commits
below_limit image view id task sound going least =
    let few = sound.tasks.few in
    let apart : length view.history ≢ view.settings.commits = λ limit. going (ends.Limit, (not_all view (least_is_one view) id task least, limit)) in
    omega (arith, few, apart)
