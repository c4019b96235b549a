-- A dispatched least task is below every other queued task, and above no spilled one.
use Rattle.std.proofs.Common.{◌≡◌, ◌≢◌, ℕ, true, Option, Some, None, refl, sym, ap, subst, ◌∙◌, slice_get, is_some}
use Rattle.std.specs.declared.cmp.Ordering.TheVariants.{Less, Equal, Greater}
use Rattle.fractal_vt.specs.declared.key.Key.{Key}
use Rattle.fractal_vt.specs.Keys.{key_cmp}
use Rattle.fractal_vt.proofs.Proved.{equal_keys_tie, first_not_greater, less_of}
use Rattle.spill_store.specs.SpilledTasks.{Spilled, open_key}
use Rattle.spec_state.specs.declared.task.Task.{Task}
use Rattle.spec_state.specs.View.{View, task_at, block_at}
use Rattle.spec_state.specs.Tasks.{is_dispatched}
use Rattle.spec_state.specs.Groups.{keyed_task}
use Rattle.spec_state.specs.Least.{Spot, Queued, Spilled_at, HasKey, spot_cmp, IsLeastTask}
use Rattle.spec_law.specs.Sound.{SoundOrder, SoundSizes}
use Rattle.spec_law.proofs.Aborted.Spared.{queued_at, least_key}
use Rattle.spec_law.proofs.Tasks.Beside.{queued_stands}

-- a number that is there
pub number_of : (o : Option ℕ) → is_some o ≡ true → (n : ℕ) × (o ≡ Some n)
number_of None is = absurd (cc)
number_of (Some n) is = (n, refl)

-- in an order of all tasks, a task with a dispatched one's number is that one
pub same_number : (view : View) (heir : Option ℕ) → SoundOrder view heir → (a b : ℕ) (x y : Task)
    → task_at view a ≡ Some x → task_at view b ≡ Some y
    → is_dispatched x ≡ true → x.key.tb ≡ y.key.tb → a ≡ b
same_number view heir sound a b x y there there' runs same =
    let number = number_of x.key.tb runs in
    sound.order.numbers_differ a b (keyed_task x) (keyed_task y) number.0 (queued_stands view heir a x there) (queued_stands view heir b y there')
    number.1 (sym same ∙ number.1)

-- a dispatched task ties with no other
pub no_tie : (view : View) (heir : Option ℕ) → SoundOrder view heir → (a b : ℕ) (x y : Task) → task_at view a ≡ Some x
    → task_at view b ≡ Some y
    → is_dispatched x ≡ true → b ≢ a → key_cmp x.key y.key ≢ Equal
no_tie view heir sound a b x y there there' runs other tie =
    other (sym (same_number view heir sound a b x y there there' runs (ap (λ key. key.tb) ((equal_keys_tie x.key y.key).0 tie))))

module _ (view : View) (id : ℕ) (x : Task) (least : IsLeastTask view id x) where
  -- the least task is above no key
  pub upto_key : (spot : Spot) (key : Key) → HasKey view spot key → key_cmp x.key key ≢ Greater
  upto_key spot key has =
      subst (λ k. key_cmp k key ≢ Greater) (least_key view id x least)
      (first_not_greater (key_cmp least.least.key key) (spot_cmp (Queued x.tile least.place) spot) (least.least.least spot key has))

  -- so it is above no spilled task
  pub upto_spilled : (tile place : ℕ) (s : Spilled) → slice_get (block_at view tile) place ≡ Some s
      → key_cmp x.key (open_key s) ≢ Greater
  upto_spilled tile place s at = upto_key (Spilled_at tile place) (open_key s) (s, at, refl)

  -- and above no queued one
  pub upto_queued : SoundSizes view → (k : ℕ) (t : Task) → task_at view k ≡ Some t → key_cmp x.key t.key ≢ Greater
  upto_queued sizes k t there =
      let at = queued_at view sizes k t there in upto_key (Queued t.tile at.0) t.key (k, t, at.1, refl)

  -- a dispatched one is below each other queued task
  pub below_others : (heir : Option ℕ) → SoundOrder view heir → SoundSizes view → is_dispatched x ≡ true
      → (k : ℕ) (t : Task) → k ≢ id → task_at view k ≡ Some t → key_cmp x.key t.key ≡ Less
  below_others heir order sizes runs k t other there =
      less_of (key_cmp x.key t.key) (upto_queued sizes k t there) (no_tie view heir order id k x t least.queued_at.there there runs other)
