-- There is one least task at most, and what is firm.
use Rattle.std.proofs.Common.{◌≡◌, ◌≢◌, ◌≤◌, ℕ, true, false, Option, Some, None, refl, sym, ap, subst, ◌∙◌, inl, inr}
use Rattle.std.proofs.Common.{slice_get}
use Rattle.std.specs.Prelude.{is_some, length, ◌↔◌, IfSome, IsNone, IsTrue, Bool}
use Rattle.std.specs.Ordering.{nat_cmp, ordering_then, ordering_reverse}
use Rattle.std.specs.declared.cmp.Ordering.{Ordering}
use Rattle.std.specs.declared.cmp.Ordering.TheVariants.{Less, Equal, Greater}
use Rattle.std.proofs.lemmas.Cmp.{nat_cmp_total}
use Rattle.fractal_vt.specs.Keys.{key_cmp}
use Rattle.fractal_vt.proofs.Proved.{key_cmp_total}
use Rattle.spec_state.specs.declared.task.Creator.{Creator}
use Rattle.spec_state.specs.declared.task.Creator.TheVariants.{Committed, Live}
use Rattle.spec_state.specs.declared.task.Status.{Status}
use Rattle.spec_state.specs.declared.task.Status.TheVariants.{Idle, Running, Trapped, Finished}
use Rattle.spec_state.specs.declared.task.Task.{Task}
use Rattle.spec_state.specs.declared.task.Where.{Where}
use Rattle.spec_state.specs.declared.task.Where.TheVariants as where_
use Rattle.spec_state.specs.View.{View, task_at}
use Rattle.spec_state.specs.Tasks.{is_dispatched, kept_core}
use Rattle.spec_state.specs.Least.{Queued, Spilled_at, place_cmp, IsLeastTask, IsLeastSpilled, IsAllCommitted, IsHeir}
use Rattle.spec_state.specs.Least.{IsFirm, HasName, IsLeast}
use Rattle.spec_state.specs.Stored.{IsStored}
use Rattle.spec_state.specs.Fronts.{IsFirmBy, dispatched_in, name_given}
use Rattle.spec_state.proofs.Leasts.{equal_numbers}

-- where two orders, one after the other, are above neither way, the second is a tie
both_ties : (a b c d : Ordering) → c ≡ ordering_reverse a → d ≡ ordering_reverse b → ordering_then a b ≢ Greater
    → ordering_then c d ≢ Greater → b ≡ Equal
both_ties Less b c d ca db up down = absurd (down (ap (λ o. ordering_then o d) ca))
both_ties Equal Less c d ca db up down = absurd (down (ap (λ o. ordering_then o d) ca ∙ db))
both_ties Equal Equal c d ca db up down = refl
both_ties Equal Greater c d ca db up down = absurd (up refl)
both_ties Greater b c d ca db up down = absurd (up refl)

place_reverse : (t p u q : ℕ) → place_cmp u q t p ≡ ordering_reverse (place_cmp t p u q)
place_reverse t p u q = go (nat_cmp t u) (nat_cmp u t) (nat_cmp_total.antisymm u t)
  where
    go : (a b : Ordering) → b ≡ ordering_reverse a
        → ordering_then b (nat_cmp q p) ≡ ordering_reverse (ordering_then a (nat_cmp p q))
    go Less b is = ap (λ o. ordering_then o (nat_cmp q p)) is
    go Equal b is = ap (λ o. ordering_then o (nat_cmp q p)) is ∙ nat_cmp_total.antisymm q p
    go Greater b is = ap (λ o. ordering_then o (nat_cmp q p)) is

pub tied_place : (t p u q : ℕ) → place_cmp t p u q ≡ Equal → (t ≡ u) × (p ≡ q)
tied_place t p u q tie = go (nat_cmp t u) refl tie
  where
    go : (a : Ordering) → nat_cmp t u ≡ a → ordering_then a (nat_cmp p q) ≡ Equal → (t ≡ u) × (p ≡ q)
    go Less is e = absurd (cc (e))
    go Equal is e = (equal_numbers t u is, equal_numbers p q e)
    go Greater is e = absurd (cc (e))

-- there is one least task at most
pub one_least : (view : View) (a b : ℕ) (x y : Task) → IsLeastTask view a x → IsLeastTask view b y → a ≡ b
one_least view a b x y least other =
    let up = least.least.least (Queued y.tile other.place) other.least.key other.least.has in
    let down = other.least.least (Queued x.tile least.place) least.least.key least.least.has in
    let tie = both_ties (key_cmp least.least.key other.least.key) (place_cmp x.tile least.place y.tile other.place) (key_cmp other.least.key least.least.key) (place_cmp y.tile other.place x.tile least.place)
    (key_cmp_total.antisymm other.least.key least.least.key) (place_reverse x.tile least.place y.tile other.place) up down in
    let same = tied_place x.tile least.place y.tile other.place tie in
    let here = least.queued_at.queued in
    let there = other.queued_at.queued in
    let both : Some a ≡ Some b = sym here ∙ ap (λ t. slice_get (Rattle.spec_state.specs.View.queue_at view t) least.place) same.0
    ∙ ap (slice_get (Rattle.spec_state.specs.View.queue_at view y.tile)) same.1 ∙ there in
    cc

-- where a spilled task is the least no queued one is
pub not_spilled : (view : View) (tile b : ℕ) (y : Task) → IsLeastSpilled view tile → IsLeastTask view b y → ⊥
not_spilled view tile b y spilled least =
    let up = spilled.least.least (Queued y.tile least.place) least.least.key least.least.has in
    let down = least.least.least (Spilled_at tile spilled.place) spilled.least.key spilled.least.has in
    go (key_cmp spilled.least.key least.least.key) (key_cmp least.least.key spilled.least.key) (key_cmp_total.antisymm least.least.key spilled.least.key) up down
  where
    go : (a c : Ordering) → c ≡ ordering_reverse a → ordering_then a Greater ≢ Greater → ordering_then c Less ≢ Greater
        → ⊥
    go Less c is up down = down (ap (λ o. ordering_then o Less) is)
    go Equal c is up down = up refl
    go Greater c is up down = up refl

none_committed : (view : View) (b : ℕ) (y : Task) → IsAllCommitted view → IsLeastTask view b y → ⊥
none_committed view b y all least = all (Queued y.tile least.place) least.least.key least.least.has

module _ (size : ℕ) (view : View) (stored : IsStored size view) where
  on_core : (id : ℕ) (task : Task) → IsLeastTask view id task → is_some (kept_core task.status task.core) ≡ true
      → is_dispatched task ≡ true
  on_core id task least kept = (stored.tasks id task least.queued_at.there).dispatched ∙ kept

  -- the least task that keeps a core is the heir
  pub heir_running : (id : ℕ) (task : Task) (status : Status) → IsLeastTask view id task → task.status ≡ status
      → is_some (kept_core status task.core) ≡ true → IsHeir view (Some id)
  heir_running id task status least is kept =
      (task, least, on_core id task least (ap (λ s. is_some (kept_core s task.core)) is ∙ kept))

  -- where the least task is idle there is none
  pub no_heir_idle : (id : ℕ) (task : Task) → IsLeastTask view id task → task.status ≡ Idle → IsHeir view None
  no_heir_idle id task least idle k x other runs =
      let same = one_least view k id x task other least in
      let both : Some x ≡ Some task = sym other.queued_at.there ∙ ap (task_at view) same ∙ least.queued_at.there in
      let one : x ≡ task = cc in
      let off : is_dispatched x ≡ false = (stored.tasks k x other.queued_at.there).dispatched ∙ ap (λ (t : Task). is_some (kept_core t.status t.core)) one ∙ ap (λ s. is_some (kept_core s task.core)) idle in
      cc

pub no_heir_spilled : (view : View) (tile : ℕ) → IsLeastSpilled view tile → IsHeir view None
no_heir_spilled view tile spilled k x other runs = not_spilled view tile k x spilled other

pub no_heir_committed : (view : View) → IsAllCommitted view → IsHeir view None
no_heir_committed view all k x other runs = none_committed view k x all other

-- a task is firm by the heir that there is
pub firm_by : (view : View) (heir : Option ℕ) (task : Task) → IsHeir view heir → IsFirmBy heir task.creator
    → IsFirm view task
firm_by view heir task is by = go task.creator refl by
  where
    go : (creator : Creator) → task.creator ≡ creator → IsFirmBy heir creator → IsFirm view task
    go (Committed turn index) same by = inl (turn, index, same)
    go (Live creator index) same by = inr (creator.0, index, same, subst (IsHeir view) by is)

pub by_firm : (view : View) (heir : Option ℕ) (task : Task) → IsHeir view heir → IsFirm view task
    → IsFirmBy heir task.creator
by_firm view heir task is (inl committed) = subst (IsFirmBy heir) (sym committed.2) tt
by_firm view heir task is (inr live) = subst (IsFirmBy heir) (sym live.2) (go heir is)
  where
    go : (heir : Option ℕ) → IsHeir view heir → heir ≡ Some live.0
    go None none = absurd (none live.0 live.3.0 live.3.1 live.3.2)
    go (Some h) some = ap Some (one_least view h live.0 some.0 live.3.0 some.1 live.3.1)

-- the heir is the least task where it is dispatched
pub heir_in : (size : ℕ) (view : View) (least : Option Where) → IsStored size view → IfSome least (IsLeast view)
    → (IsNone least ↔ IsAllCommitted view) → IsHeir view (dispatched_in least)
heir_in size view None stored is none = no_heir_committed view (none.0 refl)
heir_in size view (Some (where_.Idle id)) stored is none = no_heir_idle size view stored id.0 is.0 is.1 is.2
heir_in size view (Some (where_.Running id)) stored is none =
    heir_running size view stored id.0 is.0 (Running is.1) is.2 is.3 refl
heir_in size view (Some (where_.Trapped id)) stored is none =
    heir_running size view stored id.0 is.0 (Trapped is.1 is.2) is.3 is.4 refl
heir_in size view (Some (where_.Finished id)) stored is none =
    heir_running size view stored id.0 is.0 Finished is.1 is.2 refl
heir_in size view (Some (where_.Spilled tile)) stored is none = no_heir_spilled view tile is

pub firm_seen : (view : View) (heir : Option ℕ) (id : ℕ) (task : Task) (firm : Bool) → task_at view id ≡ Some task
    → IsHeir view heir → (IsTrue firm ↔ IsFirmBy heir task.creator)
    → IfSome (task_at view id) (λ t. IsTrue firm ↔ IsFirm view t)
firm_seen view heir id task firm at is same =
    subst (λ o. IfSome o (λ t. IsTrue firm ↔ IsFirm view t)) (sym at)
    (λ yes. firm_by view heir task is (same.0 yes), λ firm_task. same.1 (by_firm view heir task is firm_task))

-- a firm task has the name that its creator gives
pub name_seen : (size : ℕ) (view : View) (heir : Option ℕ) (id : ℕ) (task : Task) (count : ℕ) → IsStored size view
    → task_at view id ≡ Some task → IsHeir view heir → IsFirmBy heir task.creator
    → count ≡ length view.history
    → IfSome (task_at view id) (λ t. HasName view t.creator (name_given task.creator count))
name_seen size view heir id task count stored at is by same =
    subst (λ o. IfSome o (λ t. HasName view t.creator (name_given task.creator count))) (sym at)
    (subst (λ n. HasName view task.creator (name_given task.creator n)) (sym same) (go task.creator by (stored.tasks id task at).turn))
  where
    go : (creator : Creator) → IsFirmBy heir creator
        → ((turn index : ℕ) → creator ≡ Committed turn index → turn ≤ length view.history)
        → HasName view creator (name_given creator (length view.history))
    go (Committed turn index) by upto = (upto turn index refl, refl)
    go (Live creator index) by upto = (subst (IsHeir view) by is, refl)

-- a task that isn't firm has none
pub no_name : (view : View) (heir : Option ℕ) (id : ℕ) (task : Task) → task_at view id ≡ Some task → IsHeir view heir
    → (IsFirmBy heir task.creator → ⊥)
    → IfSome (task_at view id) (λ t. (false ≡ true) ↔ IsFirm view t)
no_name view heir id task at is not =
    subst (λ o. IfSome o (λ t. (false ≡ true) ↔ IsFirm view t)) (sym at) (λ no. absurd (cc (no)), λ firm. absurd (not (by_firm view heir task is firm)))

pub has_name : (view : View) (heir : Option ℕ) (id : ℕ) (task : Task) → task_at view id ≡ Some task → IsHeir view heir
    → IsFirmBy heir task.creator
    → IfSome (task_at view id) (λ t. (true ≡ true) ↔ IsFirm view t)
has_name view heir id task at is by =
    subst (λ o. IfSome o (λ t. (true ≡ true) ↔ IsFirm view t)) (sym at) (λ yes. firm_by view heir task is by, λ firm. refl)
