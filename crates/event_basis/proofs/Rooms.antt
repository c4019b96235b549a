-- What makes room in a task queue leaves: a free place, the task that asks, the block of a splitter; and what is
-- taken back for a victim.
use Rattle.std.proofs.Common.{ℕ, ◌≡◌, ◌≢◌, ◌⊎◌, inl, inr, true, false, [], Some, None, refl, sym, ap, subst, ◌∙◌, arith}
use Rattle.std.proofs.Common.{if◌then◌else◌}
use Rattle.std.specs.Prelude.{slice_get}
use Rattle.std.specs.declared.cmp.Ordering.TheVariants.{Less}
use Rattle.fractal_vt.specs.declared.key.Key.{Key}
use Rattle.fractal_vt.specs.Keys.{key_cmp}
use Rattle.guest_image.specs.ImageValue.{ImageValue}
use Rattle.rv_core.specs.LegValue.{LegValue}
use Rattle.event_law.specs.spec_state.declared.task.Task.{Task}
use Rattle.event_law.specs.spec_state.View.{View, task_at, block_at}
use Rattle.event_law.specs.spec_state.Tasks.{is_dispatched, idle_again}
use Rattle.event_law.specs.spec_state.Groups.{live_creator}
use Rattle.event_law.specs.spec_state.Least.{IsFirm, IsHeir, IsLeastTask, IsLeastSpilled, IsTheLeast}
use Rattle.event_law.specs.spec_state.Aborts.{Aborts, OnlyNode, is_marked, is_marked_creator, taken_back}
use Rattle.event_law.specs.spec_state.Changes.{TakesLeg}
use Rattle.event_law.specs.spec_state.Queries.{IsQueued}
use Rattle.event_law.specs.spec_state.Room.{Asker, Enqueuer, Splitter, QueueHasRoom, IsLeastAsker, IsMovable}
use Rattle.event_law.specs.spec_state.Room.{IsTakenFor}
use Rattle.event_law.specs.spec_state.Room.{IsVictim, MakesRoom, NoneMoves, asker_of, queue_has_room, coalesces}
use Rattle.event_law.specs.spec_state.Room.{aborts_victim}
use Rattle.event_law.specs.spec_state.Room.{aborts_creator}
use Rattle.event_law.specs.spec_law.RoomLaws.{AsksAsLeast, MayBeTaken}
use Rattle.event_law.specs.spec_law.Sound.{Sound}
use Rattle.event_law.proofs.Below.spec_law.Proved.{abort_of_one_is_sound, cascade_spares_heir, heirs_are_one}
use Rattle.event_law.proofs.Below.spec_law.Proved.{not_below_least}
use Rattle.event_law.proofs.Below.spec_law.Proved.{victim_is_later}
use Rattle.event_law.proofs.Proved.{abort_leaves_heir, asker_is_there, least_is_heir, not_both, room_follows}
use Rattle.event_law.proofs.Proved.{room_is_free, room_leaves_spilled, running_is_dispatched, spilled_asks}
use Rattle.event_law.proofs.Proved.{spilled_no_heir}
use Rattle.event_law.proofs.Proved.{running_is_busy}
use Rattle.event_basis.specs.Forcing.{RunsIfTask, TakesStill}
use Rattle.event_basis.specs.Laws.{VictimMoves, RoomIsLeft, TakerStays, conflicts, frees_place, room}
use Rattle.event_basis.proofs.Taker.{commit_leaves_taker, conflicts_leave_taker}
use Rattle.event_basis.proofs.Forced.{room_like, takes_still}

-- a task that takes a leg runs, so it may ask
pub taker_asks : (view : View) (tile core id : ℕ) (leg : LegValue) (task : Task) → TakesLeg view tile core leg id task
    → RunsIfTask view (Enqueuer id)
taker_asks view tile core id leg task takes = (task, core, takes.runs.on.there, takes.runs.running)

module _ (image : ImageValue) (view : View) (sound : Sound image view) (tile : ℕ) where
  -- a task that runs and is the least one is dispatched
  least_runs : (id : ℕ) → RunsIfTask view (Enqueuer id) → (x : Task) → IsLeastTask view id x → is_dispatched x ≡ true
  least_runs id runs x least =
      let both : Some runs.0 ≡ Some x = sym runs.2 ∙ least.queued_at.there in
      let same : runs.0 ≡ x = cc in
      running_is_dispatched image view sound id runs.1 x least.queued_at.there (ap (λ (t : Task). t.status) (sym same) ∙ runs.3)

  -- who asks as the least task is the heir, or the splitter of a tile with the least spilled task
  pub asker_is_heir : (asker : Asker) → RunsIfTask view asker → IsLeastAsker view tile asker
      → asker ≡ asker_of sound.heir
  asker_is_heir (Enqueuer id) runs least =
      ap asker_of (sym (least_is_heir image view sound id least.0 least.1 (least_runs id runs least.0 least.1)))
  asker_is_heir Splitter runs least = ap asker_of (sym (spilled_no_heir view tile sound.heir least sound.is_heir))

  -- and asks so for the laws of room
  pub asks_as_least : (asker : Asker) → RunsIfTask view asker → IsLeastAsker view tile asker
      → (low : Key) × AsksAsLeast view tile asker low
  asks_as_least (Enqueuer id) runs least = (least.0.key, (least.0, least.1, least_runs id runs least.0 least.1, refl))
  asks_as_least Splitter runs least = spilled_asks view tile least

-- what makes room leaves a free place in a sound view
pub room_leaves : RoomIsLeft
room_leaves image tile asker old aborted mid sound runs makes =
    let heir = asker_is_heir image old sound tile asker runs in
    let asks = asks_as_least image old sound tile asker runs in
    record {
      sound = (room_follows image tile asker old sound heir asks makes).now;
      like = room_like tile asker old makes;
      free = room_is_free image tile asker old sound heir asks makes;
    }

-- and the task that asks for its child as it was, with its leg and what it asks for
pub room_leaves_asker : (image : ImageValue) (tile core id to : ℕ) (leg : LegValue) (task : Task) (old : View)
    (aborted : ℕ) (mid : View) → Sound image old
    → TakesLeg old tile core leg id task → MakesRoom to (Enqueuer id) old aborted mid
    → TakesStill image tile core leg id task old mid
room_leaves_asker image tile core id to leg task old aborted mid sound takes makes =
    let runs = taker_asks old tile core id leg task takes in
    let room = room_leaves image to (Enqueuer id) old aborted mid sound runs makes in
    takes_still image old mid tile core id leg task sound takes room.sound room.like
    (asker_is_there image to (Enqueuer id) old sound (asker_is_heir image old sound to (Enqueuer id) runs) (asks_as_least image old sound to (Enqueuer id) runs)
    id task refl takes.runs.on.there (running_is_busy core task.status takes.runs.running) makes)

-- whatever is forced for a task that takes a leg leaves it so
pub taker_stays : TakerStays
taker_stays image old tile core id leg task aborted mid sound takes (conflicts offset write forced) =
    conflicts_leave_taker image old tile core id leg task offset write aborted mid sound takes forced
taker_stays image old tile core id leg task aborted mid sound takes (frees_place forced) =
    commit_leaves_taker image old tile core id leg task aborted mid sound takes forced
taker_stays image old tile core id leg task aborted mid sound takes (room to forced) =
    room_leaves_asker image tile core id to leg task old aborted mid sound takes forced

-- where a place is free, nothing is changed for another
pub free_is_same : (tile : ℕ) (asker : Asker) (old : View) {aborted : ℕ} {mid : View} → QueueHasRoom old tile
    → MakesRoom tile asker old aborted mid → mid ≡ old
free_is_same tile asker old free (queue_has_room also) = refl
free_is_same tile asker old free (coalesces new full moves) = absurd (omega (arith, free, full))
free_is_same tile asker old free (aborts_victim aborted v task mid new full none least victim firm aborts moves) =
    absurd (omega (arith, free, full))
free_is_same tile asker old free (aborts_creator aborted v creator task new full none least victim loose made_by aborts) = absurd (omega (arith, free, full))

-- a block that holds the least spilled task isn't empty
pub least_in_block : (view : View) (tile : ℕ) → IsLeastSpilled view tile → block_at view tile ≢ []
least_in_block view tile least none = absurd (cc (ap (λ block. slice_get block least.place) none, least.least.has.1))

-- what makes room for a splitter leaves its block with a task
pub room_leaves_block : (image : ImageValue) (tile : ℕ) (old : View) (aborted : ℕ) (mid : View) → Sound image old
    → block_at old tile ≢ []
    → QueueHasRoom old tile ⊎ IsLeastSpilled old tile → MakesRoom tile Splitter old aborted mid → block_at mid tile ≢ []
room_leaves_block image tile old aborted mid sound some (inl free) makes =
    subst (λ view. block_at view tile ≢ []) (sym (free_is_same tile Splitter old free makes)) some
room_leaves_block image tile old aborted mid sound some (inr least) makes =
    least_in_block mid tile (room_leaves_spilled image old sound tile least makes)

-- a task that is above who asks as the least one is not the least
above_asker : (image : ImageValue) (old : View) (tile first : ℕ) (a asker : Asker) (low : Key) → Sound image old
    → AsksAsLeast old tile a low
    → MayBeTaken old asker low first → IsTheLeast old first → ⊥
above_asker image old tile first (Enqueuer id) asker low sound asks may is =
    let both : Some may.task ≡ Some is.0 = sym may.there ∙ is.1.queued_at.there in
    let same : may.task ≡ is.0 = cc in
    let below : key_cmp asks.0.key is.0.key ≡ Less =
    subst (λ (t : Task). key_cmp asks.0.key t.key ≡ Less) same (subst (λ key. key_cmp key may.task.key ≡ Less) asks.3 may.above) in
    not_below_least old sound.sizes first id is.0 asks.0 is.1 asks.1.queued_at.there below
above_asker image old tile first Splitter asker low sound asks may is = not_both old first tile is.0 is.1 asks.0

module _ (image : ImageValue) (tile : ℕ) (asker : Asker) (old : View) (v : ℕ) (x : Task) (sound : Sound image old) (runs : RunsIfTask old asker) (none : NoneMoves old tile) (least : IsLeastAsker old tile asker) (victim : IsVictim old tile asker v x) where
  -- what is taken back for a victim is another dispatched task, and later than who asks
  may_take : (first : ℕ) → IsTakenFor old v x first
      → MayBeTaken old asker (asks_as_least image old sound tile asker runs least).0 first
  may_take first taken =
      let asks = asks_as_least image old sound tile asker runs least in
      victim_is_later image old tile asker asks.0 v first x sound asks.1 none victim taken

  -- it is not the least task
  taken_is_other : (first : ℕ) → IsTakenFor old v x first → IsTheLeast old first → ⊥
  taken_is_other first taken is =
      let asks = asks_as_least image old sound tile asker runs least in
      above_asker image old tile first asker asker asks.0 sound asks.1 (may_take first taken) is

-- where nothing in a tile's queue moves and who asks does so as the least task, what is taken back for a victim is a
-- dispatched task other than the least one
pub taken_is_live : (image : ImageValue) (tile : ℕ) (asker : Asker) (old : View) (v first : ℕ) (x : Task)
    → Sound image old → RunsIfTask old asker
    → NoneMoves old tile → IsLeastAsker old tile asker → IsVictim old tile asker v x → IsTakenFor old v x first
    → (task : Task) × (task_at old first ≡ Some task) × (is_dispatched task ≡ true) × (IsTheLeast old first → ⊥)
taken_is_live image tile asker old v first x sound runs none least victim taken =
    let may = may_take image tile asker old v x sound runs none least victim first taken in
    (may.task, may.there, may.dispatched, taken_is_other image tile asker old v x sound runs none least victim first taken)

module _ (image : ImageValue) (tile : ℕ) (asker : Asker) (old : View) (v : ℕ) (x : Task) (sound : Sound image old) (victim : IsVictim old tile asker v x) (other : sound.heir ≢ Some v) (aborted : ℕ) (mid : View) (aborts : Aborts (OnlyNode v) old aborted mid) where
  -- the victim is marked
  marked : is_marked aborts.marks v ≡ true
  marked = aborts.cascade.least.holds v refl

  -- the heir isn't
  heir_spared : (heir : ℕ) → IsHeir old (Some heir) → is_marked aborts.marks heir ≡ false
  heir_spared heir is =
      cascade_spares_heir image old v x aborts.marks sound victim.there other aborts.cascade heir (heirs_are_one old sound.heir heir sound.is_heir is)

  -- so the creator of a firm victim is unmarked
  creator_spared : IsFirm old x → is_marked_creator aborts.marks (live_creator x.creator) ≡ false
  creator_spared (inl committed) = ap (λ c. is_marked_creator aborts.marks (live_creator c)) committed.2
  creator_spared (inr child) =
      ap (λ c. is_marked_creator aborts.marks (live_creator c)) child.2 ∙ heir_spared child.0 child.3

  -- and it is idle again
  victim_again : IsFirm old x → task_at mid v ≡ Some (idle_again old.version x)
  victim_again firm =
      aborts.each v ∙ (ap (taken_back old.version aborts.marks v) victim.there
      ∙ (ap (λ b. if b then (if is_marked_creator aborts.marks (live_creator x.creator) then None else Some (idle_again old.version x)) else Some x) marked
      ∙ ap (λ b. if b then None else Some (idle_again old.version x)) (creator_spared firm)))

  -- firm as it was
  firm_again : IsFirm old x → IsFirm mid (idle_again old.version x)
  firm_again (inl committed) = inl committed
  firm_again (inr child) =
      let apart : v ≢ child.0 = λ same. other (heirs_are_one old sound.heir child.0 sound.is_heir child.3 ∙ ap Some (sym same)) in
      inr (child.0, child.1, child.2, abort_leaves_heir image old sound child.0 child.3 v x aborted mid victim.there apart aborts)

  -- in its tile's queue
  queued_again : IsFirm old x → IsQueued mid tile v
  queued_again firm =
      let has = (sound.sizes.queued_are tile v).0 victim.queued in
      let both : Some has.0 ≡ Some x = sym has.1 ∙ victim.there in
      let same : has.0 ≡ x = cc in
      let now = (abort_of_one_is_sound image v x old aborted mid sound victim.there other aborts).0 in
      (now.sizes.queued_are tile v).1 (idle_again old.version x, victim_again firm, ap (λ (t : Task). t.tile) (sym same) ∙ has.2, tt)

  -- so it moves
  moves_again : IsFirm old x → IsMovable mid tile v
  moves_again firm = (
    idle_again old.version x,
    record { idle = record { queued = queued_again firm; there = victim_again firm; idle = refl }; firm = firm_again firm },
  )

-- once a firm victim is taken back for who asks as the least task, it is idle and firm, so it moves
pub victim_moves : VictimMoves
victim_moves image tile asker old v x sound runs least victim firm aborted mid aborts =
    let other : sound.heir ≢ Some v = λ heir. victim.other (asker_is_heir image old sound tile asker runs least ∙ ap asker_of heir) in
    moves_again image tile asker old v x sound victim other aborted mid aborts firm
