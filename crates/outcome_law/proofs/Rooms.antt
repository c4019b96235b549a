-- Room in a task queue is made alike, and a core and a place in a commit queue are freed alike.
use Rattle.std.proofs.Common.{◌≡◌, ℕ, true, List, [], ◌∷◌, length, Option, Some, option_map, refl, sym, ap, subst, ◌∙◌}
use Rattle.std.proofs.Common.{inl, inr, arith}
use Rattle.std.specs.Prelude.{Contains}
use Rattle.std.proofs.lemmas.Bool.{cases_eq}
use Rattle.std.proofs.lemmas.List.{length-map}
use Rattle.step_script.specs.spec_state.declared.task.Creator.{Creator}
use Rattle.step_script.specs.spec_state.declared.task.Creator.TheVariants.{Committed, Live}
use Rattle.step_script.specs.spec_state.declared.task.TaskId.{TaskId}
use Rattle.step_script.specs.spec_state.declared.task.Task.{Task}
use Rattle.step_script.specs.spec_state.View.{View, task_at, queue_at, finished_at}
use Rattle.step_script.specs.spec_state.Tasks.{is_dispatched}
use Rattle.step_script.specs.spec_state.Groups.{live_creator}
use Rattle.step_script.specs.spec_state.Least.{Precedes}
use Rattle.step_script.specs.spec_state.Queries.{IsOnCore, IsFinished, IsFreeCore, IsLatest}
use Rattle.step_script.specs.spec_state.Aborts.{Aborts, OnlyNode}
use Rattle.step_script.specs.spec_state.Room.{Asker, Enqueuer, Splitter, IsLeastAsker, IsVictim, QueueHasRoom, IsFull}
use Rattle.step_script.specs.spec_state.Room.{NoneMoves}
use Rattle.step_script.specs.spec_state.Room.{Coalesces, MakesRoom, queue_has_room, coalesces, aborts_victim}
use Rattle.step_script.specs.spec_state.Room.{aborts_creator}
use Rattle.step_script.specs.event_def.Causes.{AllCoresHeld}
use Rattle.step_script.specs.event_def.Events.{FreesCore, FreesCommit}
use Rattle.step_script.specs.event_def.Events as ended
use Rattle.step_script.specs.spec_law.Sound.{SoundOrder}
use Rattle.step_script.proofs.Below.spec_law.Proved.{in_contains, not_both_ways}
use Rattle.outcome_law.specs.Alike.{IdPermutation, inverse_of, IsAlikeTask, AreAlike}
use Rattle.outcome_law.proofs.Alike.{partner, alike_turned, task_turned}
use Rattle.outcome_law.proofs.Aborts.{AreFirsts, AbortAlike, aborts_alike, one_to, live_permuted}
use Rattle.outcome_law.proofs.Anew.{HoldsTasks, IsThere}
use Rattle.outcome_law.proofs.Leasts.{queue_too, finished_too, firm_too, precedes_too, the_least_too, spilled_too}
use Rattle.outcome_law.proofs.Moves.{movable_too, coalesces_alike}
use Rattle.outcome_law.proofs.Queries.{Too, is_queued_too, on_core_too, is_finished_too, free_core_too, latest_too}
use Rattle.outcome_law.proofs.Picks.{latest_one, task_one}

-- who asks, under the other id
abbrev pub asker_too : (ℕ → ℕ) → Asker → Asker
asker_too to (Enqueuer id) = Enqueuer (to id)
asker_too to Splitter = Splitter

-- an abort of one task, and of its partner
one_first : (r : IdPermutation) (a : View) (v w : ℕ) (x : Task) → task_at a v ≡ Some x → w ≡ r.to v
    → AreFirsts r a (OnlyNode v) (OnlyNode w)
one_first r a v w x there same = record {
  there = λ k is. (x, ap (task_at a) is ∙ there);
  to = λ k is. ap r.to is ∙ sym same;
}

module _ (r : IdPermutation) (a b : View) (alike : AreAlike r a b) where
  pub abort_of_one : (v w : ℕ) (x y : Task) → task_at a v ≡ Some x → task_at b w ≡ Some y → w ≡ r.to v
      → (n m : ℕ) (a' b' : View) → Aborts (OnlyNode v) a n a' → Aborts (OnlyNode w) b m b' → AbortAlike r n m a' b'
  abort_of_one v w x y there there' same n m a' b' one two =
      aborts_alike r a b alike (OnlyNode v) (OnlyNode w) (one_first r a v w x there same)
      (one_first (inverse_of r) b w v y there' (sym (ap r.from same ∙ r.back v))) n m a' b' one two

  -- nothing is taken back
  pub none_alike : AbortAlike r 0 0 a b
  none_alike = record { aborted = refl; alike = alike }

  pub queue_length : (tile : ℕ) → length (queue_at b tile) ≡ length (queue_at a tile)
  queue_length tile = ap length (queue_too r a b alike tile) ∙ length-map (queue_at a tile) r.to

  pub queue_size_is : b.settings.task_queue ≡ a.settings.task_queue
  queue_size_is = ap (λ v. v.settings.task_queue) alike.frame

  pub has_room_too : (tile : ℕ) → QueueHasRoom a tile → QueueHasRoom b tile
  has_room_too tile free = let n = queue_length tile in let m = queue_size_is in omega arith

  pub full_too : (tile : ℕ) → IsFull a tile → IsFull b tile
  full_too tile full = let n = queue_length tile in let m = queue_size_is in omega arith

  pub asks_too : (tile : ℕ) (asker : Asker) → IsLeastAsker a tile asker → IsLeastAsker b tile (asker_too r.to asker)
  asks_too tile (Enqueuer id) is = the_least_too r a b alike id is
  asks_too tile Splitter is = spilled_too r a b alike tile is

  -- where tasks move some task is movable
  some_moves : (tile : ℕ) (new : View) → Coalesces tile a new → NoneMoves a tile → ⊥
  some_moves tile new c none = by_list c.ids refl
    where
      by_list : (ids : List ℕ) → c.ids ≡ ids → ⊥
      by_list [] is = c.some is
      by_list (k ∷ ids) is =
          none k (c.chosen.movable k (subst (λ (l : List ℕ). Contains l k) (sym is) (in_contains (k ∷ ids) k (inl refl))))

enqueuer_back : (r : IdPermutation) (k : ℕ) → asker_too r.to (Enqueuer (r.from k)) ≡ Enqueuer k
enqueuer_back r k = ap Enqueuer (r.forth k)

same_enqueuer : (k j : ℕ) → Enqueuer k ≡ Enqueuer j → k ≡ j
same_enqueuer k j e = cc

-- who asks is this one where it is so under the other ids
asker_is : (r : IdPermutation) (asker : Asker) (k : ℕ) → asker_too r.to asker ≡ Enqueuer (r.to k) → asker ≡ Enqueuer k
asker_is r (Enqueuer id) k e = ap Enqueuer (one_to r id k (same_enqueuer (r.to id) (r.to k) e))
asker_is r Splitter k e = absurd (cc (e))

module _ (r : IdPermutation) (a b : View) (alike : AreAlike r a b) (tile : ℕ) (asker : Asker) where
  pub none_moves_too : NoneMoves a tile → NoneMoves b tile
  none_moves_too none k movable =
      none (r.from k) (movable_too (inverse_of r) b a (alike_turned r a b alike) tile k movable)

  victim_too : (v : ℕ) (x : Task) → IsVictim a tile asker v x → Too r.to (IsVictim b tile (asker_too r.to asker)) v x
  victim_too v x is =
      let p = partner r a b alike v x is.there in
      record {
        y = p.y;
        is = record {
          queued = is_queued_too r a b alike tile v is.queued;
          there = p.there;
          other = λ e. is.other (asker_is r asker v e);
          last = λ k other not_asker queued. (let before = is.last (r.from k) (λ e. other (sym (r.forth k) ∙ ap r.to e))
              (λ e. not_asker (named k e))
              (is_queued_too (inverse_of r) b a (alike_turned r a b alike) tile k queued) in
              subst (λ j. Precedes b tile j (r.to v)) (r.forth k) (precedes_too r a b alike tile (r.from k) v before));
        };
        alike = p.alike;
      }
    where
      named : (k : ℕ) → asker ≡ Enqueuer (r.from k) → asker_too r.to asker ≡ Enqueuer k
      named k e = ap (asker_too r.to) e ∙ enqueuer_back r k

-- the victim is one
victim_one : (view : View) (tile : ℕ) (asker : Asker) (v w : ℕ) (x y : Task) → IsVictim view tile asker v x
    → IsVictim view tile asker w y → w ≡ v
victim_one view tile asker v w x y one two = elim (cases_eq w v) [
  | inl same ↦ same
  | inr other ↦ absurd (not_both_ways view tile v w x y one.queued one.there two.queued two.there (two.last v (λ e. other (sym e)) one.other one.queued) (one.last w other two.other two.queued))
]

-- a creator that is uncommitted is live, with this id
live_is : (c : Creator) (k : ℕ) → live_creator c ≡ Some k → (t : TaskId) × (index : ℕ) × (c ≡ Live t index) × (t.0 ≡ k)
live_is (Committed turn index) k is = absurd (cc (is))
live_is (Live task index) k is = (task, index, refl, cc)

-- an uncommitted creator is there
creator_there : (view : View) → HoldsTasks view → (v : ℕ) (x : Task) (c : ℕ) → task_at view v ≡ Some x
    → live_creator x.creator ≡ Some c → IsThere view c
creator_there view holds v x c there made =
    let l = live_is x.creator c made in
    subst (IsThere view) l.3 (holds.creators v x l.0 l.1 there l.2)

module _ (r : IdPermutation) (a b : View) (alike : AreAlike r a b) (tile : ℕ) (asker : Asker) where
  -- what two victims have in common
  record OneVictim (v w : ℕ) (x y : Task) : Type 0 where
    id : w ≡ r.to v
    task : IsAlikeTask r.to x y

  victims : (v w : ℕ) (x y : Task) → IsVictim a tile asker v x → IsVictim b tile (asker_too r.to asker) w y
      → OneVictim v w x y
  victims v w x y one two =
      let t = victim_too r a b alike tile asker v x one in
      let id : w ≡ r.to v = victim_one b tile (asker_too r.to asker) (r.to v) w t.y y t.is two in
      record {
        id = id;
        task = subst (λ z. IsAlikeTask r.to x z) (sym (task_one b w (r.to v) y t.y id two.there t.is.there)) t.alike;
      }

  pub rooms_alike : HoldsTasks a → {n m : ℕ} {a' b' : View} → MakesRoom tile asker a n a'
      → MakesRoom tile (asker_too r.to asker) b m b' → AbortAlike r n m a' b'
  rooms_alike holds (queue_has_room free) (queue_has_room free') = none_alike r a b alike
  rooms_alike holds (queue_has_room free) (coalesces new full moves) =
      absurd (let is = has_room_too r a b alike tile free in omega arith)
  rooms_alike holds (queue_has_room free) (aborts_victim m v y mid new full none least victim firm aborts moves) =
      absurd (let is = has_room_too r a b alike tile free in omega arith)
  rooms_alike holds (queue_has_room free) (aborts_creator m v c y new full none least victim loose made aborts) =
      absurd (let is = has_room_too r a b alike tile free in omega arith)
  rooms_alike holds (coalesces new full moves) (queue_has_room free) =
      absurd (let is = full_too r a b alike tile full in omega arith)
  rooms_alike holds (coalesces new full moves) (coalesces new' full' moves') =
      record { aborted = refl; alike = coalesces_alike r a b alike tile new new' moves moves' }
  rooms_alike holds (coalesces new full moves) (aborts_victim m v y mid new' full' none least victim firm aborts moves') =
      absurd (some_moves r a b alike tile new moves (none_moves_too (inverse_of r) b a (alike_turned r a b alike) tile asker none))
  rooms_alike holds (coalesces new full moves) (aborts_creator m v c y new' full' none least victim loose made aborts) =
      absurd (some_moves r a b alike tile new moves (none_moves_too (inverse_of r) b a (alike_turned r a b alike) tile asker none))
  rooms_alike holds (aborts_victim n v x mid new full none least victim firm aborts moves) (queue_has_room free) =
      absurd (let is = full_too r a b alike tile full in omega arith)
  rooms_alike holds (aborts_victim n v x mid new full none least victim firm aborts moves) (coalesces new' full' moves') =
      absurd (some_moves (inverse_of r) b a (alike_turned r a b alike) tile new' moves' (none_moves_too r a b alike tile asker none))
  rooms_alike holds (aborts_victim n v x mid new full none least victim firm aborts moves) (aborts_victim m w y mid' new' full' none' least' victim' firm' aborts' moves') =
      let same = victims v w x y victim victim' in
      let taken = abort_of_one r a b alike v w x y victim.there victim'.there same.id n m mid mid' aborts aborts' in
      record { aborted = taken.aborted; alike = coalesces_alike r mid mid' taken.alike tile new new' moves moves' }
  rooms_alike holds (aborts_victim n v x mid new full none least victim firm aborts moves) (aborts_creator m w c y new' full' none' least' victim' loose made aborts') =
      let same = victims v w x y victim victim' in
      absurd (loose (firm_too r a b alike x y same.task firm))
  rooms_alike holds (aborts_creator n v c x new full none least victim loose made aborts) (queue_has_room free) =
      absurd (let is = full_too r a b alike tile full in omega arith)
  rooms_alike holds (aborts_creator n v c x new full none least victim loose made aborts) (coalesces new' full' moves') =
      absurd (some_moves (inverse_of r) b a (alike_turned r a b alike) tile new' moves' (none_moves_too r a b alike tile asker none))
  rooms_alike holds (aborts_creator n v c x new full none least victim loose made aborts) (aborts_victim m w y mid new' full' none' least' victim' firm aborts' moves') =
      let same = victims v w x y victim victim' in
      absurd (loose (firm_too (inverse_of r) b a (alike_turned r a b alike) y x (task_turned r x y same.task) firm))
  rooms_alike holds (aborts_creator n v c x new full none least victim loose made aborts) (aborts_creator m w d y new' full' none' least' victim' loose' made' aborts') =
      let same = victims v w x y victim victim' in
      let ids : Some d ≡ Some (r.to c) = sym made' ∙ (ap (λ t. live_creator t.creator) same.task.other_is ∙ (live_permuted r.to x.creator ∙ ap (option_map r.to) made)) in
      let id : d ≡ r.to c = cc in
      creator_taken c d id (creator_there a holds v x c victim.there made) n m new new' aborts aborts'
    where
      creator_taken : (c d : ℕ) → d ≡ r.to c → IsThere a c → (n m : ℕ) (new new' : View) → Aborts (OnlyNode c) a n new
          → Aborts (OnlyNode d) b m new' → AbortAlike r n m new new'
      creator_taken c d id there n m new new' aborts aborts' = by_there there
        where
          by_there : IsThere a c → AbortAlike r n m new new'
          by_there (x, at) =
              (let p = partner r a b alike c x at in abort_of_one r a b alike c d x p.y at (ap (task_at b) id ∙ p.there) id n m new new' aborts aborts')

-- ---- cores and commit queues

module _ (r : IdPermutation) (a b : View) (alike : AreAlike r a b) (heir : Option ℕ) (order : SoundOrder b heir) where
  -- the latest of a kind is one, and is taken back alike
  pub latest_taken : (kind kind' : ℕ → Task → Type 0)
      → ((k : ℕ) (x : Task) → kind k x → Too r.to kind' k x) → ((k : ℕ) (x : Task) → kind' k x → Too r.from kind k x)
      → ((k : ℕ) (x : Task) → kind k x → task_at a k ≡ Some x)
      → ((k : ℕ) (x : Task) → kind' k x → (task_at b k ≡ Some x) × (is_dispatched x ≡ true))
      → (v w : ℕ) (x y : Task) → IsLatest kind v x → IsLatest kind' w y → (n m : ℕ) (a' b' : View)
      → Aborts (OnlyNode v) a n a' → Aborts (OnlyNode w) b m b' → AbortAlike r n m a' b'
  latest_taken kind kind' on back there runs v w x y one two n m a' b' aborts aborts' =
      let t = latest_too r kind kind' on back v x one in
      let same : w ≡ r.to v = latest_one b heir order kind' runs w (r.to v) y t.y two t.is in
      abort_of_one r a b alike v w x y (there v x one.of_kind) (runs w y two.of_kind).0 same n m a' b' aborts aborts'

  held_too : (tile core : ℕ) → AllCoresHeld b tile → IsFreeCore a tile core → ⊥
  held_too tile core held free = held core (free_core_too r a b alike tile core free)

  held_back : (tile core : ℕ) → AllCoresHeld a tile → IsFreeCore b tile core → ⊥
  held_back tile core held free = held core (free_core_too (inverse_of r) b a (alike_turned r a b alike) tile core free)

  -- a core is freed alike
  pub cores_alike : (tile : ℕ) → ((core k : ℕ) (x : Task) → IsOnCore b tile core k x → is_dispatched x ≡ true)
      → {n m : ℕ} {a' b' : View} → FreesCore tile a n a' → FreesCore tile b m b' → AbortAlike r n m a' b'
  cores_alike tile runs (ended.has_free core free) (ended.has_free core' free') = none_alike r a b alike
  cores_alike tile runs (ended.has_free core free) (ended.aborts_latest m w y new held latest aborts) =
      absurd (held_too tile core held free)
  cores_alike tile runs (ended.aborts_latest n v x new held latest aborts) (ended.has_free core free) =
      absurd (held_back tile core held free)
  cores_alike tile runs (ended.aborts_latest n v x new held latest aborts) (ended.aborts_latest m w y new' held' latest' aborts') =
      latest_taken (λ id task. (core : ℕ) × IsOnCore a tile core id task) (λ id task. (core : ℕ) × IsOnCore b tile core id task)
      (λ k z is. (let t = on_core_too r a b alike tile is.0 k z is.1 in record { y = t.y; is = (is.0, t.is); alike = t.alike }))
      (λ k z is. (let t = on_core_too (inverse_of r) b a (alike_turned r a b alike) tile is.0 k z is.1 in record { y = t.y; is = (is.0, t.is); alike = t.alike }))
      (λ k z is. is.1.there)
      (λ k z is. (is.1.there, runs is.0 k z is.1))
      v w x y latest latest' n m new new' aborts aborts'

  finished_length : (tile : ℕ) → length (finished_at b tile) ≡ length (finished_at a tile)
  finished_length tile = ap length (finished_too r a b alike tile) ∙ length-map (finished_at a tile) r.to

  -- a place in a commit queue is freed alike
  pub commit_alike : (tile : ℕ) (task task' : Task)
      → ((k : ℕ) (x : Task) → IsFinished b tile k x → is_dispatched x ≡ true) → {n m : ℕ} {a' b' : View}
      → FreesCommit tile task a n a' → FreesCommit tile task' b m b' → AbortAlike r n m a' b'
  commit_alike tile task task' runs (ended.has_free free) (ended.has_free free') = none_alike r a b alike
  commit_alike tile task task' runs (ended.has_free free) (ended.aborts_latest m w y new full latest later aborts) =
      absurd (let length_is = finished_length tile in let room : b.settings.commit_queue ≡ a.settings.commit_queue = ap (λ v. v.settings.commit_queue) alike.frame in omega arith)
  commit_alike tile task task' runs (ended.aborts_latest n v x new full latest later aborts) (ended.has_free free) =
      absurd (let length_is = finished_length tile in let room : b.settings.commit_queue ≡ a.settings.commit_queue = ap (λ v. v.settings.commit_queue) alike.frame in omega arith)
  commit_alike tile task task' runs (ended.aborts_latest n v x new full latest later aborts) (ended.aborts_latest m w y new' full' latest' later' aborts') =
      latest_taken (IsFinished a tile) (IsFinished b tile) (is_finished_too r a b alike tile) (is_finished_too (inverse_of r) b a (alike_turned r a b alike) tile)
      (λ k z is. is.there) (λ k z is. (is.there, runs k z is)) v w x y latest latest' n m new new' aborts aborts'
