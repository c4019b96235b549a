-- Views whose queued tasks differ in their keys alone, and whose keys compare alike: what each says of its least task,
-- of conflicts and of cascades the other says too.
use Rattle.std.proofs.Common.{◌≡◌, ◌≢◌, ◌≤◌, ℕ, Bool, true, false, List, length, Option, Some, None, refl, sym, ap}
use Rattle.std.proofs.Common.{subst, ◌∙◌, inl, inr, slice_get}
use Rattle.std.specs.Ordering.{ordering_then}
use Rattle.std.specs.declared.cmp.Ordering.TheVariants.{Greater}
use Rattle.fractal_vt.specs.declared.key.Key.{Key}
use Rattle.fractal_vt.specs.Keys.{key_cmp}
use Rattle.spill_store.specs.SpilledTasks.{Spilled, open_key}
use Rattle.spec_state.specs.declared.task.Task.{Task}
use Rattle.spec_state.specs.View.{View, task_at, queue_at, block_at}
use Rattle.spec_state.specs.Filters.{has_stored, has_touched, has_written}
use Rattle.spec_state.specs.Tasks.{is_dispatched}
use Rattle.spec_state.specs.Groups.{live_creator}
use Rattle.spec_state.specs.Least.{Spot, Queued, Spilled_at, HasKey, IsLeastSpot, IsLeastTask, IsHeir, spot_cmp}
use Rattle.spec_state.specs.Queries.{IsLater, HasLine, Conflicts}
use Rattle.spec_state.specs.Aborts.{PullsInView, IsCascade}

-- the task with another key, which is dispatched or not as the first
pub record IsSameBut (x y : Task) : Type 0 where
  pub is : y ≡ record x { key = y.key }
  pub dispatched : is_dispatched y ≡ is_dispatched x

-- the keys of one task in both views
pub data AreKeys (a b : View) (k l : Key) : Type 0 where
  of_queued : (id : ℕ) (x y : Task) → task_at a id ≡ Some x → task_at b id ≡ Some y → k ≡ x.key → l ≡ y.key
      → AreKeys a b k l
  of_spilled : (tile place : ℕ) (s t : Spilled) → slice_get (block_at a tile) place ≡ Some s
      → slice_get (block_at b tile) place ≡ Some t
      → k ≡ open_key s → l ≡ open_key t → AreKeys a b k l

-- the views have the same queued tasks but for their keys, spilled ones at the same places, and all keys compare alike
pub record AreAlike (a b : View) : Type 0 where
  pub forth : (id : ℕ) (x : Task) → task_at a id ≡ Some x → (y : Task) × (task_at b id ≡ Some y) × IsSameBut x y
  pub back : (id : ℕ) (y : Task) → task_at b id ≡ Some y → (x : Task) × (task_at a id ≡ Some x) × IsSameBut y x
  pub spilled_forth : (tile place : ℕ) (s : Spilled) → slice_get (block_at a tile) place ≡ Some s
      → (t : Spilled) × (slice_get (block_at b tile) place ≡ Some t)
  pub spilled_back : (tile place : ℕ) (t : Spilled) → slice_get (block_at b tile) place ≡ Some t
      → (s : Spilled) × (slice_get (block_at a tile) place ≡ Some s)
  pub queues : (tile : ℕ) → queue_at b tile ≡ queue_at a tile
  pub size : length b.tasks ≡ length a.tasks
  pub settings : b.settings ≡ a.settings
  pub order : (k l k' l' : Key) → AreKeys a b k k' → AreKeys a b l l' → key_cmp k' l' ≡ key_cmp k l

turned_keys : (a b : View) (k l : Key) → AreKeys b a k l → AreKeys a b l k
turned_keys a b k l (of_queued id x y there there' is is') = of_queued id y x there' there is' is
turned_keys a b k l (of_spilled tile place s t at at' is is') = of_spilled tile place t s at' at is' is

-- the second is like the first, too
pub turned : (a b : View) → AreAlike a b → AreAlike b a
turned a b alike = record {
  forth = alike.back;
  back = alike.forth;
  spilled_forth = alike.spilled_back;
  spilled_back = alike.spilled_forth;
  queues = λ tile. sym (alike.queues tile);
  size = sym alike.size;
  settings = sym alike.settings;
  order = λ k l k' l' one two. sym (alike.order k' l' k l (turned_keys a b k k' one) (turned_keys a b l l' two));
}

module _ (a b : View) (alike : AreAlike a b) where
  -- at each spot the other view has a key
  pub key_forth : (spot : Spot) (k : Key) → HasKey a spot k → (l : Key) × HasKey b spot l × AreKeys a b k l
  key_forth (Queued tile place) k has =
      let other = alike.forth has.0 has.1 has.2.there in (
        other.0.key,
        (has.0, other.0, record { queued = ap (λ ids. slice_get ids place) (alike.queues tile) ∙ has.2.queued; there = other.1 }, refl),
        of_queued has.0 has.1 other.0 has.2.there other.1 has.3 refl,
      )
  key_forth (Spilled_at tile place) k has =
      let other = alike.spilled_forth tile place has.0 has.1 in (
        open_key other.0,
        (other.0, other.1, refl),
        of_spilled tile place has.0 other.0 has.1 other.1 has.2 refl,
      )

  pub key_back : (spot : Spot) (l : Key) → HasKey b spot l → (k : Key) × HasKey a spot k × AreKeys a b k l
  key_back (Queued tile place) l has =
      let other = alike.back has.0 has.1 has.2.there in (
        other.0.key,
        (has.0, other.0, record { queued = ap (λ ids. slice_get ids place) (sym (alike.queues tile)) ∙ has.2.queued; there = other.1 }, refl),
        of_queued has.0 other.0 has.1 other.1 has.2.there refl has.3,
      )
  key_back (Spilled_at tile place) l has =
      let other = alike.spilled_back tile place has.0 has.1 in (
        open_key other.0,
        (other.0, other.1, refl),
        of_spilled tile place other.0 has.0 other.1 has.1 refl has.2,
      )

  -- the least spot is the least one there
  pub least_spot_forth : (spot : Spot) → IsLeastSpot a spot → IsLeastSpot b spot
  least_spot_forth spot least =
      let own = key_forth spot least.key least.has in
      record {
        key = own.0;
        has = own.1;
        least = λ other key has.
            (let was = key_back other key has in
            subst (λ o. ordering_then o (spot_cmp spot other) ≢ Greater) (sym (alike.order least.key was.0 own.0 key own.2 was.2))
            (least.least other was.0 was.1));
      }

  -- and so is the least task
  pub least_forth : (id : ℕ) (x : Task) → IsLeastTask a id x → (y : Task) × IsLeastTask b id y × IsSameBut x y
  least_forth id x least =
      let other = alike.forth id x least.queued_at.there in
      let tile : x.tile ≡ other.0.tile = sym (ap (λ t. t.tile) other.2.is) in (
        other.0,
        record {
          place = least.place;
          queued_at = record {
            queued =
                subst (λ t. slice_get (queue_at b t) least.place ≡ Some id) tile (ap (λ ids. slice_get ids least.place) (alike.queues x.tile) ∙ least.queued_at.queued);
            there = other.1;
          };
          least =
              subst (λ t. IsLeastSpot b (Queued t least.place)) tile (least_spot_forth (Queued x.tile least.place) least.least);
        },
        other.2,
      )

  -- a later task is one there
  pub later_forth : (id k : ℕ) (x y z : Task) → task_at a id ≡ Some x → task_at b id ≡ Some y → IsLater a x k z
      → (w : Task) × IsLater b y k w × IsSameBut z w
  later_forth id k x y z there there' later =
      let other = alike.forth k z later.there in (
        other.0,
        record {
          there = other.1;
          dispatched = other.2.dispatched ∙ later.dispatched;
          later =
              alike.order x.key z.key y.key other.0.key (of_queued id x y there there' refl refl) (of_queued k z other.0 later.there other.1 refl refl)
              ∙ later.later;
        },
        other.2,
      )

  has_line : (write : Bool) (x y : Task) (line : ℕ) → IsSameBut x y → HasLine write x line → HasLine write y line
  has_line true x y line same has = ap (λ t. has_touched t line) same.is ∙ has
  has_line false x y line same has = ap (λ t. has_written t line) same.is ∙ has

  -- a conflict is one there
  pub conflict_forth : (id line k : ℕ) (x y : Task) (write : Bool) → task_at a id ≡ Some x → task_at b id ≡ Some y
      → Conflicts a x line write k → Conflicts b y line write k
  conflict_forth id line k x y write there there' conflict =
      let later = later_forth id k x y conflict.other there there' conflict.later in
      record {
        other = later.0;
        later = later.1;
        has_line = has_line write conflict.other later.0 line later.2 conflict.has_line;
      }

  -- what is taken back with a task is taken back with it there
  pub pulls_forth : (one other : ℕ) → PullsInView a one other → PullsInView b one other
  pulls_forth one other (inl child) =
      let there = alike.forth other child.child child.there in
      inl (record { child = there.0; there = there.1; made_by = ap (λ t. live_creator t.creator) there.2.is ∙ child.made_by })
  pulls_forth one other (inr reads) =
      let writer = alike.forth one reads.writer reads.there in
      let later = later_forth one other reads.writer writer.0 reads.reader reads.there writer.1 reads.later in
      inr (record {
        writer = writer.0;
        there = writer.1;
        dispatched = writer.2.dispatched ∙ reads.dispatched;
        reader = later.0;
        later = later.1;
        meets = (
          reads.meets.0,
          ap (λ t. has_stored b.settings.line t reads.meets.0) writer.2.is
              ∙ ap (λ s. has_stored s.line reads.writer reads.meets.0) alike.settings ∙ reads.meets.1,
          ap (λ t. has_touched t reads.meets.0) later.2.is ∙ reads.meets.2,
        );
      })

-- the heir is the heir there
pub heir_forth : (a b : View) → AreAlike a b → (heir : Option ℕ) → IsHeir a heir → IsHeir b heir
heir_forth a b alike None none =
    λ id y least runs. (let x = least_forth b a (turned a b alike) id y least in none id x.0 x.1 (x.2.dispatched ∙ runs))
heir_forth a b alike (Some id) is = (let y = least_forth a b alike id is.0 is.1 in (y.0, y.1, y.2.dispatched ∙ is.2))

-- a cascade is one there
pub cascade_forth : (a b : View) → AreAlike a b → (firsts : ℕ → Type 0) (marks : List Bool) → IsCascade a firsts marks
    → IsCascade b firsts marks
cascade_forth a b alike firsts marks cascade =
    record {
      pull = cascade.pull;
      pulls = λ one other. (
        λ is. pulls_forth a b alike one other ((cascade.pulls one other).0 is),
        λ pulls. (cascade.pulls one other).1 (pulls_forth b a (turned a b alike) one other pulls),
      );
      size = subst (λ n. n ≤ length marks) (sym alike.size) cascade.size;
      least = cascade.least;
    }
