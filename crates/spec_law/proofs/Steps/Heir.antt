-- A step of one task that keeps queues and blocks keeps the least task and the heir.
use Rattle.std.proofs.Common.{◌≡◌, ℕ, [], Option, Some, None, refl, sym, ap, subst, ◌∙◌, is_some, slice_get}
use Rattle.std.proofs.Common.{slice_index_or}
use Rattle.fractal_vt.specs.declared.key.Key.{Key}
use Rattle.spec_state.specs.declared.task.Task.{Task}
use Rattle.spec_state.specs.View.{View, task_at, queue_at}
use Rattle.spec_state.specs.Least.{Spot, Queued, Spilled_at, HasKey, IsHeir, IsLeastSpot, IsLeastTask}
use Rattle.spec_law.proofs.Steps.One.{StepsOne, origin, stays_there, stepped_to, stepped_task}

-- views whose spots have the same keys have the same least spots
pub same_least : (a b : View) → ((spot : Spot) (key : Key) → HasKey a spot key → HasKey b spot key)
    → ((spot : Spot) (key : Key) → HasKey b spot key → HasKey a spot key)
    → (spot : Spot) → IsLeastSpot a spot → IsLeastSpot b spot
same_least a b forth back spot least =
    record {
      key = least.key;
      has = forth spot least.key least.has;
      least = λ other key has. least.least other key (back other key has);
    }

-- a task that was made as another one has its key and its tile
pub same_key : (x t : Task) → t ≡ stepped_task x t → t.key ≡ x.key
same_key x t made = ap (λ z. z.key) made

pub same_tile : (x t : Task) → t ≡ stepped_task x t → t.tile ≡ x.tile
same_tile x t made = ap (λ z. z.tile) made

-- a task that stays, in a view whose spots have the same keys, is the least one still
pub stays_least : (a b : View) → ((spot : Spot) (key : Key) → HasKey a spot key → HasKey b spot key)
    → ((spot : Spot) (key : Key) → HasKey b spot key → HasKey a spot key)
    → b.queues ≡ a.queues → (k : ℕ) (x t : Task) → task_at b k ≡ Some t → t.tile ≡ x.tile → IsLeastTask a k x
    → IsLeastTask b k t
stays_least a b forth back queues k x t there tile least =
    record {
      place = least.place;
      queued_at = record {
        queued =
            ap (λ lists. slice_get (slice_index_or lists t.tile []) least.place) queues
            ∙ ap (λ n. slice_get (queue_at a n) least.place) tile ∙ least.queued_at.queued;
        there = there;
      };
      least =
          subst (λ n. IsLeastSpot b (Queued n least.place)) (sym tile) (same_least a b forth back (Queued x.tile least.place) least.least);
    }

module _ (old new : View) (id : ℕ) (task behind : Task) (step : StepsOne old new id task behind) where
  -- the view after it, whose queues and blocks are the old ones
  abbrev now : View
  now = stepped_to old new

  -- the spots of before have their keys still
  forth : (spot : Spot) (key : Key) → HasKey old spot key → HasKey now spot key
  forth (Queued tile place) key (k, x, at, is) =
      let stays = stays_there old new id task behind step k x at.there in
      (k, stays.0, record { queued = at.queued; there = stays.1 }, is ∙ sym (same_key x stays.0 stays.2))
  forth (Spilled_at tile place) key has = has

  -- and no others
  back : (spot : Spot) (key : Key) → HasKey now spot key → HasKey old spot key
  back (Queued tile place) key (k, t, at, is) =
      let from = origin old new id task behind step k t at.there in
      (k, from.was, record { queued = at.queued; there = from.there }, is ∙ same_key from.was t from.made)
  back (Spilled_at tile place) key has = has

  -- the heir of that view
  kept : (heir : Option ℕ) → IsHeir old heir → IsHeir now heir
  kept (Some k) (x, least, runs) =
      let stays = stays_there old new id task behind step k x least.queued_at.there in (
        stays.0,
        stays_least old now forth back refl k x stays.0 stays.1 (same_tile x stays.0 stays.2) least,
        ap (λ key. is_some key.tb) (same_key x stays.0 stays.2) ∙ runs,
      )
  kept None none = λ k t least runs.
      (let from = origin old new id task behind step k t least.queued_at.there in
      none k from.was
      (stays_least now old back forth refl k t from.was from.there (sym (same_tile from.was t from.made)) least)
      (ap (λ key. is_some key.tb) (sym (same_key from.was t from.made)) ∙ runs))

  pub step_keeps_heir : (heir : Option ℕ) → IsHeir old heir → IsHeir new heir
  step_keeps_heir heir is = subst (λ v. IsHeir v heir) (sym step.rest) (kept heir is)
