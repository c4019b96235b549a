-- Views that are alike have the same least task, the same heir, and the same ends.
use Rattle.std.proofs.Common.{◌≡◌, ◌≤◌, ◌+◌, ℕ, List, [], map, length, Option, Some, option_map, sym, ap, subst, ◌∙◌}
use Rattle.std.proofs.Common.{inl, inr}
use Rattle.std.specs.Prelude.{slice_get, slice_index_or}
use Rattle.std.specs.declared.cmp.Ordering.TheVariants.{Less}
use Rattle.std.proofs.lemmas.Option.{slice_get-map}
use Rattle.fractal_vt.specs.declared.key.Key.{Key}
use Rattle.run_journal.specs.declared.end.End.{End}
use Rattle.run_journal.specs.declared.end.End.TheVariants as ends
use Rattle.task_desc.specs.declared.desc.Name.{Name}
use Rattle.step_script.specs.spec_state.declared.task.Creator.{Creator}
use Rattle.step_script.specs.spec_state.declared.task.Creator.TheVariants.{Committed, Live}
use Rattle.step_script.specs.spec_state.declared.task.Task.{Task}
use Rattle.step_script.specs.spec_state.View.{View, queue_at, finished_at, cores_at, block_at}
use Rattle.step_script.specs.spec_state.Tasks.{is_dispatched}
use Rattle.step_script.specs.spec_state.Least.{Spot, Queued, Spilled_at, IsQueuedAt, HasKey, ranked_cmp, IsLeastSpot}
use Rattle.step_script.specs.spec_state.Least.{IsLeastTask}
use Rattle.step_script.specs.spec_state.Least.{IsTheLeast, IsLeastSpilled, IsAllCommitted, IsHeir, IsFirm, HasName}
use Rattle.step_script.specs.spec_state.Least.{Precedes}
use Rattle.step_script.proofs.Below.spec_state.Proved.{map_at}
use Rattle.step_script.specs.event_def.End.{HasEnd, IsOver, LeastIsTrapped}
use Rattle.outcome_law.specs.Alike.{IdPermutation, inverse_of, permuted_creator, IsAlikeTask, AreAlike}
use Rattle.outcome_law.specs.Laws.{EndIsAlike}
use Rattle.outcome_law.proofs.Alike.{partner, alike_turned}

-- a task stands at the place, and its partner there
pub record QueuedToo (r : IdPermutation) (b : View) (tile place k : ℕ) (x : Task) : Type 0 where
  pub y : Task
  pub at : IsQueuedAt b tile place (r.to k) y
  pub alike : IsAlikeTask r.to x y

-- the least task is the partner
pub record LeastToo (r : IdPermutation) (b : View) (id : ℕ) (x : Task) : Type 0 where
  pub y : Task
  pub least : IsLeastTask b (r.to id) y
  pub alike : IsAlikeTask r.to x y

module _ (r : IdPermutation) (a b : View) (alike : AreAlike r a b) where
  pub queue_too : (tile : ℕ) → queue_at b tile ≡ map r.to (queue_at a tile)
  queue_too tile =
      ap (λ (qs : List (List ℕ)). slice_index_or qs tile []) alike.queues ∙ map_at (map r.to) a.queues tile []

  pub finished_too : (tile : ℕ) → finished_at b tile ≡ map r.to (finished_at a tile)
  finished_too tile =
      ap (λ (qs : List (List ℕ)). slice_index_or qs tile []) alike.finished ∙ map_at (map r.to) a.finished tile []

  pub cores_too : (tile : ℕ) → cores_at b tile ≡ map (option_map r.to) (cores_at a tile)
  cores_too tile =
      ap (λ (qs : List (List (Option ℕ))). slice_index_or qs tile []) alike.cores
      ∙ map_at (map (option_map r.to)) a.cores tile []

  pub block_too : (tile : ℕ) → block_at b tile ≡ block_at a tile
  block_too tile = ap (λ v. block_at v tile) alike.frame

  pub history_too : b.history ≡ a.history
  history_too = ap (λ v. v.history) alike.frame

  pub queued_too : (tile place k : ℕ) (x : Task) → IsQueuedAt a tile place k x → QueuedToo r b tile place k x
  queued_too tile place k x is =
      let p = partner r a b alike k x is.there in
      record {
        y = p.y;
        at = record {
          queued =
              ap (λ q. slice_get q place) (queue_too tile) ∙ slice_get-map r.to (queue_at a tile) place
              ∙ ap (option_map r.to) is.queued;
          there = p.there;
        };
        alike = p.alike;
      }

  pub key_too : (spot : Spot) (key : Key) → HasKey a spot key → HasKey b spot key
  key_too (Queued tile place) key has =
      let q = queued_too tile place has.0 has.1 has.2 in
      (r.to has.0, q.y, q.at, has.3 ∙ sym (ap (λ t. t.key) q.alike.other_is))
  key_too (Spilled_at tile place) key has = (has.0, ap (λ block. slice_get block place) (block_too tile) ∙ has.1, has.2)

module _ (r : IdPermutation) (a b : View) (alike : AreAlike r a b) where
  pub spot_too : (spot : Spot) → IsLeastSpot a spot → IsLeastSpot b spot
  spot_too spot is = record {
    key = is.key;
    has = key_too r a b alike spot is.key is.has;
    least =
        λ other other_key has. is.least other other_key (key_too (inverse_of r) b a (alike_turned r a b alike) other other_key has);
  }

  pub least_too : (id : ℕ) (x : Task) → IsLeastTask a id x → LeastToo r b id x
  least_too id x is =
      let q = queued_too r a b alike x.tile is.place id x is.queued_at in
      let tile : x.tile ≡ q.y.tile = sym (ap (λ t. t.tile) q.alike.other_is) in
      record {
        y = q.y;
        least = record {
          place = is.place;
          queued_at = subst (λ t. IsQueuedAt b t is.place (r.to id) q.y) tile q.at;
          least = spot_too (Queued q.y.tile is.place) (subst (λ t. IsLeastSpot a (Queued t is.place)) tile is.least);
        };
        alike = q.alike;
      }

  pub the_least_too : (id : ℕ) → IsTheLeast a id → IsTheLeast b (r.to id)
  the_least_too id is = let l = least_too id is.0 is.1 in (l.y, l.least)

  pub spilled_too : (tile : ℕ) → IsLeastSpilled a tile → IsLeastSpilled b tile
  spilled_too tile is = record { place = is.place; least = spot_too (Spilled_at tile is.place) is.least }

  pub committed_too : IsAllCommitted a → IsAllCommitted b
  committed_too all spot key has = all spot key (key_too (inverse_of r) b a (alike_turned r a b alike) spot key has)

  pub heir_too : (id : ℕ) → IsHeir a (Some id) → IsHeir b (Some (r.to id))
  heir_too id is = let l = least_too id is.0 is.1 in (l.y, l.least, ap is_dispatched l.alike.other_is ∙ is.2)

  pub firm_too : (x y : Task) → IsAlikeTask r.to x y → IsFirm a x → IsFirm b y
  firm_too x y same (inl is) = inl (is.0, is.1, ap (λ t. t.creator) same.other_is ∙ ap (permuted_creator r.to) is.2)
  firm_too x y same (inr is) =
      inr (r.to is.0, is.1, ap (λ t. t.creator) same.other_is ∙ ap (permuted_creator r.to) is.2, heir_too is.0 is.3)

  pub name_too : (creator : Creator) (name : Name) → HasName a creator name
      → HasName b (permuted_creator r.to creator) name
  name_too (Committed turn index) name has = (subst (λ h. turn ≤ length h) (sym (history_too r a b alike)) has.0, has.1)
  name_too (Live task index) name has =
      (heir_too task.0 has.0, has.1 ∙ ap (λ h. record { creator = length h + 1; index = index }) (sym (history_too r a b alike)))

  pub trapped_too : (name : Name) (cause pc : ℕ) → LeastIsTrapped a name cause pc → LeastIsTrapped b name cause pc
  trapped_too name cause pc is =
      let l = least_too is.id is.task is.least in
      record {
        id = r.to is.id;
        task = l.y;
        core = is.core;
        least = l.least;
        trapped = ap (λ t. t.status) l.alike.other_is ∙ is.trapped;
        named = ap (λ t. t.creator) l.alike.other_is ∙ ap (permuted_creator r.to) is.named;
        pc_is = ap (λ t. t.core.pc) l.alike.other_is ∙ is.pc_is;
      }

  pub length_too : length b.history ≡ length a.history
  length_too = ap length (history_too r a b alike)

  pub commits_too : b.settings.commits ≡ a.settings.commits
  commits_too = ap (λ v. v.settings.commits) alike.frame

module _ (r : IdPermutation) (a b : View) (alike : AreAlike r a b) where
  pub end_too : (end : End) → HasEnd a end → HasEnd b end
  end_too ends.Normal has = committed_too r a b alike has
  end_too ends.Limit has =
      (λ all. has.0 (committed_too (inverse_of r) b a (alike_turned r a b alike) all), length_too r a b alike ∙ has.1 ∙ sym (commits_too r a b alike))
  end_too (ends.Trap name cause pc) has =
      (λ full. has.0 (sym (length_too r a b alike) ∙ full ∙ commits_too r a b alike), trapped_too r a b alike name cause pc has.1)
  end_too ends.Unfinished has = absurd has

  pub over_too : IsOver a → IsOver b
  over_too over = (over.0, end_too over.0 over.1)

-- where one task of a tile comes before another, the partner of the one comes before that of the other
pub precedes_too : (r : IdPermutation) (a b : View) → AreAlike r a b → (tile k j : ℕ) → Precedes a tile k j
    → Precedes b tile (r.to k) (r.to j)
precedes_too r a b alike tile k j before p q x y first second =
    let back = alike_turned r a b alike in
    let one = queued_too (inverse_of r) b a back tile p (r.to k) x first in
    let two = queued_too (inverse_of r) b a back tile q (r.to j) y second in
    let less = before p q one.y two.y (subst (λ i. IsQueuedAt a tile p i one.y) (r.back k) one.at) (subst (λ i. IsQueuedAt a tile q i two.y) (r.back j) two.at) in
    subst (λ key. ranked_cmp key (Queued tile p) y.key (Queued tile q) ≡ Less) (ap (λ t. t.key) one.alike.other_is)
    (subst (λ key. ranked_cmp one.y.key (Queued tile p) key (Queued tile q) ≡ Less)
    (ap (λ t. t.key) two.alike.other_is) less)

pub end_is_alike : EndIsAlike
end_is_alike r a b end alike has = end_too r a b alike end has
