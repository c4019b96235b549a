-- Views that are alike answer queries alike.
use Rattle.std.proofs.Common.{◌≡◌, ◌≢◌, ℕ, Bool, true, false, List, Option, option_map, sym, ap, subst, ◌∙◌}
use Rattle.std.specs.Prelude.{slice_get, Contains}
use Rattle.std.specs.declared.cmp.Ordering.TheVariants.{Greater}
use Rattle.std.proofs.lemmas.Option.{slice_get-map}
use Rattle.fractal_vt.specs.Keys.{key_cmp}
use Rattle.step_script.specs.spec_state.declared.task.Task.{Task}
use Rattle.step_script.specs.spec_state.View.{View, queue_at, finished_at, cores_at}
use Rattle.step_script.specs.spec_state.Tasks.{is_dispatched}
use Rattle.step_script.specs.spec_state.Least.{Precedes}
use Rattle.step_script.specs.spec_state.Queries.{IsQueued, IsIdle, IsLeastIdle, IsIdleFirm, IsDispatched, IsOnCore}
use Rattle.step_script.specs.spec_state.Queries.{IsRunning}
use Rattle.step_script.specs.spec_state.Queries.{IsFinished, IsLatest, IsFreeCore, IsLowestFree, IsLater, HasLine}
use Rattle.step_script.specs.spec_state.Queries.{Conflicts}
use Rattle.outcome_law.specs.Alike.{IdPermutation, inverse_of, IsAlikeTask, AreAlike}
use Rattle.outcome_law.proofs.Alike.{partner, alike_turned}
use Rattle.outcome_law.proofs.Leasts.{queue_too, finished_too, cores_too, firm_too, precedes_too}
use Rattle.outcome_law.proofs.Lists.{contains_mapped}

-- the partner is of this kind
pub record Too (to : ℕ → ℕ) (kind : ℕ → Task → Type 0) (k : ℕ) (x : Task) : Type 0 where
  pub y : Task
  pub is : kind (to k) y
  pub alike : IsAlikeTask to x y

key_same : (to : ℕ → ℕ) (x y : Task) → IsAlikeTask to x y → y.key ≡ x.key
key_same to x y alike = ap (λ t. t.key) alike.other_is

module _ (r : IdPermutation) (a b : View) (alike : AreAlike r a b) where
  pub is_queued_too : (tile k : ℕ) → IsQueued a tile k → IsQueued b tile (r.to k)
  is_queued_too tile k is =
      subst (λ (q : List ℕ). Contains q (r.to k)) (sym (queue_too r a b alike tile)) (contains_mapped r.to (queue_at a tile) k is)

  pub idle_too : (tile k : ℕ) (x : Task) → IsIdle a tile k x → Too r.to (IsIdle b tile) k x
  idle_too tile k x is =
      let p = partner r a b alike k x is.there in
      record {
        y = p.y;
        is =
            record {
              queued = is_queued_too tile k is.queued;
              there = p.there;
              idle = ap (λ t. t.status) p.alike.other_is ∙ is.idle;
            };
        alike = p.alike;
      }

  pub dispatched_too : (tile k : ℕ) (x : Task) → IsDispatched a tile k x → Too r.to (IsDispatched b tile) k x
  dispatched_too tile k x is =
      let p = partner r a b alike k x is.there in
      record {
        y = p.y;
        is =
            record {
              queued = is_queued_too tile k is.queued;
              there = p.there;
              dispatched = ap is_dispatched p.alike.other_is ∙ is.dispatched;
            };
        alike = p.alike;
      }

  pub on_core_too : (tile core k : ℕ) (x : Task) → IsOnCore a tile core k x → Too r.to (IsOnCore b tile core) k x
  on_core_too tile core k x is =
      let p = partner r a b alike k x is.there in
      record {
        y = p.y;
        is = record {
          held =
              ap (λ (cs : List (Option ℕ)). slice_get cs core) (cores_too r a b alike tile)
              ∙ (slice_get-map (option_map r.to) (cores_at a tile) core ∙ ap (option_map (option_map r.to)) is.held);
          there = p.there;
        };
        alike = p.alike;
      }

  pub running_too : (tile core k : ℕ) (x : Task) → IsRunning a tile core k x → Too r.to (IsRunning b tile core) k x
  running_too tile core k x is =
      let o = on_core_too tile core k x is.on in
      record {
        y = o.y;
        is = record { on = o.is; running = ap (λ t. t.status) o.alike.other_is ∙ is.running };
        alike = o.alike;
      }

  pub is_finished_too : (tile k : ℕ) (x : Task) → IsFinished a tile k x → Too r.to (IsFinished b tile) k x
  is_finished_too tile k x is =
      let p = partner r a b alike k x is.there in
      record {
        y = p.y;
        is = record {
          queued =
              subst (λ (q : List ℕ). Contains q (r.to k)) (sym (finished_too r a b alike tile)) (contains_mapped r.to (finished_at a tile) k is.queued);
          there = p.there;
        };
        alike = p.alike;
      }

  pub free_core_too : (tile core : ℕ) → IsFreeCore a tile core → IsFreeCore b tile core
  free_core_too tile core is =
      ap (λ (cs : List (Option ℕ)). slice_get cs core) (cores_too r a b alike tile)
      ∙ (slice_get-map (option_map r.to) (cores_at a tile) core ∙ ap (option_map (option_map r.to)) is)

  pub idle_firm_too : (tile k : ℕ) (x : Task) → IsIdleFirm a tile k x → Too r.to (IsIdleFirm b tile) k x
  idle_firm_too tile k x is =
      let i = idle_too tile k x is.idle in
      record {
        y = i.y;
        is = record { idle = i.is; firm = firm_too r a b alike x i.y i.alike is.firm };
        alike = i.alike;
      }

  pub later_too : (task task' : Task) → IsAlikeTask r.to task task' → (k : ℕ) (x : Task) → IsLater a task k x
      → Too r.to (IsLater b task') k x
  later_too task task' same k x is =
      let p = partner r a b alike k x is.there in
      record {
        y = p.y;
        is = record {
          there = p.there;
          dispatched = ap is_dispatched p.alike.other_is ∙ is.dispatched;
          later = (λ i. key_cmp (key_same r.to task task' same i) (key_same r.to x p.y p.alike i)) ∙ is.later;
        };
        alike = p.alike;
      }

  line_too : (write : Bool) (x y : Task) (line : ℕ) → IsAlikeTask r.to x y → HasLine write x line → HasLine write y line
  line_too true x y line same has = same.touched line ∙ has
  line_too false x y line same has = same.written line ∙ has

  pub conflicts_too : (task task' : Task) → IsAlikeTask r.to task task' → (line : ℕ) (write : Bool) (k : ℕ)
      → Conflicts a task line write k → Conflicts b task' line write (r.to k)
  conflicts_too task task' same line write k is =
      let l = later_too task task' same k is.other is.later in
      record { other = l.y; later = l.is; has_line = line_too write is.other l.y line l.alike is.has_line }

-- the partner of the latest of a kind is the latest of the kind of the partners
pub latest_too : (r : IdPermutation) (kind kind' : ℕ → Task → Type 0)
    → ((k : ℕ) (x : Task) → kind k x → Too r.to kind' k x) → ((k : ℕ) (x : Task) → kind' k x → Too r.from kind k x)
    → (k : ℕ) (x : Task) → IsLatest kind k x → Too r.to (IsLatest kind') k x
latest_too r kind kind' on back k x is =
    let t = on k x is.of_kind in
    record {
      y = t.y;
      is = record {
        of_kind = t.is;
        latest = λ j z of. (let s = back j z of in
            subst (λ key. key_cmp z.key key ≢ Greater) (sym (key_same r.to x t.y t.alike))
            (subst (λ key. key_cmp key x.key ≢ Greater) (key_same r.from z s.y s.alike) (is.latest (r.from j) s.y s.is)));
      };
      alike = t.alike;
    }

module _ (r : IdPermutation) (a b : View) (alike : AreAlike r a b) where
  -- the way back
  back : AreAlike (inverse_of r) b a
  back = alike_turned r a b alike

  pub least_idle_too : (tile k : ℕ) (x : Task) → IsLeastIdle a tile k x → Too r.to (IsLeastIdle b tile) k x
  least_idle_too tile k x is =
      let t = idle_too r a b alike tile k x is.idle in
      record {
        y = t.y;
        is = record {
          idle = t.is;
          least = λ j z other idle. (let s = idle_too (inverse_of r) b a back tile j z idle in
              let differs : r.from j ≢ k = λ e. other (sym (r.forth j) ∙ ap r.to e) in
              subst (λ i. Precedes b tile (r.to k) i) (r.forth j) (precedes_too r a b alike tile k (r.from j) (is.least (r.from j) s.y differs s.is)));
        };
        alike = t.alike;
      }

  pub lowest_free_too : (tile core : ℕ) → IsLowestFree a tile core → IsLowestFree b tile core
  lowest_free_too tile core is = record {
    free = free_core_too r a b alike tile core is.free;
    lowest = λ other low free. is.lowest other low (free_core_too (inverse_of r) b a back tile other free);
  }
