-- The marked tasks, taken out one after another.
use Rattle.std.proofs.Common.{◌≡◌, ◌≢◌, ◌<◌, ◌+◌, ℕ, Bool, true, false, List, [], length, take, map, Option, Some}
use Rattle.std.proofs.Common.{None, refl, sym, ap, subst, ◌∙◌, inl, inr, slice_get, if◌then◌else◌}
use Rattle.std.specs.Prelude.{AllPairs, IsSome}
use Rattle.std.proofs.lemmas.Bool.{cases_eq}
use Rattle.std.proofs.lemmas.List.{length-map}
use Rattle.std.proofs.lemmas.Simd.{map-map}
use Rattle.abort_cascade.specs.Cascade.{Marked}
use Rattle.tile_queues.specs.Queue.{ids_but}
use Rattle.spec_state.specs.StateValue.{Scratch}
use Rattle.spec_state.specs.View.{View, task_at}
use Rattle.spec_state.specs.Aborts.{is_marked}
use Rattle.spec_state.specs.Leaving.{freed_of, TaskLeaves}
use Rattle.spec_state.proofs.Proved.{other_test}
use Rattle.spec_rollback.specs.Pulled.{ListsMarked}
use Rattle.spec_rollback.specs.Removed.{RemovesThese}
use Rattle.spec_rollback.proofs.Undone.{among}
use Rattle.spec_rollback.proofs.TakenBack.{more, same_id, maps_same}
use Rattle.spec_rollback.proofs.Members.{member_marked, fresh, longer_is, all_among}

-- a change of each core leaves as many
as_many : (f : Option ℕ → Option ℕ) (lists : List (List (Option ℕ)))
    → map length (map (map f) lists) ≡ map length lists
as_many f lists = map-map length (map f) lists
    ∙ maps_same (λ cores. length (map f cores)) length lists (λ cores. length-map cores f)

module _ (these : ℕ → Bool) (old mid : View) (removes : RemovesThese these old mid) (id : ℕ)
    (stays : these id ≡ false) where
  -- what stood there at first stands there still
  pub unremoved : task_at mid id ≡ task_at old id
  unremoved = removes.each id ∙ ap (λ b. if b then None else task_at old id) stays

  -- one task more is gone
  pub one_removed : (new : View) → TaskLeaves id mid new → RemovesThese (more these id) old new
  one_removed new leaves = record {
    each = each;
    queues = ap length leaves.queues ∙ length-map mid.queues (ids_but id) ∙ removes.queues;
    finished = ap length leaves.finished ∙ length-map mid.finished (ids_but id) ∙ removes.finished;
    cores = ap (map length) leaves.cores ∙ as_many (freed_of id) mid.cores ∙ removes.cores;
    frame = leaves.frame ∙ ap
        (λ (v : View). record v
        { tasks = new.tasks; queues = new.queues; finished = new.finished; cores = new.cores }) removes.frame;
  }
    where
      each : (k : ℕ) → task_at new k ≡ (if more these id k then None else task_at old k)
      each k = elim (cases_eq k id) [
        | inl same ↦
            ap (task_at new) same ∙ leaves.changes.changed
            ∙ ap (λ b. if (if b then true else these k) then None else task_at old k) (sym (same_id k id same))
        | inr other ↦
            leaves.changes.others k other ∙ removes.each k
            ∙ ap (λ b. if (if b then true else these k) then None else task_at old k) (sym (other_test k id other))
      ]

-- at first none is gone
pub none_removed : (view : View) → RemovesThese (among []) view view
none_removed view = record { each = λ id. refl; queues = refl; finished = refl; cores = refl; frame = refl }

module _ (scratch : Scratch) (found : ℕ) (listed : ListsMarked scratch found) (place id : ℕ) (below : place < found)
    (at : slice_get scratch.members place ≡ Some id)
    (once : AllPairs (λ a b. a ≢ b) (take found scratch.members)) (old mid : View)
    (removes : RemovesThese (among (take place scratch.members)) old mid) where
  pub member_stays : ((k : ℕ) → Marked scratch.marks k → IsSome (task_at old k)) → IsSome (task_at mid id)
  member_stays live =
      subst IsSome (sym (unremoved (among (take place scratch.members)) old mid removes id
      (fresh scratch found listed place id below at once)))
      (live id (member_marked scratch found listed place id below at))

  pub member_removed : (new : View) → TaskLeaves id mid new
      → RemovesThese (among (take (place + 1) scratch.members)) old new
  member_removed new leaves =
      subst (λ these. RemovesThese these old new) (λ i k. longer_is scratch found listed place id below at once k i)
      (one_removed (among (take place scratch.members)) old mid removes id
      (fresh scratch found listed place id below at once) new leaves)

-- all of them are gone
pub members_removed : (scratch : Scratch) (found : ℕ) → ListsMarked scratch found → (place : ℕ) → place ≡ found
    → (old new : View) → RemovesThese (among (take place scratch.members)) old new
    → RemovesThese (is_marked scratch.marks) old new
members_removed scratch found listed place all old new removes =
    subst (λ these. RemovesThese these old new) (λ i k. all_among scratch found listed k i)
    (subst (λ n. RemovesThese (among (take n scratch.members)) old new) all removes)
