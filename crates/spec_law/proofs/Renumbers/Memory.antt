-- Memory reads of keys their order alone: tasks with other keys that compare alike have the same chain, and what is undone is the same.
use Rattle.std.proofs.Common.{◌≡◌, ℕ, Bool, List, [], ◌∷◌, ◌++◌, Option, Some, None, refl, sym, ap, subst, ◌∙◌}
use Rattle.std.proofs.Common.{if◌then◌else◌}
use Rattle.std.specs.Prelude.{slice_index, length}
use Rattle.fractal_vt.specs.Levels.{levels_cmp}
use Rattle.memory_law.specs.Accesses.{AllLieIn}
use Rattle.memory_law.specs.ByteChain.{byte_accesses, IsByteChain}
use Rattle.memory_law.specs.Chain.{IsChained}
use Rattle.memory_law.specs.Tasks.{Logged, IsNoted, log_of, logs, Ascends, IsByKey, undone_set}
use Rattle.undo_log.specs.Undo.{undone}

-- the same task for memory, but for its key
pub record IsSameLogged (x y : Logged) : Type 0 where
  pub is : y ≡ record x { levels = y.levels }

-- the tasks are the same ones, but for their keys, and these compare alike
pub record AreLoggedAlike (a b : ℕ → Option Logged) : Type 0 where
  pub forth : (id : ℕ) (x : Logged) → a id ≡ Some x → (y : Logged) × (b id ≡ Some y) × IsSameLogged x y
  pub back : (id : ℕ) (y : Logged) → b id ≡ Some y → (x : Logged) × (a id ≡ Some x) × IsSameLogged y x
  pub order : (i j : ℕ) (x y x' y' : Logged) → a i ≡ Some x → a j ≡ Some y → b i ≡ Some x' → b j ≡ Some y'
      → levels_cmp x'.levels y'.levels ≡ levels_cmp x.levels y.levels

pub turned : (a b : ℕ → Option Logged) → AreLoggedAlike a b → AreLoggedAlike b a
turned a b alike = record {
  forth = alike.back;
  back = alike.forth;
  order = λ i j x y x' y' at at' there there'. sym (alike.order i j x' y' x y there there' at at');
}

module _ (a b : ℕ → Option Logged) (alike : AreLoggedAlike a b) where
  same_log : (id : ℕ) → log_of (b id) ≡ log_of (a id)
  same_log id = by_task (a id) refl
    where
      none_there : a id ≡ None → (o : Option Logged) → b id ≡ o → log_of o ≡ []
      none_there none None is = refl
      none_there none (Some y) is = let x = alike.back id y is in absurd (cc (none, x.1))

      by_task : (o : Option Logged) → a id ≡ o → log_of (b id) ≡ log_of o
      by_task None is = none_there is (b id) refl
      by_task (Some x) is = let y = alike.forth id x is in ap log_of y.1 ∙ ap (λ t. t.log) y.2.is

  -- the logs one after another are the same
  pub same_logs : (ids : List ℕ) → logs b ids ≡ logs a ids
  same_logs [] = refl
  same_logs (id ∷ ids) =
      ap (λ log. log ++ logs b ids) (same_log id) ∙ ap (λ more. log_of (a id) ++ more) (same_logs ids)

  -- the memory is the same once a set is taken back
  pub same_undone : (set : ℕ → Bool) (ids memory : List ℕ) → undone_set set b ids memory ≡ undone_set set a ids memory
  same_undone set [] memory = refl
  same_undone set (id ∷ ids) memory =
      (λ i. if set id then undone (same_log id i) (same_undone set ids memory i) else same_undone set ids memory i)

  ascends_forth : (ids : List ℕ) → Ascends a ids → Ascends b ids
  ascends_forth [] up = tt
  ascends_forth (id ∷ ids) up =
      let y = alike.forth id up.0 up.1 in (
        y.0,
        y.1,
        ap (λ t. t.dispatched) y.2.is ∙ up.2,
        λ k other at there. (let x = alike.back k other there in alike.order id k up.0 x.0 y.0 other up.1 x.1 y.1 there ∙ up.3 k x.0 at x.1),
        ascends_forth ids up.4,
      )

  -- the dispatched tasks by rising key are the same
  pub by_key_forth : (ids : List ℕ) → IsByKey a ids → IsByKey b ids
  by_key_forth ids by_key = record {
    ascends = ascends_forth ids by_key.ascends;
    complete =
        λ id task there runs. (let x = alike.back id task there in by_key.complete id x.0 x.1 (ap (λ t. t.dispatched) x.2.is ∙ runs));
  }

  -- and so is the chain of accesses
  pub chain_forth : (line : ℕ) (serial memory : List ℕ) → IsChained line a serial memory
      → IsChained line b serial memory
  chain_forth line serial memory chained = record {
    ids = chained.ids;
    by_key = by_key_forth chained.ids chained.by_key;
    inside = subst (AllLieIn (length serial)) (sym (same_logs chained.ids)) chained.inside;
    size = chained.size;
    chain =
        λ k. subst (λ all. IsByteChain (slice_index serial k) (byte_accesses k all) (slice_index memory k)) (sym (same_logs chained.ids)) (chained.chain k);
    noted = λ id task there.
        (let x = alike.back id task there in
        let same : task ≡ record x.0 { levels = task.levels } = sym (flip x.0 task x.2) in
        subst (IsNoted (length serial) line) (sym same) (chained.noted id x.0 x.1));
    bytes = chained.bytes;
  }
    where
      flip : (x y : Logged) → IsSameLogged y x → record x { levels = y.levels } ≡ y
      flip x y same = ap (λ (t : Logged). record t { levels = y.levels }) same.is
