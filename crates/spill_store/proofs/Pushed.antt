-- Spilled tasks in the order of their keys: what a push leaves, and where it goes.
use Rattle.std.proofs.Common.{◌≡◌, ◌≢◌, ℕ, zero, ◌+◌, ◌≤◌, true, false, List, [], ◌∷◌, ◌++◌, Some, map, slice_get, refl}
use Rattle.std.proofs.Common.{sym, ap, subst, ◌∙◌, arith}
use Rattle.std.specs.List.{All, insert}
use Rattle.std.specs.List.Sorted.{IsPermutation}
use Rattle.std.specs.Ordering.{is_lt}
use Rattle.std.specs.declared.cmp.Ordering.TheVariants.{Less, Greater}
use Rattle.std.specs.Cmp.{IsTotalOrder}
use Rattle.std.proofs.lemmas.Cmp.{on_total, tied_itself}
use Rattle.std.proofs.lemmas.Option.{slice_get_within, get_or_from_slice_get}
use Rattle.std.proofs.lemmas.List.{append-nil}
use Rattle.std.proofs.lemmas.List.Elements.{All-nil, All-cons}
use Rattle.std.proofs.lemmas.List.Sorted.{IsPermutation-refl, IsPermutation-trans, IsPermutation-append_left}
use Rattle.std.specs.Option.{IfSome}
use Rattle.fractal_vt.specs.Keys.{key_cmp}
use Rattle.fractal_vt.specs.Sorted.{IsInOrder, place_for}
use Rattle.fractal_vt.specs.Renumbered.{HoldsKey}
use Rattle.fractal_vt.proofs.Proved.{AllPairs-head, AllPairs-map, in_order-after_insert, after_insert-permutes}
use Rattle.fractal_vt.proofs.Proved.{inserted_at, keeps_order, key_cmp_total, place_beyond, place_upto, ties_behind}
use Rattle.spill_store.specs.SpilledTasks.{Spilled, open_key, by_key, after_push, first_key, renumbered_spilled}
use Rattle.spill_store.specs.SpilledTasks.{HoldsSpilled, TakesLeast, IsLeastKey}
use Rattle.spill_store.specs.Pushing.{after_pushes, PushesStandInOrder, PushGoesBehindTies}

pub by_key_total : IsTotalOrder by_key
by_key_total = on_total open_key key_cmp_total

-- the search for a place, at one task
pub search_upto : (task : Spilled) (tasks : List Spilled) (k : ℕ) (e : Spilled) → slice_get tasks k ≡ Some e
    → is_lt (by_key task e) ≡ true → place_for by_key task tasks ≤ k
search_upto task tasks k e there less =
    place_upto by_key by_key_total task tasks k e (slice_get_within tasks k e there) (subst (λ x. is_lt (by_key task x) ≡ true) (sym (get_or_from_slice_get tasks k e e there)) less)

pub search_beyond : (task : Spilled) (tasks : List Spilled) (k : ℕ) (e : Spilled) → slice_get tasks k ≡ Some e
    → is_lt (by_key task e) ≡ false → IsInOrder by_key tasks → k + 1 ≤ place_for by_key task tasks
search_beyond task tasks k e there later order =
    let beyond = place_beyond by_key by_key_total task tasks k e order (slice_get_within tasks k e there) (subst (λ x. is_lt (by_key task x) ≡ false) (sym (get_or_from_slice_get tasks k e e there)) later) in
    omega arith

-- what a push leaves

pub after_push-permutes : (tasks : List Spilled) (task : Spilled)
    → IsPermutation (task ∷ tasks) (after_push tasks task)
after_push-permutes tasks task = after_insert-permutes by_key task tasks

pub in_order-after_push : (tasks : List Spilled) (task : Spilled) → IsInOrder by_key tasks
    → IsInOrder by_key (after_push tasks task)
in_order-after_push tasks task order = in_order-after_insert by_key by_key_total task tasks order

-- a task put at its place
pub put_in : (task : Spilled) (old new : List Spilled) (place : ℕ) → place ≡ place_for by_key task old
    → new ≡ insert old place task → new ≡ after_push old task
put_in task old new place at is = is ∙ ap (λ n. insert old n task) at ∙ sym (inserted_at by_key task old)

-- the first task is the one that is to be taken: the first of a least key
pub takes_first : (task : Spilled) (tasks : List Spilled) → IsInOrder by_key (task ∷ tasks)
    → TakesLeast (task ∷ tasks) tasks task
takes_first task tasks order = record {
  place = zero;
  least = record {
    there = refl;
    least = record {
      key = open_key task;
      there = refl;
      least =
          keys_upto task (task ∷ tasks) (All-cons (λ e. by_key task e ≢ Greater) task tasks (λ greater. itself greater) (AllPairs-head (λ a b. by_key a b ≢ Greater) task tasks order));
      first = All-nil (λ other. key_cmp (open_key task) other ≡ Less);
    };
  };
  others = refl;
}
  where
    itself : by_key task task ≢ Greater
    itself greater =
        let no_way : Rattle.std.specs.declared.cmp.Ordering.TheVariants.Equal ≡ Greater = sym (tied_itself by_key_total task) ∙ greater in
        cc

    keys_upto : (e : Spilled) (es : List Spilled) → All (λ other. by_key e other ≢ Greater) es
        → All (λ other. key_cmp (open_key e) other ≢ Greater) (map open_key es)
    keys_upto e es all =
        Rattle.std.proofs.lemmas.List.Elements.All-map (λ other. key_cmp (open_key e) other ≢ Greater) open_key es all

-- what several pushes leave: each task once, in the order of their keys
all_permute : (tasks more : List Spilled) → IsPermutation (tasks ++ more) (after_pushes tasks more)
all_permute tasks [] =
    subst (λ xs. IsPermutation (tasks ++ []) xs) (append-nil tasks) (IsPermutation-refl (tasks ++ []))
all_permute tasks (task ∷ more) =
    IsPermutation-trans (tasks ++ task ∷ more) (after_push tasks task ++ more) (after_pushes (after_push tasks task) more)
    (IsPermutation-trans (tasks ++ task ∷ more) (task ∷ (tasks ++ more)) (after_push tasks task ++ more)
    (Rattle.std.proofs.lemmas.List.Sorted.IsPermutation-middle tasks task more)
    (IsPermutation-append_left more (task ∷ tasks) (after_push tasks task) (after_push-permutes tasks task)))
    (all_permute (after_push tasks task) more)

all_in_order : (tasks more : List Spilled) → IsInOrder by_key tasks → IsInOrder by_key (after_pushes tasks more)
all_in_order tasks [] order = order
all_in_order tasks (task ∷ more) order =
    all_in_order (after_push tasks task) more (in_order-after_push tasks task order)

pub stand_in_order : PushesStandInOrder
stand_in_order tasks = (all_permute [] tasks, all_in_order [] tasks (λ i j d first inside. absurd (omega arith)))

-- renumbered tasks stay in order
pub order_renumbered : (table : List ℕ) (tasks : List Spilled) → HoldsSpilled table tasks → IsInOrder by_key tasks
    → IsInOrder by_key (map (renumbered_spilled table) tasks)
order_renumbered table tasks held order =
    AllPairs-map (λ a b. by_key a b ≢ Greater) (λ a b. by_key a b ≢ Greater) (λ e. HoldsKey table (open_key e)) (renumbered_spilled table)
    (λ a b in_a in_b upto. subst (λ o. o ≢ Greater) (sym (keeps_order table (open_key a) (open_key b) in_a in_b)) upto) tasks held order

-- of the tasks that tie with the new one it is the last, and the others stay in their order
pub behind_ties : PushGoesBehindTies
behind_ties tasks task order = ties_behind by_key by_key_total task tasks order

-- what the first task is, in the words of the least
pub key_of_first : (tasks : List Spilled) → IsInOrder by_key tasks → IfSome (first_key tasks) (IsLeastKey tasks)
key_of_first [] order = tt
key_of_first (task ∷ tasks) order =
    let takes = takes_first task tasks order in
    record { place = takes.place; task = task; least = takes.least; of_task = refl }
