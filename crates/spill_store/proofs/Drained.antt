-- What is taken out of a block, one after another.
use Rattle.std.proofs.Common.{◌≡◌, ◌≢◌, ℕ, suc, List, [], ◌∷◌, Some, map, remove, sym, ap, subst, ◌∙◌, arith, slice_get}
use Rattle.std.proofs.Common.{get_or}
use Rattle.std.specs.List.{All}
use Rattle.std.specs.Option.{option_map}
use Rattle.std.specs.List.Sorted.{IsPermutation}
use Rattle.std.proofs.lemmas.List.{get_or-map, length-map}
use Rattle.std.proofs.lemmas.List.Kept.{AllPairs-cons}
use Rattle.std.proofs.lemmas.List.Sorted.{IsPermutation-refl, IsPermutation-cons, IsPermutation-trans}
use Rattle.std.proofs.lemmas.List.Sorted.{IsPermutation-remove, All-permutation}
use Rattle.std.proofs.lemmas.Option.{slice_get_within, get_or_from_slice_get, slice_get-map}
use Rattle.std.specs.declared.cmp.Ordering.TheVariants.{Greater}
use Rattle.fractal_vt.specs.Keys.{key_cmp}
use Rattle.spill_store.specs.SpilledTasks.{Spilled, open_key, IsLeastInBlock}
use Rattle.spill_store.specs.Draining.{ComesBackLeastFirst}

-- the key of the later task is not less
abbrev Before : Spilled → Spilled → Type 0
Before first later = key_cmp (open_key first) (open_key later) ≢ Greater

-- a task and the list without it
taken_out : (tasks : List Spilled) (place : ℕ) (task : Spilled) → slice_get tasks place ≡ Some task
    → IsPermutation tasks (task ∷ remove tasks place)
taken_out tasks place task there =
    IsPermutation-remove tasks place task (slice_get_within tasks place task there) (sym (get_or_from_slice_get tasks place task task there))

-- the least task comes before each
least_before : (tasks : List Spilled) (place : ℕ) (task : Spilled) → IsLeastInBlock tasks place task
    → All (Before task) tasks
least_before tasks place task is k d inside =
    let keys = map open_key tasks in
    let mine : Some is.least.key ≡ Some (open_key task) = sym is.least.there ∙ slice_get-map open_key tasks place ∙ ap (option_map open_key) is.there in
    let same : is.least.key ≡ open_key task = cc in
    let long = length-map tasks open_key in
    let upto = is.least.least k (open_key d) (omega arith) in
    let other = get_or-map open_key tasks k d (open_key d) inside in
    subst (λ key. key_cmp key (open_key (get_or tasks k d)) ≢ Greater) same (subst (λ key. key_cmp is.least.key key ≢ Greater) other upto)

pub comes_back : ComesBackLeastFirst
comes_back tasks [] none =
    (subst (λ xs. IsPermutation xs []) (sym none) (IsPermutation-refl []), λ i j d first inside. absurd (omega arith))
comes_back tasks (task ∷ taken) (others, takes, rest) =
    let more = comes_back others taken rest in
    let out : IsPermutation tasks (task ∷ others) = subst (λ xs. IsPermutation tasks (task ∷ xs)) (sym takes.others) (taken_out tasks takes.place task takes.least.there) in
    let all : All (Before task) (task ∷ others) = All-permutation (Before task) tasks (task ∷ others) out (least_before tasks takes.place task takes.least) in (
      IsPermutation-trans tasks (task ∷ others) (task ∷ taken) out (IsPermutation-cons task others taken more.0),
      AllPairs-cons Before task taken (All-permutation (Before task) others taken more.0 (λ k d inside. all (suc k) d (omega arith))) more.1,
    )
