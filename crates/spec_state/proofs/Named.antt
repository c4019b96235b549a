-- Pending tasks: by their names, and as a list that grows.
use Rattle.std.proofs.Common.{◌≡◌, refl, sym, ap, ◌∙◌, zero, suc, ℕ, ◌+◌, ◌<◌, ◌==◌, ◌&&◌, ◌||◌, nat_lt, Bool, true}
use Rattle.std.proofs.Common.{false, List, [], ◌∷◌, ◌++◌, length, take, flat_map, cond, slice_index_or, slice_get}
use Rattle.std.proofs.Common.{option_map, option_to_list, Option, Some, None, arith}
use Rattle.std.specs.List.{filter_map, cons_option}
use Rattle.std.specs.List.Sorted.{IsSortedBy, IsSortedByKey}
use Rattle.std.specs.Ordering.{is_lt, nat_cmp, ordering_then}
use Rattle.std.specs.declared.cmp.Ordering.{Ordering}
use Rattle.std.specs.declared.cmp.Ordering.TheVariants.{Less, Equal, Greater}
use Rattle.std.proofs.lemmas.Grind.{flat_map-append}
use Rattle.std.proofs.lemmas.List.{append_assoc, append-nil, map-append, take_more}
use Rattle.std.proofs.lemmas.List.Elements.{filter_map-append}
use Rattle.task_desc.specs.declared.desc.Desc.{Desc}
use Rattle.spill_store.specs.SpilledTasks.{Spilled, BlockValue}
use Rattle.spec_state.specs.declared.pending.Pending.{Pending}
use Rattle.spec_state.specs.declared.task.Task.{Task}
use Rattle.spill_store.specs.Fronts.{lists_in}
use Rattle.spec_state.specs.Pendings.{pending_before, pending_queued, pending_spilled, spilled_pending}

-- by creator, then by place
abbrev pub pair_cmp : ℕ × ℕ → ℕ × ℕ → Ordering
pair_cmp a b = ordering_then (nat_cmp a.0 b.0) (nat_cmp a.1 b.1)

abbrev pub key_of : Pending → ℕ × ℕ
key_of p = (p.name.creator, p.name.index)

less_is_before : (a b i j : ℕ)
    → is_lt (ordering_then (nat_cmp a b) (nat_cmp i j)) ≡ (nat_lt a b || ((a == b) && nat_lt i j))
less_is_before a b i j = go (nat_lt a b) (a == b) (nat_lt i j) (i == j)
  where
    go : (l e m f : Bool)
        → is_lt (ordering_then (cond l Less (cond e Equal Greater)) (cond m Less (cond f Equal Greater))) ≡ (l || (e && m))
    go true e m f = refl
    go false true true f = refl
    go false true false true = refl
    go false true false false = refl
    go false false m f = refl

-- what is sorted by creators and places is sorted by names
pub sorted_by_name : (xs : List Pending) → IsSortedByKey key_of pair_cmp xs → IsSortedBy pending_before xs
sorted_by_name xs sorted = λ k d low high.
    let a : Pending = slice_index_or xs (k + 1) d in
    let b : Pending = slice_index_or xs k d in
    sym (less_is_before a.name.creator b.name.creator a.name.index b.name.index) ∙ sorted k d low high

cons_in_front : {X : Type 0} (x : Option X) (xs ys : List X) → cons_option x xs ++ ys ≡ cons_option x (xs ++ ys)
cons_in_front None xs ys = refl
cons_in_front (Some x) xs ys = refl

cons_alone : {X : Type 0} (x : Option X) → cons_option x [] ≡ option_to_list x
cons_alone None = refl
cons_alone (Some x) = refl

-- one slot more; past the end there is none
more_slots : {X Y : Type 0} (f : Option X → Option Y) → f None ≡ None → (xs : List (Option X)) (k : ℕ)
    → filter_map f (take (suc k) xs) ≡ filter_map f (take k xs) ++ option_to_list (f (slice_index_or xs k None))
more_slots f none [] zero = sym (ap option_to_list none)
more_slots f none [] (suc k) = sym (ap option_to_list none)
more_slots f none (x ∷ xs) zero = cons_alone (f x)
more_slots f none (x ∷ xs) (suc k) =
    ap (cons_option (f x)) (more_slots f none xs k)
    ∙ sym (cons_in_front (f x) (filter_map f (take k xs)) (option_to_list (f (slice_index_or xs k None))))

-- the queued tasks of one slot more
pub more_queued : (old now then : List Pending) (slots : List (Option Task)) (k : ℕ)
    → now ≡ old ++ filter_map pending_queued (take k slots)
    → then ≡ now ++ option_to_list (pending_queued (slice_index_or slots k None))
    → then ≡ old ++ filter_map pending_queued (take (k + 1) slots)
more_queued old now then slots k was is =
    let next : suc k ≡ k + 1 = omega arith in
    is ∙ ap (λ xs. xs ++ option_to_list (pending_queued (slice_index_or slots k None))) was
    ∙ append_assoc old (filter_map pending_queued (take k slots)) (option_to_list (pending_queued (slice_index_or slots k None)))
    ∙ ap (λ xs. old ++ xs) (sym (more_slots pending_queued refl slots k))
    ∙ ap (λ n. old ++ filter_map pending_queued (take n slots)) next

one_more : (count : ℕ) (spilled : List Spilled) (k : ℕ) (d : Desc)
    → option_map (λ (s : Spilled). s.desc) (slice_get spilled k) ≡ Some d
    → spilled_pending count (take (suc k) spilled) ≡ spilled_pending count (take k spilled) ++ option_to_list (pending_spilled count d)
one_more count [] k d at = absurd (cc (at))
one_more count (s ∷ ss) zero d at =
    let same : s.desc ≡ d = cc (at) in
    cons_alone (pending_spilled count s.desc) ∙ ap (λ e. option_to_list (pending_spilled count e)) same
one_more count (s ∷ ss) (suc k) d at =
    ap (cons_option (pending_spilled count s.desc)) (one_more count ss k d at)
    ∙ sym (cons_in_front (pending_spilled count s.desc) (spilled_pending count (take k ss)) (option_to_list (pending_spilled count d)))

-- the tasks of one place more of a block
pub more_spilled : (count : ℕ) (old now then : List Pending) (spilled : List Spilled) (k : ℕ) (d : Desc)
    → now ≡ old ++ spilled_pending count (take k spilled)
    → option_map (λ (s : Spilled). s.desc) (slice_get spilled k) ≡ Some d
    → then ≡ now ++ option_to_list (pending_spilled count d)
    → then ≡ old ++ spilled_pending count (take (k + 1) spilled)
more_spilled count old now then spilled k d was at is =
    let next : suc k ≡ k + 1 = omega arith in
    is ∙ ap (λ xs. xs ++ option_to_list (pending_spilled count d)) was
    ∙ append_assoc old (spilled_pending count (take k spilled)) (option_to_list (pending_spilled count d))
    ∙ ap (λ xs. old ++ xs) (sym (one_more count spilled k d at))
    ∙ ap (λ n. old ++ spilled_pending count (take n spilled)) next

-- the spilled tasks of these blocks
abbrev pub in_blocks : List BlockValue → List Spilled
in_blocks blocks = flat_map (λ block. block) (lists_in blocks)

block_more : (blocks : List BlockValue) (k : ℕ) (b : BlockValue) → k < length blocks → slice_index_or blocks k b ≡ b
    → in_blocks (take (k + 1) blocks) ≡ in_blocks (take k blocks) ++ b.tasks
block_more blocks k b inside there =
    ap in_blocks (take_more blocks k b inside)
    ∙ ap (λ (x : BlockValue). in_blocks (take k blocks ++ x ∷ [])) there
    ∙ ap (flat_map (λ block. block)) (map-append (λ (block : BlockValue). block.tasks) (take k blocks) (b ∷ []))
    ∙ flat_map-append (λ block. block) (lists_in (take k blocks)) (b.tasks ∷ [])
    ∙ ap (λ xs. in_blocks (take k blocks) ++ xs) (append-nil b.tasks)

-- the tasks of one block more
pub more_blocks : (count : ℕ) (old now then : List Pending) (blocks : List BlockValue) (k : ℕ) (b : BlockValue)
    → k < length blocks
    → slice_index_or blocks k b ≡ b → now ≡ old ++ spilled_pending count (in_blocks (take k blocks))
    → then ≡ now ++ spilled_pending count b.tasks
    → then ≡ old ++ spilled_pending count (in_blocks (take (k + 1) blocks))
more_blocks count old now then blocks k b inside there was is =
    let front = in_blocks (take k blocks) in
    is ∙ ap (λ xs. xs ++ spilled_pending count b.tasks) was
    ∙ append_assoc old (spilled_pending count front) (spilled_pending count b.tasks)
    ∙ ap (λ xs. old ++ xs) (sym (filter_map-append (λ (s : Spilled). pending_spilled count s.desc) front b.tasks))
    ∙ ap (λ xs. old ++ spilled_pending count xs) (sym (block_more blocks k b inside there))
