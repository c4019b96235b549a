-- What taking an id out of distinct ids leaves.
use Rattle.std.proofs.Common.{◌≡◌, ◌≢◌, ℕ, zero, suc, ◌<◌, Bool, true, false, cond, not, eqb, List, [], ◌∷◌, length}
use Rattle.std.proofs.Common.{get_or, refl, subst, sym, ap, ◌∙◌, arith}
use Rattle.std.specs.Prelude.{Contains}
use Rattle.std.specs.List.{remove}
use Rattle.std.proofs.lemmas.Bool.{ne_eqb}
use Rattle.std.proofs.lemmas.Bool.Decides.{nat_tests}
use Rattle.std.proofs.lemmas.List.Kept.{AllPairs-filter}
use Rattle.tile_queues.specs.Queue.{AreDistinct, ids_but, unmarked_ids}

-- one more id in front
pub ids_but-cons_other : (id x : ℕ) (ids : List ℕ) → x ≢ id → ids_but id (x ∷ ids) ≡ x ∷ ids_but id ids
ids_but-cons_other id x ids other =
    ap (λ test. cond (not test) (x ∷ ids_but id ids) (ids_but id ids)) (ne_eqb x id other)

ids_but-cons_same : (id x : ℕ) (ids : List ℕ) → eqb x id ≡ true → ids_but id (x ∷ ids) ≡ ids_but id ids
ids_but-cons_same id x ids same = ap (λ test. cond (not test) (x ∷ ids_but id ids) (ids_but id ids)) same

eqb-true_at : (x id : ℕ) → x ≡ id → eqb x id ≡ true
eqb-true_at x id same = grind (arith, nat_tests)

-- an id that is not there takes nothing away
pub ids_but-absent : (id : ℕ) (ids : List ℕ) → (Contains ids id → ⊥) → ids_but id ids ≡ ids
ids_but-absent id [] absent = refl
ids_but-absent id (x ∷ ids) absent =
    ids_but-cons_other id x ids (λ same. absent (0, omega arith, same))
    ∙ ap (λ rest. x ∷ rest) (ids_but-absent id ids (λ there. absent (suc there.0, omega (arith, there.1), there.2)))

distinct_tail : (x : ℕ) (ids : List ℕ) → AreDistinct (x ∷ ids) → AreDistinct ids
distinct_tail x ids distinct i j d before below =
    distinct (suc i) (suc j) d (omega (arith, before)) (omega (arith, below))

-- what stands in front of distinct ids is not among them
distinct_head : (x : ℕ) (ids : List ℕ) → AreDistinct (x ∷ ids) → Contains ids x → ⊥
distinct_head x ids distinct there = distinct 0 (suc there.0) x (omega arith) (omega (arith, there.1)) (sym there.2)

-- of distinct ids the removal of one place takes away the id that stands there, and no other
pub remove-distinct : (id place : ℕ) (ids : List ℕ) → AreDistinct ids → place < length ids → get_or ids place id ≡ id
    → remove ids place ≡ ids_but id ids
remove-distinct id place [] distinct below is = absurd (omega (arith, below))
remove-distinct id zero (x ∷ ids) distinct below is =
    sym (ids_but-cons_same id x ids (eqb-true_at x id is)
    ∙ ids_but-absent id ids (λ there. distinct_head x ids distinct (subst (Contains ids) (sym is) there)))
remove-distinct id (suc place) (x ∷ ids) distinct below is =
    let inside : place < length ids = omega (arith, below) in
    let other : x ≢ id = λ same. distinct_head x ids distinct (subst (Contains ids) (sym same) (place, inside, is)) in
    ap (λ rest. x ∷ rest) (remove-distinct id place ids (distinct_tail x ids distinct) inside is)
    ∙ sym (ids_but-cons_other id x ids other)

-- what is left is distinct
pub AreDistinct-ids_but : (id : ℕ) (ids : List ℕ) → AreDistinct ids → AreDistinct (ids_but id ids)
AreDistinct-ids_but id ids distinct = AllPairs-filter (λ a b. a ≢ b) (λ other. not (eqb other id)) ids distinct

pub AreDistinct-unmarked : (marks : List Bool) (ids : List ℕ) → AreDistinct ids → AreDistinct (unmarked_ids marks ids)
AreDistinct-unmarked marks ids distinct =
    AllPairs-filter (λ a b. a ≢ b) (λ id. not (get_or marks id false)) ids distinct
