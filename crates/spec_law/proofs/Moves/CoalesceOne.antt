-- A coalescing of several tasks is one of one task after another.
use Rattle.std.proofs.Common.{ℕ, suc, ◌≡◌, ◌≢◌, ◌⊎◌, inl, inr, Bool, true, false, List, [], ◌∷◌, ◌++◌, Option, Some}
use Rattle.std.proofs.Common.{None, refl, sym, ap, subst, ◌∙◌, arith}
use Rattle.std.specs.Prelude.{Contains}
use Rattle.std.specs.List.{AllZip, AllByRecursion, AllPairs}
use Rattle.std.proofs.lemmas.Bool.{cases_eq}
use Rattle.std.proofs.lemmas.List.Elements.{recursion_from_All}
use Rattle.task_desc.specs.declared.desc.Name.{Name}
use Rattle.spec_state.specs.task_law.Tasks.{BagTask, Live, Names, SpilledBagTask}
use Rattle.spec_state.specs.task_law.Moves.{CoalescesInBags, spilled_of}
use Rattle.spec_law.proofs.Moves.Added.{AddsEach}
use Rattle.spec_state.proofs.Proved.{head_or_tail}

-- no id stands twice
abbrev pub AreApart : List ℕ → Type 0
AreApart [] = Unit {0}
AreApart (k ∷ ks) = AllByRecursion (λ j. j ≢ k) ks × AreApart ks

-- so it is where a relation holds of each id and those behind it which it has to no id itself
pub apart_from : (R : ℕ → ℕ → Type 0) (ids : List ℕ) → AllPairs R ids → ((k : ℕ) → Contains ids k → R k k → ⊥)
    → AreApart ids
apart_from R [] pairs none = tt
apart_from R (k ∷ ks) pairs none = (
  recursion_from_All (λ j. j ≢ k) ks (λ i d below same. none k (0, omega arith, refl)
      (subst (R k) same (pairs 0 (suc i) d (omega arith) (omega (arith, below))))),
  apart_from R ks (λ i j d before below. pairs (suc i) (suc j) d (omega (arith, before)) (omega (arith, below))) (λ j c. none j (suc c.0, omega (arith, c.1), c.2)),
)

-- what is neither the first one nor behind it is none of them
not_first_of : (id : ℕ) (ids : List ℕ) (k : ℕ) → (k ≡ id → ⊥) → (Contains ids k → ⊥) → Contains (id ∷ ids) k → ⊥
not_first_of id ids k other not_behind c =
    elim (head_or_tail id ids k c) [ inl same ↦ other (sym same) | inr behind ↦ not_behind behind ]

-- nothing where the id is this one
abbrev gone_if : {A B : Type 0} → A ⊎ B → Option BagTask → Option BagTask
gone_if (inl a) o = None
gone_if (inr b) o = o

-- where it is this one, nothing is left
gone_at : {A : Type 0} (c : A ⊎ (A → ⊥)) (o : Option BagTask) → A → gone_if c o ≡ None
gone_at (inl a) o is = refl
gone_at (inr not) o is = absurd (not is)

-- and where it is another one, all is
gone_not : {A : Type 0} (c : A ⊎ (A → ⊥)) (o : Option BagTask) → (A → ⊥) → gone_if c o ≡ o
gone_not (inl a) o other = absurd (other a)
gone_not (inr not) o other = refl

-- the tasks without this one
abbrev but : ℕ → (ℕ → Option BagTask) → ℕ → Option BagTask
but id tasks k = gone_if (cases_eq k id) (tasks k)

module _ (count least : ℕ) (runs : Bool) where
  -- the idle firm task of this id is spilled so
  pub record MovesOne (tasks : ℕ → Option BagTask) (id : ℕ) (e : SpilledBagTask) : Type 0 where
    pub task : BagTask
    pub name : Name
    pub there : tasks id ≡ Some task
    pub idle : task.dispatched ≡ false
    pub named : Names count least task.creator name
    pub heir : (creator index : ℕ) → task.creator ≡ Live creator index → runs ≡ true
    pub is : e ≡ spilled_of name task

  -- the others are spilled so without the first one too
  behind_moves : (id : ℕ) (tasks : ℕ → Option BagTask) (ids : List ℕ) (es : List SpilledBagTask)
      → AllByRecursion (λ k. k ≢ id) ids → AllZip (MovesOne tasks) ids es
      → AllZip (MovesOne (but id tasks)) ids es
  behind_moves id tasks [] [] apart zip = tt
  behind_moves id tasks [] (e ∷ es) apart zip = absurd zip
  behind_moves id tasks (k ∷ ks) [] apart zip = absurd zip
  behind_moves id tasks (k ∷ ks) (e ∷ es) apart zip =
      let one = zip.0 in (
        record {
          task = one.task;
          name = one.name;
          there = gone_not (cases_eq k id) (tasks k) apart.0 ∙ one.there;
          idle = one.idle;
          named = one.named;
          heir = one.heir;
          is = one.is;
        },
        behind_moves id tasks ks es apart.1 zip.1,
      )

  -- several tasks that are spilled, each at some place, are spilled one after another
  pub one_by_one : (ids : List ℕ) (es : List SpilledBagTask) (old new : ℕ → Option BagTask)
      (before after : List SpilledBagTask)
      → AreApart ids → AllZip (MovesOne old) ids es → ((k : ℕ) → Contains ids k → new k ≡ None)
      → ((k : ℕ) → (Contains ids k → ⊥) → new k ≡ old k)
      → AddsEach es before after → CoalescesInBags count least runs ids old before new after
  one_by_one [] [] old new before after apart zip gone others same = (λ k. others k (λ c. omega (arith, c.1)), same)
  one_by_one [] (e ∷ es) old new before after apart zip gone others adds = absurd zip
  one_by_one (id ∷ ids) [] old new before after apart zip gone others adds = absurd zip
  one_by_one (id ∷ ids) (e ∷ es) old new before after apart zip gone others adds =
      let one = zip.0 in (
        but id old,
        adds.0 ++ e ∷ adds.1,
        record {
          task = one.task;
          name = one.name;
          there = one.there;
          idle = one.idle;
          gone = gone_at (cases_eq id id) (old id) refl;
          others = λ k other. gone_not (cases_eq k id) (old k) other;
          named = one.named;
          heir = one.heir;
          front = adds.0;
          back = adds.1;
          before_is = adds.2;
          after_is = ap (λ x. adds.0 ++ x ∷ adds.1) one.is;
        },
        one_by_one ids es (but id old) new (adds.0 ++ e ∷ adds.1) after apart.1 (behind_moves id old ids es apart.0 zip.1)
            (λ k c. gone k (suc c.0, omega (arith, c.1), c.2)) still adds.3,
      )
    where
      still : (k : ℕ) → (Contains ids k → ⊥) → new k ≡ but id old k
      still k not_behind = by_id (cases_eq k id)
        where
          by_id : (k ≡ id) ⊎ (k ≡ id → ⊥) → new k ≡ but id old k
          by_id (inl same) = gone k (0, omega arith, sym same) ∙ sym (gone_at (cases_eq k id) (old k) same)
          by_id (inr other) =
              others k (λ c. not_first_of id ids k other not_behind c) ∙ sym (gone_not (cases_eq k id) (old k) other)
