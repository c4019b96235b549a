-- Taking back the latest member first, one at a time, is taking back the set.
use Rattle.std.proofs.Common.{arith, ◌≡◌, ◌≢◌, ◌⊎◌, ℕ, Bool, true, false, List, [], ◌∷◌, Option, Some, refl, sym, ap}
use Rattle.std.proofs.Common.{subst, ◌∙◌, inl, inr, cond}
use Rattle.std.proofs.lemmas.Bool.{cases_eq}
use Rattle.std.proofs.lemmas.Bool.Decides.{nat_tests}
use Rattle.memory_law.specs.Events.{IsLatestInLogs, without_one}
use Rattle.undo_log.specs.Undo.{undone}
use Rattle.memory_law.specs.Tasks.{Logged, log_of, In, Earlier, Ascends, undone_set}
use Rattle.fractal_vt.specs.Levels.{level_cmp}
use Rattle.fractal_vt.proofs.Proved.{level_cmp_total, not_both}

-- no task is earlier than itself
pub not_self : (x : Logged) → Earlier x x → ⊥
not_self x e = not_both level_cmp level_cmp_total x.levels x.levels e e

-- a listed task is there and dispatched
pub member_dispatched : (tasks : ℕ → Option Logged) (id : ℕ) (ids : List ℕ) → In id ids → Ascends tasks ids
    → (task : Logged) × (tasks id ≡ Some task) × (task.dispatched ≡ true)
member_dispatched tasks id [] at up = absurd at
member_dispatched tasks id (k ∷ ids) (inl here) up = (up.0, ap tasks here ∙ up.1, up.2)
member_dispatched tasks id (k ∷ ids) (inr later) up = member_dispatched tasks id ids later up.4

-- a set with none of these takes nothing back
none_back : (set : ℕ → Bool) (tasks : ℕ → Option Logged) (ids memory : List ℕ) → ((k : ℕ) → In k ids → set k ≡ false)
    → undone_set set tasks ids memory ≡ memory
none_back set tasks [] memory none = refl
none_back set tasks (k ∷ ids) memory none =
    ap (λ b. cond b (undone (log_of (tasks k)) (undone_set set tasks ids memory)) (undone_set set tasks ids memory)) (none k (inl refl))
    ∙ none_back set tasks ids memory (λ j at. none j (inr at))

other_one : (id k : ℕ) (set : ℕ → Bool) → k ≢ id → without_one id set k ≡ set k
other_one id k set differs = grind (arith, nat_tests)

that_one : (id k : ℕ) (set : ℕ → Bool) → k ≡ id → without_one id set k ≡ false
that_one id k set same = grind (arith, nat_tests)

module _ (set : ℕ → Bool) (tasks : ℕ → Option Logged) (id : ℕ) (task : Logged) (latest : IsLatestInLogs set tasks id task) where
  -- the set's latest member is taken back first
  pub latest_first : (ids memory : List ℕ) → Ascends tasks ids → In id ids
      → undone_set set tasks ids memory ≡ undone_set (without_one id set) tasks ids (undone task.log memory)
  latest_first [] memory up at = absurd at
  latest_first (k ∷ ids) memory up at = by_case (cases_eq k id) (latest_first ids memory up.4)
    where
      by_case : (k ≡ id) ⊎ (k ≢ id)
          → (In id ids → undone_set set tasks ids memory ≡ undone_set (without_one id set) tasks ids (undone task.log memory))
          → undone_set set tasks (k ∷ ids) memory ≡ undone_set (without_one id set) tasks (k ∷ ids) (undone task.log memory)
      by_case (inl here) go =
          let both : Some up.0 ≡ Some task = sym up.1 ∙ ap tasks here ∙ latest.there in
          let eq : up.0 ≡ task = cc in
          let above : (j : ℕ) (other : Logged) → In j ids → tasks j ≡ Some other → Earlier task other = λ j other at' there. subst (λ t. Earlier t other) eq (up.3 j other at' there) in
          let none : (j : ℕ) → In j ids → set j ≡ false = λ j at'. let y = member_dispatched tasks j ids at' up.4 in
          latest.none_later j y.0 y.1 y.2 (above j y.0 at' y.1) in
          let differs : (j : ℕ) → In j ids → j ≢ id = λ j at' e. not_self task (above j task at' (ap tasks e ∙ latest.there)) in
          let none' : (j : ℕ) → In j ids → without_one id set j ≡ false = λ j at'. other_one id j set (differs j at') ∙ none j at' in
          let log : log_of (tasks k) ≡ task.log = ap log_of (ap tasks here ∙ latest.there) in
          let left : undone_set set tasks (k ∷ ids) memory ≡ undone task.log memory =
          ap (λ b. cond b (undone (log_of (tasks k)) (undone_set set tasks ids memory)) (undone_set set tasks ids memory)) (ap set here ∙ latest.member)
          ∙ ap (undone (log_of (tasks k))) (none_back set tasks ids memory none)
          ∙ ap (λ l. undone l memory) log
          in
          let after : List ℕ = undone task.log memory in
          let right : undone_set (without_one id set) tasks (k ∷ ids) after ≡ after =
          ap (λ b. cond b (undone (log_of (tasks k)) (undone_set (without_one id set) tasks ids after)) (undone_set (without_one id set) tasks ids after)) (that_one id k set here)
          ∙ none_back (without_one id set) tasks ids after none'
          in
          left ∙ sym right
      by_case (inr other) go =
          let same : set k ≡ without_one id set k = sym (other_one id k set other) in
          ap (λ m. cond (set k) (undone (log_of (tasks k)) m) m) (go (in_rest at))
          ∙ ap (λ b. cond b (undone (log_of (tasks k)) (undone_set (without_one id set) tasks ids (undone task.log memory))) (undone_set (without_one id set) tasks ids (undone task.log memory))) same
        where
          in_rest : In id (k ∷ ids) → In id ids
          in_rest (inl here) = absurd (other (sym here))
          in_rest (inr later) = later
