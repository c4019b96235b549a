-- A queue of two tasks or more has a victim, so at each queue of capacity two or more some rule applies; and a
-- coalescing makes a queue in which something moves shorter.
use Rattle.std.proofs.Common.{◌≡◌, ◌≢◌, ◌⊎◌, ℕ, ◌≤◌, Bool, true, false, List, [], ◌∷◌, length, Option, Some, None, refl}
use Rattle.std.proofs.Common.{sym, ap, subst, ◌∙◌, inl, inr, arith}
use Rattle.std.proofs.lemmas.Bool.{cases_lt}
use Rattle.std.specs.Ordering.{is_gt, ordering_reverse}
use Rattle.std.specs.declared.cmp.Ordering.{Ordering}
use Rattle.std.specs.declared.cmp.Ordering.TheVariants.{Less, Equal, Greater}
use Rattle.std.proofs.lemmas.Cmp.{upto, tied_itself}
use Rattle.fractal_vt.specs.Levels.{levels_cmp}
use Rattle.fractal_vt.proofs.Proved.{levels_cmp_total, not_greater, greater_not, cases_some}
use Rattle.task_law.specs.Tasks.{In}
use Rattle.task_law.specs.Room.{RoomTask, IsFirmInQueue, IsMovableInQueue, NoneMovesInQueue, IsVictimInQueue, IsFirst}
use Rattle.task_law.specs.Room.{Rule, Free, Coalesces, Stalls, Takes, IdsAreApart, SomeRuleApplies, IsChosenInQueue}
use Rattle.task_law.specs.Room.{CoalesceShortensQueue}
use Rattle.task_law.proofs.Rooms.{shorter}

-- of a queue of two ids or more one is not the asker's
pub someone_else : (asker : Option ℕ) (queue : List ℕ) → IdsAreApart queue → 2 ≤ length queue
    → (v : ℕ) × In v queue × (asker ≢ Some v)
someone_else asker [] distinct many = absurd (omega (arith, many))
someone_else asker (k ∷ []) distinct many = absurd (omega (arith, many))
someone_else asker (k ∷ j ∷ rest) distinct many = elim (cases_some asker k) [
  | inl mine ↦ (j, inr (inl refl), λ e. (let both : Some k ≡ Some j = sym mine ∙ e in let eq : k ≡ j = cc in distinct.0 (inl eq)))
  | inr other ↦ (k, inl refl, other)
]

module _ (tasks : ℕ → Option RoomTask) (asker : Option ℕ) where
  abbrev Found : List ℕ → Type 0
  Found queue = (v : ℕ) × (task : RoomTask) × IsVictimInQueue tasks queue asker v task

  abbrev NoneIn : List ℕ → Type 0
  NoneIn queue = (k : ℕ) → In k queue → asker ≢ Some k → ⊥

  first_found : (k : ℕ) (x : RoomTask) (rest : List ℕ) → tasks k ≡ Some x → asker ≢ Some k → NoneIn rest
      → Found (k ∷ rest)
  first_found k x rest at other none = (
    k,
    x,
    record {
      there = at;
      queued = inl refl;
      other = other;
      latest = λ j y is other' at'. elim is [
        | inl here ↦ (let both : Some y ≡ Some x = sym at' ∙ ap tasks here ∙ at in let eq : y ≡ x = cc in greater_not (levels_cmp y.levels x.levels) (ap (λ z. is_gt (levels_cmp z.levels x.levels)) eq ∙ ap is_gt (tied_itself levels_cmp_total x.levels)))
        | inr there ↦ absurd (none j there other')
      ];
    },
  )

  keeps_found : (k : ℕ) (x : RoomTask) (rest : List ℕ) → tasks k ≡ Some x → (f : Found rest)
      → levels_cmp x.levels f.1.levels ≢ Greater → Found (k ∷ rest)
  keeps_found k x rest at f upto' = (
    f.0,
    f.1,
    record {
      there = f.2.there;
      queued = inr f.2.queued;
      other = f.2.other;
      latest = λ j y is other' at'. elim is [
        | inl here ↦ (let both : Some y ≡ Some x = sym at' ∙ ap tasks here ∙ at in let eq : y ≡ x = cc in subst (λ z. levels_cmp z.levels f.1.levels ≢ Greater) (sym eq) upto')
        | inr there ↦ f.2.latest j y there other' at'
      ];
    },
  )

  new_found : (k : ℕ) (x : RoomTask) (rest : List ℕ) → tasks k ≡ Some x → asker ≢ Some k → (f : Found rest)
      → levels_cmp x.levels f.1.levels ≡ Greater → Found (k ∷ rest)
  new_found k x rest at other f above = (
    k,
    x,
    record {
      there = at;
      queued = inl refl;
      other = other;
      latest = λ j y is other' at'. elim is [
        | inl here ↦ (let both : Some y ≡ Some x = sym at' ∙ ap tasks here ∙ at in let eq : y ≡ x = cc in greater_not (levels_cmp y.levels x.levels) (ap (λ z. is_gt (levels_cmp z.levels x.levels)) eq ∙ ap is_gt (tied_itself levels_cmp_total x.levels)))
        | inr there ↦
            let turned : levels_cmp f.1.levels x.levels ≡ Less = levels_cmp_total.antisymm f.1.levels x.levels ∙ ap ordering_reverse above in
            greater_not (levels_cmp y.levels x.levels) (upto levels_cmp_total y.levels f.1.levels x.levels (not_greater (levels_cmp y.levels f.1.levels) (f.2.latest j y there other' at')) (ap is_gt turned))
      ];
    },
  )

  none_more : (k : ℕ) (rest : List ℕ) → asker ≡ Some k → NoneIn rest → NoneIn (k ∷ rest)
  none_more k rest mine none j (inl here) other = other (mine ∙ ap Some (sym here))
  none_more k rest mine none j (inr there) other = none j there other

  search_all : (queue : List ℕ) → ((k : ℕ) → In k queue → (x : RoomTask) × (tasks k ≡ Some x))
      → NoneIn queue ⊎ Found queue
  search_all [] there = inl (λ k is other. is)
  search_all (k ∷ rest) there =
      by_rest (search_all rest (λ j is. there j (inr is))) (there k (inl refl)) (cases_some asker k)
    where
      by_cmp : (x : RoomTask) → tasks k ≡ Some x → asker ≢ Some k → (f : Found rest) → (o : Ordering)
          → levels_cmp x.levels f.1.levels ≡ o → Found (k ∷ rest)
      by_cmp x at other f Less is = keeps_found k x rest at f (λ e. absurd (cc (is, e)))
      by_cmp x at other f Equal is = keeps_found k x rest at f (λ e. absurd (cc (is, e)))
      by_cmp x at other f Greater is = new_found k x rest at other f is

      widen : (f : Found rest) → asker ≡ Some k → Found (k ∷ rest)
      widen f mine = (
        f.0,
        f.1,
        record {
          there = f.2.there;
          queued = inr f.2.queued;
          other = f.2.other;
          latest =
              λ j y is other' at'. elim is [ inl here ↦ absurd (other' (mine ∙ ap Some (sym here))) | inr later ↦ f.2.latest j y later other' at' ];
        },
      )

      by_rest : NoneIn rest ⊎ Found rest → (x : RoomTask) × (tasks k ≡ Some x) → (asker ≡ Some k) ⊎ (asker ≢ Some k)
          → NoneIn (k ∷ rest) ⊎ Found (k ∷ rest)
      by_rest (inl none) x (inl mine) = inl (none_more k rest mine none)
      by_rest (inl none) x (inr other) = inr (first_found k x.0 rest x.1 other none)
      by_rest (inr f) x (inl mine) = inr (widen f mine)
      by_rest (inr f) x (inr other) = inr (by_cmp x.0 x.1 other f (levels_cmp x.0.levels f.1.levels) refl)

  pub victim_exists : (queue : List ℕ) → ((k : ℕ) → In k queue → (x : RoomTask) × (tasks k ≡ Some x))
      → IdsAreApart queue → 2 ≤ length queue → (v : ℕ) × (task : RoomTask) × IsVictimInQueue tasks queue asker v task
  victim_exists queue there distinct many =
      let one = someone_else asker queue distinct many in
      elim (search_all queue there) [ inl none ↦ absurd (none one.0 one.1 one.2) | inr found ↦ found ]

-- where something moves, something is chosen
pub chosen_is_some : (tasks : ℕ → Option RoomTask) (heir : Option ℕ) (queue chosen : List ℕ) (k : ℕ)
    → IsChosenInQueue tasks heir queue chosen → IsMovableInQueue tasks heir queue k → (j : ℕ) × In j chosen × In j queue
chosen_is_some tasks heir queue [] k is moves = absurd (is.all (omega arith) k moves)
chosen_is_some tasks heir queue (j ∷ chosen) k is moves = (j, inl refl, (is.movable j (inl refl)).0)

-- so a coalescing makes the queue shorter
pub coalescing_makes_room : CoalesceShortensQueue
coalescing_makes_room tasks new heir queue chosen k is moves gone =
    let one = chosen_is_some tasks heir queue chosen k is moves in
    shorter new one.0 queue (gone one.0 one.1) one.2

-- a task is firm or not
firm_or_not : (heir : Option ℕ) (task : RoomTask) → IsFirmInQueue heir task ⊎ (IsFirmInQueue heir task → ⊥)
firm_or_not heir task = by_creator task.creator refl
  where
    by_creator : (c : Option ℕ) → task.creator ≡ c → IsFirmInQueue heir task ⊎ (IsFirmInQueue heir task → ⊥)
    by_creator None e = inl (inl e)
    by_creator (Some c) e = elim (cases_some heir c) [
      | inl mine ↦ inl (inr (c, e, mine))
      | inr other ↦ inr (λ firm. elim firm [
        | inl free ↦ absurd (cc (free, e))
        | inr child ↦ (let both : Some child.0 ≡ Some c = sym child.1 ∙ e in other (child.2 ∙ both))
      ])
    ]

-- something of the queue moves, or nothing does
moves_or_not : (tasks : ℕ → Option RoomTask) (heir : Option ℕ) (queue : List ℕ)
    → ((k : ℕ) → In k queue → (x : RoomTask) × (tasks k ≡ Some x))
    → ((k : ℕ) × IsMovableInQueue tasks heir queue k) ⊎ NoneMovesInQueue tasks heir queue
moves_or_not tasks heir [] there = inr (λ k moves. moves.0)
moves_or_not tasks heir (k ∷ queue) there =
    by_rest (moves_or_not tasks heir queue (λ j is. there j (inr is))) (there k (inl refl))
  where
    Result : Type 0
    Result = ((j : ℕ) × IsMovableInQueue tasks heir (k ∷ queue) j) ⊎ NoneMovesInQueue tasks heir (k ∷ queue)

    by_firm : (x : RoomTask) → tasks k ≡ Some x → x.dispatched ≡ false → NoneMovesInQueue tasks heir queue
        → IsFirmInQueue heir x ⊎ (IsFirmInQueue heir x → ⊥) → Result
    by_firm x at idle none (inl firm) = inl (k, (inl refl, x, at, idle, firm))
    by_firm x at idle none (inr loose) = inr (λ j moves. elim moves.0 [
      | inl here ↦ (let both : Some moves.1 ≡ Some x = sym moves.2 ∙ ap tasks here ∙ at in let eq : moves.1 ≡ x = cc in loose (subst (IsFirmInQueue heir) eq moves.4))
      | inr later ↦ none j (later, moves.1, moves.2, moves.3, moves.4)
    ])

    by_dispatched : (x : RoomTask) → tasks k ≡ Some x → NoneMovesInQueue tasks heir queue → (b : Bool)
        → x.dispatched ≡ b → Result
    by_dispatched x at none false idle = by_firm x at idle none (firm_or_not heir x)
    by_dispatched x at none true runs = inr (λ j moves. elim moves.0 [
      | inl here ↦ (let both : Some moves.1 ≡ Some x = sym moves.2 ∙ ap tasks here ∙ at in let eq : moves.1 ≡ x = cc in absurd (cc (ap (λ z. z.dispatched) eq, moves.3, runs)))
      | inr later ↦ none j (later, moves.1, moves.2, moves.3, moves.4)
    ])

    by_rest : ((j : ℕ) × IsMovableInQueue tasks heir queue j) ⊎ NoneMovesInQueue tasks heir queue
        → (x : RoomTask) × (tasks k ≡ Some x) → Result
    by_rest (inl one) x = inl (one.0, (inr one.1.0, one.1.1, one.1.2, one.1.3, one.1.4))
    by_rest (inr none) x = by_dispatched x.0 x.1 none x.0.dispatched refl

-- the task that is aborted for a victim: there is one, since a task that is not firm has a creator to commit yet
first_for : (heir : Option ℕ) (v : ℕ) (task : RoomTask) → (first : ℕ) × IsFirst heir v task first
first_for heir v task =
    elim (firm_or_not heir task) [ inl firm ↦ (v, inl (firm, refl)) | inr loose ↦ by_creator loose task.creator refl ]
  where
    by_creator : (IsFirmInQueue heir task → ⊥) → (c : Option ℕ) → task.creator ≡ c
        → (first : ℕ) × IsFirst heir v task first
    by_creator loose None e = absurd (loose (inl e))
    by_creator loose (Some c) e = (c, inr (loose, e))

pub some_rule_applies : SomeRuleApplies
some_rule_applies tasks heir queue capacity asker is_least is two fits = elim (cases_lt (length queue) capacity) [
  | inl free ↦ Free free
  | inr full ↦ by_moves (let e : length queue ≡ capacity = omega (arith, fits, full) in e) (moves_or_not tasks heir queue is.there) is_least refl
]
  where
    by_moves : length queue ≡ capacity
        → ((k : ℕ) × IsMovableInQueue tasks heir queue k) ⊎ NoneMovesInQueue tasks heir queue → (b : Bool)
        → is_least ≡ b → Rule tasks heir queue capacity asker is_least
    by_moves full (inl one) b e = Coalesces full one.0 one.1
    by_moves full (inr none) false e = Stalls full none e
    by_moves full (inr none) true e =
        let found = victim_exists tasks asker queue is.there is.apart (omega (arith, two, full)) in
        let first = first_for heir found.0 found.1 in
        Takes full none e found.0 found.1 first.0 found.2 first.1
