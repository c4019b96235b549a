-- A task that is spilled, or a spilled one that comes back, changes no free task and no family, and keeps names apart
-- and spilled tasks firm.
use Rattle.std.proofs.Common.{◌≡◌, ◌≢◌, ◌⊎◌, ℕ, ◌+◌, ◌≤◌, Bool, true, Option, Some, refl, sym, ap, subst, ◌∙◌, inl, inr}
use Rattle.std.proofs.Common.{arith}
use Rattle.std.proofs.lemmas.Bool.{cases_eq}
use Rattle.task_desc.specs.declared.desc.Name.{Name}
use Rattle.pending_list.specs.declared.task.PendingTask.{PendingTask}
use Rattle.task_law.specs.Tasks.{BagCreator, Committed, Live, Body, body_of, spawn_body, BagTask, pending, QueuedFree}
use Rattle.task_law.specs.Tasks.{IsFree, QueuedChild, IsChild, IsFamily, Names}
use Rattle.task_law.specs.Sound.{AreFirm, NamesAreApart, CreatorsAreDistinct}
use Rattle.task_law.specs.Moves.{with_name, SpillsInBags}

-- a name is one creator's and place's
pub one_name : (count least : ℕ) (c d : BagCreator) (name : Name) → Names count least c name → Names count least d name
    → c ≡ d
one_name count least (Committed t i) (Committed u j) name a b =
    let t_is : t ≡ u = ap {A = Name} (λ n. n.creator) (sym a.0 ∙ b.0) in
    let i_is : i ≡ j = ap {A = Name} (λ n. n.index) (sym a.0 ∙ b.0) in
    ap (λ n. Committed n i) t_is ∙ ap (Committed u) i_is
one_name count least (Committed t i) (Live u j) name a b =
    let t_is : t ≡ count + 1 = ap {A = Name} (λ n. n.creator) (sym a.0 ∙ b.1) in
    absurd (omega (arith, a.1, t_is))
one_name count least (Live t i) (Committed u j) name a b =
    let u_is : u ≡ count + 1 = ap {A = Name} (λ n. n.creator) (sym b.0 ∙ a.1) in
    absurd (omega (arith, b.1, u_is))
one_name count least (Live t i) (Live u j) name a b =
    let i_is : i ≡ j = ap {A = Name} (λ n. n.index) (sym a.1 ∙ b.1) in
    ap (λ n. Live n i) (a.0 ∙ sym b.0) ∙ ap (Live u) i_is

module _ (count least : ℕ) (old new : ℕ → Option BagTask) (before after : ℕ → PendingTask → Type 0) (id : ℕ) (task : BagTask) (name : Name) (spills : SpillsInBags count least old new before after id task name) where
  not_this : (k : ℕ) (x : BagTask) → new k ≡ Some x → k ≢ id
  not_this k x at here = absurd (cc (spills.gone, ap new here, at))

  -- the free tasks and the children of each task stay the same, both ways
  pub free_forth : (depth : ℕ) (p : PendingTask) → IsFree old before count depth p → IsFree new after count depth p
  free_forth depth p (inr s) = inr (spills.more depth p s.0, s.1)
  free_forth depth p (inl q) = elim (cases_eq q.id id) [
    | inl here ↦
        let both : Some q.task ≡ Some task = sym q.there ∙ ap old here ∙ spills.there in
        let eq : q.task ≡ task = cc in
        let creator : task.creator ≡ Committed q.turn q.index = sym (ap (λ z. z.creator) eq) ∙ q.creator in
        let names : Names count least (Committed q.turn q.index) name = subst (λ c. Names count least c name) creator spills.named in
        let at : task.depth ≡ depth = sym (ap (λ z. z.depth) eq) ∙ q.depth_is in
        let is : p ≡ with_name name task = q.pending_is ∙ ap (λ z. pending q.turn q.index z.body z.ts) eq ∙ ap (λ n. with_name n task) (sym names.0) in
        let low : p.name.creator ≤ count = subst (λ n. n ≤ count) (sym (ap (λ z. z.name.creator) is ∙ ap (λ n. n.creator) names.0)) names.1 in
        inr (subst (λ o. after o p) at (subst (after task.depth) (sym is) spills.is_spilled), low)
    | inr other ↦ inl (record { id = q.id; task = q.task; there = spills.others q.id other ∙ q.there; turn = q.turn; index = q.index; creator = q.creator; depth_is = q.depth_is; pending_is = q.pending_is })
  ]

  pub free_back : (depth : ℕ) (p : PendingTask) → IsFree new after count depth p → IsFree old before count depth p
  free_back depth p (inl q) =
      inl (record { id = q.id; task = q.task; there = sym (spills.others q.id (not_this q.id q.task q.there)) ∙ q.there; turn = q.turn; index = q.index; creator = q.creator; depth_is = q.depth_is; pending_is = q.pending_is })
  free_back depth p (inr s) = elim (spills.only depth p s.0) [
    | inl was ↦ inr (was, s.1)
    | inr this ↦ inl (by_creator task.creator refl this)
  ]
    where
      by_creator : (c : BagCreator) → task.creator ≡ c → (depth ≡ task.depth) × (p ≡ with_name name task)
          → QueuedFree old before count depth p
      by_creator (Committed turn index) is this =
          let names : Names count least (Committed turn index) name = subst (λ c. Names count least c name) is spills.named in
          record {
            id = id;
            task = task;
            there = spills.there;
            turn = turn;
            index = index;
            creator = is;
            depth_is = sym this.0;
            pending_is = this.1 ∙ ap (λ n. with_name n task) names.0;
          }
      by_creator (Live creator index) is this =
          let names : Names count least (Live creator index) name = subst (λ c. Names count least c name) is spills.named in
          let high : p.name.creator ≡ count + 1 = ap (λ z. z.name.creator) this.1 ∙ ap (λ n. n.creator) names.1 in
          absurd (omega (arith, s.1, high))

  pub child_forth : (creator index depth : ℕ) (body : Body) (ts : ℕ)
      → IsChild old before count least creator index depth body ts
      → IsChild new after count least creator index depth body ts
  child_forth creator index depth body ts (inr s) = inr (s.0, spills.more depth (pending (count + 1) index body ts) s.1)
  child_forth creator index depth body ts (inl q) = elim (cases_eq q.id id) [
    | inl here ↦
        let both : Some q.task ≡ Some task = sym q.there ∙ ap old here ∙ spills.there in
        let eq : q.task ≡ task = cc in
        let of : task.creator ≡ Live creator index = sym (ap (λ z. z.creator) eq) ∙ q.creator_is in
        let names : Names count least (Live creator index) name = subst (λ c. Names count least c name) of spills.named in
        let at : task.depth ≡ depth = sym (ap (λ z. z.depth) eq) ∙ q.depth_is in
        let is : with_name name task ≡ pending (count + 1) index body ts =
        ap (λ n. with_name n task) names.1
        ∙ ap (λ b. pending (count + 1) index b task.ts) (sym (ap (λ z. z.body) eq) ∙ q.has_body)
        ∙ ap (pending (count + 1) index body) (sym (ap (λ z. z.ts) eq) ∙ q.has_ts)
        in
        inr (names.0, subst (λ o. after o (pending (count + 1) index body ts)) at (subst (after task.depth) is spills.is_spilled))
    | inr other ↦ inl (record { id = q.id; task = q.task; there = spills.others q.id other ∙ q.there; creator_is = q.creator_is; depth_is = q.depth_is; has_body = q.has_body; has_ts = q.has_ts })
  ]

  pub child_back : (creator index depth : ℕ) (body : Body) (ts : ℕ)
      → IsChild new after count least creator index depth body ts
      → IsChild old before count least creator index depth body ts
  child_back creator index depth body ts (inl q) =
      inl (record { id = q.id; task = q.task; there = sym (spills.others q.id (not_this q.id q.task q.there)) ∙ q.there; creator_is = q.creator_is; depth_is = q.depth_is; has_body = q.has_body; has_ts = q.has_ts })
  child_back creator index depth body ts (inr s) = elim (spills.only depth (pending (count + 1) index body ts) s.1) [
    | inl was ↦ inr (s.0, was)
    | inr this ↦ inl (by_creator task.creator refl this)
  ]
    where
      by_creator : (c : BagCreator) → task.creator ≡ c
          → (depth ≡ task.depth) × (pending (count + 1) index body ts ≡ with_name name task)
          → QueuedChild old before count creator index depth body ts
      by_creator (Committed turn i) is this =
          let names : Names count least (Committed turn i) name = subst (λ c. Names count least c name) is spills.named in
          let high : count + 1 ≡ turn = ap {A = PendingTask} (λ z. z.name.creator) this.1 ∙ ap (λ n. n.creator) names.0 in
          absurd (omega (arith, names.1, high))
      by_creator (Live c i) is this =
          let names : Names count least (Live c i) name = subst (λ d. Names count least d name) is spills.named in
          let same_i : index ≡ i = ap {A = PendingTask} (λ z. z.name.index) this.1 ∙ ap (λ n. n.index) names.1 in
          let same_c : c ≡ creator = names.0 ∙ sym s.0 in
          record {
            id = id;
            task = task;
            there = spills.there;
            creator_is = is ∙ ap (λ j. Live c j) (sym same_i) ∙ ap (λ d. Live d index) same_c;
            depth_is = sym this.0;
            has_body = sym (ap body_of this.1);
            has_ts = sym (ap {A = PendingTask} (λ z. z.ts) this.1);
          }

  pub family_forth : (k : ℕ) (x : BagTask) → IsFamily old before count least k x → IsFamily new after count least k x
  family_forth k x fam =
      record {
        each =
            λ index spawn at. (let e = fam.each index spawn at in (e.0, e.1, child_forth k index e.0 (spawn_body spawn) spawn.ts e.2));
        only =
            λ index depth body ts is. (let m = fam.only index depth body ts (child_back k index depth body ts is) in record { spawn = m.spawn; spawn_is = m.spawn_is; place = m.place; same_body = m.same_body; same_ts = m.same_ts });
      }

  pub family_back : (k : ℕ) (x : BagTask) → IsFamily new after count least k x → IsFamily old before count least k x
  family_back k x fam =
      record {
        each =
            λ index spawn at. (let e = fam.each index spawn at in (e.0, e.1, child_back k index e.0 (spawn_body spawn) spawn.ts e.2));
        only =
            λ index depth body ts is. (let m = fam.only index depth body ts (child_forth k index depth body ts is) in record { spawn = m.spawn; spawn_is = m.spawn_is; place = m.place; same_body = m.same_body; same_ts = m.same_ts });
      }

  -- a spilled task is firm, both ways
  pub firm_forth : (runs : Bool) → ((creator index : ℕ) → task.creator ≡ Live creator index → runs ≡ true)
      → AreFirm count runs before → AreFirm count runs after
  firm_forth runs its are depth p entry =
      elim (spills.only depth p entry) [ inl was ↦ are depth p was | inr this ↦ by_creator task.creator refl this.1 ]
    where
      by_creator : (c : BagCreator) → task.creator ≡ c → p ≡ with_name name task
          → (p.name.creator ≤ count) ⊎ ((p.name.creator ≡ count + 1) × (runs ≡ true))
      by_creator (Committed turn i) is this =
          let names : Names count least (Committed turn i) name = subst (λ c. Names count least c name) is spills.named in
          inl (subst (λ n. n ≤ count) (sym (ap (λ z. z.name.creator) this ∙ ap (λ n. n.creator) names.0)) names.1)
      by_creator (Live c i) is this =
          let names : Names count least (Live c i) name = subst (λ d. Names count least d name) is spills.named in
          inr (ap (λ z. z.name.creator) this ∙ ap (λ n. n.creator) names.1, its c i is)

  pub firm_back : (runs : Bool) → AreFirm count runs after → AreFirm count runs before
  firm_back runs are depth p entry = are depth p (spills.more depth p entry)

  pub distinct_forth : CreatorsAreDistinct old → CreatorsAreDistinct new
  distinct_forth distinct a b x y at at' same =
      distinct a b x y (sym (spills.others a (not_this a x at)) ∙ at) (sym (spills.others b (not_this b y at')) ∙ at') same

  pub apart_forth : CreatorsAreDistinct old → NamesAreApart count least old before → NamesAreApart count least new after
  apart_forth distinct apart k x other depth p at names entry same = elim (spills.only depth p entry) [
    | inl was ↦ apart k x other depth p (sym (spills.others k (not_this k x at)) ∙ at) names was same
    | inr this ↦
        let name_is : name ≡ other = sym (ap (λ z. z.name) this.1) ∙ same in
        let creators : x.creator ≡ task.creator = one_name count least x.creator task.creator other names (subst (Names count least task.creator) name_is spills.named) in
        not_this k x at (distinct k id x task (sym (spills.others k (not_this k x at)) ∙ at) spills.there creators)
  ]

  -- backwards it takes that no spilled task that stays has the name
  pub apart_back : ((depth : ℕ) (p : PendingTask) → before depth p → p.name ≢ name)
      → NamesAreApart count least new after → NamesAreApart count least old before
  apart_back fresh apart k x other depth p at names entry same = elim (cases_eq k id) [
    | inl here ↦
        let both : Some x ≡ Some task = sym at ∙ ap old here ∙ spills.there in
        let eq : x ≡ task = cc in
        let mine : Names count least task.creator other = subst (λ z. Names count least z.creator other) eq names in
        fresh depth p entry (same ∙ names_same task.creator mine spills.named)
    | inr differs ↦ apart k x other depth p (spills.others k differs ∙ at) names (spills.more depth p entry) same
  ]
    where
      names_same : (c : BagCreator) → Names count least c other → Names count least c name → other ≡ name
      names_same (Committed turn i) a b = a.0 ∙ sym b.0
      names_same (Live d i) a b = a.1 ∙ sym b.1

  pub distinct_back : ((k : ℕ) (x : BagTask) → new k ≡ Some x → x.creator ≢ task.creator) → CreatorsAreDistinct new
      → CreatorsAreDistinct old
  distinct_back alone distinct a b x y at at' same = elim (cases_eq a id) [
    | inl here ↦ elim (cases_eq b id) [
      | inl here' ↦ here ∙ sym here'
      | inr there' ↦ absurd (alone b y (spills.others b there' ∙ at') (sym same ∙ is_task a x at here))
    ]
    | inr there ↦ elim (cases_eq b id) [
      | inl here' ↦ absurd (alone a x (spills.others a there ∙ at) (same ∙ is_task b y at' here'))
      | inr there' ↦ distinct a b x y (spills.others a there ∙ at) (spills.others b there' ∙ at') same
    ]
  ]
    where
      is_task : (k : ℕ) (x : BagTask) → old k ≡ Some x → k ≡ id → x.creator ≡ task.creator
      is_task k x at here =
          let both : Some x ≡ Some task = sym at ∙ ap old here ∙ spills.there in
          let eq : x ≡ task = cc in
          ap (λ z. z.creator) eq
