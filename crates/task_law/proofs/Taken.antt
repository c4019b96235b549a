-- A set taken back changes no free task and no family of a task that is dispatched still, and keeps names apart.
use Rattle.std.proofs.Common.{◌≡◌, ◌⊎◌, ℕ, Bool, true, false, Option, Some, None, refl, sym, ap, subst, ◌∙◌, inl, inr}
use Rattle.pending_list.specs.declared.task.PendingTask.{PendingTask}
use Rattle.task_law.specs.Tasks.{BagCreator, Committed, Live, Body, spawn_body, BagTask, pending, IsFree, IsChild}
use Rattle.task_law.specs.Tasks.{IsFamily, Names, IsSpilled}
use Rattle.task_law.specs.Sound.{NamesAreApart, CreatorsAreDistinct}
use Rattle.task_law.specs.Moves.{idle_bag_task, TakesBackInBags, AbortKeepsTasks}

module _ (set : ℕ → Bool) (old new : ℕ → Option BagTask) (takes : TakesBackInBags set old new) where
  abbrev Stays : ℕ → BagTask → BagTask → Type 0
  Stays k x y = (set k ≡ true) × (old k ≡ Some x) × (y ≡ idle_bag_task x)

  -- what a task is now it was before, or it is a member that stays
  which : (k : ℕ) (y : BagTask) → new k ≡ Some y → ((set k ≡ false) × (old k ≡ Some y)) ⊎ ((x : BagTask) × Stays k x y)
  which k y at = by_mark (set k) refl
    where
      by_creator : (x : BagTask) → set k ≡ true → old k ≡ Some x → (c : BagCreator) → x.creator ≡ c
          → (x : BagTask) × Stays k x y
      by_creator x marked was (Committed turn index) is =
          let same : Some (idle_bag_task x) ≡ Some y = sym (takes.stays k x marked was (λ c i e. absurd (cc (is, e)))) ∙ at in
          let eq : idle_bag_task x ≡ y = cc in
          (x, (marked, was, sym eq))
      by_creator x marked was (Live creator index) is = by_creators_mark (set creator) refl
        where
          by_creators_mark : (b : Bool) → set creator ≡ b → (x : BagTask) × Stays k x y
          by_creators_mark true out = absurd (cc (takes.gone k x creator index marked was is out, at))
          by_creators_mark false out =
              let kept : (c i : ℕ) → x.creator ≡ Live c i → set c ≡ false = λ c i e. (let both : Live creator index ≡ Live c i = sym is ∙ e in let eq : creator ≡ c = cc in sym (ap set eq) ∙ out) in
              let same : Some (idle_bag_task x) ≡ Some y = sym (takes.stays k x marked was kept) ∙ at in
              let eq : idle_bag_task x ≡ y = cc in
              (x, (marked, was, sym eq))

      by_old : set k ≡ true → (o : Option BagTask) → old k ≡ o → (x : BagTask) × Stays k x y
      by_old marked None was = absurd (cc (takes.none k was, at))
      by_old marked (Some x) was = by_creator x marked was x.creator refl

      by_mark : (b : Bool) → set k ≡ b → ((set k ≡ false) × (old k ≡ Some y)) ⊎ ((x : BagTask) × Stays k x y)
      by_mark true is = inr (by_old is (old k) refl)
      by_mark false is = inl (is, sym (takes.others k is) ∙ at)

  -- the task before, with what the abort leaves of it
  was_task : (k : ℕ) (y : BagTask) → new k ≡ Some y
      → (x : BagTask) × (old k ≡ Some x) × (x.creator ≡ y.creator) × (x.depth ≡ y.depth) × (x.body ≡ y.body) × (x.ts ≡ y.ts)
  was_task k y at = elim (which k y at) [
    | inl same ↦ (y, same.1, refl, refl, refl, refl)
    | inr m ↦ (m.0, m.1.1, sym (ap (λ z. z.creator) m.1.2), sym (ap (λ z. z.depth) m.1.2), sym (ap (λ z. z.body) m.1.2), sym (ap (λ z. z.ts) m.1.2))
  ]

  -- a task whose creator is no member is still there
  kept_task : (k : ℕ) (x : BagTask) → old k ≡ Some x
      → ((creator index : ℕ) → x.creator ≡ Live creator index → set creator ≡ false)
      → (y : BagTask) × (new k ≡ Some y) × (y.creator ≡ x.creator) × (y.depth ≡ x.depth) × (y.body ≡ x.body) × (y.ts ≡ x.ts)
  kept_task k x at out = by_mark (set k) refl
    where
      by_mark : (b : Bool) → set k ≡ b
          → (y : BagTask) × (new k ≡ Some y) × (y.creator ≡ x.creator) × (y.depth ≡ x.depth) × (y.body ≡ x.body) × (y.ts ≡ x.ts)
      by_mark true is = (idle_bag_task x, takes.stays k x is at out, refl, refl, refl, refl)
      by_mark false is = (x, takes.others k is ∙ at, refl, refl, refl, refl)

  pub abort_keeps_free : (spilled : ℕ → PendingTask → Type 0) (count depth : ℕ) (p : PendingTask)
      → (IsFree new spilled count depth p → IsFree old spilled count depth p) × (IsFree old spilled count depth p → IsFree new spilled count depth p)
  abort_keeps_free spilled count depth p = (back, forth)
    where
      back : IsFree new spilled count depth p → IsFree old spilled count depth p
      back (inl q) =
          let w = was_task q.id q.task q.there in
          inl (record { id = q.id; task = w.0; there = w.1; turn = q.turn; index = q.index; creator = w.2 ∙ q.creator; depth_is = w.3 ∙ q.depth_is; pending_is = q.pending_is ∙ ap (λ b. pending q.turn q.index b q.task.ts) (sym w.4) ∙ ap (pending q.turn q.index w.0.body) (sym w.5) })
      back (inr s) = inr s

      forth : IsFree old spilled count depth p → IsFree new spilled count depth p
      forth (inl q) =
          let w = kept_task q.id q.task q.there (λ c i e. absurd (cc (q.creator, e))) in
          inl (record { id = q.id; task = w.0; there = w.1; turn = q.turn; index = q.index; creator = w.2 ∙ q.creator; depth_is = w.3 ∙ q.depth_is; pending_is = q.pending_is ∙ ap (λ b. pending q.turn q.index b q.task.ts) (sym w.4) ∙ ap (pending q.turn q.index w.0.body) (sym w.5) })
      forth (inr s) = inr s

  -- the tasks that are dispatched still are what they were, and so are their families
  pub abort_keeps_families : (spilled : ℕ → PendingTask → Type 0) (count heir id : ℕ) (task : BagTask)
      → new id ≡ Some task → task.dispatched ≡ true
      → ((x : BagTask) → old id ≡ Some x → x.dispatched ≡ true → IsFamily old spilled count heir id x)
      → IsFamily new spilled count heir id task
  abort_keeps_families spilled count heir id task there runs family = elim (which id task there) [
    | inl same ↦
        let fam = family task same.1 runs in
        record {
          each =
              λ index spawn at. (let e = fam.each index spawn at in (e.0, e.1, forth index e.0 (spawn_body spawn) spawn.ts same.0 e.2));
          only =
              λ index depth body ts is. (let m = fam.only index depth body ts (back index depth body ts is) in record { spawn = m.spawn; spawn_is = m.spawn_is; place = m.place; same_body = m.same_body; same_ts = m.same_ts });
        }
    | inr m ↦ absurd (cc (ap (λ z. z.dispatched) m.1.2, runs))
  ]
    where
      forth : (index depth : ℕ) (body : Body) (ts : ℕ) → set id ≡ false
          → IsChild old spilled count heir id index depth body ts
          → IsChild new spilled count heir id index depth body ts
      forth index depth body ts out (inl q) =
          let w = kept_task q.id q.task q.there (λ c i e. (let both : Live id index ≡ Live c i = sym q.creator_is ∙ e in let eq : id ≡ c = cc in sym (ap set eq) ∙ out)) in
          inl (record { id = q.id; task = w.0; there = w.1; creator_is = w.2 ∙ q.creator_is; depth_is = w.3 ∙ q.depth_is; has_body = w.4 ∙ q.has_body; has_ts = w.5 ∙ q.has_ts })
      forth index depth body ts out (inr s) = inr s

      back : (index depth : ℕ) (body : Body) (ts : ℕ) → IsChild new spilled count heir id index depth body ts
          → IsChild old spilled count heir id index depth body ts
      back index depth body ts (inl q) =
          let w = was_task q.id q.task q.there in
          inl (record { id = q.id; task = w.0; there = w.1; creator_is = w.2 ∙ q.creator_is; depth_is = w.3 ∙ q.depth_is; has_body = w.4 ∙ q.has_body; has_ts = w.5 ∙ q.has_ts })
      back index depth body ts (inr s) = inr s

  pub abort_keeps_distinct : CreatorsAreDistinct old → CreatorsAreDistinct new
  abort_keeps_distinct distinct a b x y at at' same =
      let w = was_task a x at in
      let w' = was_task b y at' in
      distinct a b w.0 w'.0 w.1 w'.1 (w.2 ∙ same ∙ sym w'.2)

  pub abort_keeps_apart : (spilled : ℕ → PendingTask → Type 0) (count least : ℕ) → NamesAreApart count least old spilled
      → NamesAreApart count least new spilled
  abort_keeps_apart spilled count least apart id x name depth p at names entry =
      let w = was_task id x at in
      apart id w.0 name depth p w.1 (subst (λ c. Names count least c name) (sym w.2) names) entry

pub aborts_keep : AbortKeepsTasks
aborts_keep set old new spilled count least runs takes = (
  λ depth p. let both = abort_keeps_free set old new takes (IsSpilled spilled) count depth p in (both.1, both.0),
  λ sound. record {
    counted =
        λ id x turn index at is. (let w = was_task set old new takes id x at in sound.counted id w.0 turn index w.1 (w.2 ∙ is));
    distinct = abort_keeps_distinct set old new takes sound.distinct;
    apart = abort_keeps_apart set old new takes (IsSpilled spilled) count least sound.apart;
    differ = sound.differ;
    firm = sound.firm;
    families =
        λ id task at is. abort_keeps_families set old new takes (IsSpilled spilled) count least id task at is (λ x was runs. sound.families id x was runs);
  },
)
