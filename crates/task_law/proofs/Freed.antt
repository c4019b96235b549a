-- The free tasks after a commit are those before it without the task, and its children; names stay apart, families
-- whole and spilled tasks firm.
use Rattle.std.proofs.Common.{◌≡◌, ◌≢◌, ◌⊎◌, ℕ, ◌+◌, ◌≤◌, Bool, true, List, Option, Some, None, refl, sym, ap, subst}
use Rattle.std.proofs.Common.{◌∙◌, inl, inr, arith, slice_get}
use Rattle.std.proofs.lemmas.Bool.{cases_eq, false_from_ne_true}
use Rattle.std.proofs.lemmas.Bool.Decides.{nat_tests}
use Rattle.std.proofs.lemmas.Grind.{common_steps}
use Rattle.task_desc.specs.declared.desc.Name.{Name}
use Rattle.task_desc.specs.declared.desc.Place.{Place}
use Rattle.task_desc.specs.declared.desc.Place.TheVariants.{Same, Sub, Super}
use Rattle.pending_list.specs.declared.task.PendingTask.{PendingTask}
use Rattle.run_law.specs.serial_machine.Turn.{is_named}
use Rattle.task_law.specs.Tasks.{BagCreator, Committed, Live, Body, spawn_body, BagTask, pending, QueuedFree, IsFree}
use Rattle.task_law.specs.Tasks.{IsChild, IsFamily, Matched, IsChildDepth, Names, SpilledBagTask, IsSpilled}
use Rattle.task_law.specs.Sound.{AreSound}
use Rattle.task_law.specs.Commit.{IsNextTurn, with_turn, CommitKeepsTasks}
use Rattle.task_law.proofs.Bags.{IsNewChild, Freed}

-- names are told apart by their parts
same_name : (a b : Name) → a.creator ≡ b.creator → a.index ≡ b.index → a ≡ b
same_name a b creator index =
    ap (λ c. record { creator = c; index = a.index }) creator
    ∙ ap (λ i. record { creator = b.creator; index = i }) index

pub named_same : (name : Name) (p : PendingTask) → is_named name p ≡ true → p.name ≡ name
named_same name p is =
    same_name p.name name (grind (arith, nat_tests, common_steps)) (grind (arith, nat_tests, common_steps))

pub same_named : (name : Name) (p : PendingTask) → p.name ≡ name → is_named name p ≡ true
same_named name p e =
    let creator : p.name.creator ≡ name.creator = ap (λ n. n.creator) e in
    let index : p.name.index ≡ name.index = ap (λ n. n.index) e in
    grind (arith, nat_tests, common_steps)

-- a free task with the name of a queued one is that one
module _ (count least : ℕ) (runs : Bool) (tasks : ℕ → Option BagTask) (spilled : List SpilledBagTask) (sound : AreSound count least runs tasks spilled) (id : ℕ) (task : BagTask) (turn index : ℕ) (there : tasks id ≡ Some task) (own : task.creator ≡ Committed turn index) where
  pub queued_same : (depth : ℕ) (p : PendingTask) (q : QueuedFree tasks (IsSpilled spilled) count depth p)
      → p.name ≡ record { creator = turn; index = index } → q.id ≡ id
  queued_same depth p q same =
      let names = sym (ap (λ z. z.name) q.pending_is) ∙ same in
      let turns : q.turn ≡ turn = ap {A = Name} (λ n. n.creator) names in
      let indexes : q.index ≡ index = ap {A = Name} (λ n. n.index) names in
      let creators : q.task.creator ≡ task.creator = q.creator ∙ ap (λ t. Committed t q.index) turns ∙ ap (Committed turn) indexes ∙ sym own in
      sound.distinct q.id id q.task task q.there there creators

  pub spilled_other : (depth : ℕ) (p : PendingTask) → IsSpilled spilled depth p
      → p.name ≢ record { creator = turn; index = index }
  spilled_other depth p at =
      let names : Names count least task.creator (record { creator = turn; index = index }) = subst (λ c. Names count least c (record { creator = turn; index = index })) (sym own) (refl, sound.counted id task turn index there own) in
      sound.apart id task (record { creator = turn; index = index }) depth p there names at

  pub free_same : (depth : ℕ) (p : PendingTask) → IsFree tasks (IsSpilled spilled) count depth p
      → p.name ≡ record { creator = turn; index = index }
      → (depth ≡ task.depth) × (p ≡ pending turn index task.body task.ts)
  free_same depth p (inr s) same = absurd (spilled_other depth p s.0 same)
  free_same depth p (inl q) same =
      let both : Some q.task ≡ Some task = sym q.there ∙ ap tasks (queued_same depth p q same) ∙ there in
      let eq : q.task ≡ task = cc in
      let creators : Committed q.turn q.index ≡ Committed turn index = sym q.creator ∙ ap (λ t. t.creator) eq ∙ own in
      let turns : q.turn ≡ turn = cc in
      let indexes : q.index ≡ index = cc in (
        sym q.depth_is ∙ ap (λ t. t.depth) eq,
        q.pending_is ∙ ap (λ t. pending q.turn q.index t.body t.ts) eq
            ∙ ap (λ t. pending t q.index task.body task.ts) turns ∙ ap (λ i. pending turn i task.body task.ts) indexes,
      )

module _ (count id turn index : ℕ) (old new : ℕ → Option BagTask) (spilled : List SpilledBagTask) (task : BagTask) (sound : AreSound count id true old spilled) (is : IsNextTurn count old new id task turn index) where
  abbrev self : Name
  self = record { creator = turn; index = index }

  abbrev After : ℕ → PendingTask → Type 0
  After = Freed (IsFree old (IsSpilled spilled) count) (count + 1) task.depth self task.spawns

  family : IsFamily old (IsSpilled spilled) count id id task
  family = sound.families id task is.there is.dispatched

  -- a matched child is one of the new children
  of_match : (k depth : ℕ) (body : Body) (ts : ℕ) (p : PendingTask) → p ≡ pending (count + 1) k body ts
      → Matched task k depth body ts → After depth p
  of_match k depth body ts p same match =
      inr (record {
        index = k;
        spawn = match.spawn;
        at = match.spawn_is;
        place = match.place;
        is =
            same ∙ ap (λ b. pending (count + 1) k b ts) match.same_body
            ∙ ap (pending (count + 1) k (spawn_body match.spawn)) match.same_ts;
      })

  queued_after : (depth : ℕ) (p : PendingTask) → QueuedFree new (IsSpilled spilled) (count + 1) depth p → After depth p
  queued_after depth p q = by_old (old q.id) refl
    where
      here_not : q.id ≢ id
      here_not e = absurd (cc (is.commits.gone, ap new e, q.there))

      by_creator : (x : BagTask) (c : BagCreator) → old q.id ≡ Some x → x.creator ≡ c → After depth p
      by_creator x (Committed m i) was made =
          let stays : new q.id ≡ Some x = is.commits.others q.id x here_not was (λ k e. absurd (cc (made, e))) in
          let both : Some x ≡ Some q.task = sym stays ∙ q.there in
          let eq : x ≡ q.task = cc in
          let was_q : old q.id ≡ Some q.task = was ∙ ap Some eq in
          let free : QueuedFree old (IsSpilled spilled) count depth p = record { id = q.id; task = q.task; there = was_q; turn = q.turn; index = q.index; creator = q.creator; depth_is = q.depth_is; pending_is = q.pending_is } in
          inl (inl free, false_from_ne_true (is_named self p) (λ e. here_not (queued_same count id true old spilled sound id task turn index is.there is.creator depth p free (named_same self p e))))
      by_creator x (Live c k) was made = elim (cases_eq c id) [
        | inl same ↦
            let made' : x.creator ≡ Live id k = made ∙ ap (λ j. Live j k) same in
            let both : Some (with_turn x (count + 1) k) ≡ Some q.task = sym (is.commits.children q.id x k here_not was made') ∙ q.there in
            let eq : with_turn x (count + 1) k ≡ q.task = cc in
            let creators : Committed (count + 1) k ≡ Committed q.turn q.index = ap (λ t. t.creator) eq ∙ q.creator in
            let turns : count + 1 ≡ q.turn = cc in
            let indexes : k ≡ q.index = cc in
            let p_is : p ≡ pending (count + 1) k x.body x.ts =
            q.pending_is ∙ ap (λ t. pending q.turn q.index t.body t.ts) (sym eq)
            ∙ ap (λ j. pending j q.index x.body x.ts) (sym turns)
            ∙ ap (λ j. pending (count + 1) j x.body x.ts) (sym indexes)
            in
            of_match k depth x.body x.ts p p_is (family.only k depth x.body x.ts (inl (record { id = q.id; task = x; there = was; creator_is = made'; depth_is = ap (λ t. t.depth) eq ∙ q.depth_is; has_body = refl; has_ts = refl })))
        | inr other ↦
            let stays : new q.id ≡ Some x = is.commits.others q.id x here_not was (λ j e. let l : Live c k ≡ Live id j = sym made ∙ e in other (cc)) in
            let both : Some x ≡ Some q.task = sym stays ∙ q.there in
            let eq : x ≡ q.task = cc in
            absurd (cc (ap (λ t. t.creator) eq, made, q.creator))
      ]

      by_old : (o : Option BagTask) → old q.id ≡ o → After depth p
      by_old None was = absurd (cc (is.commits.none q.id was, q.there))
      by_old (Some x) was = by_creator x x.creator was refl

  pub free_after : (depth : ℕ) (p : PendingTask) → IsFree new (IsSpilled spilled) (count + 1) depth p → After depth p
  free_after depth p (inl q) = queued_after depth p q
  free_after depth p (inr entry) = elim (cases_eq p.name.creator (count + 1)) [
    | inl mine ↦
        let p_is : p ≡ pending (count + 1) p.name.index (record { entry = p.entry; args = p.args }) p.ts = ap (λ c. pending c p.name.index (record { entry = p.entry; args = p.args }) p.ts) mine in
        of_match p.name.index depth (record { entry = p.entry; args = p.args }) p.ts p p_is (family.only p.name.index depth (record { entry = p.entry; args = p.args }) p.ts (inr (refl, subst (IsSpilled spilled depth) p_is entry.0)))
    | inr other ↦
        let low : p.name.creator ≤ count = omega (arith, entry.1, other) in
        inl (inr (entry.0, low), false_from_ne_true (is_named self p) (λ e. spilled_other count id true old spilled sound id task turn index is.there is.creator depth p entry.0 (named_same self p e)))
  ]

  same_depth : (q : Place) (a b : ℕ) → IsChildDepth task.depth q a → IsChildDepth task.depth q b → a ≡ b
  same_depth Same a b x y = x ∙ sym y
  same_depth Sub a b x y = x ∙ sym y
  same_depth Super a b x y = omega (arith, x, y)

  -- a new child is free
  child_free : (depth : ℕ) (p : PendingTask) → IsNewChild (count + 1) task.depth task.spawns depth p
      → IsFree new (IsSpilled spilled) (count + 1) depth p
  child_free depth p r =
      let kin = family.each r.index r.spawn r.at in
      let deep : kin.0 ≡ depth = same_depth r.spawn.place kin.0 depth kin.1 r.place in
      let p_is : p ≡ pending (count + 1) r.index (spawn_body r.spawn) r.spawn.ts = r.is in
      elim kin.2 [
        | inl q ↦
            let not_self : q.id ≢ id = λ e. (let both : Some q.task ≡ Some task = sym q.there ∙ ap old e ∙ is.there in let eq : q.task ≡ task = cc in absurd (cc (ap (λ t. t.creator) eq, q.creator_is, is.creator))) in
            inl (record {
              id = q.id;
              task = with_turn q.task (count + 1) r.index;
              there = is.commits.children q.id q.task r.index not_self q.there q.creator_is;
              turn = count + 1;
              index = r.index;
              creator = refl;
              depth_is = q.depth_is ∙ deep;
              pending_is =
                  p_is ∙ ap (λ b. pending (count + 1) r.index b r.spawn.ts) (sym q.has_body)
                  ∙ ap (pending (count + 1) r.index q.task.body) (sym q.has_ts);
            })
        | inr entry ↦ inr (subst (λ o. IsSpilled spilled o p) deep (subst (IsSpilled spilled kin.0) (sym p_is) entry.1), (let e : p.name.creator ≡ count + 1 = ap (λ z. z.name.creator) p_is in omega (arith, e)))
      ]

  pub after_free : (depth : ℕ) (p : PendingTask) → After depth p → IsFree new (IsSpilled spilled) (count + 1) depth p
  after_free depth p (inr kid) = child_free depth p kid
  after_free depth p (inl was) = elim was.0 [
    | inl q ↦
        let not_self : q.id ≢ id = λ e. (
        let both : Some q.task ≡ Some task = sym q.there ∙ ap old e ∙ is.there in
        let eq : q.task ≡ task = cc in
        let creators : Committed q.turn q.index ≡ Committed turn index = sym q.creator ∙ ap (λ t. t.creator) eq ∙ is.creator in
        let turns : q.turn ≡ turn = cc in
        let indexes : q.index ≡ index = cc in
        let name : p.name ≡ self = same_name p.name self (ap (λ z. z.name.creator) q.pending_is ∙ turns) (ap (λ z. z.name.index) q.pending_is ∙ indexes) in
        absurd (cc (same_named self p name, was.1))
        ) in
        inl (record { id = q.id; task = q.task; there = is.commits.others q.id q.task not_self q.there (λ k e. absurd (cc (q.creator, e))); turn = q.turn; index = q.index; creator = q.creator; depth_is = q.depth_is; pending_is = q.pending_is })
    | inr entry ↦ inr (entry.0, omega (arith, entry.1))
  ]

  abbrev How : BagTask → BagTask → Type 0
  How x y =
      ((x ≡ y) × ((i : ℕ) → x.creator ≢ Live id i)) ⊎ ((i : ℕ) × (x.creator ≡ Live id i) × (y ≡ with_turn x (count + 1) i))

  -- what a task is now it was before, or it is a child of the one that committed
  record Was (k : ℕ) (y : BagTask) : Type 0 where
    pub differs : k ≢ id
    pub before : BagTask
    pub there : old k ≡ Some before
    pub how : How before y

  was : (k : ℕ) (y : BagTask) → new k ≡ Some y → Was k y
  was k y at = by_old (old k) refl
    where
      here_not : k ≢ id
      here_not e = absurd (cc (is.commits.gone, ap new e, at))

      stays : (x : BagTask) → old k ≡ Some x → ((i : ℕ) → x.creator ≢ Live id i) → Was k y
      stays x at' none =
          let both : Some x ≡ Some y = sym (is.commits.others k x here_not at' none) ∙ at in
          let eq : x ≡ y = cc in
          record { differs = here_not; before = x; there = at'; how = inl (eq, none) }

      by_creator : (x : BagTask) → old k ≡ Some x → (c : BagCreator) → x.creator ≡ c → Was k y
      by_creator x at' (Committed m i) made = stays x at' (λ j e. absurd (cc (made, e)))
      by_creator x at' (Live c i) made = elim (cases_eq c id) [
        | inl same ↦
            let made' : x.creator ≡ Live id i = made ∙ ap (λ j. Live j i) same in
            let both : Some (with_turn x (count + 1) i) ≡ Some y = sym (is.commits.children k x i here_not at' made') ∙ at in
            let eq : with_turn x (count + 1) i ≡ y = cc in
            record { differs = here_not; before = x; there = at'; how = inr (i, made', sym eq) }
        | inr other ↦ stays x at' (λ j e. let l : Live c i ≡ Live id j = sym made ∙ e in other (cc))
      ]

      by_old : (o : Option BagTask) → old k ≡ o → Was k y
      by_old None at' = absurd (cc (is.commits.none k at', at))
      by_old (Some x) at' = by_creator x at' x.creator refl

  -- a creator that has committed took one of the turns so far, this commit's among them
  counted : (k : ℕ) (y : BagTask) (m i : ℕ) → new k ≡ Some y → y.creator ≡ Committed m i → m ≤ count + 1
  counted k y m i at made = by_how (was k y at)
    where
      by_how : Was k y → m ≤ count + 1
      by_how w = elim w.how [
        | inl same ↦ (let low = sound.counted k w.before m i w.there (ap (λ z. z.creator) same.0 ∙ made) in omega (arith, low))
        | inr kid ↦ (let both : Committed (count + 1) kid.0 ≡ Committed m i = sym (ap (λ z. z.creator) kid.2) ∙ made in let eq : count + 1 ≡ m = cc in omega (arith, eq))
      ]

  -- the creator that a task had, by the one that it has
  had : (k : ℕ) (y : BagTask) (w : Was k y) (other : ℕ) (z : BagTask) (v : Was other z) → y.creator ≡ z.creator
      → w.before.creator ≡ v.before.creator
  had k y w other z v same = elim w.how [
    | inl a ↦ elim v.how [
      | inl b ↦ ap (λ t. t.creator) a.0 ∙ same ∙ sym (ap (λ t. t.creator) b.0)
      | inr b ↦ absurd (late k y w a.0 b.0 (same ∙ ap (λ t. t.creator) b.2))
    ]
    | inr a ↦ elim v.how [
      | inl b ↦ absurd (late other z v b.0 a.0 (sym same ∙ ap (λ t. t.creator) a.2))
      | inr b ↦
          let both : Committed (count + 1) a.0 ≡ Committed (count + 1) b.0 = sym (ap (λ t. t.creator) a.2) ∙ same ∙ ap (λ t. t.creator) b.2 in
          let eq : a.0 ≡ b.0 = cc in
          a.1 ∙ ap (Live id) eq ∙ sym b.1
    ]
  ]
    where
      late : (j : ℕ) (x : BagTask) (u : Was j x) → u.before ≡ x → (i : ℕ) → x.creator ≡ Committed (count + 1) i → ⊥
      late j x u eq i made =
          let low = sound.counted j u.before (count + 1) i u.there (ap (λ t. t.creator) eq ∙ made) in omega (arith, low)

  distinct : (a b : ℕ) (x y : BagTask) → new a ≡ Some x → new b ≡ Some y → x.creator ≡ y.creator → a ≡ b
  distinct a b x y at at' same =
      let w = was a x at in
      let v = was b y at' in
      sound.distinct a b w.before v.before w.there v.there (had a x w b y v same)

  -- spilled tasks took their names from the turns so far
  spilled_low : (depth : ℕ) (p : PendingTask) → IsSpilled spilled depth p → p.name.creator ≤ count + 1
  spilled_low depth p at =
      elim (sound.firm depth p at) [ inl low ↦ omega (arith, low) | inr mine ↦ (let e = mine.0 in omega (arith, e)) ]

  apart : (least k : ℕ) (y : BagTask) (name : Name) (depth : ℕ) (p : PendingTask) → new k ≡ Some y
      → Names (count + 1) least y.creator name → IsSpilled spilled depth p → p.name ≢ name
  apart least k y name depth p at names entry same = by_creator (was k y at) y.creator refl names
    where
      by_creator : Was k y → (c : BagCreator) → y.creator ≡ c → Names (count + 1) least c name → ⊥
      by_creator w (Live c i) made names' =
          let low = spilled_low depth p entry in
          let high : p.name.creator ≡ count + 1 + 1 = ap (λ n. n.creator) (same ∙ names'.1) in
          omega (arith, low, high)
      by_creator w (Committed m i) made names' = elim w.how [
        | inl stays ↦
            let made' : w.before.creator ≡ Committed m i = ap (λ z. z.creator) stays.0 ∙ made in
            let low = sound.counted k w.before m i w.there made' in
            sound.apart k w.before name depth p w.there (subst (λ c. Names count id c name) (sym made') (names'.0, low)) entry same
        | inr kid ↦
            let both : Committed (count + 1) kid.0 ≡ Committed m i = sym (ap (λ z. z.creator) kid.2) ∙ made in
            let turns : count + 1 ≡ m = cc in
            let indexes : kid.0 ≡ i = cc in
            let name_is : name ≡ record { creator = count + 1; index = kid.0 } = names'.0 ∙ ap (λ n. record { creator = n; index = i }) (sym turns) ∙ ap (λ j. record { creator = count + 1; index = j }) (sym indexes) in
            sound.apart k w.before name depth p w.there (subst (λ c. Names count id c name) (sym kid.1) (refl, name_is)) entry same
      ]

  module _ (least k : ℕ) (y : BagTask) (at : new k ≡ Some y) (runs : y.dispatched ≡ true) where
    w : Was k y
    w = was k y at

    same_spawns : (w.before.spawns ≡ y.spawns) × (w.before.depth ≡ y.depth) × (w.before.dispatched ≡ y.dispatched)
    same_spawns = elim w.how [
      | inl stays ↦ (ap (λ z. z.spawns) stays.0, ap (λ z. z.depth) stays.0, ap (λ z. z.dispatched) stays.0)
      | inr kid ↦ (sym (ap (λ z. z.spawns) kid.2), sym (ap (λ z. z.depth) kid.2), sym (ap (λ z. z.dispatched) kid.2))
    ]

    old_family : IsFamily old (IsSpilled spilled) count id k w.before
    old_family = sound.families k w.before w.there (same_spawns.2 ∙ runs)

    child_on : (index depth : ℕ) (body : Body) (ts : ℕ) → IsChild old (IsSpilled spilled) count id k index depth body ts
        → IsChild new (IsSpilled spilled) (count + 1) least k index depth body ts
    child_on index depth body ts (inr s) = absurd (w.differs s.0)
    child_on index depth body ts (inl q) =
        let not_self : q.id ≢ id = λ e. (let both : Some q.task ≡ Some task = sym q.there ∙ ap old e ∙ is.there in let eq : q.task ≡ task = cc in absurd (cc (ap (λ t. t.creator) eq, q.creator_is, is.creator))) in
        let not_mine : (i : ℕ) → q.task.creator ≢ Live id i = λ i e. (let both : Live k index ≡ Live id i = sym q.creator_is ∙ e in let eq : k ≡ id = cc in w.differs eq) in
        inl (record { id = q.id; task = q.task; there = is.commits.others q.id q.task not_self q.there not_mine; creator_is = q.creator_is; depth_is = q.depth_is; has_body = q.has_body; has_ts = q.has_ts })

    child_was : (index depth : ℕ) (body : Body) (ts : ℕ)
        → IsChild new (IsSpilled spilled) (count + 1) least k index depth body ts
        → IsChild old (IsSpilled spilled) count id k index depth body ts
    child_was index depth body ts (inr s) =
        let low : count + 1 + 1 ≤ count + 1 = spilled_low depth (pending (count + 1 + 1) index body ts) s.1 in
        absurd (omega (arith, low))
    child_was index depth body ts (inl q) =
        let v = was q.id q.task q.there in
        elim v.how [
          | inl stays ↦ inl (record {
            id = q.id;
            task = v.before;
            there = v.there;
            creator_is = ap (λ z. z.creator) stays.0 ∙ q.creator_is;
            depth_is = ap (λ z. z.depth) stays.0 ∙ q.depth_is;
            has_body = ap (λ z. z.body) stays.0 ∙ q.has_body;
            has_ts = ap (λ z. z.ts) stays.0 ∙ q.has_ts;
          })
          | inr kid ↦ absurd (cc (ap (λ z. z.creator) kid.2, q.creator_is))
        ]

    family_after : IsFamily new (IsSpilled spilled) (count + 1) least k y
    family_after =
        record {
          each = λ index spawn there'. (
              let e = old_family.each index spawn (ap (λ s. slice_get s index) same_spawns.0 ∙ there') in
              (e.0, subst (λ d. IsChildDepth d spawn.place e.0) same_spawns.1 e.1, child_on index e.0 (spawn_body spawn) spawn.ts e.2)
              );
          only = λ index depth body ts kid. (
              let m = old_family.only index depth body ts (child_was index depth body ts kid) in
              record {
                spawn = m.spawn;
                spawn_is = ap (λ s. slice_get s index) (sym same_spawns.0) ∙ m.spawn_is;
                place = subst (λ d. IsChildDepth d m.spawn.place depth) same_spawns.1 m.place;
                same_body = m.same_body;
                same_ts = m.same_ts;
              }
              );
        }

pub commits_keep : CommitKeepsTasks
commits_keep count id turn index least runs old new spilled task sound is =
    record {
      counted = counted count id turn index old new spilled task sound is;
      distinct = distinct count id turn index old new spilled task sound is;
      apart = apart count id turn index old new spilled task sound is least;
      differ = sound.differ;
      firm = λ depth p at. inl (spilled_low count id turn index old new spilled task sound is depth p at);
      families =
          λ k y at dispatched. family_after count id turn index old new spilled task sound is least k y at dispatched;
    }
