-- A dispatch, an enqueue and a placement keep what a sound view keeps of names and children.
use Rattle.std.proofs.Common.{◌≡◌, ◌≢◌, ◌⊎◌, ℕ, zero, suc, ◌+◌, ◌≤◌, Bool, true, false, List, [], ◌∷◌, ◌++◌, length}
use Rattle.std.proofs.Common.{Option, Some, None, refl, sym, ap, subst, ◌∙◌, inl, inr, arith, slice_get}
use Rattle.std.proofs.lemmas.Bool.{cases_eq}
use Rattle.task_desc.specs.declared.desc.Name.{Name}
use Rattle.task_desc.specs.declared.desc.Spawn.{Spawn}
use Rattle.pending_list.specs.declared.task.PendingTask.{PendingTask}
use Rattle.task_law.specs.Tasks.{BagCreator, Committed, Live, Body, body_of, spawn_body, BagTask, pending, IsFree}
use Rattle.task_law.specs.Tasks.{IsChild, IsFamily, Matched, IsChildDepth, Names, SpilledBagTask, IsSpilled}
use Rattle.task_law.specs.Sound.{AreSound, IdleLeastIsAny}
use Rattle.task_law.specs.Grows.{DispatchesInBags, DispatchKeepsTasks, made_by, EnqueuesInBags, EnqueueKeepsTasks}
use Rattle.task_law.specs.Grows.{PlacesInBags, PlacementKeepsTasks, NoTasksAreSound}
use Rattle.fractal_vt.proofs.Proved.{get_end, get_front}

module _ {X : Type 0} where
  pub get_cases : (xs : List X) (x : X) (i : ℕ) (y : X) → slice_get (xs ++ x ∷ []) i ≡ Some y
      → (slice_get xs i ≡ Some y) ⊎ ((i ≡ length xs) × (x ≡ y))
  get_cases [] x zero y at = let same : x ≡ y = cc in inr (refl, same)
  get_cases [] x (suc i) y at = absurd (cc)
  get_cases (a ∷ xs) x zero y at = inl at
  get_cases (a ∷ xs) x (suc i) y at =
      elim (get_cases xs x i y at) [ inl was ↦ inl was | inr last ↦ inr (ap suc last.0, last.1) ]

  get_past : (xs : List X) (x : X) → slice_get xs (length xs) ≡ Some x → ⊥
  get_past [] x at = absurd (cc)
  get_past (a ∷ xs) x at = get_past xs x at

-- what free tasks and children read of a task
record Alike (x y : BagTask) : Type 0 where
  pub creator : x.creator ≡ y.creator
  pub depth : x.depth ≡ y.depth
  pub body : x.body ≡ y.body
  pub ts : x.ts ≡ y.ts

alike : (x y : BagTask) → x ≡ y → Alike x y
alike x y e =
    record {
      creator = ap (λ z. z.creator) e;
      depth = ap (λ z. z.depth) e;
      body = ap (λ z. z.body) e;
      ts = ap (λ z. z.ts) e;
    }

-- each task of the one that this holds of is one of the other, which reads the same
abbrev Carries : (ℕ → Option BagTask) → (ℕ → Option BagTask) → (ℕ → BagTask → Type 0) → Type 0
Carries one other holds = (k : ℕ) (x : BagTask) → one k ≡ Some x → holds k x
    → (y : BagTask) × (other k ≡ Some y) × Alike x y

module _ (one other : ℕ → Option BagTask) (spilled : ℕ → PendingTask → Type 0) (count : ℕ) (holds : ℕ → BagTask → Type 0) (carries : Carries one other holds) where
  carry_free : ((k : ℕ) (x : BagTask) (turn index : ℕ) → one k ≡ Some x → x.creator ≡ Committed turn index → holds k x)
      → (depth : ℕ) (p : PendingTask) → IsFree one spilled count depth p → IsFree other spilled count depth p
  carry_free all depth p (inr s) = inr s
  carry_free all depth p (inl q) =
      let w = carries q.id q.task q.there (all q.id q.task q.turn q.index q.there q.creator) in
      inl (record {
        id = q.id;
        task = w.0;
        there = w.1;
        turn = q.turn;
        index = q.index;
        creator = sym w.2.creator ∙ q.creator;
        depth_is = sym w.2.depth ∙ q.depth_is;
        pending_is = q.pending_is ∙ ap (λ b. pending q.turn q.index b q.task.ts) w.2.body
            ∙ ap (pending q.turn q.index w.0.body) w.2.ts;
      })

  carry_child : (least creator : ℕ)
      → ((k : ℕ) (x : BagTask) (index : ℕ) → one k ≡ Some x → x.creator ≡ Live creator index → holds k x)
      → (index depth : ℕ) (body : Body) (ts : ℕ) → IsChild one spilled count least creator index depth body ts
      → IsChild other spilled count least creator index depth body ts
  carry_child least creator all index depth body ts (inr s) = inr s
  carry_child least creator all index depth body ts (inl q) =
      let w = carries q.id q.task q.there (all q.id q.task index q.there q.creator_is) in
      inl (record { id = q.id; task = w.0; there = w.1; creator_is = sym w.2.creator ∙ q.creator_is; depth_is = sym w.2.depth ∙ q.depth_is; has_body = sym w.2.body ∙ q.has_body; has_ts = sym w.2.ts ∙ q.has_ts })

-- a family carried from one view to another, of a task with the same children so far
carry_family : (one other : ℕ → Option BagTask) (spilled : ℕ → PendingTask → Type 0) (count least creator : ℕ)
    (x y : BagTask)
    → x.spawns ≡ y.spawns → x.depth ≡ y.depth
    → ((index depth : ℕ) (body : Body) (ts : ℕ) → IsChild one spilled count least creator index depth body ts → IsChild other spilled count least creator index depth body ts)
    → ((index depth : ℕ) (body : Body) (ts : ℕ) → IsChild other spilled count least creator index depth body ts → IsChild one spilled count least creator index depth body ts)
    → IsFamily one spilled count least creator x → IsFamily other spilled count least creator y
carry_family one other spilled count least creator x y spawns deep forth back fam =
    record {
      each = λ index spawn at. (
          let e = fam.each index spawn (ap (λ s. slice_get s index) spawns ∙ at) in
          (e.0, subst (λ d. IsChildDepth d spawn.place e.0) deep e.1, forth index e.0 (spawn_body spawn) spawn.ts e.2)
          );
      only = λ index depth body ts kid. (
          let m = fam.only index depth body ts (back index depth body ts kid) in
          record {
            spawn = m.spawn;
            spawn_is = ap (λ s. slice_get s index) (sym spawns) ∙ m.spawn_is;
            place = subst (λ d. IsChildDepth d m.spawn.place depth) deep m.place;
            same_body = m.same_body;
            same_ts = m.same_ts;
          }
          );
    }

abbrev Any : ℕ → BagTask → Type 0
Any k x = Unit {0}

module _ (old new : ℕ → Option BagTask) (id : ℕ) (task : BagTask) (starts : DispatchesInBags old new id task) where
  forth : Carries old new Any
  forth k x at any = elim (cases_eq k id) [
    | inl here ↦
        let both : Some x ≡ Some task = sym at ∙ ap old here ∙ starts.there in
        let eq : x ≡ task = cc in
        (record task { dispatched = true }, ap new here ∙ starts.new_is, (let a = alike x task eq in record { creator = a.creator; depth = a.depth; body = a.body; ts = a.ts }))
    | inr other ↦ (x, starts.others k other ∙ at, alike x x refl)
  ]

  back : Carries new old Any
  back k y at any = elim (cases_eq k id) [
    | inl here ↦
        let both : Some y ≡ Some (record task { dispatched = true }) = sym at ∙ ap new here ∙ starts.new_is in
        let eq : y ≡ record task { dispatched = true } = cc in
        (task, ap old here ∙ starts.there, (let a = alike y (record task { dispatched = true }) eq in record { creator = a.creator; depth = a.depth; body = a.body; ts = a.ts }))
    | inr other ↦ (y, sym (starts.others k other) ∙ at, alike y y refl)
  ]

  start_family : (spilled : List SpilledBagTask) (count least : ℕ) (runs : Bool) → (id ≡ least → runs ≡ false)
      → AreSound count least runs old spilled → (y : BagTask) → y ≡ record task { dispatched = true }
      → IsFamily new (IsSpilled spilled) count least id y
  start_family spilled count least runs off sound y eq =
      record {
        each =
            λ index spawn at. (let none : slice_get y.spawns index ≡ None = ap (λ s. slice_get s index) (ap (λ z. z.spawns) eq ∙ starts.fresh) in absurd (cc (none, at)));
        only = λ index depth body ts kid. elim kid [
          | inl q ↦ (let w = back q.id q.task q.there tt in absurd (starts.childless q.id index w.0 w.1 (sym w.2.creator ∙ q.creator_is)))
          | inr s ↦ elim (sound.firm depth (pending (count + 1) index body ts) s.1) [
            | inl low ↦ absurd (omega (arith, low))
            | inr mine ↦ absurd (cc (off s.0, mine.1))
          ]
        ];
      }

  start_sound : (spilled : List SpilledBagTask) (count least : ℕ) (runs now : Bool) → (id ≡ least → runs ≡ false)
      → (runs ≡ true → now ≡ true) → AreSound count least runs old spilled → AreSound count least now new spilled
  start_sound spilled count least runs now off on sound =
      record {
        counted =
            λ k y turn index at made. (let w = back k y at tt in sound.counted k w.0 turn index w.1 (sym w.2.creator ∙ made));
        distinct =
            λ a b x y at at' same. (let w = back a x at tt in let v = back b y at' tt in sound.distinct a b w.0 v.0 w.1 v.1 (sym w.2.creator ∙ same ∙ v.2.creator));
        apart =
            λ k y name depth p at names entry. (let w = back k y at tt in sound.apart k w.0 name depth p w.1 (subst (λ c. Names count least c name) w.2.creator names) entry);
        differ = sound.differ;
        firm = λ depth p at. elim (sound.firm depth p at) [ inl low ↦ inl low | inr mine ↦ inr (mine.0, on mine.1) ];
        families = λ k y at runs'. elim (cases_eq k id) [
          | inl here ↦
              let both : Some y ≡ Some (record task { dispatched = true }) = sym at ∙ ap new here ∙ starts.new_is in
              let eq : y ≡ record task { dispatched = true } = cc in
              subst (λ j. IsFamily new (IsSpilled spilled) count least j y) (sym here) (start_family spilled count least runs off sound y eq)
          | inr other ↦
              let was : old k ≡ Some y = sym (starts.others k other) ∙ at in
              carry_family old new (IsSpilled spilled) count least k y y refl refl
              (carry_child old new (IsSpilled spilled) count Any forth least k (λ j x i there of. tt))
              (carry_child new old (IsSpilled spilled) count Any back least k (λ j x i there of. tt))
              (sound.families k y was runs')
        ];
      }

pub dispatches_keep : DispatchKeepsTasks
dispatches_keep old new spilled count least id task runs now starts off on = (
  λ depth p. (
    carry_free old new (IsSpilled spilled) count Any (forth old new id task starts) (λ k x t i there of. tt) depth p,
    carry_free new old (IsSpilled spilled) count Any (back old new id task starts) (λ k x t i there of. tt) depth p,
  ),
  start_sound old new id task starts spilled count least runs now off on,
)

module _ (old new : ℕ → Option BagTask) (id child : ℕ) (task : BagTask) (spawn : Spawn) (deep : ℕ) (is : EnqueuesInBags old new id child task spawn deep) where
  abbrev grown : BagTask
  grown = record task { spawns = task.spawns ++ spawn ∷ [] }

  apart_ids : id ≢ child
  apart_ids e = absurd (cc (is.there, ap old e, is.unused))

  abbrev IsOld : ℕ → BagTask → Type 0
  IsOld k x = k ≢ child

  on : Carries old new Any
  on k x at any = elim (cases_eq k id) [
    | inl here ↦
        let both : Some x ≡ Some task = sym at ∙ ap old here ∙ is.there in
        let eq : x ≡ task = cc in
        (grown, ap new here ∙ is.new_is, (let a = alike x task eq in record { creator = a.creator; depth = a.depth; body = a.body; ts = a.ts }))
    | inr other ↦ (x, is.others k other (λ e. absurd (cc (is.unused, ap old e, at))) ∙ at, alike x x refl)
  ]

  off : Carries new old IsOld
  off k y at not_child = elim (cases_eq k id) [
    | inl here ↦
        let both : Some y ≡ Some grown = sym at ∙ ap new here ∙ is.new_is in
        let eq : y ≡ grown = cc in
        (task, ap old here ∙ is.there, (let a = alike y grown eq in record { creator = a.creator; depth = a.depth; body = a.body; ts = a.ts }))
    | inr other ↦ (y, sym (is.others k other not_child) ∙ at, alike y y refl)
  ]

  is_made : (k : ℕ) (y : BagTask) → new k ≡ Some y → k ≡ child → y ≡ made_by id task spawn deep
  is_made k y at here = let both : Some y ≡ Some (made_by id task spawn deep) = sym at ∙ ap new here ∙ is.made in cc

  -- the new child is no free task, and no other task's child
  old_if_free : (k : ℕ) (y : BagTask) (turn index : ℕ) → new k ≡ Some y → y.creator ≡ Committed turn index → k ≢ child
  old_if_free k y turn index at made here = absurd (cc (ap (λ z. z.creator) (is_made k y at here), made))

  old_if_other : (creator : ℕ) → creator ≢ id → (k : ℕ) (y : BagTask) (index : ℕ) → new k ≡ Some y
      → y.creator ≡ Live creator index → k ≢ child
  old_if_other creator other k y index at made here =
      let both : Live id (length task.spawns) ≡ Live creator index = sym (ap (λ z. z.creator) (is_made k y at here)) ∙ made in
      let eq : id ≡ creator = cc in
      other (sym eq)

  module _ (spilled : List SpilledBagTask) (count least : ℕ) (runs : Bool) (sound : AreSound count least runs old spilled) where
    family : IsFamily old (IsSpilled spilled) count least id task
    family = sound.families id task is.there is.dispatched

    -- no task had the new child's place among its creator's children
    no_other : (k : ℕ) (x : BagTask) → old k ≡ Some x → x.creator ≡ Live id (length task.spawns) → ⊥
    no_other k x at made =
        let m = family.only (length task.spawns) x.depth x.body x.ts (inl (record { id = k; task = x; there = at; creator_is = made; depth_is = refl; has_body = refl; has_ts = refl })) in
        get_past task.spawns m.spawn m.spawn_is

    distinct : (a b : ℕ) (x y : BagTask) → new a ≡ Some x → new b ≡ Some y → x.creator ≡ y.creator → a ≡ b
    distinct a b x y at at' same = elim (cases_eq a child) [
      | inl here ↦ elim (cases_eq b child) [
        | inl here' ↦ here ∙ sym here'
        | inr other ↦ (let v = off b y at' other in absurd (no_other b v.0 v.1 (sym v.2.creator ∙ sym same ∙ ap (λ z. z.creator) (is_made a x at here))))
      ]
      | inr other ↦ elim (cases_eq b child) [
        | inl here ↦ (let w = off a x at other in absurd (no_other a w.0 w.1 (sym w.2.creator ∙ same ∙ ap (λ z. z.creator) (is_made b y at' here))))
        | inr other' ↦ (let w = off a x at other in let v = off b y at' other' in sound.distinct a b w.0 v.0 w.1 v.1 (sym w.2.creator ∙ same ∙ v.2.creator))
      ]
    ]

    apart : (k : ℕ) (y : BagTask) (name : Name) (depth : ℕ) (p : PendingTask) → new k ≡ Some y
        → Names count least y.creator name → IsSpilled spilled depth p → p.name ≢ name
    apart k y name depth p at names entry same = elim (cases_eq k child) [
      | inl here ↦
          let mine : Names count least (Live id (length task.spawns)) name = subst (λ c. Names count least c name) (ap (λ z. z.creator) (is_made k y at here)) names in
          let p_is : p ≡ pending (count + 1) (length task.spawns) (body_of p) p.ts = ap (λ n. record { name = n; entry = p.entry; ts = p.ts; args = p.args }) (same ∙ mine.1) in
          let m = family.only (length task.spawns) depth (body_of p) p.ts (inr (mine.0, subst (IsSpilled spilled depth) p_is entry)) in
          get_past task.spawns m.spawn m.spawn_is
      | inr other ↦ (let w = off k y at other in sound.apart k w.0 name depth p w.1 (subst (λ c. Names count least c name) w.2.creator names) entry same)
    ]

    grown_family : (y : BagTask) → y ≡ grown → IsFamily new (IsSpilled spilled) count least id y
    grown_family y eq =
        record {
          each =
              λ index s at. elim (get_cases task.spawns spawn index s (ap (λ z. slice_get z index) (sym (ap (λ z. z.spawns) eq)) ∙ at)) [
                | inl was ↦ (let e = family.each index s was in (e.0, subst (λ d. IsChildDepth d s.place e.0) (sym (ap (λ z. z.depth) eq)) e.1, carry_child old new (IsSpilled spilled) count Any on least id (λ j x i there of. tt) index e.0 (spawn_body s) s.ts e.2))
                | inr last ↦ (
                  deep,
                  subst (λ d. IsChildDepth d s.place deep) (sym (ap (λ z. z.depth) eq)) (subst (λ z. IsChildDepth task.depth z.place deep) last.1 is.place),
                  inl (record {
                    id = child;
                    task = made_by id task spawn deep;
                    there = is.made;
                    creator_is = ap (Live id) (sym last.0);
                    depth_is = refl;
                    has_body = ap spawn_body last.1;
                    has_ts = ap (λ z. z.ts) last.1;
                  }),
                )
              ];
          only = λ index depth body ts kid. by_kid index depth body ts kid;
        }
      where
        from_old : (index depth : ℕ) (body : Body) (ts : ℕ)
            → IsChild old (IsSpilled spilled) count least id index depth body ts → Matched y index depth body ts
        from_old index depth body ts kid =
            let m = family.only index depth body ts kid in
            record {
              spawn = m.spawn;
              spawn_is =
                  ap (λ z. slice_get z index) (ap (λ z. z.spawns) eq)
                  ∙ get_front task.spawns (spawn ∷ []) index m.spawn m.spawn_is;
              place = subst (λ d. IsChildDepth d m.spawn.place depth) (sym (ap (λ z. z.depth) eq)) m.place;
              same_body = m.same_body;
              same_ts = m.same_ts;
            }

        by_kid : (index depth : ℕ) (body : Body) (ts : ℕ)
            → IsChild new (IsSpilled spilled) count least id index depth body ts → Matched y index depth body ts
        by_kid index depth body ts (inr s) = from_old index depth body ts (inr s)
        by_kid index depth body ts (inl q) = elim (cases_eq q.id child) [
          | inl here ↦
              let made = is_made q.id q.task q.there here in
              let both : Live id (length task.spawns) ≡ Live id index = sym (ap (λ z. z.creator) made) ∙ q.creator_is in
              let index_is : length task.spawns ≡ index = cc in
              let deep_is : deep ≡ depth = sym (ap (λ z. z.depth) made) ∙ q.depth_is in
              record {
                spawn = spawn;
                spawn_is =
                    ap (λ z. slice_get z index) (ap (λ z. z.spawns) eq)
                    ∙ ap (slice_get (task.spawns ++ spawn ∷ [])) (sym index_is) ∙ get_end task.spawns spawn;
                place =
                    subst (λ d. IsChildDepth d spawn.place depth) (sym (ap (λ z. z.depth) eq)) (subst (IsChildDepth task.depth spawn.place) deep_is is.place);
                same_body = sym q.has_body ∙ ap (λ z. z.body) made;
                same_ts = sym q.has_ts ∙ ap (λ z. z.ts) made;
              }
          | inr other ↦ (let w = off q.id q.task q.there other in from_old index depth body ts (inl (record { id = q.id; task = w.0; there = w.1; creator_is = sym w.2.creator ∙ q.creator_is; depth_is = sym w.2.depth ∙ q.depth_is; has_body = sym w.2.body ∙ q.has_body; has_ts = sym w.2.ts ∙ q.has_ts })))
        ]

    enqueue_sound : AreSound count least runs new spilled
    enqueue_sound =
        record {
          counted =
              λ k y turn index at made. (let w = off k y at (old_if_free k y turn index at made) in sound.counted k w.0 turn index w.1 (sym w.2.creator ∙ made));
          distinct = distinct;
          apart = apart;
          differ = sound.differ;
          firm = sound.firm;
          families = λ k y at runs'. elim (cases_eq k id) [
            | inl here ↦
                let both : Some y ≡ Some grown = sym at ∙ ap new here ∙ is.new_is in
                let eq : y ≡ grown = cc in
                subst (λ j. IsFamily new (IsSpilled spilled) count least j y) (sym here) (grown_family y eq)
            | inr other ↦
                let not_child : k ≢ child = λ e. absurd (cc (ap (λ z. z.dispatched) (is_made k y at e), runs')) in
                let was : old k ≡ Some y = sym (is.others k other not_child) ∙ at in
                carry_family old new (IsSpilled spilled) count least k y y refl refl
                (carry_child old new (IsSpilled spilled) count Any on least k (λ j x i there of. tt))
                (carry_child new old (IsSpilled spilled) count IsOld off least k (old_if_other k other))
                (sound.families k y was runs')
          ];
        }

pub enqueues_keep : EnqueueKeepsTasks
enqueues_keep old new spilled count least id child task spawn depth runs is = (
  λ d p. (
    carry_free old new (IsSpilled spilled) count Any (on old new id child task spawn depth is) (λ k x t i there of. tt) d p,
    carry_free new old (IsSpilled spilled) count (IsOld old new id child task spawn depth is) (off old new id child task spawn depth is) (old_if_free old new id child task spawn depth is) d p,
  ),
  enqueue_sound old new id child task spawn depth is spilled count least runs,
)

module _ (count : ℕ) (old new : ℕ → Option BagTask) (spilled : List SpilledBagTask) (id : ℕ) (task : BagTask) (turn index : ℕ) (is : PlacesInBags count old new spilled id task turn index) where
  abbrev IsOther : ℕ → BagTask → Type 0
  IsOther k x = k ≢ id

  in_new : Carries old new Any
  in_new k x at any = (x, is.others k (λ e. absurd (cc (is.unused, ap old e, at))) ∙ at, alike x x refl)

  in_old : Carries new old IsOther
  in_old k y at other = (y, sym (is.others k other) ∙ at, alike y y refl)

  is_placed : (k : ℕ) (y : BagTask) → new k ≡ Some y → k ≡ id → y ≡ task
  is_placed k y at here = let both : Some y ≡ Some task = sym at ∙ ap new here ∙ is.new_is in cc

  -- it is no task's child
  other_child : (creator k : ℕ) (y : BagTask) (i : ℕ) → new k ≡ Some y → y.creator ≡ Live creator i → k ≢ id
  other_child creator k y i at made here = absurd (cc (ap (λ z. z.creator) (is_placed k y at here), made, is.creator))

  free_now : (depth : ℕ) (p : PendingTask) → IsFree new (IsSpilled spilled) count depth p
      → IsFree old (IsSpilled spilled) count depth p ⊎ ((depth ≡ task.depth) × (p ≡ pending turn index task.body task.ts))
  free_now depth p (inr s) = inl (inr s)
  free_now depth p (inl q) = elim (cases_eq q.id id) [
    | inl here ↦
        let eq : q.task ≡ task = is_placed q.id q.task q.there here in
        let both : Committed q.turn q.index ≡ Committed turn index = sym q.creator ∙ ap (λ z. z.creator) eq ∙ is.creator in
        let turns : q.turn ≡ turn = cc in
        let indexes : q.index ≡ index = cc in
        inr (
          sym q.depth_is ∙ ap (λ z. z.depth) eq,
          q.pending_is ∙ ap (λ t. pending q.turn q.index t.body t.ts) eq
              ∙ ap (λ t. pending t q.index task.body task.ts) turns ∙ ap (λ i. pending turn i task.body task.ts) indexes,
        )
    | inr other ↦ inl (inl (record { id = q.id; task = q.task; there = sym (is.others q.id other) ∙ q.there; turn = q.turn; index = q.index; creator = q.creator; depth_is = q.depth_is; pending_is = q.pending_is }))
  ]

  now_free : (depth : ℕ) (p : PendingTask)
      → IsFree old (IsSpilled spilled) count depth p ⊎ ((depth ≡ task.depth) × (p ≡ pending turn index task.body task.ts))
      → IsFree new (IsSpilled spilled) count depth p
  now_free depth p (inl was) =
      carry_free old new (IsSpilled spilled) count Any in_new (λ k x t i there of. tt) depth p was
  now_free depth p (inr placed) =
      inl (record { id = id; task = task; there = is.new_is; turn = turn; index = index; creator = is.creator; depth_is = sym placed.0; pending_is = placed.1 })

  placed_apart : (least : ℕ) (x : BagTask) (name : Name) (depth : ℕ) (p : PendingTask)
      → x.creator ≡ Committed turn index → Names count least x.creator name → IsSpilled spilled depth p → p.name ≢ name
  placed_apart least x name depth p made names entry same =
      let mine : Names count least (Committed turn index) name = subst (λ c. Names count least c name) made names in
      is.fresh (record { depth = depth; task = p }) entry (same ∙ mine.0)

  place_sound : (least : ℕ) (runs : Bool) → AreSound count least runs old spilled
      → AreSound count least runs new spilled
  place_sound least runs sound =
      record {
        counted = λ k y t i at made. elim (cases_eq k id) [
          | inl here ↦
              let both : Committed t i ≡ Committed turn index = sym made ∙ ap (λ z. z.creator) (is_placed k y at here) ∙ is.creator in
              let same : t ≡ turn = cc in
              subst (λ n. n ≤ count) (sym same) is.counted
          | inr other ↦ sound.counted k y t i (sym (is.others k other) ∙ at) made
        ];
        distinct = λ a b x y at at' same. elim (cases_eq a id) [
          | inl here ↦ elim (cases_eq b id) [
            | inl here' ↦ here ∙ sym here'
            | inr other ↦ absurd (is.other_names b y (sym (is.others b other) ∙ at') (sym same ∙ ap (λ z. z.creator) (is_placed a x at here) ∙ is.creator))
          ]
          | inr other ↦ elim (cases_eq b id) [
            | inl here ↦ absurd (is.other_names a x (sym (is.others a other) ∙ at) (same ∙ ap (λ z. z.creator) (is_placed b y at' here) ∙ is.creator))
            | inr other' ↦ sound.distinct a b x y (sym (is.others a other) ∙ at) (sym (is.others b other') ∙ at') same
          ]
        ];
        apart = λ k y name depth p at names entry. elim (cases_eq k id) [
          | inl here ↦ placed_apart least y name depth p (ap (λ z. z.creator) (is_placed k y at here) ∙ is.creator) names entry
          | inr other ↦ sound.apart k y name depth p (sym (is.others k other) ∙ at) names entry
        ];
        differ = sound.differ;
        firm = sound.firm;
        families = λ k y at runs'. (
            let other : k ≢ id = λ here. absurd (cc (ap (λ z. z.dispatched) (is_placed k y at here), is.idle, runs')) in
            carry_family old new (IsSpilled spilled) count least k y y refl refl
            (carry_child old new (IsSpilled spilled) count Any in_new least k (λ j x i there of. tt))
            (carry_child new old (IsSpilled spilled) count IsOther in_old least k (other_child k))
            (sound.families k y (sym (is.others k other) ∙ at) runs')
            );
      }

pub placements_keep : PlacementKeepsTasks
placements_keep old new spilled count least id turn index task runs is = (
  λ depth p. (free_now count old new spilled id task turn index is depth p, now_free count old new spilled id task turn index is depth p),
  place_sound count old new spilled id task turn index is least runs,
)

pub none_sound : NoTasksAreSound
none_sound count least runs tasks none =
    record {
      counted = λ k y t i at made. absurd (cc (none k, at));
      distinct = λ a b x y at at' same. absurd (cc (none a, at));
      apart = λ k y name depth p at names entry. absurd entry;
      differ = tt;
      firm = λ depth p entry. absurd entry;
      families = λ k y at runs'. absurd (cc (none k, at));
    }

-- while the least task is not dispatched it does not matter which one it is: no child of it is spilled
pub idle_least : IdleLeastIsAny
idle_least count least other runs tasks spilled sound =
    record {
      counted = sound.counted;
      distinct = sound.distinct;
      apart = λ k x name depth p at names entry. named_apart k x at x.creator refl name depth p names entry;
      differ = sound.differ;
      firm = λ depth p entry. inl (low depth p entry);
      families = λ k x at runs'. (
          let fam = sound.families k x at runs' in
          record {
            each =
                λ index spawn there. (let e = fam.each index spawn there in (e.0, e.1, queued least other k index e.0 (spawn_body spawn) spawn.ts e.2));
            only =
                λ index depth body ts kid. fam.only index depth body ts (queued other least k index depth body ts kid);
          }
          );
    }
  where
    low : (depth : ℕ) (p : PendingTask) → IsSpilled spilled depth p → p.name.creator ≤ count
    low depth p entry = elim (sound.firm depth p entry) [ inl is ↦ is | inr mine ↦ absurd (cc (mine.1)) ]

    named_apart : (k : ℕ) (x : BagTask) → tasks k ≡ Some x → (c : BagCreator) → x.creator ≡ c
        → (name : Name) (depth : ℕ) (p : PendingTask) → Names count other x.creator name → IsSpilled spilled depth p
        → p.name ≢ name
    named_apart k x at (Committed turn index) made name depth p names entry same =
        let mine : Names count other (Committed turn index) name = subst (λ c. Names count other c name) made names in
        sound.apart k x name depth p at (subst (λ c. Names count least c name) (sym made) mine) entry same
    named_apart k x at (Live creator index) made name depth p names entry same =
        let mine : Names count other (Live creator index) name = subst (λ c. Names count other c name) made names in
        let high : p.name.creator ≡ count + 1 = ap (λ n. n.creator) (same ∙ mine.1) in
        let below = low depth p entry in
        omega (arith, high, below)

    -- a child is queued
    queued : (one two creator index depth : ℕ) (body : Body) (ts : ℕ)
        → IsChild tasks (IsSpilled spilled) count one creator index depth body ts
        → IsChild tasks (IsSpilled spilled) count two creator index depth body ts
    queued one two creator index depth body ts (inl q) = inl q
    queued one two creator index depth body ts (inr s) =
        let below : count + 1 ≤ count = low depth (pending (count + 1) index body ts) s.1 in
        absurd (omega (arith, below))
