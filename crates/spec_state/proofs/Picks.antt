-- What a loop over tasks picks of those that it has seen, for the readers in src/latest, conflicts and queued.
use Rattle.std.proofs.Common.{◌≡◌, ◌≢◌, ◌⊎◌, ◌<◌, ◌≤◌, ◌+◌, ◌∷◌, ◌++◌, ℕ, true, List, [], length}
use Rattle.std.proofs.Common.{take, Option, Some, None, refl, sym, ap, subst, ◌∙◌, inl, inr, arith}
use Rattle.std.proofs.Common.{slice_index_or}
use Rattle.std.specs.Prelude.{Contains, IfSome, IsSome, IsNone, is_some, ◌↔◌}
use Rattle.std.specs.Ordering.{is_lt}
use Rattle.std.specs.declared.cmp.Ordering.{Ordering}
use Rattle.std.specs.declared.cmp.Ordering.TheVariants.{Equal, Greater}
use Rattle.std.proofs.lemmas.Cmp.{tied_itself}
use Rattle.std.proofs.lemmas.List.{take_more, take_all}
use Rattle.std.proofs.lemmas.List.Elements.{Contains-push, Contains-push_cases, Contains-append_left}
use Rattle.fractal_vt.specs.declared.key.Key.{Key}
use Rattle.fractal_vt.specs.Keys.{key_cmp}
use Rattle.fractal_vt.proofs.Proved.{key_cmp_total}
use Rattle.spec_state.specs.declared.task.Task.{Task}
use Rattle.spec_state.specs.declared.task.TaskId.{TaskId}
use Rattle.spec_state.specs.View.{View, task_at}
use Rattle.spec_state.specs.Queries.{IsLatest}
use Rattle.spec_state.specs.Picks.{IsPick, IsEither, IsOwn, latest_first}
use Rattle.spec_state.proofs.Fronts.{not_above}

-- the task of an id is one
pub one_task : (view : View) (id : ℕ) (x y : Task) → task_at view id ≡ Some x → task_at view id ≡ Some y → x ≡ y
one_task view id x y at also = let both : Some x ≡ Some y = sym at ∙ also in cc

pub less_upto : (a b : Key) → is_lt (key_cmp a b) ≡ true → key_cmp a b ≢ Greater
less_upto a b less above = absurd (cc (ap is_lt above, less))

-- coming behind in no way is reflexive and transitive
pub record IsUpto (R : Key → Key → Ordering) : Type 0 where
  pub itself : (x : Key) → R x x ≢ Greater
  pub above : (x y z : Key) → R x y ≢ Greater → R y z ≢ Greater → R x z ≢ Greater

ties_itself : (x : Key) → key_cmp x x ≢ Greater
ties_itself x above = absurd (let ties : key_cmp x x ≡ Equal = tied_itself key_cmp_total x in cc)

pub by_key : IsUpto key_cmp
by_key = record { itself = ties_itself; above = not_above key_cmp_total }

pub by_latest : IsUpto latest_first
by_latest = record { itself = ties_itself; above = λ x y z first second. not_above key_cmp_total z y x second first }

-- what stands there
pub some_task : (o : Option Task) → IsSome o → (task : Task) × (o ≡ Some task)
some_task None is = absurd (cc (is))
some_task (Some task) is = (task, refl)

module _ (R : Key → Key → Ordering) (upto_is : IsUpto R) (view : View) where
  abbrev There : ℕ → Task → Type 0
  There id task = task_at view id ≡ Some task

  -- nothing comes before the task that alone is given
  pub own_upto : (a k : TaskId) (x t : Task) → There a.0 x → k ≡ a → There k.0 t → R x.key t.key ≢ Greater
  own_upto a k x t at same also =
      subst (λ (u : Task). R x.key u.key ≢ Greater)
      (one_task view a.0 x t at (ap (λ (j : TaskId). task_at view j.0) (sym same) ∙ also)) (upto_is.itself x.key)

  -- of one id that one is picked, and of none none
  pub first_none : (one two : Option TaskId) → one ≡ None → IfSome two (λ id. IsSome (task_at view id.0))
      → IsPick R (IsEither view one two) two
  first_none one None is live = λ k x either. elim either.0 [ inl e ↦ absurd (cc (e, is)) | inr e ↦ absurd (cc (e)) ]
  first_none one (Some a) is live =
      let found = some_task (task_at view a.0) live in (
        found.0,
        (inr refl, found.1),
        λ k t either. elim either.0 [
          | inl e ↦ absurd (cc (e, is))
          | inr e ↦ own_upto a (record { 0 = k }) found.0 t found.1 (cc) either.1
        ],
      )

  pub second_none : (one two : Option TaskId) → two ≡ None → IfSome one (λ id. IsSome (task_at view id.0))
      → IsPick R (IsEither view one two) one
  second_none None two is live = λ k x either. elim either.0 [ inl e ↦ absurd (cc (e)) | inr e ↦ absurd (cc (e, is)) ]
  second_none (Some a) two is live =
      let found = some_task (task_at view a.0) live in (
        found.0,
        (inl refl, found.1),
        λ k t either. elim either.0 [
          | inl e ↦ own_upto a (record { 0 = k }) found.0 t found.1 (cc) either.1
          | inr e ↦ absurd (cc (e, is))
        ],
      )

  -- of two that one is picked that doesn't come behind the other
  pub first_picked : (one two : Option TaskId) (a b : TaskId) (x y : Task) → one ≡ Some a → two ≡ Some b
      → There a.0 x → There b.0 y → R x.key y.key ≢ Greater
      → IsPick R (IsEither view one two) (Some a)
  first_picked one two a b x y first second at also upto = (
    x,
    (inl first, at),
    λ k t either. elim either.0 [
      | inl e ↦ own_upto a (record { 0 = k }) x t at (cc) either.1
      | inr e ↦ (let same : record { 0 = k } ≡ b = cc in
          subst (λ (u : Task). R x.key u.key ≢ Greater)
          (one_task view b.0 y t also (ap (λ (j : TaskId). task_at view j.0) (sym same) ∙ either.1)) upto)
    ],
  )

  pub second_picked : (one two : Option TaskId) (a b : TaskId) (x y : Task) → one ≡ Some a → two ≡ Some b
      → There a.0 x → There b.0 y → R y.key x.key ≢ Greater
      → IsPick R (IsEither view one two) (Some b)
  second_picked one two a b x y first second at also upto = (
    y,
    (inr second, also),
    λ k t either. elim either.0 [
      | inr e ↦ own_upto b (record { 0 = k }) y t also (cc) either.1
      | inl e ↦ (let same : record { 0 = k } ≡ a = cc in
          subst (λ (u : Task). R y.key u.key ≢ Greater)
          (one_task view a.0 x t at (ap (λ (j : TaskId). task_at view j.0) (sym same) ∙ either.1)) upto)
    ],
  )

  -- what is picked of what two walks picked is the pick of all that they have seen
  module _ (A B K : ℕ → Task → Type 0) (first : (k : ℕ) (x : Task) → A k x → K k x × There k x)
      (second : (k : ℕ) (x : Task) → B k x → K k x × There k x)
      (both : (k : ℕ) (x : Task) → K k x → A k x ⊎ B k x) where
    picked_of : (one two : Option TaskId) → IsPick R A one → IsPick R B two → (k : ℕ) (x : Task)
        → IsEither view one two k x → K k x
    picked_of one two is_one is_two k x (inl e, at) =
        let mine : IsPick R A (Some (record { 0 = k })) = subst (IsPick R A) e is_one in
        let was = first k mine.0 mine.1 in
        subst (K k) (one_task view k mine.0 x was.1 at) was.0
    picked_of one two is_one is_two k x (inr e, at) =
        let mine : IsPick R B (Some (record { 0 = k })) = subst (IsPick R B) e is_two in
        let was = second k mine.0 mine.1 in
        subst (K k) (one_task view k mine.0 x was.1 at) was.0

    -- each task that was seen is none that comes before what its walk picked
    upto_first : (one two : Option TaskId) → IsPick R A one → (k : ℕ) (x : Task) → A k x
        → (j : ℕ) × (y : Task) × IsEither view one two j y × (R y.key x.key ≢ Greater)
    upto_first None two is k x has = absurd (is k x has)
    upto_first (Some a) two is k x has = (a.0, is.0, (inl refl, (first a.0 is.0 is.1).1), is.2 k x has)

    upto_second : (one two : Option TaskId) → IsPick R B two → (k : ℕ) (x : Task) → B k x
        → (j : ℕ) × (y : Task) × IsEither view one two j y × (R y.key x.key ≢ Greater)
    upto_second one None is k x has = absurd (is k x has)
    upto_second one (Some b) is k x has = (b.0, is.0, (inr refl, (second b.0 is.0 is.1).1), is.2 k x has)

    upto_one : (one two : Option TaskId) → IsPick R A one → IsPick R B two → (k : ℕ) (x : Task) → K k x
        → (j : ℕ) × (y : Task) × IsEither view one two j y × (R y.key x.key ≢ Greater)
    upto_one one two is_one is_two k x has =
        elim (both k x has) [ inl a ↦ upto_first one two is_one k x a | inr b ↦ upto_second one two is_two k x b ]

    pub joined : (one two picked : Option TaskId) → IsPick R A one → IsPick R B two
        → IsPick R (IsEither view one two) picked → IsPick R K picked
    joined one two None is_one is_two is = λ k x has.
        (let near = upto_one one two is_one is_two k x has in is near.0 near.1 near.2)
    joined one two (Some a) is_one is_two is = (
      is.0,
      picked_of one two is_one is_two a.0 is.0 is.1,
      λ k x has.
          let near = upto_one one two is_one is_two k x has in upto_is.above is.0.key near.1.key x.key
          (is.2 near.0 near.1 near.2) near.3,
    )

-- a task of this kind for one of these items
abbrev pub IsAmong : {X : Type 0} → (X → ℕ → Task → Type 0) → List X → ℕ → Task → Type 0
IsAmong {X} kind items id task = (x : X) × Contains items x × kind x id task

module _ {X : Type 0} (items : List X) (place : ℕ) (d : X) (within : place < length items) where
  abbrev x : X
  x = slice_index_or items place d

  taken : take (place + 1) items ≡ take place items ++ x ∷ []
  taken = take_more items place d within

  seen_before : (y : X) → Contains (take place items) y → Contains (take (place + 1) items) y
  seen_before y has =
      subst (λ (ys : List X). Contains ys y) (sym taken) (Contains-append_left (take place items) (x ∷ []) y has)

  seen_now : Contains (take (place + 1) items) x
  seen_now = subst (λ (ys : List X). Contains ys x) (sym taken) (Contains-push (take place items) x)

  pub seen_cases : (y : X) → Contains (take (place + 1) items) y → Contains (take place items) y ⊎ (x ≡ y)
  seen_cases y has = Contains-push_cases (take place items) x y (subst (λ (ys : List X). Contains ys y) taken has)

-- one item more has been seen
pub next_pick : {X : Type 0} (items : List X) (place : ℕ) (d : X) → place < length items → (R : Key → Key → Ordering)
    → IsUpto R → (view : View) (kind : X → ℕ → Task → Type 0)
    → ((y : X) (k : ℕ) (t : Task) → kind y k t → task_at view k ≡ Some t) → (best one now : Option TaskId)
    → IsPick R (IsAmong kind (take place items)) best
    → IsPick R (kind (slice_index_or items place d)) one → IsPick R (IsEither view best one) now
    → IsPick R (IsAmong kind (take (place + 1) items)) now
next_pick {X} items place d within R upto_is view kind there best one now was own either =
    let x = slice_index_or items place d in
    joined R upto_is view (IsAmong kind (take place items)) (kind x) (IsAmong kind (take (place + 1) items))
    (λ k t of. ((of.0, seen_before items place d within of.0 of.1, of.2), there of.0 k t of.2))
    (λ k t of. ((x, seen_now items place d within, of), there x k t of))
    (λ k t of. elim (seen_cases items place d within of.0 of.1) [
      | inl before ↦ inl (of.0, before, of.2)
      | inr same ↦ inr (subst (λ (z : X). kind z k t) (sym same) of.2)
    ])
    best one now was own either

-- no item has been seen
pub no_pick : {X : Type 0} (R : Key → Key → Ordering) (kind : X → ℕ → Task → Type 0) (items : List X)
    → IsPick R (IsAmong kind (take 0 items)) None
no_pick R kind items k t (y, has, of) = absurd (omega (arith, has.1))

-- what is picked is there, where all of its kind are
pub picked_live : (R : Key → Key → Ordering) (view : View) (kind : ℕ → Task → Type 0)
    → ((k : ℕ) (t : Task) → kind k t → task_at view k ≡ Some t) → (picked : Option TaskId) → IsPick R kind picked
    → IfSome picked (λ id. IsSome (task_at view id.0))
picked_live R view kind there None is = tt
picked_live R view kind there (Some id) is = ap is_some (there id.0 is.0 is.1)

-- all items have been seen
pub all_seen : {X : Type 0} (R : Key → Key → Ordering) (kind : X → ℕ → Task → Type 0) (items : List X) (count : ℕ)
    → length items ≤ count → (picked : Option TaskId)
    → IsPick R (IsAmong kind (take count items)) picked → IsPick R (IsAmong kind items) picked
all_seen {X} R kind items count all picked is =
    subst (λ (xs : List X). IsPick R (IsAmong kind xs) picked) (take_all count items all) is

-- a pick of a kind is one of each kind that holds of the same tasks
pub picked_same : (R : Key → Key → Ordering) (A K : ℕ → Task → Type 0) → ((k : ℕ) (t : Task) → A k t → K k t)
    → ((k : ℕ) (t : Task) → K k t → A k t) → (picked : Option TaskId) → IsPick R A picked → IsPick R K picked
picked_same R A K forth back None is = λ k t has. is k t (back k t has)
picked_same R A K forth back (Some id) is = (is.0, forth id.0 is.0 is.1, λ k t has. is.2 k t (back k t has))

-- one id alone
pub own_pick : (R : Key → Key → Ordering) → IsUpto R → (view : View) (one : Option TaskId)
    → IfSome one (λ id. IsSome (task_at view id.0)) → IsPick R (IsOwn view one) one
own_pick R upto_is view None live = λ k t own. absurd (cc (own.0))
own_pick R upto_is view (Some a) live =
    let found = some_task (task_at view a.0) live in (
      found.0,
      (refl, found.1),
      λ k t own. own_upto R upto_is view a (record { 0 = k }) found.0 t found.1
          (cc (own.0)) own.1,
    )

-- the latest of a kind is what is picked of it
pub latest_some : (kind : ℕ → Task → Type 0) (picked : Option TaskId) → IsPick latest_first kind picked
    → IfSome picked (λ id. (task : Task) × IsLatest kind id.0 task)
latest_some kind None is = tt
latest_some kind (Some id) is = (is.0, record { of_kind = is.1; latest = is.2 })

pub pick_none : (R : Key → Key → Ordering) (kind : ℕ → Task → Type 0) (picked : Option TaskId) → IsPick R kind picked
    → IsNone picked ↔ ((id : ℕ) (task : Task) → kind id task → ⊥)
pick_none R kind None is = (λ none. is, λ no_task. refl)
pick_none R kind (Some id) is = (λ none. absurd (cc (none)), λ no_task. absurd (no_task id.0 is.0 is.1))

pub latest_pick : (kind : ℕ → Task → Type 0) (picked : Option TaskId)
    → IfSome picked (λ id. (task : Task) × IsLatest kind id.0 task)
    → (IsNone picked ↔ ((id : ℕ) (task : Task) → kind id task → ⊥))
    → IsPick latest_first kind picked
latest_pick kind None some none = none.0 refl
latest_pick kind (Some id) some none = (some.0, some.1.of_kind, some.1.latest)
