-- The least idle task of a queue, and whether one of its tasks is idle and firm.
use Rattle.std.proofs.Common.{◌≡◌, ◌≢◌, ◌<◌, ◌≤◌, ◌+◌, ◌-◌, length, take, drop, ℕ, Bool, true, false, List, Option}
use Rattle.std.proofs.Common.{Some, None, refl, sym, ap, subst, ◌∙◌, inl, inr, arith, slice_get, slice_index_or}
use Rattle.std.specs.Prelude.{Contains, IfSome, IsSome, IsNone, IsTrue, is_some, ◌↔◌}
use Rattle.std.specs.Ordering.{is_lt, nat_cmp, ordering_then}
use Rattle.std.specs.declared.cmp.Ordering.{Ordering}
use Rattle.std.specs.declared.cmp.Ordering.TheVariants.{Less, Equal, Greater}
use Rattle.std.proofs.lemmas.Bool.{cases_eq, cases_lt, false_from_ne_true}
use Rattle.std.proofs.lemmas.Bool.Decides.{nat_tests}
use Rattle.std.proofs.lemmas.List.{take_all, length-drop, get_or-drop}
use Rattle.std.proofs.lemmas.List.Elements.{Contains-get_or}
use Rattle.std.proofs.lemmas.Option.{slice_get-get_or, slice_get_within, get_or_from_slice_get}
use Rattle.fractal_vt.specs.Keys.{key_cmp}
use Rattle.fractal_vt.proofs.Proved.{key_cmp_total, less_from, same_number, less_then, less_upto}
use Rattle.tile_queues.specs.Queue.{AreDistinct}
use Rattle.spec_state.specs.declared.task.Status.TheVariants.{Idle}
use Rattle.spec_state.specs.declared.task.Task.{Task}
use Rattle.spec_state.specs.declared.task.TaskId.{TaskId}
use Rattle.spec_state.specs.View.{View, task_at, queue_at}
use Rattle.spec_state.specs.Least.{Queued, IsHeir, Precedes, ranked_cmp}
use Rattle.spec_state.specs.Queries.{IsIdle, IsLeastIdle, IsIdleFirm}
use Rattle.spec_state.specs.Picks.{IsIdleAt, IsFirstIdle, IsIdlePick, IsIdleFirmBy}
use Rattle.spec_state.specs.Stored.{IsStored}
use Rattle.spec_state.proofs.Entered.{held_at}
use Rattle.spec_state.proofs.Heirs.{firm_by, by_firm}
use Rattle.spec_state.proofs.Picks.{one_task, by_key, seen_cases}
use Rattle.spec_state.proofs.Leasts.{upto_turned}

same_id : (xs : List ℕ) (p a b : ℕ) → slice_get xs p ≡ Some a → slice_get xs p ≡ Some b → a ≡ b
same_id xs p a b at also = let both : Some a ≡ Some b = sym at ∙ also in cc

module _ (view : View) (ids : List ℕ) (count id : ℕ) (task : Task) (at : slice_get ids count ≡ Some id)
    (there : task_at view id ≡ Some task) where
  -- the task at the next place is this one
  is_next : (p k : ℕ) (x : Task) → p ≡ count → IsIdleAt view ids p k x → x ≡ task
  is_next p k x same is =
      let one : k ≡ id = same_id ids count k id (ap (slice_get ids) (sym same) ∙ is.id_at) at in
      one_task view id x task (ap (task_at view) (sym one) ∙ is.there) there

  -- where that isn't idle, there is still none
  pub passes_busy : (task.status ≡ Idle → ⊥) → IsIdlePick view ids count None → IsIdlePick view ids (count + 1) None
  passes_busy busy none = λ p k x below is. elim (cases_eq p count) [
    | inl same ↦ busy (ap (λ (t : Task). t.status) (sym (is_next p k x same is)) ∙ is.idle)
    | inr other ↦ none p k x (omega (arith, below, other)) is
  ]

  -- it is picked where its key is less than that of each idle one before it
  picks_next : task.status ≡ Idle
      → ((p k : ℕ) (x : Task) → p < count → IsIdleAt view ids p k x → key_cmp task.key x.key ≡ Less)
      → IsFirstIdle view ids (count + 1) id
  picks_next idle before = record {
    place = count;
    task = task;
    below = omega arith;
    idle = record { id_at = at; there = there; idle = idle };
    least = λ p k x below is. elim (cases_eq p count) [
      | inl same ↦ subst (λ (t : Task). key_cmp task.key t.key ≢ Greater) (sym (is_next p k x same is))
          (by_key.itself task.key)
      | inr other ↦ less_upto (key_cmp task.key x.key) (before p k x (omega (arith, below, other)) is)
    ];
    first = before;
  }

  pub picks_only : task.status ≡ Idle → IsIdlePick view ids count None → IsFirstIdle view ids (count + 1) id
  picks_only idle none = picks_next idle (λ p k x below at. absurd (none p k x below at))

  module _ (b : ℕ) (first : Task) (was : IsFirstIdle view ids count b) (of : task_at view b ≡ Some first) where
    own_task : was.task ≡ first
    own_task = one_task view b was.task first was.idle.there of

    pub picks_lesser : task.status ≡ Idle → is_lt (key_cmp task.key first.key) ≡ true
        → IsFirstIdle view ids (count + 1) id
    picks_lesser idle less = picks_next idle (λ p k x below is.
        less_then key_cmp_total task.key first.key x.key (less_from (key_cmp task.key first.key) less)
        (subst (λ (t : Task). key_cmp t.key x.key ≢ Greater) own_task (was.least p k x below is)))

    pub keeps_first : (task.status ≡ Idle → is_lt (key_cmp task.key first.key) ≡ false)
        → IsFirstIdle view ids (count + 1) b
    keeps_first off = record {
      place = was.place;
      task = was.task;
      below = omega (arith, was.below);
      idle = was.idle;
      least = λ p k x below is. elim (cases_eq p count) [
        | inl same ↦ subst (λ (t : Task). key_cmp was.task.key t.key ≢ Greater) (sym (is_next p k x same is))
            (subst (λ (t : Task). key_cmp t.key task.key ≢ Greater) (sym own_task)
            (upto_turned task.key first.key
            (off (ap (λ (t : Task). t.status) (sym (is_next p k x same is)) ∙ is.idle))))
        | inr other ↦ was.least p k x (omega (arith, below, other)) is
      ];
      first = was.first;
    }

    -- it is idle and less, or it isn't
    pub keeps_unless : (lesser : Bool)
        → IsTrue lesser ↔ (task.status ≡ Idle) × (is_lt (key_cmp task.key first.key) ≡ true)
        → lesser ≡ false → IsFirstIdle view ids (count + 1) b
    keeps_unless lesser is off = keeps_first
        (λ idle. false_from_ne_true _ (λ less. (let yes : lesser ≡ true = is.1 (idle, less) in cc)))

-- the items behind the first ones, and one of them
module _ (ids : List ℕ) (n : ℕ) where
  abbrev rest : List ℕ
  rest = take (length ids - n) (drop n ids)

  rest_is : rest ≡ drop n ids
  rest_is = take_all (length ids - n) (drop n ids) (let long = length-drop n ids in omega (arith, long))

  module _ (i : ℕ) (within : i < length rest) where
    pub behind_within : n + i < length ids
    behind_within = let long = ap length rest_is ∙ length-drop n ids in omega (arith, long, within)

    pub behind_there : (view : View) (task : Task) → task_at view (slice_index_or rest i 0) ≡ Some task
        → task_at view (slice_index_or ids (n + i) 0) ≡ Some task
    behind_there view task there =
        ap (task_at view) (sym (ap (λ (xs : List ℕ). slice_index_or xs i 0) rest_is ∙ get_or-drop n ids i 0)) ∙ there

pub no_idle : (view : View) (ids : List ℕ) → IsIdlePick view ids 0 None
no_idle view ids p k x below is = absurd (omega (arith, below))

-- distinct ids stand each at one place
apart : (ids : List ℕ) → AreDistinct ids → (p q a b : ℕ) → slice_get ids p ≡ Some a → slice_get ids q ≡ Some b
    → p < q → a ≢ b
apart ids distinct p q a b at also before same =
    distinct p q a before (slice_get_within ids q b also)
    (get_or_from_slice_get ids p a a at ∙ same ∙ sym (get_or_from_slice_get ids q b a also))

module _ (view : View) (tile : ℕ) (ids : List ℕ) (are : ids ≡ queue_at view tile) (distinct : AreDistinct ids)
    (count : ℕ) (all : length ids ≤ count) where
  at_place : (k : ℕ) (x : Task) → IsIdle view tile k x → (p : ℕ) × IsIdleAt view ids p k x
  at_place k x is =
      let has : Contains ids k = subst (λ (ns : List ℕ). Contains ns k) (sym are) is.queued in
      (has.0, record { id_at = slice_get-get_or ids has.0 k has.1 ∙ ap Some has.2; there = is.there; idle = is.idle })

  idle_at : (p k : ℕ) (x : Task) → IsIdleAt view ids p k x → IsIdle view tile k x
  idle_at p k x is = record {
    queued = subst (λ (ns : List ℕ). Contains ns k) are
        (held_at ids p k is.id_at);
    there = is.there;
    idle = is.idle;
  }

  ranks : (o : Ordering) (p q : ℕ) → p < q → o ≢ Greater
      → ordering_then o (ordering_then (nat_cmp tile tile) (nat_cmp p q)) ≡ Less
  ranks Less p q before not = refl
  ranks Equal p q before not = ap (λ o. ordering_then o (nat_cmp p q)) (same_number tile) ∙ (grind (arith, nat_tests))
  ranks Greater p q before not = absurd (not refl)

  -- it comes before each other idle task of the tile
  comes_first : (id : ℕ) (is : IsFirstIdle view ids count id) (k : ℕ) (x : Task) → k ≢ id → IsIdle view tile k x
      → Precedes view tile id k
  comes_first id is k x other idle p q y z at also =
      let mine = at_place k x idle in
      let here : slice_get ids p ≡ Some id = ap (λ (ns : List ℕ). slice_get ns p) are ∙ at.queued in
      let there : slice_get ids q ≡ Some k = ap (λ (ns : List ℕ). slice_get ns q) are ∙ also.queued in
      let within : q < count = (let inside = slice_get_within ids q k there in omega (arith, inside, all)) in
      let one : is.task ≡ y = one_task view id is.task y is.idle.there at.there in
      let two : z ≡ x = one_task view k z x also.there idle.there in
      let stands : IsIdleAt view ids q k z = record
      { id_at = there; there = also.there; idle = ap (λ (t : Task). t.status) two ∙ idle.idle } in
      subst (λ (t : Task). ranked_cmp t.key (Queued tile p) z.key (Queued tile q) ≡ Less) one
      (elim (cases_lt q is.place) [
        | inl before ↦ ap (λ o. ordering_then o (ordering_then (nat_cmp tile tile) (nat_cmp p q)))
            (is.first q k z before stands)
        | inr behind ↦
            let same : p ≡ is.place = one_place p is.place id here is.idle.id_at in
            let apart_places : q ≢ is.place = λ e. other
            (same_id ids is.place k id (ap (slice_get ids) (sym e) ∙ there) is.idle.id_at) in
            ranks (key_cmp is.task.key z.key) p q (omega (arith, behind, same, apart_places))
            (is.least q k z within stands)
      ])
    where
      one_place : (a b n : ℕ) → slice_get ids a ≡ Some n → slice_get ids b ≡ Some n → a ≡ b
      one_place a b n at_a at_b = elim (cases_eq a b) [
        | inl equal ↦ equal
        | inr differ ↦ elim (cases_lt a b) [
          | inl less ↦ absurd (apart ids distinct a b n n at_a at_b less refl)
          | inr upto ↦ absurd (apart ids distinct b a n n at_b at_a (omega (arith, upto, differ)) refl)
        ]
      ]

  -- all places have been looked at
  pub idle_some : (best : Option TaskId) → IsIdlePick view ids count best
      → IfSome best (λ id. (task : Task) × IsLeastIdle view tile id.0 task)
  idle_some None is = tt
  idle_some (Some id) is =
      (is.task, record { idle = idle_at is.place id.0 is.task is.idle; least = comes_first id.0 is })

  pub idle_none : (best : Option TaskId) → IsIdlePick view ids count best
      → IsNone best ↔ ((id : ℕ) (task : Task) → IsIdle view tile id task → ⊥)
  idle_none None is = (
    λ none k x idle. (let at = at_place k x idle in
        let within = slice_get_within ids at.0 k at.1.id_at in is at.0 k x (omega (arith, within, all)) at.1),
    λ no_task. refl,
  )
  idle_none (Some id) is =
      (λ none. absurd (cc (none)), λ no_task. absurd (no_task id.0 is.task (idle_at is.place id.0 is.task is.idle)))

-- the tasks that were looked at aren't idle and firm
abbrev pub NoneSeen : View → Option ℕ → List ℕ → Type 0
NoneSeen view heir ids = (k : ℕ) (x : Task) → Contains ids k → task_at view k ≡ Some x → IsIdleFirmBy heir x → ⊥

module _ (view : View) (heir : Option ℕ) (is_heir : IsHeir view heir) (tile : ℕ) (ids : List ℕ)
    (are : ids ≡ queue_at view tile) where
  pub some_firm : (place : ℕ) → place < length ids → (task : Task)
      → task_at view (slice_index_or ids place 0) ≡ Some task → IsIdleFirmBy heir task
      → IsTrue true ↔ ((id : ℕ) × (task : Task) × IsIdleFirm view tile id task)
  some_firm place within task there is =
      let id = slice_index_or ids place 0 in
      let has : Contains (queue_at view tile) id = subst (λ (ns : List ℕ). Contains ns id) are
      (Contains-get_or ids place 0 within) in (
        λ yes. (
          id,
          task,
          record {
            idle = record { queued = has; there = there; idle = is.0 };
            firm = firm_by view heir task is_heir
                is.1;
          },
        ),
        λ firm. refl,
      )

  pub none_firm : (count : ℕ) → length ids ≤ count → NoneSeen view heir (take count ids)
      → IsTrue false ↔ ((id : ℕ) × (task : Task) × IsIdleFirm view tile id task)
  none_firm count all none = (
    λ no. absurd (cc (no)),
    λ firm.
        let idle = firm.2.idle in
        absurd (none firm.0 firm.1
        (subst (λ (ns : List ℕ). Contains ns firm.0) (sym (take_all count ids all))
        (subst (λ (ns : List ℕ). Contains ns firm.0) (sym are) idle.queued))
        idle.there (idle.idle, by_firm view heir firm.1 is_heir firm.2.firm)),
  )

-- one task more has been looked at
pub none_more : (view : View) (heir : Option ℕ) (ids : List ℕ) (place : ℕ) → place < length ids → (task : Task)
    → task_at view (slice_index_or ids place 0) ≡ Some task
    → (IsIdleFirmBy heir task → ⊥) → NoneSeen view heir (take place ids) → NoneSeen view heir (take (place + 1) ids)
none_more view heir ids place within task there busy none k x has at is = elim (seen_cases ids place 0 within k has) [
  | inl before ↦ none k x before at is
  | inr same ↦ busy (subst (IsIdleFirmBy heir) (one_task view k x task at (ap (task_at view) (sym same) ∙ there)) is)
]

pub none_at_first : (view : View) (heir : Option ℕ) (ids : List ℕ) → NoneSeen view heir (take 0 ids)
none_at_first view heir ids k x has = absurd (omega (arith, has.1))

-- each queued id is that of a task
pub queued_live : (size : ℕ) (view : View) → IsStored size view → (tile : ℕ) (ids : List ℕ)
    → ids ≡ queue_at view tile → (id : ℕ) → Contains ids id → IsSome (task_at view id)
queued_live size view stored tile ids are id has =
    ap is_some ((stored.queued_are tile id).0 (subst (λ (ns : List ℕ). Contains ns id) are has)).1
