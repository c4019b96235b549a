-- A child that comes to be: it is well formed, and the record of the enqueue.
use Rattle.std.proofs.Common.{◌≡◌, ◌≢◌, ◌<◌, ◌≤◌, ◌+◌, ◌-◌, ◌*◌, ◌%◌, ◌^◌, ◌∷◌, ◌++◌, ℕ, suc, List, [], length}
use Rattle.std.proofs.Common.{Option, Some, None, refl, sym, ap, subst, ◌∙◌, arith, min, inl, inr}
use Rattle.std.specs.Prelude.{IsSome, Ok}
use Rattle.std.proofs.lemmas.List.{length_push, length-take}
use Rattle.std.proofs.lemmas.Bool.{cases_eq}
use Rattle.std.proofs.Math.Nat.{pow-suc, mod-lt}
use Rattle.std.proofs.Math.Pow.{pow-lt}
use Rattle.std.proofs.lemmas.Nat.{pow_pos}
use Rattle.guest_image.specs.declared.image.Kind.{Kind}
use Rattle.guest_image.specs.declared.image.Kind.TheVariants.{Ordered, Unordered}
use Rattle.rv_core.specs.LegValue.{LegValue}
use Rattle.task_desc.specs.declared.calls.TheConstants.{MAX_CHILDREN, MAX_DEPTH}
use Rattle.task_desc.specs.declared.desc.Ctx.{Ctx}
use Rattle.task_desc.specs.declared.desc.Place.{Place}
use Rattle.task_desc.specs.declared.desc.Place.TheVariants.{Same, Sub, Super}
use Rattle.task_desc.specs.declared.desc.Spawn.{Spawn}
use Rattle.task_desc.specs.Calls.{allowed_at, allowed_sub}
use Rattle.task_request.specs.declared.request.Request.TheVariants.{Enqueue}
use Rattle.spec_dispatch.specs.spec_state.declared.task.Creator.TheVariants.{Live}
use Rattle.spec_dispatch.specs.spec_state.declared.task.Task.{Task}
use Rattle.spec_dispatch.specs.spec_state.declared.task.TaskId.{TaskId}
use Rattle.spec_dispatch.specs.spec_state.View.{View, task_at, queued_last}
use Rattle.spec_dispatch.specs.spec_state.Tasks.{depth_of, sub_bit, child_domain, child_kinds, child_descriptor}
use Rattle.spec_dispatch.specs.spec_state.Tasks.{own_level}
use Rattle.spec_dispatch.specs.spec_state.Tasks.{idle_task, context_of}
use Rattle.spec_dispatch.specs.spec_state.Stored.{IsWellFormed}
use Rattle.spec_dispatch.specs.spec_state.Opening.{Adds}
use Rattle.spec_dispatch.specs.spec_state.Changes.{Keeps, task_past_leg}
use Rattle.spec_access.specs.Asking.{Asks}
use Rattle.spec_access.specs.Telling.{EnqueuesTold}
use Rattle.spec_access.proofs.Asking.{asked_allowed}

-- a child of the subdomain is allowed only where one was made
sub_made : (ctx : Ctx) (ts to : ℕ) (sub : Option Kind) → allowed_sub ctx ts sub ≡ Ok to → IsSome sub
sub_made ctx ts to None refused = absurd (cc (refused))
sub_made ctx ts to (Some kind) allows = refl

pub asks_made : (view seen : View) (leg : LegValue) (id : ℕ) (spawn : Spawn) (task : Task)
    → Asks view leg id (Enqueue spawn) → seen ≡ view
    → task_at seen id ≡ Some task → spawn.place ≡ Sub → IsSome task.sub
asks_made view seen leg id spawn task asks same there place =
    let allows = asked_allowed view seen leg id (Enqueue spawn) task asks same there in
    let asked : Spawn = allows.0 in
    let at : asked.place ≡ Sub = ap (λ s. s.place) (sym allows.2) ∙ place in
    sub_made (context_of view.version task) asked.ts spawn.ts task.sub
    (ap (allowed_at (context_of view.version task) asked.ts) (sym at) ∙ allows.1)

-- a child is no deeper than a task may be, and its kinds are below two to its depth
depth_at : (creator : Task) (place : Place) → depth_of creator ≤ MAX_DEPTH
    → (place ≡ Sub → depth_of creator < MAX_DEPTH)
    → length (child_domain creator place) + 1 ≤ MAX_DEPTH
depth_at creator Same deep sub = deep
depth_at creator Sub deep sub = omega (arith, length_push creator.key.domain (own_level creator), sub refl)
depth_at creator Super deep sub = omega (arith, length-take (length creator.key.domain - 1) creator.key.domain, deep)

kinds_sub : (kinds n m : ℕ) (sub : Option Kind) → kinds < 2 ^ (n + 1) → m ≡ n + 1
    → kinds + sub_bit sub * 2 ^ (n + 1) < 2 ^ (m + 1)
kinds_sub kinds n m sub below is = by_kind sub
  where
    twice : 2 ^ (m + 1) ≡ 2 ^ (n + 1) * 2
    twice = let next : m + 1 ≡ suc (n + 1) = omega (arith, is) in ap (λ k. 2 ^ k) next ∙ pow-suc 2 (n + 1)

    by_kind : (made : Option Kind) → kinds + sub_bit made * 2 ^ (n + 1) < 2 ^ (m + 1)
    by_kind None = omega (arith, below, twice)
    by_kind (Some Ordered) = omega (arith, below, twice)
    by_kind (Some Unordered) = omega (arith, below, twice)

kinds_super : (kinds n m : ℕ) → m ≡ min (n - 1) n → kinds % 2 ^ n < 2 ^ (m + 1)
kinds_super kinds n m is =
    let rest : kinds % 2 ^ n < 2 ^ n = mod-lt kinds (pow_pos n) in
    elim (cases_eq n (m + 1)) [
      | inl same ↦ subst (λ k. kinds % 2 ^ n < 2 ^ k) same rest
      | inr other ↦ (let more = pow-lt {i = n} {j = m + 1} (omega (arith, is, other)) in omega (arith, rest, more))
    ]

kinds_at : (creator : Task) (place : Place) → creator.kinds < 2 ^ depth_of creator
    → child_kinds creator place < 2 ^ (length (child_domain creator place) + 1)
kinds_at creator Same below = below
kinds_at creator Sub below =
    kinds_sub creator.kinds (length creator.key.domain) (length (child_domain creator Sub)) creator.sub below
    (length_push creator.key.domain (own_level creator))
kinds_at creator Super below =
    kinds_super creator.kinds (length creator.key.domain) (length (child_domain creator Super))
    (length-take (length creator.key.domain - 1) creator.key.domain)

-- a child is well formed, as its creator is
pub child_formed : (size commits version tile index : ℕ) (creator child : Task) (spawn : Spawn) (id : ℕ)
    → IsWellFormed size commits creator
    → (spawn.place ≡ Sub → IsSome creator.sub)
    → child ≡ idle_task version (child_descriptor creator spawn) (Live (record { 0 = id }) index) tile
    → IsWellFormed size commits child
child_formed size commits version tile index creator child spawn id formed made is = subst
    (IsWellFormed size commits) (sym is)
    (record {
      depth = depth_at creator spawn.place formed.depth (λ at. formed.inner (made at));
      kinds = kinds_at creator spawn.place formed.kinds;
      inner = λ some. absurd (cc (some));
      children = omega arith;
      accesses = λ k d within. absurd (omega (arith, within));
      dispatched = refl;
      turn = λ turn at same. absurd (cc (same));
    })

-- the task goes on with one child more, and then the child comes to be and is told
pub enqueued : (old mid new : View) (id child : ℕ) (task made : Task) (leg : LegValue) (spawn : Spawn) (tile : ℕ)
    (arrived : Option TaskId)
    → task_at old id ≡ Some task
    → Keeps id (record (task_past_leg task leg) { spawns = task.spawns ++ spawn ∷ [] }) old mid
    → Adds child made mid new
    → made ≡ idle_task old.version (child_descriptor task spawn) (Live (record { 0 = id }) (length task.spawns)) tile
    → arrived ≡ Some (record { 0 = child })
    → EnqueuesTold id task leg spawn tile old new arrived
enqueued old mid new id child task made leg spawn tile arrived there keeps adds is told =
    let other : child ≢ id = λ same. absurd (cc (adds.vacant, ap (task_at mid) same, keeps.changes.changed)) in
    let queued : queued_last mid made.tile child ≡ queued_last old tile child =
    ap (λ v. queued_last v made.tile child) keeps.frame ∙ ap (λ t. queued_last old t child) (ap (λ t. t.tile) is) in
    let after : View → View = λ (v : View). record v { tasks = new.tasks; queues = new.queues } in (
      record {
        child = child;
        vacant = sym (keeps.changes.others child other) ∙ adds.vacant;
        creator = adds.changes.others id (λ same. other (sym same)) ∙ keeps.changes.changed;
        made = adds.changes.changed ∙ ap Some is;
        others = λ k apart far. adds.changes.others k far ∙ keeps.changes.others k apart;
        queues = adds.queues ∙ queued;
        frame = adds.frame ∙ ap after keeps.frame;
      },
      told,
    )

-- one child more is within the bound
pub one_more : (spawns : List Spawn) (spawn : Spawn) (now : List Spawn) → now ≡ spawns ++ spawn ∷ []
    → length spawns < MAX_CHILDREN → length now ≤ MAX_CHILDREN
one_more spawns spawn now is few = let long = ap length is ∙ length_push spawns spawn in omega (arith, long, few)

-- the child of the task that was looked at is that of the one that asks, in one version
pub child_of_same : (version at tile : ℕ) (creator task child : Task) (spawn : Spawn) (id : ℕ) → version ≡ at
    → creator ≡ task
    → child ≡ idle_task version (child_descriptor creator spawn) (Live (record { 0 = id }) (length creator.spawns)) tile
    → child ≡ idle_task at (child_descriptor task spawn) (Live (record { 0 = id }) (length task.spawns)) tile
child_of_same version at tile creator task child spawn id one same is =
    is ∙ ap (λ t. idle_task version (child_descriptor t spawn) (Live (record { 0 = id }) (length t.spawns)) tile) same
    ∙ ap (λ v. idle_task v (child_descriptor task spawn) (Live (record { 0 = id }) (length task.spawns)) tile) one
