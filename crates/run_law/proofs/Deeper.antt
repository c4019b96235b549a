-- While a domain has a task, what commits after the task that made the domain is deeper than that task.
use Rattle.std.proofs.Common.{◌≡◌, refl, sym, ap, ◌∙◌, subst, ◌≤◌, ◌<◌, ◌+◌, ◌==◌, ℕ, Bool, true, false, List, [], ◌∷◌}
use Rattle.std.proofs.Common.{◌++◌, length, Option, Some, None, if◌then◌else◌, arith, append_assoc, append-nil}
use Rattle.std.proofs.Common.{length-append}
use Rattle.std.specs.List.{AllByRecursion}
use Rattle.guest_image.specs.ImageValue.{ImageValue}
use Rattle.guest_image.specs.declared.image.Kind.{Kind}
use Rattle.task_desc.specs.declared.desc.Name.{Name}
use Rattle.task_desc.specs.declared.desc.Spawn.{Spawn}
use Rattle.task_desc.specs.declared.desc.Place.TheVariants.{Sub, Super}
use Rattle.pending_list.specs.declared.task.PendingTask.{PendingTask}
use Rattle.run_journal.specs.declared.journal.Entry.{Entry}
use Rattle.serial_machine.specs.BagValue.{BagValue}
use Rattle.serial_machine.specs.State.{SerialState}
use Rattle.serial_machine.specs.Turn.{turn, inner, stack_after, with_super, sub_bags, children}
use Rattle.serial_machine.specs.Run.{Runs, IsRun, opening}
use Rattle.run_law.specs.Laws.{AreDeeper}
use Rattle.run_law.proofs.Turned.{turn-did}
use Rattle.run_law.proofs.RunSteps.{turn-taken}

-- the entry of a bag's owner is less deep than the bag by one, and all behind it are deeper than it is
record HasOwner (journal : List Entry) (owner depth : ℕ) : Type 0 where
  earlier : List Entry
  owner_entry : Entry
  between : List Entry
  stands : journal ≡ earlier ++ owner_entry ∷ between
  number : owner ≡ length earlier + 1
  outside : owner_entry.depth + 1 ≡ depth
  deeper : AllByRecursion (λ e. owner_entry.depth < e.depth) between

-- each bag but the root's has its owner in the journal
abbrev AreOwned : List Entry → List BagValue → Type 0
AreOwned journal [] = Unit {0}
AreOwned journal (b ∷ bs) = (1 ≤ b.owner → HasOwner journal b.owner b.depth) × AreOwned journal bs

-- depths do not rise outwards, and each is at most a bound
abbrev AreBelow : ℕ → List BagValue → Type 0
AreBelow d [] = Unit {0}
AreBelow d (b ∷ bs) = (b.depth ≤ d) × AreBelow b.depth bs

AreBelow-more : (a b : ℕ) (stack : List BagValue) → a ≤ b → AreBelow a stack → AreBelow b stack
AreBelow-more a b [] le h = tt
AreBelow-more a b (x ∷ xs) le h = (omega (arith, h.0), h.1)

AreOwned-inner : (journal : List Entry) (stack : List BagValue) → AreOwned journal stack
    → AreOwned journal (inner stack)
AreOwned-inner journal [] h = tt
AreOwned-inner journal (bag ∷ outer) h = go (AreOwned-inner journal outer h.1) (length bag.tasks == 0) where
  go : AreOwned journal (inner outer) → (b : Bool) → AreOwned journal (if b then inner outer else bag ∷ outer)
  go ih true = ih
  go ih false = h

AreBelow-inner : (d : ℕ) (stack : List BagValue) → AreBelow d stack → AreBelow d (inner stack)
AreBelow-inner d [] h = tt
AreBelow-inner d (bag ∷ outer) h = go (AreBelow-inner bag.depth outer h.1) (length bag.tasks == 0) where
  go : AreBelow bag.depth (inner outer) → (b : Bool) → AreBelow d (if b then inner outer else bag ∷ outer)
  go ih true = AreBelow-more bag.depth d _ h.0 ih
  go ih false = h

-- one entry more
deeper-more : (d : ℕ) (xs : List Entry) (e : Entry) → AllByRecursion (λ x. d < x.depth) xs → d < e.depth
    → AllByRecursion (λ x. d < x.depth) (xs ++ e ∷ [])
deeper-more d [] e h lt = (lt, tt)
deeper-more d (x ∷ xs) e h lt = (h.0, deeper-more d xs e h.1 lt)

HasOwner-more : (journal : List Entry) (e : Entry) (owner depth : ℕ) → HasOwner journal owner depth → depth ≤ e.depth
    → HasOwner (journal ++ e ∷ []) owner depth
HasOwner-more journal e owner depth h le = record {
  earlier = h.earlier;
  owner_entry = h.owner_entry;
  between = h.between ++ e ∷ [];
  stands = ap (λ j. j ++ e ∷ []) h.stands ∙ append_assoc h.earlier (h.owner_entry ∷ h.between) (e ∷ []);
  number = h.number;
  outside = h.outside;
  deeper = deeper-more h.owner_entry.depth h.between e h.deeper (omega (arith, h.outside, le));
}

AreOwned-more : (journal : List Entry) (e : Entry) (d : ℕ) (stack : List BagValue) → AreOwned journal stack
    → AreBelow d stack → d ≤ e.depth → AreOwned (journal ++ e ∷ []) stack
AreOwned-more journal e d [] h b le = tt
AreOwned-more journal e d (x ∷ xs) h b le =
    (λ one. HasOwner-more journal e x.owner x.depth (h.0 one) (omega (arith, b.0, le)), AreOwned-more journal e x.depth xs h.1 b.1 (omega (arith, b.0, le)))

AreOwned-super : (journal : List Entry) (tasks : List PendingTask) (stack : List BagValue) → AreOwned journal stack
    → AreOwned journal (with_super tasks stack)
AreOwned-super journal tasks [] h = tt
AreOwned-super journal tasks (b ∷ bs) h = h

AreBelow-super : (d : ℕ) (tasks : List PendingTask) (stack : List BagValue) → AreBelow d stack
    → AreBelow d (with_super tasks stack)
AreBelow-super d tasks [] h = tt
AreBelow-super d tasks (b ∷ bs) h = h

-- the bag of a new domain has as its owner the task that made the domain
AreOwned-sub : (journal : List Entry) (e : Entry) (depth floor n : ℕ) (tasks : List PendingTask) (sub : Option Kind) (rest : List BagValue)
    → n ≡ length journal + 1 → e.depth + 1 ≡ depth
    → AreOwned (journal ++ e ∷ []) rest → AreOwned (journal ++ e ∷ []) (sub_bags depth floor n tasks sub ++ rest)
AreOwned-sub journal e depth floor n tasks None rest count is h = h
AreOwned-sub journal e depth floor n tasks (Some kind) rest count is h = go (length tasks == 0) where
  go : (b : Bool)
      → AreOwned (journal ++ e ∷ []) ((if b then [] else record { depth = depth; kind = kind; floor = floor; owner = n; tasks = tasks } ∷ []) ++ rest)
  go true = h
  go false =
      (λ one. record { earlier = journal; owner_entry = e; between = []; stands = refl; number = count; outside = is; deeper = tt }, h)

AreBelow-sub : (depth floor n : ℕ) (tasks : List PendingTask) (sub : Option Kind) (rest : List BagValue)
    → AreBelow depth rest → AreBelow depth (sub_bags depth floor n tasks sub ++ rest)
AreBelow-sub depth floor n tasks None rest h = h
AreBelow-sub depth floor n tasks (Some kind) rest h = go (length tasks == 0) where
  go : (b : Bool)
      → AreBelow depth ((if b then [] else record { depth = depth; kind = kind; floor = floor; owner = n; tasks = tasks } ∷ []) ++ rest)
  go true = h
  go false = (omega arith, h)

-- what the turns of a run keep
record IsNested (journal : List Entry) (s : SerialState) : Type 0 where
  counted : s.count ≡ length journal
  owned : AreOwned journal s.stack
  bound : ℕ
  below : AreBelow bound s.stack

stack-after : (journal : List Entry) (e : Entry) (bag : BagValue) (outer : List BagValue) (name : Name) (n ts d : ℕ) (spawns : List Spawn) (sub : Option Kind)
    → AreOwned journal (bag ∷ outer) → AreBelow d (bag ∷ outer) → n ≡ length journal + 1 → e.depth ≡ bag.depth
    → AreOwned (journal ++ e ∷ []) (stack_after bag outer name n ts spawns sub) × AreBelow (bag.depth + 1) (stack_after bag outer name n ts spawns sub)
unfolding stack_after
stack-after journal e bag outer name n ts d spawns sub owned below count depth = (
  AreOwned-sub journal e (bag.depth + 1) ts n (children Sub n spawns) sub _ count (omega (arith, depth)) (
    λ one. HasOwner-more journal e bag.owner bag.depth (owned.0 one) (omega (arith, depth)),
    AreOwned-super (journal ++ e ∷ []) (children Super n spawns) outer (AreOwned-more journal e bag.depth outer owned.1 below.1 (omega (arith, depth))),
  ),
  AreBelow-sub (bag.depth + 1) ts n (children Sub n spawns) sub _ (omega arith, AreBelow-super bag.depth (children Super n spawns) outer below.1),
)

IsNested-turn : (image : ImageValue) (budget : ℕ) (journal : List Entry) (s mid : SerialState) (e : Entry)
    → IsNested journal s → turn image budget s e.name ≡ Some (mid, e) → IsNested (journal ++ e ∷ []) mid
IsNested-turn image budget journal s mid e h t =
    let d = turn-did image budget s mid e.name e t in
    let owned = subst (AreOwned journal) d.may.top (AreOwned-inner journal s.stack h.owned) in
    let below = subst (AreBelow h.bound) d.may.top (AreBelow-inner h.bound s.stack h.below) in
    let count : s.count + 1 ≡ length journal + 1 = ap (λ n. n + 1) h.counted in
    let both = stack-after journal e d.bag d.outer e.name (s.count + 1) d.task.ts h.bound d.done.spawns d.done.sub owned below count (ap (λ x. x.depth) d.told) in
    let size : length (journal ++ e ∷ []) ≡ length journal + 1 = length-append journal (e ∷ []) in
    record {
      counted = ap (λ m. m.count) d.state ∙ count ∙ sym size;
      owned = subst (λ m. AreOwned (journal ++ e ∷ []) m.stack) (sym d.state) both.0;
      bound = d.bag.depth + 1;
      below = subst (λ m. AreBelow (d.bag.depth + 1) m.stack) (sym d.state) both.1;
    }

IsNested-runs : (image : ImageValue) (budget : ℕ) (journal : List Entry) (s : SerialState) (es : List Entry) (after : SerialState)
    → IsNested journal s → Runs image budget s es after → IsNested (journal ++ es) after
IsNested-runs image budget journal s [] after h r =
    subst (IsNested (journal ++ [])) r (subst (λ j. IsNested j s) (sym (append-nil journal)) h)
IsNested-runs image budget journal s (e ∷ es) after h (mid, t, rest) =
    subst (λ j. IsNested j after) (append_assoc journal (e ∷ []) es) (IsNested-runs image budget (journal ++ e ∷ []) mid es after (IsNested-turn image budget journal s mid e h t) rest)

IsNested-opening : (image : ImageValue) → IsNested [] (opening image)
IsNested-opening image = record {
  counted = refl;
  owned = (λ one. absurd (omega (arith, one)), tt);
  bound = 1;
  below = (omega arith, tt);
}

pub deeper : (image : ImageValue) → (budget : ℕ) → (journal : List Entry) → (state : SerialState)
    → IsRun image budget journal state → AreDeeper image budget journal
deeper image budget journal state run before s entry t bag outer top one =
    let nested = IsNested-runs image budget [] (opening image) before s (IsNested-opening image) t.run in
    let taken = turn-taken image budget journal state before s entry run t in
    let d = turn-did image budget s taken.after entry.name entry taken.taken in
    let bags : d.bag ≡ bag = cc (d.may.top, top) in
    let depth : entry.depth ≡ bag.depth = ap (λ x. x.depth) d.told ∙ ap (λ b. b.depth) bags in
    let owner = (subst (AreOwned before) top (AreOwned-inner before s.stack nested.owned)).0 one in
    record {
      earlier = owner.earlier;
      owner_entry = owner.owner_entry;
      between = owner.between;
      stands = owner.stands;
      number = owner.number;
      deeper = deeper-more owner.owner_entry.depth owner.between entry owner.deeper
          (omega (arith, owner.outside, depth));
    }
