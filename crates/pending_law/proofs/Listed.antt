-- The pending tasks of a view, and those of the serial machine's bags, as lists: which they are, and how often a name stands there.
use Rattle.std.proofs.Common.{◌≡◌, refl, sym, ap, ◌∙◌, subst, zero, suc, ℕ, ◌+◌, ◌≤◌, nat_le, Bool, true, false, List}
use Rattle.std.proofs.Common.{[], ◌∷◌, ◌++◌, length, map, Option, Some, None, slice_index_or, option_map, if◌then◌else◌}
use Rattle.std.proofs.Common.{◌⊎◌, inl, inr, zero-add, arith}
use Rattle.std.specs.List.{filter_map, cons_option}
use Rattle.std.proofs.lemmas.Bool.Decides.{nat_tests}
use Rattle.task_desc.specs.declared.desc.Desc.{Desc}
use Rattle.task_desc.specs.declared.desc.Name.{Name}
use Rattle.pending_list.specs.declared.task.PendingTask.{PendingTask}
use Rattle.spec_law.specs.serial_machine.BagValue.{BagValue}
use Rattle.spec_law.specs.serial_machine.Names.{one, times, times_in}
use Rattle.spill_store.specs.SpilledTasks.{Spilled}
use Rattle.spec_law.specs.task_law.Tasks as bags
use Rattle.spec_law.specs.task_law.Tasks.{In, IsFree, IsSpilled, SpilledBagTask}
use Rattle.spec_law.specs.task_law.Commit.{Stands}
use Rattle.spec_law.specs.task_law.Sound.{AreSound, IsFresh, NamesDiffer}
use Rattle.spec_law.specs.spec_state.declared.pending.Pending.{Pending}
use Rattle.spec_law.specs.spec_state.declared.task.Creator.{Creator}
use Rattle.spec_law.specs.spec_state.declared.task.Creator.TheVariants.{Committed, Live}
use Rattle.spec_law.specs.spec_state.declared.task.Task.{Task}
use Rattle.spec_law.specs.spec_state.View.{View, task_at}
use Rattle.spec_law.specs.spec_state.Tasks.{depth_of}
use Rattle.spec_law.specs.spec_state.Groups.{all_spilled, bag_creator, bag_spilled, bag_task, bag_tasks, bags_spilled}
use Rattle.spec_law.specs.spec_state.Pendings.{all_pending, pending_at, pending_by, pending_queued, pending_spilled}
use Rattle.spec_law.specs.spec_state.Pendings.{pendings_in}
use Rattle.spec_law.specs.spec_state.Pendings.{spilled_pending}
use Rattle.pending_law.proofs.Counts.{AreApart, count, count-append, Holds, named, named_so}
use Rattle.fractal_vt.proofs.Proved.{mapped_some}

held_cons : (o : Option Pending) (ps : List Pending) (p : Pending) → Holds ps p → Holds (cons_option o ps) p
held_cons None ps p held = held
held_cons (Some q) ps p held = inr held

pub held_front : (ps qs : List Pending) (p : Pending) → Holds ps p → Holds (ps ++ qs) p
held_front [] qs p held = absurd held
held_front (x ∷ ps) qs p (inl same) = inl same
held_front (x ∷ ps) qs p (inr held) = inr (held_front ps qs p held)

pub held_back : (ps qs : List Pending) (p : Pending) → Holds qs p → Holds (ps ++ qs) p
held_back [] qs p held = held
held_back (x ∷ ps) qs p held = inr (held_back ps qs p held)

pub held_either : (ps qs : List Pending) (p : Pending) → Holds (ps ++ qs) p → Holds ps p ⊎ Holds qs p
held_either [] qs p held = inr held
held_either (x ∷ ps) qs p (inl same) = inl (inl same)
held_either (x ∷ ps) qs p (inr held) = elim (held_either ps qs p held) [
  | inl front ↦ inl (inr front)
  | inr back ↦ inr back
]

-- ---- queued tasks

-- a queued task of a creator that has committed, as one that pends
abbrev pub queued_as : ℕ → ℕ → Task → Pending
queued_as turn index task =
    record {
      name = record { creator = turn; index = index };
      depth = depth_of task;
      entry = task.entry;
      ts = task.key.ts;
      args = task.args;
    }

-- it stands in one of the slots
pub record IsQueuedPending (slots : List (Option Task)) (p : Pending) : Type 0 where
  pub id : ℕ
  pub task : Task
  pub turn : ℕ
  pub index : ℕ
  pub there : slice_index_or slots id None ≡ Some task
  pub creator : task.creator ≡ Committed turn index
  pub is : p ≡ queued_as turn index task

later : (slot : Option Task) (slots : List (Option Task)) (p : Pending) → IsQueuedPending slots p
    → IsQueuedPending (slot ∷ slots) p
later slot slots p q =
    record {
      id = suc q.id;
      task = q.task;
      turn = q.turn;
      index = q.index;
      there = q.there;
      creator = q.creator;
      is = q.is;
    }

pub held_queued : (slots : List (Option Task)) (p : Pending) → Holds (filter_map pending_queued slots) p
    → IsQueuedPending slots p
held_queued [] p held = absurd held
held_queued (None ∷ slots) p held = later None slots p (held_queued slots p held)
held_queued (Some task ∷ slots) p held = go task.creator refl held (held_queued slots p)
  where
    go : (c : Creator) → task.creator ≡ c → Holds (cons_option (pending_by c task) (filter_map pending_queued slots)) p
        → (Holds (filter_map pending_queued slots) p → IsQueuedPending slots p) → IsQueuedPending (Some task ∷ slots) p
    go (Committed turn index) is (inl same) rest =
        record { id = zero; task = task; turn = turn; index = index; there = refl; creator = is; is = sym same }
    go (Committed turn index) is (inr other) rest = later (Some task) slots p (rest other)
    go (Live creator index) is other rest = later (Some task) slots p (rest other)

pub queued_held : (slots : List (Option Task)) (id : ℕ) (task : Task) (turn index : ℕ)
    → slice_index_or slots id None ≡ Some task
    → task.creator ≡ Committed turn index → Holds (filter_map pending_queued slots) (queued_as turn index task)
queued_held [] id task turn index at is = absurd (cc (at))
queued_held (slot ∷ slots) zero task turn index at is =
    let rest = filter_map pending_queued slots in
    let p = queued_as turn index task in
    let here : Holds (cons_option (pending_by task.creator task) rest) p =
    subst (λ c. Holds (cons_option (pending_by c task) rest) p) (sym is) (inl refl) in
    subst (λ s. Holds (cons_option (pending_queued s) rest) p) (sym at) here
queued_held (slot ∷ slots) (suc id) task turn index at is =
    held_cons (pending_queued slot) (filter_map pending_queued slots) (queued_as turn index task) (queued_held slots id task turn index at is)

-- the slot's task was made so
abbrev Made : Name → List (Option Task) → ℕ → Task → Type 0
Made name slots id task =
    (slice_index_or slots id None ≡ Some task) × (task.creator ≡ Committed name.creator name.index)

pub none_queued : (name : Name) (slots : List (Option Task)) → ((id : ℕ) (task : Task) → Made name slots id task → ⊥)
    → count name (filter_map pending_queued slots) ≡ 0
none_queued name [] none = refl
none_queued name (None ∷ slots) none = none_queued name slots (λ id task made. none (suc id) task made)
none_queued name (Some task ∷ slots) none =
    go task.creator refl (none_queued name slots (λ id t made. none (suc id) t made))
  where
    go : (c : Creator) → task.creator ≡ c → count name (filter_map pending_queued slots) ≡ 0
        → count name (cons_option (pending_by c task) (filter_map pending_queued slots)) ≡ 0
    go (Live creator index) is rest = rest
    go (Committed turn index) is rest = by (named name (queued_as turn index task)) refl
      where
        by : (b : Bool) → named name (queued_as turn index task) ≡ b
            → one b + count name (filter_map pending_queued slots) ≡ 0
        by true same =
            let so = named_so name (queued_as turn index task) same in
            absurd (none zero task (refl, is ∙ ap (λ (n : Name). Committed n.creator n.index) so))
        by false other = omega (arith, rest)

pub queued_apart : (name : Name) (slots : List (Option Task))
    → ((i j : ℕ) (x y : Task) → Made name slots i x → Made name slots j y → i ≡ j)
    → count name (filter_map pending_queued slots) ≤ 1
queued_apart name [] one_slot = omega arith
queued_apart name (None ∷ slots) one_slot =
    queued_apart name slots (λ i j x y first second. (let same = one_slot (suc i) (suc j) x y first second in omega (arith, same)))
queued_apart name (Some task ∷ slots) one_slot =
    go task.creator refl (queued_apart name slots (λ i j x y first second. (let same = one_slot (suc i) (suc j) x y first second in omega (arith, same))))
  where
    go : (c : Creator) → task.creator ≡ c → count name (filter_map pending_queued slots) ≤ 1
        → count name (cons_option (pending_by c task) (filter_map pending_queued slots)) ≤ 1
    go (Live creator index) is rest = rest
    go (Committed turn index) is rest = by (named name (queued_as turn index task)) refl
      where
        by : (b : Bool) → named name (queued_as turn index task) ≡ b
            → one b + count name (filter_map pending_queued slots) ≤ 1
        by true same =
            let so = named_so name (queued_as turn index task) same in
            let first : task.creator ≡ Committed name.creator name.index = is ∙ ap (λ (n : Name). Committed n.creator n.index) so in
            let others = none_queued name slots (λ id t made. (let both = one_slot zero (suc id) task t (refl, first) made in omega (arith, both))) in
            omega (arith, others)
        by false other = omega (arith, rest)

-- ---- spilled tasks

-- a spilled task as one that pends
abbrev pub spilled_as : Desc → Pending
spilled_as d = record { name = d.name; depth = d.depth; entry = d.entry; ts = d.ts; args = d.args }

module _ (turns : ℕ) where
  pub held_spilled : (ss : List Spilled) (p : Pending) → Holds (spilled_pending turns ss) p
      → (e : SpilledBagTask) × In e (map bag_spilled ss) × (e.task.name.creator ≤ turns)
      × (p ≡ pending_at e.depth e.task)
  held_spilled [] p held = absurd held
  held_spilled (s ∷ ss) p held = go (nat_le s.desc.name.creator turns) refl held (held_spilled ss p)
    where
      go : (b : Bool) → nat_le s.desc.name.creator turns ≡ b
          → Holds (cons_option (if b then Some (spilled_as s.desc) else None) (spilled_pending turns ss)) p
          → (Holds (spilled_pending turns ss) p → (e : SpilledBagTask) × In e (map bag_spilled ss) × (e.task.name.creator ≤ turns) × (p ≡ pending_at e.depth e.task))
          → (e : SpilledBagTask) × In e (map bag_spilled (s ∷ ss)) × (e.task.name.creator ≤ turns) × (p ≡ pending_at e.depth e.task)
      go true low (inl same) rest = (bag_spilled s, inl refl, grind (arith, nat_tests), sym same)
      go true low (inr other) rest = let found = rest other in (found.0, inr found.1, found.2, found.3)
      go false high other rest = let found = rest other in (found.0, inr found.1, found.2, found.3)

  pub spilled_held : (ss : List Spilled) (e : SpilledBagTask) → In e (map bag_spilled ss) → e.task.name.creator ≤ turns
      → Holds (spilled_pending turns ss) (pending_at e.depth e.task)
  spilled_held [] e among low = absurd among
  spilled_held (s ∷ ss) e (inl same) low =
      let creator : e.task.name.creator ≡ s.desc.name.creator = ap (λ (x : SpilledBagTask). x.task.name.creator) same in
      let test : nat_le s.desc.name.creator turns ≡ true = grind (arith, nat_tests) in
      let here : Holds (cons_option (pending_spilled turns s.desc) (spilled_pending turns ss)) (spilled_as s.desc) =
      subst (λ b. Holds (cons_option (if b then Some (spilled_as s.desc) else None) (spilled_pending turns ss)) (spilled_as s.desc)) (sym test) (inl refl) in
      subst (λ (x : SpilledBagTask). Holds (spilled_pending turns (s ∷ ss)) (pending_at x.depth x.task)) (sym same) here
  spilled_held (s ∷ ss) e (inr among) low =
      held_cons (pending_spilled turns s.desc) (spilled_pending turns ss) (pending_at e.depth e.task) (spilled_held ss e among low)

  pub none_spilled : (name : Name) (ss : List Spilled) → IsFresh name (map bag_spilled ss)
      → count name (spilled_pending turns ss) ≡ 0
  none_spilled name [] fresh = refl
  none_spilled name (s ∷ ss) fresh =
      go (nat_le s.desc.name.creator turns) (none_spilled name ss (λ e among. fresh e (inr among)))
    where
      go : (b : Bool) → count name (spilled_pending turns ss) ≡ 0
          → count name (cons_option (if b then Some (spilled_as s.desc) else None) (spilled_pending turns ss)) ≡ 0
      go false rest = rest
      go true rest = by (named name (spilled_as s.desc)) refl
        where
          by : (b : Bool) → named name (spilled_as s.desc) ≡ b → one b + count name (spilled_pending turns ss) ≡ 0
          by true same = absurd (fresh (bag_spilled s) (inl refl) (named_so name (spilled_as s.desc) same))
          by false other = omega (arith, rest)

  pub spilled_apart : (name : Name) (ss : List Spilled) → NamesDiffer (map bag_spilled ss)
      → count name (spilled_pending turns ss) ≤ 1
  spilled_apart name [] differ = omega arith
  spilled_apart name (s ∷ ss) differ = go (nat_le s.desc.name.creator turns) (spilled_apart name ss differ.1)
    where
      go : (b : Bool) → count name (spilled_pending turns ss) ≤ 1
          → count name (cons_option (if b then Some (spilled_as s.desc) else None) (spilled_pending turns ss)) ≤ 1
      go false rest = rest
      go true rest = by (named name (spilled_as s.desc)) refl
        where
          by : (b : Bool) → named name (spilled_as s.desc) ≡ b → one b + count name (spilled_pending turns ss) ≤ 1
          by true same =
              let so = named_so name (spilled_as s.desc) same in
              let others = none_spilled name ss (subst (λ n. IsFresh n (map bag_spilled ss)) so differ.0) in
              omega (arith, others)
          by false other = omega (arith, rest)

  -- the name is that of none of those that pend, or of a spilled task
  pub some_spilled : (name : Name) (ss : List Spilled)
      → (count name (spilled_pending turns ss) ≡ 0) ⊎ ((e : SpilledBagTask) × In e (map bag_spilled ss) × (e.task.name ≡ name))
  some_spilled name [] = inl refl
  some_spilled name (s ∷ ss) = by (named name (spilled_as s.desc)) refl (some_spilled name ss)
    where
      by : (b : Bool) → named name (spilled_as s.desc) ≡ b
          → (count name (spilled_pending turns ss) ≡ 0) ⊎ ((e : SpilledBagTask) × In e (map bag_spilled ss) × (e.task.name ≡ name))
          → (count name (spilled_pending turns (s ∷ ss)) ≡ 0) ⊎ ((e : SpilledBagTask) × In e (map bag_spilled (s ∷ ss)) × (e.task.name ≡ name))
      by true same rest = inr (bag_spilled s, inl refl, named_so name (spilled_as s.desc) same)
      by false other (inr found) = inr (found.0, inr found.1, found.2)
      by false other (inl none) = inl (go (nat_le s.desc.name.creator turns))
        where
          go : (b : Bool)
              → count name (cons_option (if b then Some (spilled_as s.desc) else None) (spilled_pending turns ss)) ≡ 0
          go false = none
          go true =
              ap (λ c. one c + count name (spilled_pending turns ss)) other
              ∙ zero-add (count name (spilled_pending turns ss)) ∙ none

-- ---- of a view

module _ (view : View) (least : ℕ) (runs : Bool) (names : AreSound (length view.history) least runs (bag_tasks view) (bags_spilled view)) where
  -- no name stands twice among the pending tasks
  pub pendings_apart : AreApart (pendings_in view)
  pendings_apart name =
      let both = count-append name (filter_map pending_queued view.tasks) (spilled_pending (length view.history) (all_spilled view)) in
      elim (some_spilled (length view.history) name (all_spilled view)) [
        | inl none ↦ let queued = queued_apart name view.tasks one_slot in omega (arith, both, none, queued)
        | inr found ↦
            let spilled = spilled_apart (length view.history) name (all_spilled view) names.differ in
            let queued = none_queued name view.tasks (other found.0 found.1 found.2) in
            omega (arith, both, spilled, queued)
      ]
    where
      one_slot : (i j : ℕ) (x y : Task) → Made name view.tasks i x → Made name view.tasks j y → i ≡ j
      one_slot i j x y first second =
          names.distinct i j (bag_task x) (bag_task y) (ap (option_map bag_task) first.0) (ap (option_map bag_task) second.0)
          (ap bag_creator (first.1 ∙ sym second.1))

      other : (e : SpilledBagTask) → In e (bags_spilled view) → e.task.name ≡ name → (id : ℕ) (task : Task)
          → Made name view.tasks id task → ⊥
      other e among same id task made =
          let there : bag_tasks view id ≡ Some (bag_task task) = ap (option_map bag_task) made.0 in
          let by : (bag_task task).creator ≡ bags.Committed name.creator name.index = ap bag_creator made.1 in
          let has : bags.Names (length view.history) least (bag_task task).creator name =
          subst (λ c. bags.Names (length view.history) least c name) (sym by) (refl, names.counted id (bag_task task) name.creator name.index there by) in
          names.apart id (bag_task task) name e.depth e.task there has among same

  abbrev Free : ℕ → PendingTask → Type 0
  Free = IsFree (bag_tasks view) (IsSpilled (bags_spilled view)) (length view.history)

  -- the pending tasks are the free ones
  pub free_is_held : (depth : ℕ) (p : PendingTask) → Free depth p → Holds (pendings_in view) (pending_at depth p)
  free_is_held depth p (inr s) =
      held_back (filter_map pending_queued view.tasks) (spilled_pending (length view.history) (all_spilled view)) (pending_at depth p)
      (spilled_held (length view.history) (all_spilled view) (record { depth = depth; task = p }) s.0 s.1)
  free_is_held depth p (inl q) =
      let from = mapped_some bag_task (task_at view q.id) q.task q.there in
      let made = committed from.0.creator (sym (ap (λ (t : bags.BagTask). t.creator) from.2) ∙ q.creator) in
      let held = held_front (filter_map pending_queued view.tasks) (spilled_pending (length view.history) (all_spilled view)) (queued_as q.turn q.index from.0)
      (queued_held view.tasks q.id from.0 q.turn q.index from.1 made) in
      let depth_is : depth_of from.0 ≡ depth = sym (ap (λ (t : bags.BagTask). t.depth) from.2) ∙ q.depth_is in
      let task_is : bags.pending q.turn q.index (bag_task from.0).body (bag_task from.0).ts ≡ p =
      ap (λ (t : bags.BagTask). bags.pending q.turn q.index t.body t.ts) (sym from.2) ∙ sym q.pending_is in
      subst (Holds (pendings_in view)) (λ i. pending_at (depth_is i) (task_is i)) held
    where
      committed : (c : Creator) → bag_creator c ≡ bags.Committed q.turn q.index → c ≡ Committed q.turn q.index
      committed (Committed turn index) is =
          let turns : turn ≡ q.turn = cc (is) in
          let places : index ≡ q.index = cc (is) in
          λ i. Committed (turns i) (places i)
      committed (Live task index) is = absurd (cc (is))

  pub held_is_free : (x : Pending) → Holds (pendings_in view) x
      → (depth : ℕ) × (p : PendingTask) × Free depth p × (x ≡ pending_at depth p)
  held_is_free x held =
      elim (held_either (filter_map pending_queued view.tasks) (spilled_pending (length view.history) (all_spilled view)) x held) [
        | inl queued ↦
            let q = held_queued view.tasks x queued in
            let task = bag_task q.task in (
              task.depth,
              bags.pending q.turn q.index task.body task.ts,
              inl (record {
                id = q.id;
                task = task;
                there = ap (option_map bag_task) q.there;
                turn = q.turn;
                index = q.index;
                creator = ap bag_creator q.creator;
                depth_is = refl;
                pending_is = refl;
              }),
              q.is,
            )
        | inr spilled ↦
            let s = held_spilled (length view.history) (all_spilled view) x spilled in
            (s.0.depth, s.0.task, inr (s.1, s.2), s.3)
      ]

-- ---- of the serial machine

in_mapped : (depth : ℕ) (tasks : List PendingTask) (p : PendingTask) → In p tasks
    → Holds (map (pending_at depth) tasks) (pending_at depth p)
in_mapped depth [] p among = absurd among
in_mapped depth (t ∷ ts) p (inl same) = inl (ap (pending_at depth) (sym same))
in_mapped depth (t ∷ ts) p (inr among) = inr (in_mapped depth ts p among)

from_mapped : (depth : ℕ) (tasks : List PendingTask) (x : Pending) → Holds (map (pending_at depth) tasks) x
    → (p : PendingTask) × In p tasks × (x ≡ pending_at depth p)
from_mapped depth [] x held = absurd held
from_mapped depth (t ∷ ts) x (inl same) = (t, inl refl, sym same)
from_mapped depth (t ∷ ts) x (inr held) = let found = from_mapped depth ts x held in (found.0, inr found.1, found.2)

pub stands_is_held : (stack : List BagValue) (depth : ℕ) (p : PendingTask) → Stands stack depth p
    → Holds (all_pending stack) (pending_at depth p)
stands_is_held [] depth p stands = absurd stands
stands_is_held (bag ∷ outer) depth p (inl here) =
    held_front (map (pending_at bag.depth) bag.tasks) (all_pending outer) (pending_at depth p)
    (subst (λ d. Holds (map (pending_at bag.depth) bag.tasks) (pending_at d p)) here.0 (in_mapped bag.depth bag.tasks p here.1))
stands_is_held (bag ∷ outer) depth p (inr stands) =
    held_back (map (pending_at bag.depth) bag.tasks) (all_pending outer) (pending_at depth p) (stands_is_held outer depth p stands)

pub held_stands : (stack : List BagValue) (x : Pending) → Holds (all_pending stack) x
    → (depth : ℕ) × (p : PendingTask) × Stands stack depth p × (x ≡ pending_at depth p)
held_stands [] x held = absurd held
held_stands (bag ∷ outer) x held =
    elim (held_either (map (pending_at bag.depth) bag.tasks) (all_pending outer) x held) [
      | inl here ↦ let found = from_mapped bag.depth bag.tasks x here in (bag.depth, found.0, inl (refl, found.1), found.2)
      | inr there ↦ let found = held_stands outer x there in (found.0, found.1, inr found.2, found.3)
    ]

count_mapped : (name : Name) (depth : ℕ) (tasks : List PendingTask)
    → count name (map (pending_at depth) tasks) ≡ times name tasks
count_mapped name depth [] = refl
count_mapped name depth (t ∷ ts) = ap (λ n. one (named name (pending_at depth t)) + n) (count_mapped name depth ts)

-- a name stands among the pending tasks as often as in the bags
pub count_all : (name : Name) (stack : List BagValue) → count name (all_pending stack) ≡ times_in name stack
count_all name [] = refl
count_all name (bag ∷ outer) =
    let both = count-append name (map (pending_at bag.depth) bag.tasks) (all_pending outer) in
    let here = count_mapped name bag.depth bag.tasks in
    let rest = count_all name outer in
    omega (arith, both, here, rest)
