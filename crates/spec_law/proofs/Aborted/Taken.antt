-- What an abort leaves under each id, and what the laws of order, tasks and memory see of it.
use Rattle.std.proofs.Common.{◌≡◌, ◌≤◌, ◌<◌, ◌∷◌, ℕ, zero, suc, Bool, true, false, List, [], length, Option, Some, None}
use Rattle.std.proofs.Common.{refl, sym, ap, subst, ◌∙◌, inl, inr, arith, option_map, if◌then◌else◌}
use Rattle.line_table.specs.Note.{wrote_in}
use Rattle.memory_law.specs.Events as memory
use Rattle.memory_law.specs.Notes.{notes_of}
use Rattle.memory_law.specs.Tasks.{Logged, Earlier}
use Rattle.order_law.specs.Events as order
use Rattle.order_law.specs.Tasks.{Keyed}
use Rattle.spec_state.specs.task_law.Moves as moves
use Rattle.spec_state.specs.task_law.Tasks as bags
use Rattle.spec_state.specs.declared.task.Creator.{Creator}
use Rattle.spec_state.specs.declared.task.Creator.TheVariants.{Committed, Live}
use Rattle.spec_state.specs.declared.task.Task.{Task}
use Rattle.spec_state.specs.View.{View, task_at}
use Rattle.spec_state.specs.Tasks.{idle_again}
use Rattle.spec_state.specs.Groups.{keyed_tasks, keyed_task, logged_tasks, logged_task, bag_tasks, bag_task}
use Rattle.spec_state.specs.Groups.{bag_creator, live_creator}
use Rattle.spec_state.specs.Aborts.{PullsInView, IsCascade, is_marked, is_marked_creator, taken_back, Aborts}
use Rattle.spec_law.specs.AbortLaws.{HoldsPulled}
use Rattle.spec_law.proofs.Tasks.Beside.{id_below}
use Rattle.spec_law.proofs.Dispatches.Tasks.{live_of}
use Rattle.fractal_vt.proofs.Proved.{mapped_some}

-- a marked id lies within the marks
pub marked_below : (marks : List Bool) (id : ℕ) → is_marked marks id ≡ true → id < length marks
marked_below [] id marked = absurd (cc)
marked_below (mark ∷ marks) zero marked = omega arith
marked_below (mark ∷ marks) (suc id) marked = let rest = marked_below marks id marked in omega arith

-- where nothing is read, nothing is there
pub none_of : {X Y : Type 0} (f : X → Y) (o : Option X) → option_map f o ≡ None → o ≡ None
none_of f None is = refl
none_of f (Some x) is = absurd (cc)

-- what is taken back with a task is there
pub pulled_there : (view : View) (a b : ℕ) → PullsInView view a b → (x : Task) × (task_at view b ≡ Some x)
pulled_there view a b (inl child) = (child.child, child.there)
pulled_there view a b (inr reads) = (reads.reader, reads.later.there)

-- the marks of a cascade hold all that is taken back with what they hold
pub cascade_holds : (view : View) (firsts : ℕ → Type 0) (marks : List Bool) → IsCascade view firsts marks
    → HoldsPulled view marks
cascade_holds view firsts marks cascade a b pulled marked =
    let there = pulled_there view a b pulled in
    let in_tasks = id_below view b there.0 there.1 in
    let size : length view.tasks ≤ length marks = cascade.size in
    cascade.least.closed a b (marked_below marks a marked) (omega (arith, in_tasks, size)) ((cascade.pulls a b).1 pulled) marked

-- what stands under an unmarked id stays
taken_unmarked : (version : ℕ) (marks : List Bool) (id : ℕ) (was : Option Task) → is_marked marks id ≡ false
    → taken_back version marks id was ≡ was
taken_unmarked version marks id None out = refl
taken_unmarked version marks id (Some t) out =
    ap (λ b. if b then (if is_marked_creator marks (live_creator t.creator) then None else Some (idle_again version t)) else Some t) out

-- a marked task of a marked creator leaves, and any other is idle again
taken_marked : (version : ℕ) (marks : List Bool) (id : ℕ) (t : Task) → is_marked marks id ≡ true
    → taken_back version marks id (Some t) ≡ (if is_marked_creator marks (live_creator t.creator) then None else Some (idle_again version t))
taken_marked version marks id t taken =
    ap (λ b. if b then (if is_marked_creator marks (live_creator t.creator) then None else Some (idle_again version t)) else Some t) taken

-- a task that was there, whose creator is not marked, and that is idle again under its id
pub record IsBack (marks : List Bool) (old : View) (id : ℕ) (now : Task) : Type 0 where
  pub was : Task
  pub there : task_at old id ≡ Some was
  pub is : now ≡ idle_again old.version was
  pub spared : is_marked_creator marks (live_creator was.creator) ≡ false

module _ {firsts : ℕ → Type 0} {old : View} {aborted : ℕ} {new : View} (abort : Aborts firsts old aborted new) where
  abbrev marks : List Bool
  marks = abort.marks

  pub holds_pulled : HoldsPulled old marks
  holds_pulled = cascade_holds old firsts marks abort.cascade

  pub unmarked_stays : (id : ℕ) → is_marked marks id ≡ false → task_at new id ≡ task_at old id
  unmarked_stays id out = abort.each id ∙ taken_unmarked old.version marks id (task_at old id) out

  pub gone_stays : (id : ℕ) → task_at old id ≡ None → task_at new id ≡ None
  gone_stays id none = abort.each id ∙ ap (taken_back old.version marks id) none

  -- what becomes of a marked task
  marked_now : (id : ℕ) (t : Task) → is_marked marks id ≡ true → task_at old id ≡ Some t
      → task_at new id ≡ (if is_marked_creator marks (live_creator t.creator) then None else Some (idle_again old.version t))
  marked_now id t taken there =
      abort.each id ∙ ap (taken_back old.version marks id) there ∙ taken_marked old.version marks id t taken

  pub marked_leaves : (id : ℕ) (t : Task) → is_marked marks id ≡ true → task_at old id ≡ Some t
      → is_marked_creator marks (live_creator t.creator) ≡ true
      → task_at new id ≡ None
  marked_leaves id t taken there creator =
      marked_now id t taken there ∙ ap (λ b. if b then None else Some (idle_again old.version t)) creator

  pub marked_idles : (id : ℕ) (t : Task) → is_marked marks id ≡ true → task_at old id ≡ Some t
      → is_marked_creator marks (live_creator t.creator) ≡ false
      → task_at new id ≡ Some (idle_again old.version t)
  marked_idles id t taken there creator =
      marked_now id t taken there ∙ ap (λ b. if b then None else Some (idle_again old.version t)) creator

  -- a marked task that is there afterwards is idle again
  pub marked_is_back : (id : ℕ) (now : Task) → is_marked marks id ≡ true → task_at new id ≡ Some now
      → IsBack marks old id now
  marked_is_back id now taken at = by_was (task_at old id) refl
    where
      by_creator : (t : Task) → task_at old id ≡ Some t → (b : Bool)
          → is_marked_creator marks (live_creator t.creator) ≡ b → IsBack marks old id now
      by_creator t there true creator = absurd (cc (marked_leaves id t taken there creator, at))
      by_creator t there false creator =
          let both : Some now ≡ Some (idle_again old.version t) = sym at ∙ marked_idles id t taken there creator in
          let same : now ≡ idle_again old.version t = cc in
          record { was = t; there = there; is = same; spared = creator }

      by_was : (was : Option Task) → task_at old id ≡ was → IsBack marks old id now
      by_was None none = absurd (cc (gone_stays id none, at))
      by_was (Some t) there = by_creator t there (is_marked_creator marks (live_creator t.creator)) refl

  -- the order of tasks
  holds_children : (k c : ℕ) (x : Keyed) → keyed_tasks old k ≡ Some x → x.creator ≡ Some c → is_marked marks c ≡ true
      → is_marked marks k ≡ true
  holds_children k c x at creator marked =
      let read = mapped_some keyed_task (task_at old k) x at in
      holds_pulled c k (inl (record { child = read.0; there = read.1; made_by = sym (ap (λ y. y.creator) read.2) ∙ creator })) marked

  members : (k : ℕ) (x : Keyed) → is_marked marks k ≡ true → keyed_tasks new k ≡ Some x
      → (y : Keyed) × (keyed_tasks old k ≡ Some y) × (x ≡ order.with_open_level y) × ((c : ℕ) → y.creator ≡ Some c → is_marked marks c ≡ false)
  members k x taken at =
      let read = mapped_some keyed_task (task_at new k) x at in
      let back = marked_is_back k read.0 taken read.1 in (
        keyed_task back.was,
        ap (option_map keyed_task) back.there,
        read.2 ∙ ap keyed_task back.is,
        λ c creator. subst (λ o. is_marked_creator marks o ≡ false) creator back.spared,
      )

  pub order_aborts : order.AbortsInKeys (is_marked marks) (keyed_tasks old) (keyed_tasks new)
  order_aborts =
      record {
        holds_children = holds_children;
        others = λ k out. ap (option_map keyed_task) (unmarked_stays k out);
        members = members;
      }

  -- memory
  logs_back : (id : ℕ) (task : Logged) → is_marked marks id ≡ true → logged_tasks new id ≡ Some task
      → (task.dispatched ≡ false) × (task.log ≡ [])
  logs_back id task taken at =
      let read = mapped_some logged_task (task_at new id) task at in
      let back = marked_is_back id read.0 taken read.1 in
      let is : task ≡ logged_task (idle_again old.version back.was) = read.2 ∙ ap logged_task back.is in
      (ap (λ t. t.dispatched) is, ap (λ t. t.log) is)

  pub logs_taken_back : memory.TakesBackInLogs (is_marked marks) (logged_tasks old) (logged_tasks new)
  logs_taken_back = record { members = logs_back; others = λ k out. ap (option_map logged_task) (unmarked_stays k out) }

  pub holds_later : memory.HoldsLater old.settings.line (is_marked marks) (logged_tasks old)
  holds_later a b x y at there there' runs runs' marked earlier wrote touched =
      let writer = mapped_some logged_task (task_at old a) x there in
      let reader = mapped_some logged_task (task_at old b) y there' in
      let above = subst (λ t. Earlier t (logged_task reader.0)) writer.2 (subst (λ t. Earlier x t) reader.2 earlier) in
      holds_pulled a b
      (inr (record {
        writer = writer.0;
        there = writer.1;
        dispatched = sym (ap (λ t. t.dispatched) writer.2) ∙ runs;
        reader = reader.0;
        later = record { there = reader.1; dispatched = sym (ap (λ t. t.dispatched) reader.2) ∙ runs'; later = above };
        meets = (
          at,
          sym (ap (λ t. wrote_in (notes_of old.settings.line t.log) at) writer.2) ∙ wrote,
          sym (ap (λ t. t.touched at) reader.2) ∙ touched,
        );
      }))
      marked

  -- the bags
  -- a creator that is unmarked wherever it is uncommitted
  spared_is : (c : Creator) → ((k index : ℕ) → bag_creator c ≡ bags.Live k index → is_marked marks k ≡ false)
      → is_marked_creator marks (live_creator c) ≡ false
  spared_is (Committed turn i) spared = refl
  spared_is (Live task i) spared = spared task.0 i refl

  bag_gone : (k : ℕ) (x : bags.BagTask) (creator index : ℕ) → is_marked marks k ≡ true → bag_tasks old k ≡ Some x
      → x.creator ≡ bags.Live creator index
      → is_marked marks creator ≡ true → bag_tasks new k ≡ None
  bag_gone k x creator index taken at made marked =
      let read = mapped_some bag_task (task_at old k) x at in
      let live = live_of read.0.creator creator index (sym (ap (λ t. t.creator) read.2) ∙ made) in
      ap (option_map bag_task) (marked_leaves k read.0 taken read.1 (ap (is_marked_creator marks) live ∙ marked))

  bag_stays : (k : ℕ) (x : bags.BagTask) → is_marked marks k ≡ true → bag_tasks old k ≡ Some x
      → ((creator index : ℕ) → x.creator ≡ bags.Live creator index → is_marked marks creator ≡ false)
      → bag_tasks new k ≡ Some (moves.idle_bag_task x)
  bag_stays k x taken at spared =
      let read = mapped_some bag_task (task_at old k) x at in
      let creator = spared_is read.0.creator (λ c index made. spared c index (ap (λ t. t.creator) read.2 ∙ made)) in
      ap (option_map bag_task) (marked_idles k read.0 taken read.1 creator)
      ∙ ap (λ t. Some (moves.idle_bag_task t)) (sym read.2)

  pub bags_taken_back : moves.TakesBackInBags (is_marked marks) (bag_tasks old) (bag_tasks new)
  bags_taken_back =
      record {
        others = λ k out. ap (option_map bag_task) (unmarked_stays k out);
        gone = bag_gone;
        stays = bag_stays;
        none = λ k none. ap (option_map bag_task) (gone_stays k (none_of bag_task (task_at old k) none));
      }
