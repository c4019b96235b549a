-- No name takes two turns.
use Rattle.std.proofs.Common.{◌≡◌, refl, sym, ap, ◌∙◌, subst, ◌≤◌, ◌+◌, ◌==◌, ◌&&◌, not, nat_le, ℕ, Bool, true, false}
use Rattle.std.proofs.Common.{List, [], ◌∷◌, ◌++◌, Option, Some, if◌then◌else◌, arith}
use Rattle.std.proofs.lemmas.Grind.{common_steps}
use Rattle.std.proofs.lemmas.Option.{none-some}
use Rattle.std.proofs.lemmas.Bool.Decides.{nat_tests}
use Rattle.guest_image.specs.ImageValue.{ImageValue}
use Rattle.guest_image.specs.declared.image.Kind.{Kind}
use Rattle.task_desc.specs.declared.desc.Name.{Name}
use Rattle.task_desc.specs.declared.desc.Spawn.{Spawn}
use Rattle.task_desc.specs.declared.desc.Place.TheVariants.{Same, Sub, Super}
use Rattle.pending_list.specs.declared.task.PendingTask.{PendingTask}
use Rattle.run_journal.specs.declared.journal.Entry.{Entry}
use Rattle.serial_machine.specs.BagValue.{BagValue}
use Rattle.serial_machine.specs.State.{SerialState}
use Rattle.serial_machine.specs.Names.{one, times, times_in}
use Rattle.serial_machine.specs.Turn.{is_named, without_name, stack_after, children, with_super, find_named}
use Rattle.serial_machine.specs.Run.{Runs, IsRun, opening}
use Rattle.serial_machine.proofs.Proved.{AreNamed-opening, all_children, children-fresh, children_for, times-append}
use Rattle.serial_machine.proofs.Proved.{times-children, times-without_name, times_in-inner, times_in-sub}
use Rattle.serial_machine.proofs.Proved.{times_in-super}
use Rattle.run_law.specs.Laws.{is_same, turns_of, TurnsAreDistinct}
use Rattle.run_law.proofs.Turned.{Turned, turn-did}

-- a name is as often another as one that is the same
pub one-same : (x name own : Name) → is_same own name ≡ true → one (is_same own x) ≡ one (is_same name x)
one-same x name own h = grind (arith, nat_tests, common_steps)

-- without a name that is found the tasks have it at least once less, and no name more often
times-taken : (x name : Name) (tasks : List PendingTask) (t : PendingTask) → find_named name tasks ≡ Some t
    → one (is_same name x) + times x (without_name name tasks) ≤ times x tasks
times-taken x name [] t found = absurd (none-some _ found)
times-taken x name (u ∷ us) t found =
    go (is_named name u) refl found (times-taken x name us t) (times-without_name x name us) where
      go : (b : Bool) → is_named name u ≡ b → (if b then Some u else find_named name us) ≡ Some t
          → (find_named name us ≡ Some t → one (is_same name x) + times x (without_name name us) ≤ times x us)
          → times x (without_name name us) ≤ times x us
          → one (is_same name x) + times x (if not b then u ∷ without_name name us else without_name name us) ≤ one (is_named x u) + times x us
      go true e f ih le = omega (arith, le, one-same x name u.name e)
      go false e f ih le = omega (arith, ih f)

-- a turn adds to a stack, without the name that took it, at most its children
after-taken : (x : Name) (bag : BagValue) (outer : List BagValue) (name : Name) (n ts : ℕ) (spawns : List Spawn) (sub : Option Kind) (t : PendingTask)
    → find_named name bag.tasks ≡ Some t
    → one (is_same name x) + times_in x (stack_after bag outer name n ts spawns sub) ≤ times_in x (bag ∷ outer) + times x (all_children n 0 spawns)
unfolding stack_after children
after-taken x bag outer name n ts spawns sub t found = omega (
  arith,
  times_in-sub x (bag.depth + 1) ts n (children_for Sub n 0 spawns) sub (record bag { tasks = without_name name bag.tasks ++ children_for Same n 0 spawns } ∷ with_super (children_for Super n 0 spawns) outer),
  times-append x (without_name name bag.tasks) (children_for Same n 0 spawns),
  times-taken x name bag.tasks t found,
  times_in-super x (children_for Super n 0 spawns) outer,
  times-children x n 0 spawns,
)

pub turn-at-most : (x : Name) (image : ImageValue) (budget : ℕ) (s mid : SerialState) (e : Entry)
    → (d : Turned image budget s mid e.name e)
    → one (is_same e.name x) + times_in x mid.stack
    ≤ times_in x s.stack + times x (all_children (s.count + 1) 0 d.done.spawns)
turn-at-most x image budget s mid e d =
    let top : times_in x s.stack ≡ times_in x (d.bag ∷ d.outer) = sym (times_in-inner x s.stack) ∙ ap (times_in x) d.may.top in
    let le = after-taken x d.bag d.outer e.name (s.count + 1) d.task.ts d.done.spawns d.done.sub d.task d.may.found in
    let stack = ap (λ m. times_in x m.stack) d.state in
    omega (arith, top, le, stack)

-- names up to a count, each at most once, and what the next turn makes, its own at most once, are names up to the
-- next count, each at most once
one-more : (c i n m k : ℕ) → m ≡ n + 1 → k ≤ one ((n + 1 == c) && nat_le 0 i) → one (nat_le c n) + k ≤ one (nat_le c m)
one-more c i n m k e h = grind (arith, nat_tests, common_steps)

turns-fit : (x : Name) (image : ImageValue) (budget : ℕ) (s : SerialState) (journal : List Entry) (after : SerialState) (k : ℕ)
    → Runs image budget s journal after
    → k + times_in x s.stack ≤ one (nat_le x.creator s.count)
    → k + turns_of x journal + times_in x after.stack ≤ one (nat_le x.creator after.count)
turns-fit x image budget s [] after k run h =
    subst (λ z. k + 0 + times_in x z.stack ≤ one (nat_le x.creator z.count)) run (omega (arith, h))
turns-fit x image budget s (e ∷ es) after k (mid, t, rest) h =
    let d = turn-did image budget s mid e.name e t in
    let count : mid.count ≡ s.count + 1 = ap (λ m. m.count) d.state in
    let step = turn-at-most x image budget s mid e d in
    let more = one-more x.creator x.index s.count mid.count _ count (children-fresh x (s.count + 1) 0 d.done.spawns) in
    let ih = turns-fit x image budget mid es after (k + one (is_same e.name x)) rest (omega (arith, h, step, more)) in
    omega (arith, ih)

pub at_most_one : (b : Bool) → one b ≤ 1
at_most_one true = omega arith
at_most_one false = omega arith

pub distinct : (image : ImageValue) → (budget : ℕ) → (journal : List Entry) → (state : SerialState)
    → IsRun image budget journal state → TurnsAreDistinct journal
distinct image budget journal state run name =
    let base = AreNamed-opening image.kind image.tasks _ refl name in
    let all = turns-fit name image budget (opening image) journal state 0 run (omega (arith, base)) in
    omega (arith, all, at_most_one (nat_le name.creator state.count))
