-- Only names that were made take a turn, and where no task is pending each of them took one.
use Rattle.std.proofs.Common.{◌≡◌, refl, sym, ap, ◌∙◌, subst, ◌≤◌, ◌<◌, ◌+◌, ◌==◌, ◌&&◌, ◌⊎◌, inl, inr, nat_le, nat_lt}
use Rattle.std.proofs.Common.{ℕ, zero, suc, Bool, true, false, List, [], ◌∷◌, ◌++◌, length, arith, append_assoc}
use Rattle.std.proofs.lemmas.Grind.{common_steps}
use Rattle.std.proofs.lemmas.Bool.Decides.{nat_tests}
use Rattle.std.proofs.lemmas.Option.{same_Some}
use Rattle.guest_image.specs.ImageValue.{ImageValue}
use Rattle.task_desc.specs.declared.desc.Name.{Name}
use Rattle.task_desc.specs.declared.desc.Spawn.{Spawn}
use Rattle.run_journal.specs.declared.journal.Entry.{Entry}
use Rattle.serial_machine.specs.State.{SerialState}
use Rattle.serial_machine.specs.Names.{one, times, times_in}
use Rattle.serial_machine.specs.Turn.{child}
use Rattle.serial_machine.specs.Run.{Runs, IsRun, opening, image_task}
use Rattle.serial_machine.proofs.Proved.{AreNamed-opening, all_children, times_in-inner, turn-done}
use Rattle.run_law.specs.Laws.{is_same, turns_of, NameIsOfImage, NameIsOfChild, NameIsMade, IsCompleteRun}
use Rattle.run_law.proofs.Turned.{Turned, turn-did}
use Rattle.run_law.proofs.RunSteps.{Runs-more, turn-taken}
use Rattle.run_law.proofs.Distinct.{turn-at-most, distinct}
use Rattle.run_law.proofs.Counted.{times-numbered, turn-at-least, AreNamed-turn, AreNamed-run, times_in-runs, count-run}

-- the children of a turn, and the tasks of the image, by their names
times-children : (x : Name) (n : ℕ) (spawns : List Spawn)
    → times x (all_children n 0 spawns) ≡ one ((n == x.creator) && (nat_le 0 x.index && nat_lt x.index (0 + length spawns)))
times-children x n spawns = times-numbered n (child n) (λ k a. refl) x 0 spawns

times-image : (x : Name) (image : ImageValue)
    → times_in x (opening image).stack ≡ one ((0 == x.creator) && (nat_le 0 x.index && nat_lt x.index (0 + length image.tasks))) + 0
times-image x image = ap (λ n. n + 0) (times-numbered 0 (image_task image.kind) (λ k a. refl) x 0 image.tasks)

-- what a count of a name says, and from what it follows
one-parts : (n c i size : ℕ) → 1 ≤ one ((n == c) && (nat_le 0 i && nat_lt i (0 + size))) → (c ≡ n) × (i < size)
one-parts n c i size h = (grind (arith, nat_tests, common_steps), grind (arith, nat_tests, common_steps))

one-whole : (n c i size : ℕ) → c ≡ n → i < size → 1 ≤ one ((n == c) && (nat_le 0 i && nat_lt i (0 + size)))
one-whole n c i size same less = grind (arith, nat_tests, common_steps)

turns_of-append : (x : Name) (es more : List Entry) → turns_of x (es ++ more) ≡ turns_of x es + turns_of x more
turns_of-append x [] more = omega arith
turns_of-append x (e ∷ es) more = omega (arith, turns_of-append x es more)

-- of two counts that are not both zero, the first is at least one, or what follows from the second holds
one-of : (a k : ℕ) (P : Type 0) → 1 ≤ a + k → (1 ≤ k → P) → (1 ≤ a) ⊎ P
one-of zero k P h make = inr (make (omega (arith, h)))
one-of (suc a) k P h make = inl (omega arith)

from-turn : (b : Bool) (a k m c : ℕ) (P : Type 0) → one b + m ≤ a + k → 1 ≤ one b + c → (1 ≤ c → (1 ≤ m) ⊎ P)
    → (1 ≤ k → P) → (1 ≤ a) ⊎ P
from-turn true a k m c P le h later make = one-of a k P (omega (arith, le)) make
from-turn false a k m c P le h later make = go (later (omega (arith, h))) where
  go : (1 ≤ m) ⊎ P → (1 ≤ a) ⊎ P
  go (inl pending) = one-of a k P (omega (arith, le, pending)) make
  go (inr made) = inr made

-- a name that takes a turn is pending now, or a turn of the journal makes it
made-before : (x : Name) (image : ImageValue) (budget : ℕ) (front : List Entry) (s : SerialState)
    → IsRun image budget front s → (es : List Entry) (after : SerialState) → Runs image budget s es after
    → 1 ≤ turns_of x es → (1 ≤ times_in x s.stack) ⊎ NameIsOfChild image budget (front ++ es) x
made-before x image budget front s run [] after on h = absurd (omega (arith, h))
made-before x image budget front s run (e ∷ es) after (mid, t, rest) h =
    let d = turn-did image budget s mid e.name e t in
    let step = turn-at-most x image budget s mid e d in
    let count = count-run image budget front s run in
    let later : 1 ≤ turns_of x es → (1 ≤ times_in x mid.stack) ⊎ NameIsOfChild image budget (front ++ e ∷ es) x =
    λ more. subst (λ j. (1 ≤ times_in x mid.stack) ⊎ NameIsOfChild image budget j x) (append_assoc front (e ∷ []) es)
    (made-before x image budget (front ++ e ∷ []) mid (Runs-more image budget front (opening image) s mid e run t) es after rest more) in
    let make : 1 ≤ times x (all_children (s.count + 1) 0 d.done.spawns)
    → NameIsOfChild image budget (front ++ e ∷ es) x =
    λ one. let parts =
    one-parts (s.count + 1) x.creator x.index (length d.done.spawns) (omega (arith, one, times-children x (s.count + 1) d.done.spawns)) in
    record {
      before = front;
      state = s;
      entry = e;
      stands = record { entries_behind = es; stands = refl; run = run };
      bag = d.bag;
      outer = d.outer;
      task = d.task;
      done = d.done;
      may = d.may;
      ran = d.run;
      creator = omega (arith, parts.0, count);
      index = parts.1;
    } in
    from-turn (is_same e.name x) (times_in x s.stack) _ (times_in x mid.stack) (turns_of x es) _ step h later make

only-made : (image : ImageValue) (budget : ℕ) (journal : List Entry) (state : SerialState)
    → IsRun image budget journal state → (x : Name) → 1 ≤ turns_of x journal → NameIsMade image budget journal x
only-made image budget journal state run x h =
    go (made-before x image budget [] (opening image) refl journal state run h) where
      go : (1 ≤ times_in x (opening image).stack) ⊎ NameIsOfChild image budget journal x → NameIsMade image budget journal x
      go (inl first) = inl (one-parts 0 x.creator x.index (length image.tasks) (omega (arith, first, times-image x image)))
      go (inr made) = inr made

-- what was made takes a turn or is pending
image-taken : (image : ImageValue) (budget : ℕ) (journal : List Entry) (state : SerialState)
    → IsRun image budget journal state → (x : Name) → NameIsOfImage image x
    → 1 ≤ turns_of x journal + times_in x state.stack
image-taken image budget journal state run x of =
    let kept = times_in-runs x image budget (opening image) journal state (AreNamed-opening image.kind image.tasks _ refl) run in
    omega (arith, kept, times-image x image, one-whole 0 x.creator x.index (length image.tasks) of.0 of.1)

child-taken : (image : ImageValue) (budget : ℕ) (journal : List Entry) (state : SerialState)
    → IsRun image budget journal state → (x : Name) → NameIsOfChild image budget journal x
    → 1 ≤ turns_of x journal + times_in x state.stack
child-taken image budget journal state run x made =
    let taken = turn-taken image budget journal state made.before made.state made.entry run made.stands in
    let same = same_Some _ _ (sym taken.taken ∙ turn-done image budget made.state made.entry.name made.bag made.outer made.task made.done made.may made.ran) in
    let d : Turned image budget made.state taken.after made.entry.name made.entry =
    record { bag = made.bag; outer = made.outer; task = made.task; done = made.done; may = made.may; run = made.ran; state = ap (λ p. p.0) same; told = ap (λ p. p.1) same } in
    let named = AreNamed-run image budget made.before made.state made.stands.run in
    let step = turn-at-least x image budget made.state taken.after made.entry named d in
    let count = count-run image budget made.before made.state made.stands.run in
    let number : x.creator ≡ made.state.count + 1 = omega (arith, made.creator, count) in
    let kid = one-whole (made.state.count + 1) x.creator x.index (length made.done.spawns) number made.index in
    let kept = times_in-runs x image budget taken.after made.stands.entries_behind state (AreNamed-turn image budget made.state taken.after made.entry named d) taken.on in
    let whole = ap (turns_of x) made.stands.stands
    ∙ turns_of-append x made.before (made.entry ∷ made.stands.entries_behind) in
    omega (arith, step, kid, kept, whole, times-children x (made.state.count + 1) made.done.spawns)

made-taken : (image : ImageValue) (budget : ℕ) (journal : List Entry) (state : SerialState)
    → IsRun image budget journal state → (x : Name) → NameIsMade image budget journal x
    → 1 ≤ turns_of x journal + times_in x state.stack
made-taken image budget journal state run x (inl of) = image-taken image budget journal state run x of
made-taken image budget journal state run x (inr made) = child-taken image budget journal state run x made

pub complete : (image : ImageValue) → (budget : ℕ) → (journal : List Entry) → (state : SerialState)
    → IsRun image budget journal state → IsCompleteRun image budget journal state
complete image budget journal state run = record {
  only = only-made image budget journal state run;
  each = λ none x made.
      let empty : times_in x state.stack ≡ 0 = sym (times_in-inner x state.stack) ∙ ap (times_in x) none in
      omega (arith, empty, made-taken image budget journal state run x made, distinct image budget journal state run x);
}
