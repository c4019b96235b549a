-- Who takes a turn was made by the image or by a turn before it.
use Rattle.std.proofs.Common.{◌≡◌, refl, ap, subst, ℕ, ◌+◌, ◌≤◌, Bool, true, false, List, [], ◌∷◌, length, All, Some}
use Rattle.std.proofs.Common.{if◌then◌else◌, arith}
use Rattle.std.specs.List.{AllByRecursion}
use Rattle.std.proofs.lemmas.Bool.Decides.{nat_tests}
use Rattle.std.proofs.lemmas.Grind.{common_steps}
use Rattle.std.proofs.lemmas.List.Elements.{All-from_recursion}
use Rattle.std.proofs.lemmas.Option.{none-some}
use Rattle.guest_image.specs.ImageValue.{ImageValue}
use Rattle.guest_image.specs.declared.image.Kind.{Kind}
use Rattle.task_desc.specs.declared.desc.Name.{Name}
use Rattle.pending_list.specs.declared.task.PendingTask.{PendingTask}
use Rattle.run_journal.specs.declared.journal.Entry.{Entry}
use Rattle.conflict_book.specs.serial_machine.Run.{IsRun, Runs, opening}
use Rattle.conflict_book.specs.serial_machine.State.{SerialState}
use Rattle.conflict_book.specs.serial_machine.Turn.{find_named, is_named}
use Rattle.conflict_book.proofs.Below.run_law.Proved.{turn-did, Turned}
use Rattle.resume_image.proofs.Bags.{AreGood, good_inner}
use Rattle.resume_image.proofs.Rising.{AreOld, IsOld}
use Rattle.resume_image.proofs.Standing.{Stands, opening_stands, turn_stands}

found_old : (count : ℕ) (kind : Kind) (name : Name) (tasks : List PendingTask) (t : PendingTask)
    → find_named name tasks ≡ Some t
    → AllByRecursion (IsOld count kind) tasks → name.creator ≤ count
found_old count kind name [] t found each = absurd (none-some _ found)
found_old count kind name (u ∷ us) t found each =
    go (is_named name u) refl found (λ later. found_old count kind name us t later each.1)
  where
    go : (b : Bool) → is_named name u ≡ b → (if b then Some u else find_named name us) ≡ Some t
        → (find_named name us ≡ Some t → name.creator ≤ count) → name.creator ≤ count
    go true is at rest =
        let creator : u.name.creator ≡ name.creator = grind (arith, nat_tests, common_steps) in
        let old : u.name.creator ≤ count = each.0.0 in
        omega (arith, creator, old)
    go false is at rest = rest at

turn_old : (image : ImageValue) (budget : ℕ) (s after : SerialState) (e : Entry) → Stands image s
    → Turned image budget s after e.name e → e.name.creator ≤ s.count
turn_old image budget s after e stands did =
    let old : AreGood (AreOld s.count) (did.bag ∷ did.outer) = subst (AreGood (AreOld s.count)) did.may.top (good_inner (AreOld s.count) s.stack stands.old) in
    found_old s.count did.bag.kind e.name did.bag.tasks did.task did.may.found old.0.each

runs_old : (image : ImageValue) (budget : ℕ) (s : SerialState) (es : List Entry) (last : SerialState) (most : ℕ)
    → s.count + length es ≤ most → Stands image s
    → Runs image budget s es last → AllByRecursion (λ (e : Entry). e.name.creator ≤ most) es
runs_old image budget s [] last most fits stands run = tt
runs_old image budget s (e ∷ es) last most fits stands (mid, turned, rest) =
    let did = turn-did image budget s mid e.name e turned in
    let count : mid.count ≡ s.count + 1 = ap (λ (st : SerialState). st.count) did.state in (
      omega (arith, turn_old image budget s mid e stands did, fits),
      runs_old image budget mid es last most (omega (arith, count, fits)) (turn_stands image budget s mid e.name e did stands) rest,
    )

pub creators_are_turns : (image : ImageValue) → (budget : ℕ) → (journal : List Entry) → (state : SerialState)
    → IsRun image budget journal state
    → All (λ (e : Entry). e.name.creator ≤ length journal) journal
creators_are_turns image budget journal state run =
    All-from_recursion (λ (e : Entry). e.name.creator ≤ length journal) journal
    (runs_old image budget (opening image) journal state (length journal) (omega arith) (opening_stands image) run)
