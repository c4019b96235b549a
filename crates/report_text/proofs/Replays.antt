-- What stands at a place of a journal, where two windows differ, and how a turn is refused.
use Rattle.std.proofs.Common.{◌≡◌, ◌≢◌, ℕ, zero, suc, ◌<◌, List, [], ◌∷◌, length, take, get_or, Some, None, Bool, true}
use Rattle.std.proofs.Common.{false, refl, sym, ap, ◌∙◌, arith, MatchBool}
use Rattle.std.specs.List.{slice_get}
use Rattle.std.proofs.lemmas.Option.{slice_get-get_or, same_Some}
use Rattle.std.proofs.Math.Seq.{take-length}
use Rattle.guest_image.specs.ImageValue.{ImageValue}
use Rattle.task_desc.specs.declared.desc.Name.{Name}
use Rattle.run_journal.specs.declared.journal.Entry.{Entry}
use Rattle.run_law.specs.serial_machine.declared.fault.TurnFault.{TurnFault}
use Rattle.run_law.specs.serial_machine.declared.fault.TurnFault.TheVariants as faults
use Rattle.run_law.specs.serial_machine.BagValue.{BagValue}
use Rattle.run_law.specs.serial_machine.State.{SerialState}
use Rattle.run_law.specs.serial_machine.TaskRun.{TaskEnd, Done, Trapped}
use Rattle.run_law.specs.serial_machine.Turn.{turn, TrapsSo, run_in_bag, RefusesTurn, find_named}
use Rattle.run_law.proofs.Below.serial_machine.Proved.{may-why}

pub found_at : (es : List Entry) (i : ℕ) (d e : Entry) → i < length es → e ≡ get_or es i d → slice_get es i ≡ Some e
found_at es i d e lt is = slice_get-get_or es i d lt ∙ ap Some (sym is)

pub none-other : {A : Type 0} (a : A) → None ≡ Some a → ⊥
none-other a h = cc

-- ---- windows

-- the lists are equal up to the end of the second, and the first goes on
pub last_other : {X : Type 0} (xs ys : List X) (n : ℕ) → n ≡ length ys → take n xs ≡ take n ys → length xs ≢ n
    → slice_get xs n ≢ slice_get ys n
last_other [] [] n e same other = absurd (other (sym e))
last_other [] (y ∷ ys) zero e same other = absurd (omega (arith, e))
last_other [] (y ∷ ys) (suc n) e same other = cc
last_other (x ∷ xs) [] zero e same other = λ h. none-other x (sym h)
last_other (x ∷ xs) [] (suc n) e same other = absurd (omega (arith, e))
last_other (x ∷ xs) (y ∷ ys) zero e same other = absurd (omega (arith, e))
last_other (x ∷ xs) (y ∷ ys) (suc n) e same other =
    last_other xs ys n (omega (arith, e)) (cc) (λ h. other (omega (arith, h)))

-- the lists are equal up to the end of both
pub last_same : {X : Type 0} (xs ys : List X) (n : ℕ) → n ≡ length ys → take n xs ≡ take n ys → length xs ≡ n → xs ≡ ys
last_same xs ys n e same len =
    let first : take n xs ≡ xs = rw (← len) (take-length xs) in
    let second : take n ys ≡ ys = rw e (take-length ys) in
    sym first ∙ same ∙ second

-- ---- traps

-- a task that traps takes no turn
pub trap-none : (image : ImageValue) (budget : ℕ) (s : SerialState) (name : Name) (cause pc : ℕ)
    → TrapsSo image budget s name cause pc → turn image budget s name ≡ None
unfolding turn
trap-none image budget s name cause pc h = rw (h.may.top, h.may.found, h.may.least, h.run) refl

abbrev first-of : BagValue → List BagValue → BagValue
first-of d [] = d
first-of d (b ∷ bs) = b

abbrev rest-of : List BagValue → List BagValue
rest-of [] = []
rest-of (b ∷ bs) = bs

abbrev to_fault : TaskEnd → TurnFault
to_fault (Trapped c p) = faults.Trap c p
to_fault (Done t) = faults.Memory

-- a task that traps is refused so
pub trap-why : (image : ImageValue) (budget : ℕ) (s : SerialState) (name : Name) (cause pc : ℕ) (fault : TurnFault)
    → TrapsSo image budget s name cause pc → RefusesTurn image budget s name fault → fault ≢ faults.Memory
    → fault ≡ faults.Trap cause pc
trap-why image budget s name cause pc faults.NotPending t h other =
    absurd (may-why image budget s name faults.NotPending t.bag t.outer t.task t.may h)
trap-why image budget s name cause pc (faults.NotTop depth) t h other =
    absurd (may-why image budget s name (faults.NotTop depth) t.bag t.outer t.task t.may h)
trap-why image budget s name cause pc (faults.NotLeast ts) t h other =
    absurd (may-why image budget s name (faults.NotLeast ts) t.bag t.outer t.task t.may h)
trap-why image budget s name cause pc (faults.Trap c p) t h other =
    let bags : h.bag ≡ t.bag = ap (first-of t.bag) (sym h.may.top ∙ t.may.top) in
    let outers : h.outer ≡ t.outer = ap rest-of (sym h.may.top ∙ t.may.top) in
    let tasks : h.task ≡ t.task = same_Some h.task t.task (sym h.may.found ∙ ap (λ b. find_named name b.tasks) bags ∙ t.may.found) in
    ap to_fault (sym h.run ∙ ap (λ b. run_in_bag image budget s b h.outer h.task) bags ∙ ap (λ o. run_in_bag image budget s t.bag o h.task) outers ∙ ap (λ k. run_in_bag image budget s t.bag t.outer k) tasks ∙ t.run)
trap-why image budget s name cause pc faults.Memory t h other = absurd (other refl)

pub match-both : {P Q R S : Type 0} (b : Bool) → MatchBool b P Q → (P → R) → (Q → S) → MatchBool b R S
match-both true h f g = f h
match-both false h f g = g h
