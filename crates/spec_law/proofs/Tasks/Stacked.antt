-- The depths of the bags after any run of the serial machine fall by one down to 1.
use Rattle.std.proofs.Common.{ℕ, ◌+◌, List, [], ◌∷◌, refl, sym, subst, arith}
use Rattle.guest_image.specs.ImageValue.{ImageValue}
use Rattle.spec_state.proofs.Below.run_law.Proved.{turn-did, Turned}
use Rattle.run_journal.specs.declared.journal.Entry.{Entry}
use Rattle.spec_state.specs.serial_machine.Run.{Runs, IsRun, opening}
use Rattle.spec_state.specs.serial_machine.State.{SerialState, IsStack}
use Rattle.spec_state.proofs.Below.serial_machine.Proved.{IsStack-after, IsStack-inner}
use Rattle.spec_state.proofs.Below.task_law.Proved.{done-fits}

-- a turn keeps them so
turn_keeps_stack : (image : ImageValue) (budget : ℕ) (s mid : SerialState) (e : Entry) → IsStack s.stack
    → Turned image budget s mid e.name e → IsStack mid.stack
turn_keeps_stack image budget s mid e is did =
    subst (λ m. IsStack m.stack) (sym did.state) (
    IsStack-after did.bag did.outer e.name (s.count + 1) did.task.ts did.done.spawns did.done.sub
    (subst IsStack did.may.top (IsStack-inner s.stack is))
    (done-fits image budget s did.bag did.outer did.task did.done did.run))

-- so do the turns of a journal
runs_keep_stack : (image : ImageValue) (budget : ℕ) (s : SerialState) (es : List Entry) (after : SerialState)
    → IsStack s.stack → Runs image budget s es after → IsStack after.stack
runs_keep_stack image budget s [] after is run = subst (λ m. IsStack m.stack) run is
runs_keep_stack image budget s (e ∷ es) after is (mid, taken, rest) =
    runs_keep_stack image budget mid es after (turn_keeps_stack image budget s mid e is (turn-did image budget s mid e.name e taken)) rest

-- and so is the stack after any run: the opening has one bag, of depth 1
pub run_stack : (image : ImageValue) (budget : ℕ) (journal : List Entry) (after : SerialState)
    → IsRun image budget journal after → IsStack after.stack
run_stack image budget journal after run =
    runs_keep_stack image budget (opening image) journal after (refl, omega arith, tt) run
