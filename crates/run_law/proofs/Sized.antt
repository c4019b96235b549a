-- A turn keeps the size of the memory, so that each run leaves one that reaches as far as the image's data.
use Rattle.std.proofs.Common.{◌≡◌, ◌≤◌, ◌-◌, ℕ, List, [], ◌∷◌, length, sym, ap, subst, ◌∙◌, arith}
use Rattle.std.specs.Prelude.{replicate}
use Rattle.std.proofs.lemmas.Grind.{common_steps}
use Rattle.std.proofs.lemmas.List.{length-append, length-replicate}
use Rattle.guest_image.specs.ImageValue.{ImageValue, IsImage}
use Rattle.run_law.proofs.Turned.{Turned, turn-did}
use Rattle.task_desc.specs.declared.desc.Name.{Name}
use Rattle.run_journal.specs.declared.journal.Entry.{Entry}
use Rattle.serial_machine.specs.Run.{IsRun, Runs, opening}
use Rattle.serial_machine.specs.State.{SerialState}
use Rattle.serial_machine.specs.Turn.{context_in_bag}
use Rattle.serial_machine.proofs.Proved.{EndHolds, task_run-size}

-- a turn keeps the size of the memory
pub turned-keeps : (image : ImageValue) (budget : ℕ) (s after : SerialState) (name : Name) (e : Entry)
    → Turned image budget s after name e → length after.memory ≡ length s.memory
turned-keeps image budget s after name e did =
    ap (λ t. length t.memory) did.state
    ∙ subst (EndHolds (λ t. length t.memory ≡ length s.memory)) did.run
    (task_run-size image budget (context_in_bag image.version did.bag did.outer did.task) did.task.entry did.task.args s.memory)

pub runs-keep : (image : ImageValue) (budget : ℕ) (s : SerialState) (es : List Entry) (after : SerialState)
    → Runs image budget s es after → length after.memory ≡ length s.memory
runs-keep image budget s [] after same = ap (λ t. length t.memory) (sym same)
runs-keep image budget s (e ∷ es) after (mid, turned, rest) =
    runs-keep image budget mid es after rest
    ∙ turned-keeps image budget s mid e.name e (turn-did image budget s mid e.name e turned)

-- the opening memory reaches as far as the image's data
opening_reaches : (image : ImageValue) → image.data_size ≤ length (opening image).memory
opening_reaches image =
    omega (arith, length-append image.initial (replicate (image.data_size - length image.initial) 0), length-replicate {A = ℕ} (image.data_size - length image.initial) 0)

-- so does the memory after each run
pub run_reaches : (image : ImageValue) (budget : ℕ) (es : List Entry) (after : SerialState)
    → IsRun image budget es after → image.data_size ≤ length after.memory
run_reaches image budget es after run =
    omega (arith, opening_reaches image, runs-keep image budget (opening image) es after run)

-- the opening memory is as long as the image's data
pub length-opening : (image : ImageValue) → IsImage image → length (opening image).memory ≡ image.data_size
length-opening image h = grind (arith, common_steps, h.initial)

-- so is the memory after each run
pub run_sized : (image : ImageValue) (budget : ℕ) (es : List Entry) (after : SerialState) → IsImage image
    → IsRun image budget es after → length after.memory ≡ image.data_size
run_sized image budget es after within run =
    runs-keep image budget (opening image) es after run ∙ length-opening image within
