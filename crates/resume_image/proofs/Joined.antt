-- A run and one that went on from its saved image are one run.
use Rattle.std.proofs.Common.{◌≡◌, refl, sym, ap, ◌∙◌, subst, ℕ, ◌||◌, Bool, true, false, List, [], ◌∷◌, ◌++◌}
use Rattle.std.proofs.Common.{length, map}
use Rattle.std.proofs.lemmas.Bool.{or_left, or_right}
use Rattle.std.specs.List.{list_any}
use Rattle.guest_image.specs.ImageValue.{ImageValue}
use Rattle.task_desc.specs.declared.desc.Name.{Name}
use Rattle.pending_list.specs.declared.task.PendingTask.{PendingTask}
use Rattle.run_journal.specs.declared.journal.Entry.{Entry}
use Rattle.conflict_book.specs.spec_state.declared.pending.Pending.{Pending}
use Rattle.conflict_book.specs.serial_machine.BagValue.{BagValue}
use Rattle.conflict_book.specs.serial_machine.Run.{Runs, opening}
use Rattle.conflict_book.specs.serial_machine.State.{SerialState}
use Rattle.conflict_book.specs.serial_machine.Turn.{inner, is_named, is_pending}
use Rattle.conflict_book.proofs.Below.serial_machine.Proved.{is_pending-inner}
use Rattle.resume_image.specs.Saved.{saved_image, saved_task}
use Rattle.resume_image.specs.Joined.{RunsJoin, shifted_name, shifted_entry}
use Rattle.resume_image.proofs.Followed.{runs_followed}
use Rattle.resume_image.proofs.Opened.{saved_opens}
use Rattle.resume_image.proofs.Shifted.{AreShifted, shifted_task}
use Rattle.conflict_book.proofs.Below.task_law.Proved.{named_same, same_named}

runs_more : (image : ImageValue) (budget : ℕ) (es more : List Entry) (s mid after : SerialState)
    → Runs image budget s es mid → Runs image budget mid more after
    → Runs image budget s (es ++ more) after
runs_more image budget [] more s mid after done on = subst (λ st. Runs image budget st more after) (sym done) on
runs_more image budget (e ∷ es) more s mid after (next, turned, rest) on =
    (next, turned, runs_more image budget es more next mid after rest on)

module _ (turns : ℕ) (pendings : List Pending) where
  -- a name that pends in the second state, and its shifted name
  abbrev Pends : (Name → Bool) → Name → Type 0
  Pends pends name = (own : Name) × (pends own ≡ true) × (name ≡ shifted_name turns pendings own)

  either : (a b : Bool) → (a || b) ≡ true → (P : Type 0) → (a ≡ true → P) → (b ≡ true → P) → P
  either true b is P one other = one refl
  either false b is P one other = other is

  bag_back : (name : Name) (ts : List PendingTask)
      → list_any (is_named name) (map (shifted_task turns pendings) ts) ≡ true
      → Pends (λ own. list_any (is_named own) ts) name
  bag_back name [] is = absurd (cc (is))
  bag_back name (t ∷ ts) is =
      either (is_named name (shifted_task turns pendings t)) (list_any (is_named name) (map (shifted_task turns pendings) ts)) is
      (Pends (λ own. list_any (is_named own) (t ∷ ts)) name)
      (λ here. (t.name, or_left (is_named t.name t) (list_any (is_named t.name) ts) (same_named t.name t refl), sym (named_same name (shifted_task turns pendings t) here)))
      (λ there. (let rest = bag_back name ts there in
      (rest.0, or_right (is_named rest.0 t) (list_any (is_named rest.0) ts) rest.1, rest.2)))

  bag_there : (own : Name) (ts : List PendingTask) → list_any (is_named own) ts ≡ true
      → list_any (is_named (shifted_name turns pendings own)) (map (shifted_task turns pendings) ts) ≡ true
  bag_there own [] is = absurd (cc (is))
  bag_there own (t ∷ ts) is =
      either (is_named own t) (list_any (is_named own) ts) is
      (list_any (is_named (shifted_name turns pendings own)) (map (shifted_task turns pendings) (t ∷ ts)) ≡ true)
      (λ here. or_left _ _ (same_named (shifted_name turns pendings own) (shifted_task turns pendings t) (ap (shifted_name turns pendings) (named_same own t here))))
      (λ there. or_right (is_named (shifted_name turns pendings own) (shifted_task turns pendings t)) _ (bag_there own ts there))

  stack_back : (name : Name) (xs ys : List BagValue) → AreShifted turns pendings xs ys → is_pending name xs ≡ true
      → Pends (λ own. is_pending own ys) name
  stack_back name [] [] same is = absurd (cc (is))
  stack_back name [] (y ∷ ys) same is = absurd same
  stack_back name (x ∷ xs) [] same is = absurd same
  stack_back name (x ∷ xs) (y ∷ ys) same is =
      either (list_any (is_named name) x.tasks) (is_pending name xs) is (Pends (λ own. is_pending own (y ∷ ys)) name)
      (λ here. (let one = bag_back name y.tasks (sym (ap (λ (b : BagValue). list_any (is_named name) b.tasks) same.0) ∙ here) in
      (one.0, or_left (list_any (is_named one.0) y.tasks) (is_pending one.0 ys) one.1, one.2)))
      (λ there. (let rest = stack_back name xs ys same.1 there in
      (rest.0, or_right (list_any (is_named rest.0) y.tasks) (is_pending rest.0 ys) rest.1, rest.2)))

  stack_there : (own : Name) (xs ys : List BagValue) → AreShifted turns pendings xs ys → is_pending own ys ≡ true
      → is_pending (shifted_name turns pendings own) xs ≡ true
  stack_there own [] [] same is = absurd (cc (is))
  stack_there own [] (y ∷ ys) same is = absurd same
  stack_there own (x ∷ xs) [] same is = absurd same
  stack_there own (x ∷ xs) (y ∷ ys) same is =
      either (list_any (is_named own) y.tasks) (is_pending own ys) is (is_pending (shifted_name turns pendings own) (x ∷ xs) ≡ true)
      (λ here. or_left _ _ (ap (λ (b : BagValue). list_any (is_named (shifted_name turns pendings own)) b.tasks) same.0 ∙ bag_there own y.tasks here))
      (λ there. or_right (list_any (is_named (shifted_name turns pendings own)) x.tasks) _ (stack_there own xs ys same.1 there))

pub runs_join : RunsJoin
runs_join image within budget one two memory output pendings left some root second run =
    let opened = saved_opens image budget one memory output pendings within left some root in
    let on = runs_followed image budget memory (map saved_task pendings) (length one) output pendings opened.saved
    left.state (opening (saved_image image memory pendings)) two second opened.follows run in
    record {
      state = on.after;
      run =
          runs_more image budget one (map (shifted_entry (length one) pendings) two) (opening image) left.state on.after left.run on.runs;
      memory_is = on.follows.memory;
      output_is = on.follows.output;
      pending = λ name. (
        λ is. (let there = stack_back (length one) pendings name (inner on.after.stack) (inner second.stack) on.follows.stack
            (is_pending-inner name on.after.stack ∙ is) in
            (there.0, sym (is_pending-inner there.0 second.stack) ∙ there.1, there.2)),
        λ found.
            ap (λ n. is_pending n on.after.stack) found.2
            ∙ sym (is_pending-inner (shifted_name (length one) pendings found.0) on.after.stack)
            ∙ stack_there (length one) pendings found.0 (inner on.after.stack) (inner second.stack) on.follows.stack
            (is_pending-inner found.0 second.stack ∙ found.1),
      );
    }
