-- What is taken back with a task lies above it.
use Rattle.std.proofs.Common.{◌≡◌, ℕ, Option, Some, sym, subst, ◌∙◌, inl, inr}
use Rattle.std.specs.declared.cmp.Ordering.TheVariants.{Less}
use Rattle.fractal_vt.specs.Keys.{key_cmp}
use Rattle.fractal_vt.specs.Levels.{levels_cmp}
use Rattle.order_law.specs.Tasks.{levels_of}
use Rattle.spec_state.specs.declared.task.Task.{Task}
use Rattle.spec_state.specs.View.{View, task_at}
use Rattle.spec_state.specs.Groups.{keyed_task}
use Rattle.spec_law.specs.Sound.{SoundOrder}
use Rattle.spec_state.specs.Aborts.{PullsInView}
use Rattle.spec_law.proofs.Tasks.Beside.{queued_stands}

-- under this id stands a task with a key above that of this one
abbrev pub IsTaskAbove : View → Task → ℕ → Type 0
IsTaskAbove view low id = (x : Task) × (task_at view id ≡ Some x) × (key_cmp low.key x.key ≡ Less)

-- what is taken back with a task is a task above it
pub pulled_above : (view : View) (heir : Option ℕ) → SoundOrder view heir → (a b : ℕ) (x : Task)
    → task_at view a ≡ Some x → PullsInView view a b → IsTaskAbove view x b
pulled_above view heir sound a b x there (inl child) =
    let has = sound.order.creators b (keyed_task child.child) a (queued_stands view heir b child.child child.there) child.made_by in
    let both : Some has.task ≡ Some (keyed_task x) = sym has.there ∙ queued_stands view heir a x there in
    let same : has.task ≡ keyed_task x = cc in
    (child.child, child.there, subst (λ t. levels_cmp (levels_of t) (levels_of (keyed_task child.child)) ≡ Less) same has.below)
pulled_above view heir sound a b x there (inr reads) =
    let both : Some reads.writer ≡ Some x = sym reads.there ∙ there in
    let same : reads.writer ≡ x = cc in
    (reads.reader, reads.later.there, subst (λ t. key_cmp t.key reads.reader.key ≡ Less) same reads.later.later)
