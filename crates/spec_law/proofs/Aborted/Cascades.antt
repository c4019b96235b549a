-- A task's cascade holds, beside it, later ones alone; what is taken back for an access of a task is later than it.
use Rattle.std.proofs.Common.{◌≡◌, ◌⊎◌, ℕ, Bool, true, List, length, Option, Some, sym, subst, ◌∙◌, inl, inr}
use Rattle.std.specs.declared.cmp.Ordering.TheVariants.{Less}
use Rattle.std.proofs.lemmas.Cmp.{tied_itself}
use Rattle.abort_cascade.specs.Cascade.{Marked, Reached, start, step}
use Rattle.fractal_vt.specs.Keys.{key_cmp}
use Rattle.fractal_vt.proofs.Proved.{key_cmp_total}
use Rattle.guest_image.specs.ImageValue.{ImageValue}
use Rattle.spec_state.specs.declared.task.Task.{Task}
use Rattle.spec_state.specs.View.{View, task_at}
use Rattle.spec_state.specs.Aborts.{PullsInView, IsCascade, OnlyNode}
use Rattle.spec_law.specs.Sound.{Sound, SoundOrder}
use Rattle.spec_state.specs.Queries.{Conflicts}
use Rattle.spec_law.specs.Laws.{CascadeIsLater, ConflictsSpareAsker}
use Rattle.spec_law.proofs.Aborted.Pulled.{IsTaskAbove, pulled_above}

-- where each first task is this one, under an id of `own`, or lies above it, so is each task that is reached
module _ (view : View) (heir : Option ℕ) (sound : SoundOrder view heir) (count : ℕ) (pull : ℕ → ℕ → Bool) (pulls : (a b : ℕ) → pull a b ≡ true → PullsInView view a b) (own firsts : ℕ → Type 0) (task : Task) (here : (k : ℕ) → own k → task_at view k ≡ Some task) (each : (k : ℕ) → firsts k → own k ⊎ IsTaskAbove view task k) where
  -- what is taken back with one of these lies above as well
  pulled_from : (a b : ℕ) → own a ⊎ IsTaskAbove view task a → PullsInView view a b → IsTaskAbove view task b
  pulled_from a b (inl is) pulled = pulled_above view heir sound a b task (here a is) pulled
  pulled_from a b (inr above) pulled =
      let up = pulled_above view heir sound a b above.0 above.1 pulled in
      (up.0, up.1, key_cmp_total.trans task.key above.0.key up.0.key above.2 up.2)

  pub reached_later : (k : ℕ) → Reached count pull firsts k → own k ⊎ IsTaskAbove view task k
  reached_later k (start a is) = each k is
  reached_later k (step {a} b before in_a in_b pulled) =
      inr (pulled_from a b (reached_later a before) (pulls a b pulled))

-- no task is above itself
not_above_itself : (task : Task) → key_cmp task.key task.key ≡ Less → ⊥
not_above_itself task less = absurd (cc (less, tied_itself key_cmp_total task.key))

pub cascade_is_later : CascadeIsLater
cascade_is_later image view first task marks sound there cascade id marked other =
    elim (reached_later view sound.heir sound.order (length marks) cascade.pull (λ a b. (cascade.pulls a b).0) (λ k. k ≡ first) (OnlyNode first) task
    (λ k is. subst (λ j. task_at view j ≡ Some task) (sym is) there) (λ k is. inl is) id (cascade.least.reached id marked)) [
      | inl is ↦ absurd (other is)
      | inr above ↦ above
    ]

-- what is taken back for an access of a task is later than the task
pub conflicts_are_later : (image : ImageValue) (view : View) (id line : ℕ) (task : Task) (write : Bool) (marks : List Bool)
    → Sound image view → task_at view id ≡ Some task → IsCascade view (Conflicts view task line write) marks → (k : ℕ)
    → Marked marks k → IsTaskAbove view task k
conflicts_are_later image view id line task write marks sound there cascade k marked =
    elim (reached_later view sound.heir sound.order (length marks) cascade.pull (λ a b. (cascade.pulls a b).0) (λ k. ⊥) (Conflicts view task line write) task
    (λ k is. absurd is) (λ k c. inr (c.other, c.later.there, c.later.later)) k (cascade.least.reached k marked)) [
      | inl is ↦ absurd is
      | inr above ↦ above
    ]

pub conflicts_spare_asker : ConflictsSpareAsker
conflicts_spare_asker image view id line task write marks sound there cascade marked =
    let above = conflicts_are_later image view id line task write marks sound there cascade id marked in
    let both : Some above.0 ≡ Some task = sym above.1 ∙ there in
    let same : above.0 ≡ task = cc in
    not_above_itself task (subst (λ t. key_cmp task.key t.key ≡ Less) same above.2)
