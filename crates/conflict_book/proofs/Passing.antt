-- The placers after a commit.
use Rattle.std.proofs.Common.{ℕ, ◌≡◌, List, length, sym, ap, subst, ◌∙◌}
use Rattle.guest_image.specs.ImageValue.{ImageValue}
use Rattle.place_policy.specs.Policy.{Policy}
use Rattle.trace_tap.specs.TapValue.{TapValue}
use Rattle.event_step.specs.spec_state.declared.settings.Settings.{Settings}
use Rattle.event_step.specs.spec_state.Effects.{EffectValue}
use Rattle.event_step.specs.spec_state.View.{View}
use Rattle.event_step.specs.spec_law.Sound.{Sound}
use Rattle.event_step.specs.event_def.declared.event.Came.{Came}
use Rattle.event_step.specs.event_def.declared.event.Event.{Event}
use Rattle.event_step.specs.event_def.declared.event.Event.TheVariants as event
use Rattle.event_step.specs.event_def.Telling.{ComesTelling}
use Rattle.event_step.specs.event_def.Book.{book_of}
use Rattle.event_move.specs.Moving.{CommitComes, placers_after}
use Rattle.conflict_book.proofs.Telling.{comes_keeps_settings}

-- what comes of a commit, with the placers that are left as the view afterwards tells
pub commit_comes : (N : Type 0) (image : ImageValue) (old new : View) (came : Came) (before after : List Policy)
    (effect : EffectValue) → Sound image old
    → CommitComes N old came new effect → after ≡ placers_after new.settings.phase (length new.history) came before
    → (taps : List TapValue) (steps : ℕ)
    → ComesTelling {N = N} (book_of old before taps steps) event.Commit came new after effect
commit_comes N image old new came before after effect sound comes passed taps steps =
    let commit : Event N = event.Commit in
    let first = comes before taps steps in
    let same : new.settings ≡ old.settings =
    comes_keeps_settings N image (book_of old before taps steps) commit new
    (placers_after old.settings.phase (length new.history) came before) tt sound came first.0 in
    let is : placers_after old.settings.phase (length new.history) came before ≡ after =
    ap (λ (s : Settings). placers_after s.phase (length new.history) came before) (sym same) ∙ sym passed in
    subst (λ ps. ComesTelling (book_of old before taps steps) commit came new ps effect) is first
