-- A dispatch that is granted leaves a sound view, and so does an abort or a commit that is.
use Rattle.std.proofs.Common.{ℕ, ◌≡◌, ◌≢◌, ◌<◌, true, false, Some, sym, ap, subst, ◌∙◌, arith}
use Rattle.std.specs.Prelude.{length}
use Rattle.guest_image.specs.ImageValue.{ImageValue}
use Rattle.run_journal.specs.declared.end.End.TheVariants as ends
use Rattle.event_def.specs.spec_state.declared.numbers.TheConstants.{DISPATCH_NUMBERS}
use Rattle.event_def.specs.spec_state.View.{View}
use Rattle.event_def.specs.spec_state.Tasks.{is_dispatched}
use Rattle.event_def.specs.spec_state.Least.{IsLeastTask, IsTheLeast}
use Rattle.event_def.specs.spec_state.Numbers.{FreesNumber, has_free, renumbers}
use Rattle.event_def.specs.spec_state.Changes.{Commits}
use Rattle.spec_law.specs.Sound.{Sound}
use Rattle.event_def.specs.spec_state.Aborts.{OnlyNode}
use Rattle.spec_law.proofs.Proved.{abort_of_one_is_sound, commit_is_sound_turn, dispatch_stays_sound, least_is_one}
use Rattle.spec_law.proofs.Proved.{renumbering_leaves_numbers, renumbering_stays_sound}
use Rattle.event_def.specs.declared.event.Event.TheVariants as event
use Rattle.event_def.specs.declared.event.Reply.TheVariants as reply
use Rattle.event_def.specs.Book.{BookView}
use Rattle.event_def.specs.Causes.{AllCoresHeld, IsGranted}
use Rattle.event_def.specs.Events.{FreesCore, DispatchEvent, AbortEvent}
use Rattle.event_def.specs.Events as events
use Rattle.event_law.proofs.Ends.{one_least, not_all}
use Rattle.event_law.proofs.Keeps.Idle.{least_idle}
use Rattle.event_law.proofs.Keeps.Forced.{Follows, follows_itself, abort_follows, heir_is, idle_is_open}

-- freeing a dispatch number leaves a sound view, in which one is left
pub number_follows : (image : ImageValue) (old mid ready : View) → Follows image old mid → FreesNumber mid ready
    → Follows image old ready × (ready.next < DISPATCH_NUMBERS)
number_follows image old mid ready follows (has_free left) = (follows, left)
number_follows image old mid ready follows (renumbers new spent r) = (
  record {
    now = (renumbering_stays_sound image mid new follows.now r).0;
    settings = ap (λ view. view.settings) r.frame ∙ follows.settings;
  },
  renumbering_leaves_numbers image mid new follows.now r,
)

module _ (N : Type 0) (image : ImageValue) (book : BookView) (sound : Sound image book.view) (tile : ℕ) where
  -- where all cores are held and a dispatch is granted, the least task is idle, so there is no heir
  no_heir : IsGranted {N = N} book (event.Dispatch tile) → AllCoresHeld book.view tile → (v : ℕ) → sound.heir ≢ Some v
  no_heir granted held v same =
      granted reply.Empty (λ id task idle.
      let low = least_idle book.view tile sound.sizes id task idle in
      let heir = heir_is image book.view sound v same in
      let not_least : IsTheLeast book.view low.0 → ⊥ = λ least.
      (let one : heir.0 ≡ least.0 = one_least book.view (least_is_one book.view) v low.0 heir.0 least.0 heir.1 least.1 in
      let both : Some least.0 ≡ Some low.1 = sym least.1.queued_at.there ∙ low.2.idle.there in
      let this : least.0 ≡ low.1 = cc in
      let open' : is_dispatched low.1 ≡ false = idle_is_open image book.view sound low.0 low.1 low.2.idle.there low.2.idle.idle in
      let no_way : true ≡ false = sym heir.2 ∙ ap is_dispatched (one ∙ this) ∙ open' in
      absurd (cc (no_way))) in
      granted reply.Busy (record { held = held; id = low.0; task = low.1; idle = low.2; not_least = not_least }))

  -- freeing a core leaves a sound view
  pub core_follows : IsGranted {N = N} book (event.Dispatch tile) → {aborted : ℕ} {mid : View}
      → FreesCore tile book.view aborted mid → Follows image book.view mid
  core_follows granted (events.has_free core free) = follows_itself image book.view sound
  core_follows granted (events.aborts_latest aborted v task new held latest aborts) =
      abort_follows image (OnlyNode v) book.view new aborted aborts
      (abort_of_one_is_sound image v task book.view aborted new sound latest.of_kind.1.there (no_heir granted held v) aborts).0

  -- a dispatch
  pub dispatch_leads : (aborted : ℕ) (new : View) → IsGranted {N = N} book (event.Dispatch tile)
      → DispatchEvent tile book.view aborted new → Follows image book.view new
  dispatch_leads aborted new granted made =
      let ready = number_follows image book.view made.mid made.ready (core_follows granted made.forced) made.number in
      record {
        now = (dispatch_stays_sound image made.ready new ready.0.now tile ready.1 made.change).0;
        settings = ap (λ view. view.settings) made.change.frame ∙ ready.0.settings;
      }

  -- an abort
  pub abort_leads : (aborted : ℕ) (new : View) → IsGranted {N = N} book (event.Abort tile)
      → AbortEvent tile book.view aborted new → Follows image book.view new
  abort_leads aborted new granted made =
      abort_follows image (OnlyNode made.id) book.view new aborted made.aborts
      (abort_of_one_is_sound image made.id made.task book.view aborted new sound made.latest.of_kind.there
      (λ same.
      (let heir = heir_is image book.view sound made.id same in
      let both : Some heir.0 ≡ Some made.task = sym heir.1.queued_at.there ∙ made.latest.of_kind.there in
      let this : heir.0 ≡ made.task = cc in
      granted reply.Firm (record { id = made.id; task = made.task; latest = made.latest; least = subst (IsLeastTask book.view made.id) this heir.1 })))
      made.aborts).0

module _ (N : Type 0) (image : ImageValue) (book : BookView) (sound : Sound image book.view) where
  -- a commit that is granted is not at the limit
  below_limit : (new : View) → IsGranted {N = N} book event.Commit → Commits book.view new
      → length book.view.history < book.view.settings.commits
  below_limit new granted commit =
      let few = sound.tasks.few in
      let apart : length book.view.history ≢ book.view.settings.commits =
      λ limit. granted reply.Ended (ends.Limit, (not_all book.view (least_is_one book.view) commit.id commit.task commit.least, limit)) in
      omega (arith, few, apart)

  -- a commit
  pub commit_leads : (new : View) → IsGranted {N = N} book event.Commit → Commits book.view new
      → Follows image book.view new
  commit_leads new granted commit = record {
    now = (commit_is_sound_turn image book.view new sound (below_limit new granted commit) commit).0;
    settings = ap (λ view. view.settings) commit.frame;
  }
