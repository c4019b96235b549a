-- No act undoes a commit.
use Rattle.std.proofs.Common.{◌≡◌, ◌≤◌, ◌+◌, ℕ, length, refl, sym, ap, subst, ◌∙◌, arith, le_refl}
use Rattle.std.proofs.lemmas.List.{length-append}
use Rattle.watch_counts.specs.event_def.declared.event.Event.{Event}
use Rattle.watch_counts.specs.event_def.declared.event.Event.TheVariants as event
use Rattle.watch_counts.specs.event_def.declared.event.Reply.{Reply}
use Rattle.watch_counts.specs.event_def.declared.event.Reply.TheVariants as replies
use Rattle.watch_counts.specs.event_def.Advancing.{IsNoCommit}
use Rattle.watch_counts.specs.event_def.Book.{BookView}
use Rattle.watch_counts.specs.event_def.Happens.{Happens, IsMade}
use Rattle.watch_counts.proofs.Below.event_law.Proved.{event_stays}
use Rattle.watch_counts.specs.step_script.Asking.{Attempt, ComesOf, Hands, Says}

module _ (N : Type 0) (old new : BookView) (aborted : ℕ) where
  -- an event other than a commit leaves as many
  same_commits : (e : Event N) → IsNoCommit e → IsMade old e aborted new
      → length new.view.history ≡ length old.view.history
  same_commits e other made = ap (λ p. length p.0) (event_stays old aborted new.view new.placers N e other made.makes)

  -- a commit is one more
  pub one_commit : IsMade {N = N} old event.Commit aborted new → length new.view.history ≡ length old.view.history + 1
  one_commit made = ap length made.makes.0.history ∙ simp length-append refl

  made_commits : (e : Event N) → IsMade old e aborted new → length old.view.history ≤ length new.view.history
  made_commits event.Commit made = let more = one_commit made in omega (arith, more)
  made_commits (event.Dispatch tile) made = let same = same_commits (event.Dispatch tile) tt made in omega (arith, same)
  made_commits (event.Step tile core leg) made =
      let same = same_commits (event.Step tile core leg) tt made in omega (arith, same)
  made_commits (event.Abort tile) made = let same = same_commits (event.Abort tile) tt made in omega (arith, same)
  made_commits (event.Coalesce tile) made = let same = same_commits (event.Coalesce tile) tt made in omega (arith, same)
  made_commits (event.Split tile) made = let same = same_commits (event.Split tile) tt made in omega (arith, same)

  stay_commits : new ≡ old → length old.view.history ≤ length new.view.history
  stay_commits same = subst (λ (b : BookView). length old.view.history ≤ length b.view.history) (sym same) (le_refl _)

  event_commits : (e : Event N) (reply : Reply) → Happens old e reply aborted new
      → length old.view.history ≤ length new.view.history
  event_commits e replies.Ok happens = made_commits e happens
  event_commits e replies.Memory happens = stay_commits happens.1.same
  event_commits e replies.Empty happens = stay_commits happens.unchanged.same
  event_commits e replies.Busy happens = stay_commits happens.unchanged.same
  event_commits e replies.Stall happens = stay_commits happens.unchanged.same
  event_commits e replies.Stale happens = stay_commits happens.unchanged.same
  event_commits e replies.Firm happens = stay_commits happens.unchanged.same
  event_commits e replies.Ended happens = stay_commits happens.unchanged.same

  -- whatever the reply to an act, no commit is undone
  pub commits_stay : (asks : Attempt N) (reply : Reply) → ComesOf asks reply aborted old new
      → length old.view.history ≤ length new.view.history
  commits_stay (Hands e) reply came = event_commits e reply came.1
  commits_stay (Says word) reply came = stay_commits came.2
