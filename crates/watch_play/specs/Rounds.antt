-- The outcome of the acts of a round: those that the round asks for are made, unless a step stalls or memory runs out;
-- those that it passes over wouldn't be made.
use Rattle.std.specs.Prelude.{◌≡◌, ◌≢◌, ℕ, List}
use Rattle.guest_image.specs.ImageValue.{ImageValue}
use Rattle.watch_counts.specs.spec_law.Sound.{Sound}
use Rattle.watch_counts.specs.event_def.declared.event.Reply.{Reply}
use Rattle.watch_counts.specs.event_def.declared.event.Reply.TheVariants as replies
use Rattle.watch_counts.specs.event_def.Book.{BookView}
use Rattle.watch_counts.specs.event_def.End.{IsOver}
use Rattle.watch_counts.specs.step_script.declared.act.Act.{Act}
use Rattle.watch_counts.specs.step_script.declared.act.Act.TheVariants as acts
use Rattle.watch_counts.specs.step_script.Playing.{HeldLeg, PlayState}
use Rattle.watch_counts.specs.step_script.Asking.{AsksFor, Attempt, AttemptComes}
use Rattle.watch_play.specs.Courses.{IsAskedInRound}

-- the act is a step
abbrev pub IsStep : Act → Type 0
IsStep (acts.Step tile core) = Unit {0}
IsStep other = ⊥

-- it is one of those that make up a round: a dispatch, a step, a commit or a split
abbrev pub IsOfRound : Act → Type 0
IsOfRound (acts.Dispatch tile) = Unit {0}
IsOfRound (acts.Step tile core) = Unit {0}
IsOfRound acts.Commit = Unit {0}
IsOfRound (acts.Split tile) = Unit {0}
IsOfRound other = ⊥

-- the act was made, or memory was wanting, or it is a step, and stalled
abbrev pub IsMadeOrStalls : Act → Reply → Type 0
IsMadeOrStalls act replies.Ok = Unit {0}
IsMadeOrStalls act replies.Memory = Unit {0}
IsMadeOrStalls act replies.Stall = IsStep act
IsMadeOrStalls act other = ⊥

-- while a run goes on: what a round asks for, as the machine stands, is made, unless a step stalls or memory runs out
abbrev pub AskedIsMade : Type 0 → Type 0
AskedIsMade N =
    (image : ImageValue) (old : PlayState) (new : BookView) (act : Act) (asks : Attempt N) (held : List HeldLeg)
    (reply : Reply) (aborted : ℕ) → (IsOver old.book.view → ⊥) → IsOfRound act → IsAskedInRound old.book.view act
    → AsksFor image act old asks held → AttemptComes asks reply aborted old.book new → IsMadeOrStalls act reply

-- and what it passes over isn't made by whoever hands it in, and leaves the book as it is
abbrev pub PassedIsRefused : Type 0 → Type 0
PassedIsRefused N =
    (image : ImageValue) (old : PlayState) (new : BookView) (act : Act) (asks : Attempt N) (held : List HeldLeg)
    (reply : Reply) (aborted : ℕ) → Sound image old.book.view → IsOfRound act
    → (IsAskedInRound old.book.view act → ⊥) → AsksFor image act old asks held
    → AttemptComes asks reply aborted old.book new → (reply ≢ replies.Ok) × (new ≡ old.book)
