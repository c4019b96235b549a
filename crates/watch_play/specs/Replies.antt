-- The event log of a script is a play of it: each act's line has its reply.
use Rattle.std.specs.Prelude.{◌≡◌, All, List, false, length, map}
use Rattle.guest_image.specs.ImageValue.{ImageValue}
use Rattle.watch_counts.specs.spec_law.Sound.{Sound}
use Rattle.watch_counts.specs.event_def.declared.event.Event.TheVariants as event
use Rattle.watch_counts.specs.event_def.declared.event.Reply.{Reply}
use Rattle.watch_counts.specs.event_def.declared.event.Reply.TheVariants as reply
use Rattle.watch_counts.specs.event_def.Book.{BookView}
use Rattle.watch_counts.specs.step_script.declared.act.Act.{Act}
use Rattle.watch_counts.specs.step_script.declared.act.Act.TheVariants as acts
use Rattle.watch_counts.specs.step_script.declared.saying.Said.{Said}
use Rattle.watch_counts.specs.step_script.declared.saying.Word.{Word}
use Rattle.watch_counts.specs.step_script.declared.saying.Word.TheVariants as words
use Rattle.watch_counts.specs.step_script.Playing.{Does, PlayState, Plays}
use Rattle.watch_counts.specs.step_script.Ranges.{ActIsInRange}
use Rattle.watch_counts.specs.step_script.Asking.{Attempt, Hands}
use Rattle.watch_counts.specs.watch_text.Moments.{IsMoment, Moment}
use Rattle.watch_play.specs.Courses.{OfScript, Stage}
use Rattle.watch_play.specs.Stories.{StoryLeads}

-- what is said of an advance: that it committed, or that another event was made; else its reply
abbrev pub advance_word : {N : Type 0} → Attempt N → Reply → Word
advance_word (Hands event.Commit) reply.Ok = words.Committed
advance_word (Hands other) reply.Ok = words.Moved
advance_word asks answer = words.Plain answer

abbrev pub word_by : {N : Type 0} → Act → Attempt N → Reply → Word
word_by acts.Advance asks answer = advance_word asks answer
word_by act asks answer = words.Plain answer

-- what is said of the act of a moment
abbrev pub said_by : {N : Type 0} → Moment N → Said
said_by m = record { word = word_by m.act m.asks m.reply; aborted = m.aborted }

-- a moment of a sound book that wasn't stopped does its act, as a script that is played does, and this is said of it
abbrev pub MomentDoes : Type 0 → Type 0
MomentDoes N =
    (image : ImageValue) (m : Moment N) (before after : PlayState)
    → Sound image before.book.view → before.book.stopped ≡ false → IsMoment image m before after
    → Does N image m.act before (said_by m) after

-- so a story of a whole script, from a sound opening on, plays it, and its replies are those of the play
abbrev pub StoryPlays : Type 0 → Type 0
StoryPlays N =
    (image : ImageValue) (script : List Act) (opening : BookView) (stage : Stage) (moments : List (Moment N))
    (last : PlayState)
    → Sound image opening.view → opening.stopped ≡ false
    → All (ActIsInRange opening.view.settings.tiles opening.view.settings.cores) script
    → StoryLeads image (OfScript script) opening (length script) stage moments last
    → Plays N image script opening (map said_by moments) last.book
