-- Where counts are told, and where a text is.
use Rattle.std.proofs.Common.{◌≡◌, ◌∙◌, ℕ, List, [], Bool, true, false, Result, Ok, refl, sym, subst, arith}
use Rattle.std.specs.Prelude.{if◌then◌else◌}
use Rattle.std.proofs.KnownBytes.{Appends-nil}
use Rattle.sim_io.specs.Streams.{SinkState}
use Rattle.watch_counts.specs.watch_text.Moments.{Moment}
use Rattle.watch_counts.specs.declared.counts.Counts.{Counts}
use Rattle.watch_play.specs.declared.stop.StoryStop.{StoryStop}
use Rattle.watch_play.specs.declared.telling.Telling.{Telling}
use Rattle.watch_play.specs.declared.telling.Telling.TheVariants as tellings
use Rattle.watch_play.specs.Playing.{CountsMoment}
use Rattle.watch_play.specs.Telling.{TellsText}
use Rattle.watch_play.specs.Texts.{are_counts_due, has_counts, has_lines}

-- a line of counts is due only where counts are told
pub due_counts : (telling : Telling) (number : ℕ) → are_counts_due telling number ≡ true → has_counts telling ≡ true
due_counts tellings.Lines number due = absurd (cc due)
due_counts (tellings.Views each) number due = absurd (cc due)
due_counts tellings.Memory number due = absurd (cc due)
due_counts (tellings.Counts each) number due = refl

pub never_due : (telling : Telling) (number : ℕ) → has_counts telling ≡ false → are_counts_due telling number ≡ false
never_due tellings.Lines number none = refl
never_due (tellings.Views each) number none = refl
never_due tellings.Memory number none = refl
never_due (tellings.Counts each) number none = absurd (cc none)

-- and no counts where lines are
pub lines_alone : (telling : Telling) → has_lines telling ≡ true → has_counts telling ≡ true → ⊥
lines_alone tellings.Lines lines counts = cc counts
lines_alone (tellings.Views each) lines counts = cc counts
lines_alone tellings.Memory lines counts = cc counts
lines_alone (tellings.Counts each) lines counts = cc lines

pub none_counted : {N : Type 0} (telling : Telling) (m : Moment N) (before after : Counts) → has_lines telling ≡ true
    → CountsMoment telling m before after
none_counted telling m before after lines told c are = absurd (lines_alone telling lines told)

-- nothing is told by doing nothing
pub nothing_told : (sink : SinkState) → TellsText [] sink sink (Ok tt)
nothing_told sink = (Appends-nil sink.taken, omega arith)

-- by a test: the text is told
pub told_where : (found test : Bool) (text : List ℕ) (before after : SinkState) (r : Result (Unit {0}) StoryStop)
    → found ≡ test → found ≡ true → TellsText text before after r
    → TellsText (if test then text else []) before after r
told_where found test text before after r is yes_is told =
    subst (λ (b : Bool). TellsText (if b then text else []) before after r) (sym yes_is ∙ is) told

-- or nothing is
pub untold_where : (found test : Bool) (text : List ℕ) (sink : SinkState) → found ≡ test → found ≡ false
    → TellsText (if test then text else []) sink sink (Ok tt)
untold_where found test text sink is no_is =
    subst (λ (b : Bool). TellsText (if b then text else []) sink sink (Ok tt)) (sym no_is ∙ is) (nothing_told sink)
