-- A play that is sound stays so, moment by moment: the view is sound, the book goes on, and the legs that are held are
-- runs.
use Rattle.std.proofs.Common.{◌≡◌, ◌<◌, ◌≤◌, ℕ, false, List}
use Rattle.std.proofs.Common.{sym, subst, ◌∙◌}
use Rattle.guest_image.specs.ImageValue.{ImageValue}
use Rattle.rv_core.specs.LegValue.{IsLegOfImage, LegValue}
use Rattle.watch_counts.specs.spec_state.declared.settings.Settings.{Settings}
use Rattle.watch_counts.specs.spec_law.Sound.{Sound}
use Rattle.watch_counts.specs.event_def.declared.event.Event.{Event}
use Rattle.watch_counts.specs.event_def.declared.event.Event.TheVariants as event
use Rattle.watch_counts.specs.event_def.declared.event.Reply.{Reply}
use Rattle.watch_counts.specs.event_def.declared.event.Reply.TheVariants as replies
use Rattle.watch_counts.specs.event_def.Book.{BookView}
use Rattle.watch_counts.specs.event_def.Events.{IsGiven}
use Rattle.watch_counts.specs.event_def.Happens.{Happens}
use Rattle.watch_counts.proofs.Below.event_law.Proved.{event_stays_sound, next_event_is_given, running_within}
use Rattle.watch_counts.proofs.Below.event_law.Proved.{leg_is_run}
use Rattle.watch_counts.proofs.Below.event_basis.Proved.{makes_keeps_settings}
use Rattle.watch_counts.specs.step_script.declared.act.Act.{Act}
use Rattle.watch_counts.specs.step_script.declared.act.Act.TheVariants as acts
use Rattle.watch_counts.specs.step_script.Playing.{HasLegAt, HeldLeg, PlayState, without_held_leg}
use Rattle.watch_counts.specs.step_script.Ranges.{ActIsInRange}
use Rattle.watch_counts.proofs.Below.step_script.Proved.{AreRuns, held_runs, without_runs, ended_runs}
use Rattle.watch_counts.specs.step_script.Asking.{Attempt, AsksAdvance, AsksFor, AsksGive, AsksStep, AsksTake, Hands}
use Rattle.watch_counts.specs.step_script.Asking.{HandsEvent}
use Rattle.watch_counts.specs.step_script.Asking.{ComesOf, Says}
use Rattle.watch_counts.specs.step_script.Asking as asking
use Rattle.watch_play.specs.Leaving.{IsSoundBook}

-- ---- plays

-- the play's view is sound, its book goes on, and the legs that it holds are runs
pub record IsSoundPlay (image : ImageValue) (settings : Settings) (play : PlayState) : Type 0 where
  pub sound : Sound image play.book.view
  pub going : play.book.stopped ≡ false
  pub settings_are : play.book.view.settings ≡ settings
  pub runs : AreRuns image settings play.held

-- what is handed in may be handed in
abbrev AsksGiven : {N : Type 0} → ImageValue → Settings → Attempt N → Type 0
AsksGiven image settings (Hands e) = IsGiven image settings e
AsksGiven image settings (Says word) = Unit {0}

module _ (N : Type 0) (image : ImageValue) (settings : Settings) (old new : BookView) (aborted : ℕ)
    (good : IsSoundBook image settings old) where
  -- nothing has changed
  book_stays : new ≡ old → IsSoundBook image settings new
  book_stays same = subst (IsSoundBook image settings) (sym same) good

  event_keeps : (e : Event N) → IsGiven image settings e → (reply : Reply) → Happens old e reply aborted new
      → IsSoundBook image settings new
  event_keeps e given replies.Ok happens =
      let here = subst (λ s. IsGiven image s e) (sym good.settings_are) given in record {
        sound = event_stays_sound N image old new e replies.Ok aborted here good.sound happens;
        going = happens.stopped;
        settings_are =
            makes_keeps_settings N image old e aborted new.view new.placers here good.sound happens.granted
            happens.makes
            ∙ good.settings_are;
      }
  event_keeps e given replies.Memory happens = book_stays happens.1.same
  event_keeps e given replies.Empty happens = book_stays happens.unchanged.same
  event_keeps e given replies.Busy happens = book_stays happens.unchanged.same
  event_keeps e given replies.Stall happens = book_stays happens.unchanged.same
  event_keeps e given replies.Stale happens = book_stays happens.unchanged.same
  event_keeps e given replies.Firm happens = book_stays happens.unchanged.same
  event_keeps e given replies.Ended happens = book_stays happens.unchanged.same

  asks_keeps : (asks : Attempt N) → AsksGiven image settings asks → (reply : Reply)
      → ComesOf asks reply aborted old new → IsSoundBook image settings new
  asks_keeps (Hands e) given reply came = event_keeps e given reply came.1
  asks_keeps (Says word) given reply came = book_stays came.2

module _ (N : Type 0) (image : ImageValue) (settings : Settings) (play : PlayState)
    (good : IsSoundPlay image settings play)
  where
    leg_runs : (tile core : ℕ) (leg : LegValue) → HasLegAt image play.book.view tile core leg
        → IsLegOfImage image settings.budget leg
    leg_runs tile core leg has =
        let view = play.book.view in
        let low =
        subst (λ c. c.used ≤ view.settings.budget) (sym has.leg_from.from)
        (running_within image view good.sound has.id core has.task has.runs.on.there has.runs.running) in
        subst (λ s. IsLegOfImage image s.budget leg) good.settings_are
        (leg_is_run image view.settings.budget view.settings.quantum leg has.leg_from.is_leg low)

    -- an act comes to what may be handed in, and the legs that are held then are runs
    record Comes_to (asks : Attempt N) (held : List HeldLeg) : Type 0 where
      given : AsksGiven image settings asks
      runs : AreRuns image settings held

    hands_to : (e : Event N) (asks : Attempt N) (held : List HeldLeg) → IsGiven image settings e
        → HandsEvent e play asks held → Comes_to asks held
    hands_to e asks held given hands = record {
      given = subst (AsksGiven image settings) (sym hands.asks_is) given;
      runs = subst (AreRuns image settings) (sym hands.held_is) good.runs;
    }

    says_to : (word : Reply) (asks : Attempt N) (held list : List HeldLeg) → asks ≡ Says word → held ≡ list
        → AreRuns image settings list → Comes_to asks held
    says_to word asks held list asks_is held_is runs = record {
      given = subst (AsksGiven image settings) (sym asks_is) tt;
      runs = subst (AreRuns image settings) (sym held_is) runs;
    }

    step_to : (tile core : ℕ) (asks : Attempt N) (held : List HeldLeg) → (tile < settings.tiles) ×
        (core < settings.cores)
        → AsksStep image tile core play asks held → Comes_to asks held
    step_to tile core asks held inside (asking.step_runs leg on has hands) =
        hands_to (event.Step tile core leg) asks held (inside.0, inside.1, leg_runs tile core leg has) hands
    step_to tile core asks held inside (asking.step_ended over says) =
        says_to replies.Ended asks held play.held says.asks_is says.held_is good.runs
    step_to tile core asks held inside (asking.step_stale on none says) =
        says_to replies.Stale asks held play.held says.asks_is says.held_is good.runs

    take_to : (tile core : ℕ) (asks : Attempt N) (held : List HeldLeg) → AsksTake image tile core play asks held
        → Comes_to asks held
    take_to tile core asks held (asking.take_holds leg has asks_is held_is) =
        says_to replies.Ok asks held _ asks_is held_is
        (ended_runs image settings tile core (without_held_leg tile core play.held)
        (record { tile = tile; core = core; leg = leg }) (without_runs image settings tile core play.held good.runs)
        (leg_runs tile core leg has))
    take_to tile core asks held (asking.take_stale none asks_is held_is) =
        says_to replies.Stale asks held _ asks_is held_is (without_runs image settings tile core play.held good.runs)

    give_to : (tile core : ℕ) (asks : Attempt N) (held : List HeldLeg) → (tile < settings.tiles) ×
        (core < settings.cores)
        → AsksGive tile core play asks held → Comes_to asks held
    give_to tile core asks held inside (asking.give_hands leg on found asks_is held_is) = record {
      given =
          subst (AsksGiven image settings) (sym asks_is)
          (inside.0, inside.1, held_runs image settings tile core play.held leg good.runs found);
      runs = subst (AreRuns image settings) (sym held_is) (without_runs image settings tile core play.held good.runs);
    }
    give_to tile core asks held inside (asking.give_ended over says) =
        says_to replies.Ended asks held play.held says.asks_is says.held_is good.runs
    give_to tile core asks held inside (asking.give_stale on none says) =
        says_to replies.Stale asks held play.held says.asks_is says.held_is good.runs

    advance_to : (asks : Attempt N) (held : List HeldLeg) → AsksAdvance image play asks held → Comes_to asks held
    advance_to asks held (asking.advance_next e next hands) =
        hands_to e asks held
        (subst (λ s. IsGiven image s e) good.settings_are (next_event_is_given N image play.book.view e good.sound
        next))
        hands
    advance_to asks held (asking.advance_ended over says) =
        says_to replies.Ended asks held play.held says.asks_is says.held_is good.runs

    act_to : (act : Act) (asks : Attempt N) (held : List HeldLeg) → ActIsInRange settings.tiles settings.cores act
        → AsksFor image act play asks held → Comes_to asks held
    act_to (acts.Dispatch tile) asks held inside asked = hands_to (event.Dispatch tile) asks held inside asked
    act_to (acts.Step tile core) asks held inside asked = step_to tile core asks held inside asked
    act_to (acts.Take tile core) asks held inside asked = take_to tile core asks held asked
    act_to (acts.Give tile core) asks held inside asked = give_to tile core asks held inside asked
    act_to (acts.Abort tile) asks held inside asked = hands_to (event.Abort tile) asks held inside asked
    act_to acts.Commit asks held inside asked = hands_to event.Commit asks held tt asked
    act_to (acts.Coalesce tile) asks held inside asked = hands_to (event.Coalesce tile) asks held inside asked
    act_to (acts.Split tile) asks held inside asked = hands_to (event.Split tile) asks held inside asked
    act_to acts.Advance asks held inside asked = advance_to asks held asked

    -- an act within the settings leaves a good play
    pub stays_good : (act : Act) (asks : Attempt N) (reply : Reply) (aborted : ℕ) (new : PlayState)
        → ActIsInRange settings.tiles settings.cores act → AsksFor image act play asks new.held
        → ComesOf asks reply aborted play.book new.book → IsSoundPlay image settings new
    stays_good act asks reply aborted new inside asked came =
        let to = act_to act asks new.held inside asked in
        let book =
        asks_keeps N image settings play.book new.book aborted
        (record { sound = good.sound; going = good.going; settings_are = good.settings_are }) asks to.given reply
        came in
        record { sound = book.sound; going = book.going; settings_are = book.settings_are; runs = to.runs }
