-- What is said of the acts of a script is one thing.
use Rattle.std.proofs.Common.{◌≡◌, ◌≤◌, ◌<◌, ℕ, List, [], ◌∷◌, Some, None, refl, sym, ap, subst, ◌∙◌, arith}
use Rattle.std.specs.List.{AllByRecursion}
use Rattle.guest_image.specs.ImageValue.{ImageValue}
use Rattle.rv_core.specs.declared.state.Stop.TheVariants as stop
use Rattle.rv_core.specs.LegValue.{LegValue, IsLegOfImage}
use Rattle.rv_core.specs.Legs.{IsLeg}
use Rattle.step_script.specs.spec_state.declared.settings.Settings.{Settings}
use Rattle.step_script.specs.spec_state.declared.task.Task.{Task}
use Rattle.step_script.specs.spec_law.Sound.{Sound}
use Rattle.step_script.specs.event_def.declared.event.Advance.{Advance}
use Rattle.step_script.specs.event_def.declared.event.Advance.TheVariants as answers
use Rattle.step_script.specs.event_def.declared.event.Event.{Event}
use Rattle.step_script.specs.event_def.declared.event.Event.TheVariants as event
use Rattle.step_script.specs.event_def.declared.event.Reply.{Reply}
use Rattle.step_script.specs.event_def.declared.event.Reply.TheVariants as replies
use Rattle.step_script.specs.event_def.Advancing.{AdvanceAnswers, IsNoCommit, IsNextEvent}
use Rattle.step_script.specs.event_def.End.{IsOver}
use Rattle.step_script.specs.event_def.Events.{IsGiven}
use Rattle.step_script.specs.event_def.Happens.{Happens}
use Rattle.step_script.proofs.Below.event_law.Proved.{running_within, next_event_is_given, happens_keeps, leg_is_run}
use Rattle.step_script.specs.declared.act.Act.{Act}
use Rattle.step_script.specs.declared.act.Act.TheVariants as acts
use Rattle.step_script.specs.declared.saying.Said.{Said}
use Rattle.step_script.specs.declared.saying.Word.TheVariants as words
use Rattle.step_script.specs.Playing.{HeldLeg, held_for, without_held_leg, holding, PlayState, plainly, HandsIn}
use Rattle.step_script.specs.Playing.{MakesInPlay, Stays, HasLegAt, NoneRuns, Steps, Takes, Gives, said_of, Does}
use Rattle.step_script.specs.Playing.{DoesAll}
use Rattle.step_script.specs.Playing.{step_runs, step_ended, step_stale, take_holds, take_stale, give_hands, give_ended}
use Rattle.step_script.specs.Playing.{give_stale}
use Rattle.step_script.specs.Ranges.{ActIsInRange}
use Rattle.step_script.proofs.Proved.{AreRuns, held_runs, without_runs, ended_runs}
use Rattle.outcome_law.specs.Alike.{IdPermutation, inverse_of, AreAlike}
use Rattle.outcome_law.specs.Laws.{AreSameBooks, PlayIsOne}
use Rattle.outcome_law.proofs.Alike.{alike_turned}
use Rattle.outcome_law.proofs.Leasts.{over_too}
use Rattle.outcome_law.proofs.Nexts.{leg_one, next_one}
use Rattle.outcome_law.proofs.Outcomes.{outcome_is_one}
use Rattle.outcome_law.proofs.Picks.{task_one}
use Rattle.outcome_law.proofs.Queries.{running_too}

-- two plays that go alike so far
pub record GoAlike (image : ImageValue) (settings : Settings) (p q : PlayState) : Type 0 where
  pub books : AreSameBooks p.book q.book
  pub held : q.held ≡ p.held
  pub sound : Sound image p.book.view
  pub sound' : Sound image q.book.view
  pub settings_are : p.book.view.settings ≡ settings
  pub runs : AreRuns image settings p.held

record SaysOne (image : ImageValue) (settings : Settings) (said said' : Said) (p q : PlayState) : Type 0 where
  same : said' ≡ said
  go : GoAlike image settings p q

module _ (N : Type 0) (image : ImageValue) (settings : Settings) (p q p' q' : PlayState) (said said' : Said) (go : GoAlike image settings p q) where
  r : IdPermutation
  r = go.books.0

  views : AreAlike go.books.0 p.book.view q.book.view
  views = go.books.1.view

  back : AreAlike (inverse_of go.books.0) q.book.view p.book.view
  back = alike_turned go.books.0 p.book.view q.book.view go.books.1.view

  other_settings : q.book.view.settings ≡ settings
  other_settings = ap (λ v. v.settings) go.books.1.view.frame ∙ go.settings_are

  -- an event that is handed in
  hands_one : (e : Event N) → IsGiven image settings e → HandsIn e p.book said p'.book → HandsIn e q.book said' q'.book
      → q'.held ≡ p'.held → AreRuns image settings p'.held → SaysOne image settings said said' p' q'
  hands_one e given one two held runs =
      let is = outcome_is_one N image p.book q.book p'.book q'.book e one.reply two.reply said.aborted said'.aborted go.sound go.sound' go.books one.happens two.happens one.there two.there in
      let word = two.word ∙ (ap words.Plain is.reply_is ∙ sym one.word) in
      let kept = happens_keeps N image p.book p'.book e said.aborted (subst (λ s. IsGiven image s e) (sym go.settings_are) given) go.sound one.reply one.happens in
      let kept' = happens_keeps N image q.book q'.book e said'.aborted (subst (λ s. IsGiven image s e) (sym other_settings) given) go.sound' two.reply two.happens in
      record {
        same = (λ i. record { word = word i; aborted = is.aborted_is i });
        go =
            record {
              books = is.books;
              held = held;
              sound = kept.now;
              sound' = kept'.now;
              settings_are = kept.settings ∙ go.settings_are;
              runs = runs;
            };
      }

  makes_says : (e : Event N) → IsGiven image settings e → MakesInPlay e p said p' → MakesInPlay e q said' q'
      → SaysOne image settings said said' p' q'
  makes_says e given one two =
      hands_one e given one.hands_in two.hands_in (two.held ∙ (go.held ∙ sym one.held)) (subst (AreRuns image settings) (sym one.held) go.runs)

  stays_one : (reply : Reply) → Stays reply p said p' → Stays reply q said' q'
      → SaysOne image settings said said' p' q'
  stays_one reply one two = record {
    same = two.word ∙ sym one.word;
    go =
        subst (λ x. GoAlike image settings x q') (sym one.same) (subst (λ y. GoAlike image settings p y) (sym two.same) go);
  }

  over_there : IsOver p.book.view → IsOver q.book.view
  over_there over = over_too go.books.0 p.book.view q.book.view go.books.1.view over

  over_here : IsOver q.book.view → IsOver p.book.view
  over_here over = over_too (inverse_of go.books.0) q.book.view p.book.view back over

  none_there : (tile core : ℕ) (leg : LegValue) → HasLegAt image p.book.view tile core leg
      → NoneRuns q.book.view tile core → ⊥
  none_there tile core leg has none =
      let t = running_too go.books.0 p.book.view q.book.view go.books.1.view tile core has.id has.task has.runs in
      none (go.books.0.to has.id) t.y t.is

  none_here : (tile core : ℕ) (leg : LegValue) → HasLegAt image q.book.view tile core leg
      → NoneRuns p.book.view tile core → ⊥
  none_here tile core leg has none =
      let t = running_too (inverse_of go.books.0) q.book.view p.book.view back tile core has.id has.task has.runs in
      none (go.books.0.from has.id) t.y t.is

  -- the leg of the running task is one
  legs_one : (tile core : ℕ) (leg leg' : LegValue) → HasLegAt image p.book.view tile core leg
      → HasLegAt image q.book.view tile core leg' → leg' ≡ leg
  legs_one tile core leg leg' one two =
      let t = running_too go.books.0 p.book.view q.book.view go.books.1.view tile core one.id one.task one.runs in
      let ids : Some (Some two.id) ≡ Some (Some (go.books.0.to one.id)) = sym two.runs.on.held ∙ t.is.on.held in
      let id : two.id ≡ go.books.0.to one.id = cc in
      let task : two.task ≡ t.y = task_one q.book.view two.id (go.books.0.to one.id) two.task t.y id two.runs.on.there t.is.on.there in
      let from : leg'.from ≡ leg.from = two.leg_from.from ∙ (ap (λ (x : Task). x.core) task ∙ (ap (λ (x : Task). x.core) t.alike.other_is ∙ sym one.leg_from.from)) in
      leg_one image image.data_size p.book.view.settings.budget p.book.view.settings.quantum leg leg' from one.leg_from.is_leg
      (subst (λ s. IsLeg image image.data_size s.budget s.quantum leg'.from leg'.to leg'.steps leg'.stop) (ap (λ v. v.settings) go.books.1.view.frame) two.leg_from.is_leg)

  leg_runs : (tile core : ℕ) (leg : LegValue) → HasLegAt image p.book.view tile core leg
      → IsLegOfImage image settings.budget leg
  leg_runs tile core leg has =
      let low = subst (λ c. c.used ≤ p.book.view.settings.budget) (sym has.leg_from.from) (running_within image p.book.view go.sound has.id core has.task has.runs.on.there has.runs.running) in
      subst (λ s. IsLegOfImage image s.budget leg) go.settings_are (leg_is_run image p.book.view.settings.budget p.book.view.settings.quantum leg has.leg_from.is_leg low)

  steps_one : (tile core : ℕ) → tile < settings.tiles → core < settings.cores → Steps N image tile core p said p'
      → Steps N image tile core q said' q' → SaysOne image settings said said' p' q'
  steps_one tile core in_tile in_core (step_runs leg on has makes) (step_runs leg' on' has' makes') =
      let same = legs_one tile core leg leg' has has' in
      makes_says (event.Step tile core leg) (in_tile, in_core, leg_runs tile core leg has) makes (subst (λ l. MakesInPlay {N = N} (event.Step tile core l) q said' q') same makes')
  steps_one tile core in_tile in_core (step_runs leg on has makes) (step_ended over stays) =
      absurd (on (over_here over))
  steps_one tile core in_tile in_core (step_runs leg on has makes) (step_stale on' none stays) =
      absurd (none_there tile core leg has none)
  steps_one tile core in_tile in_core (step_ended over stays) (step_runs leg on has makes) =
      absurd (on (over_there over))
  steps_one tile core in_tile in_core (step_ended over stays) (step_ended over' stays') =
      stays_one replies.Ended stays stays'
  steps_one tile core in_tile in_core (step_ended over stays) (step_stale on none stays') =
      absurd (on (over_there over))
  steps_one tile core in_tile in_core (step_stale on none stays) (step_runs leg on' has makes) =
      absurd (none_here tile core leg has none)
  steps_one tile core in_tile in_core (step_stale on none stays) (step_ended over stays') = absurd (on (over_here over))
  steps_one tile core in_tile in_core (step_stale on none stays) (step_stale on' none' stays') =
      stays_one replies.Stale stays stays'

  -- the held legs alone change
  holds_one : (reply : Reply) (list : List HeldLeg) → said ≡ plainly reply → said' ≡ plainly reply
      → p' ≡ record p { held = list } → q' ≡ record q { held = list } → AreRuns image settings list
      → SaysOne image settings said said' p' q'
  holds_one reply list word word' one two runs = record {
    same = word' ∙ sym word;
    go =
        subst (λ x. GoAlike image settings x q') (sym one) (subst (λ y. GoAlike image settings (record p { held = list }) y) (sym two)
        (record { books = go.books; held = refl; sound = go.sound; sound' = go.sound'; settings_are = go.settings_are; runs = runs }));
  }

  takes_one : (tile core : ℕ) → Takes image tile core p said p' → Takes image tile core q said' q'
      → SaysOne image settings said said' p' q'
  takes_one tile core (take_holds leg has word now) (take_holds leg' has' word' now') =
      let same = legs_one tile core leg leg' has has' in
      let list : q' ≡ record q { held = holding tile core leg p.held } = now' ∙ (λ i. record q { held = holding tile core (same i) (go.held i) }) in
      holds_one replies.Ok (holding tile core leg p.held) word word' now list
      (ended_runs image settings tile core (without_held_leg tile core p.held) (record { tile = tile; core = core; leg = leg }) (without_runs image settings tile core p.held go.runs) (leg_runs tile core leg has))
  takes_one tile core (take_holds leg has word now) (take_stale none word' now') =
      absurd (none_there tile core leg has none)
  takes_one tile core (take_stale none word now) (take_holds leg has word' now') =
      absurd (none_here tile core leg has none)
  takes_one tile core (take_stale none word now) (take_stale none' word' now') =
      holds_one replies.Stale (without_held_leg tile core p.held) word word' now (now' ∙ ap (λ l. record q { held = without_held_leg tile core l }) go.held) (without_runs image settings tile core p.held go.runs)

  gives_one : (tile core : ℕ) → tile < settings.tiles → core < settings.cores → Gives N tile core p said p'
      → Gives N tile core q said' q' → SaysOne image settings said said' p' q'
  gives_one tile core in_tile in_core (give_hands leg on is hands held) (give_hands leg' on' is' hands' held') =
      let both : Some leg' ≡ Some leg = sym is' ∙ (ap (held_for tile core) go.held ∙ is) in
      let same : leg' ≡ leg = cc in
      hands_one (event.Step tile core leg) (in_tile, in_core, held_runs image settings tile core p.held leg go.runs is) hands (subst (λ l. HandsIn {N = N} (event.Step tile core l) q.book said' q'.book) same hands')
      (held' ∙ (ap (without_held_leg tile core) go.held ∙ sym held)) (subst (AreRuns image settings) (sym held) (without_runs image settings tile core p.held go.runs))
  gives_one tile core in_tile in_core (give_hands leg on is hands held) (give_ended over stays) =
      absurd (on (over_here over))
  gives_one tile core in_tile in_core (give_hands leg on is hands held) (give_stale on' none stays) =
      absurd (let clash : Some leg ≡ None = sym is ∙ (sym (ap (held_for tile core) go.held) ∙ none) in cc (clash))
  gives_one tile core in_tile in_core (give_ended over stays) (give_hands leg on is hands held) =
      absurd (on (over_there over))
  gives_one tile core in_tile in_core (give_ended over stays) (give_ended over' stays') =
      stays_one replies.Ended stays stays'
  gives_one tile core in_tile in_core (give_ended over stays) (give_stale on none stays') =
      absurd (on (over_there over))
  gives_one tile core in_tile in_core (give_stale on none stays) (give_hands leg on' is hands held) =
      absurd (let clash : Some leg ≡ None = sym is ∙ (ap (held_for tile core) go.held ∙ none) in cc (clash))
  gives_one tile core in_tile in_core (give_stale on none stays) (give_ended over stays') = absurd (on (over_here over))
  gives_one tile core in_tile in_core (give_stale on none stays) (give_stale on' none' stays') =
      stays_one replies.Stale stays stays'

  no_commit : (e : Event N) → IsNoCommit e → e ≡ event.Commit → ⊥
  no_commit e other same = subst IsNoCommit same other

  made_both : (e f : Event N) (said_n said_m : ℕ) → IsNextEvent image p.book.view e → IsNextEvent image q.book.view f
      → Happens p.book e replies.Ok said_n p'.book → Happens q.book f replies.Ok said_m q'.book
      → q'.held ≡ p'.held → p'.held ≡ p.held → (said_m ≡ said_n) × GoAlike image settings p' q'
  made_both e f n m next next' one two' held kept_held =
      let events : f ≡ e = next_one image go.books.0 p.book.view q.book.view go.books.1.view e f next.least next'.least in
      let two : Happens q.book e replies.Ok m q'.book = subst (λ x. Happens q.book x replies.Ok m q'.book) events two' in
      let is = outcome_is_one N image p.book q.book p'.book q'.book e replies.Ok replies.Ok n m go.sound go.sound' go.books one two (λ c. absurd (cc (c))) (λ c. absurd (cc (c))) in
      let kept = happens_keeps N image p.book p'.book e n (next_event_is_given N image p.book.view e go.sound next) go.sound replies.Ok one in
      let kept' = happens_keeps N image q.book q'.book f m (next_event_is_given N image q.book.view f go.sound' next') go.sound' replies.Ok two' in
      (is.aborted_is, record { books = is.books; held = held; sound = kept.now; sound' = kept'.now; settings_are = kept.settings ∙ go.settings_are; runs = subst (AreRuns image settings) (sym kept_held) go.runs })

  advances_one : (x y : Advance) → said_of x ≡ Some said → said_of y ≡ Some said'
      → AdvanceAnswers N image p.book x p'.book → AdvanceAnswers N image q.book y q'.book → p'.held ≡ p.held
      → q'.held ≡ q.held → SaysOne image settings said said' p' q'
  advances_one (answers.Ended end) (answers.Ended other) says says' one two held held' =
      let word : plainly replies.Ended ≡ said = cc in
      let word' : plainly replies.Ended ≡ said' = cc in
      stays_one replies.Ended (record { word = sym word; same = λ i. record { book = one.2 i; held = held i } }) (record { word = sym word'; same = λ i. record { book = two.2 i; held = held' i } })
  advances_one (answers.Ended end) answers.Committed says says' one two held held' =
      absurd (two.0.goes_on (over_there (end, one.1)))
  advances_one (answers.Ended end) (answers.Moved m) says says' one two held held' =
      absurd (two.1.goes_on (over_there (end, one.1)))
  advances_one answers.Committed (answers.Ended end) says says' one two held held' =
      absurd (one.0.goes_on (over_here (end, two.1)))
  advances_one (answers.Moved n) (answers.Ended end) says says' one two held held' =
      absurd (one.1.goes_on (over_here (end, two.1)))
  advances_one answers.Committed answers.Committed says says' one two held held' =
      let both = made_both event.Commit event.Commit 0 0 one.0 two.0 one.1 two.1 (held' ∙ (go.held ∙ sym held)) held in
      let word : record { word = words.Committed; aborted = 0 } ≡ said = cc in
      let word' : record { word = words.Committed; aborted = 0 } ≡ said' = cc in
      record { same = sym word' ∙ word; go = both.1 }
  advances_one answers.Committed (answers.Moved m) says says' one two held held' =
      absurd (no_commit two.0 two.2 (next_one image go.books.0 p.book.view q.book.view go.books.1.view event.Commit two.0 one.0.least two.1.least))
  advances_one (answers.Moved n) answers.Committed says says' one two held held' =
      absurd (no_commit one.0 one.2 (sym (next_one image go.books.0 p.book.view q.book.view go.books.1.view one.0 event.Commit one.1.least two.0.least)))
  advances_one (answers.Moved n) (answers.Moved m) says says' one two held held' =
      let both = made_both one.0 two.0 n m one.1 two.1 one.3 two.3 (held' ∙ (go.held ∙ sym held)) held in
      let word : record { word = words.Moved; aborted = n } ≡ said = cc in
      let word' : record { word = words.Moved; aborted = m } ≡ said' = cc in
      record {
        same = sym word' ∙ (ap {A = ℕ} (λ k. record { word = words.Moved; aborted = k }) both.0 ∙ word);
        go = both.1;
      }
  advances_one answers.Memory y says says' one two held held' = absurd (cc (says))
  advances_one (answers.Ended end) answers.Memory says says' one two held held' = absurd (cc (says'))
  advances_one answers.Committed answers.Memory says says' one two held held' = absurd (cc (says'))
  advances_one (answers.Moved n) answers.Memory says says' one two held held' = absurd (cc (says'))

  does_one : (act : Act) → ActIsInRange settings.tiles settings.cores act → Does N image act p said p'
      → Does N image act q said' q' → SaysOne image settings said said' p' q'
  does_one (acts.Dispatch tile) inside one two = makes_says (event.Dispatch tile) inside one two
  does_one (acts.Step tile core) inside one two = steps_one tile core inside.0 inside.1 one two
  does_one (acts.Take tile core) inside one two = takes_one tile core one two
  does_one (acts.Give tile core) inside one two = gives_one tile core inside.0 inside.1 one two
  does_one (acts.Abort tile) inside one two = makes_says (event.Abort tile) inside one two
  does_one acts.Commit inside one two = makes_says event.Commit tt one two
  does_one (acts.Coalesce tile) inside one two = makes_says (event.Coalesce tile) inside one two
  does_one (acts.Split tile) inside one two = makes_says (event.Split tile) inside one two
  does_one acts.Advance inside one two =
      advances_one one.answer two.answer one.says two.says one.answers two.answers one.held two.held

pub all_one : (N : Type 0) (image : ImageValue) (settings : Settings) (script : List Act) (p q p' q' : PlayState) (said said' : List Said)
    → GoAlike image settings p q
    → AllByRecursion (ActIsInRange settings.tiles settings.cores) script → DoesAll N image script p said p'
    → DoesAll N image script q said' q' → (said' ≡ said) × GoAlike image settings p' q'
all_one N image settings [] p q p' q' [] [] go inside one two =
    (refl, subst (λ x. GoAlike image settings x q') one (subst (λ y. GoAlike image settings p y) two go))
all_one N image settings (act ∷ acts) p q p' q' (s ∷ said) (s' ∷ said') go inside one two =
    let first = does_one N image settings p q one.0 two.0 s s' go act inside.0 one.1 two.1 in
    let rest = all_one N image settings acts one.0 two.0 p' q' said said' first.go inside.1 one.2 two.2 in
    ((λ i. first.same i ∷ rest.0 i), rest.1)
all_one N image settings [] p q p' q' (s ∷ said) said' go inside one two = absurd one
all_one N image settings [] p q p' q' [] (s ∷ said') go inside one two = absurd two
all_one N image settings (act ∷ acts) p q p' q' [] said' go inside one two = absurd one
all_one N image settings (act ∷ acts) p q p' q' (s ∷ said) [] go inside one two = absurd two

pub play_is_one : (N : Type 0) → PlayIsOne N
play_is_one N image script old other new other_new said said' sound sound' same inside one two =
    let all = all_one N image old.view.settings script (record { book = old; held = [] }) (record { book = other; held = [] }) (record { book = new; held = one.0 }) (record { book = other_new; held = two.0 }) said said'
    (record { books = same; held = refl; sound = sound; sound' = sound'; settings_are = refl; runs = tt }) inside one.1 two.1 in
    (all.0, all.1.books)
