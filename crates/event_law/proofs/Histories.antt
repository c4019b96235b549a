-- From the opening on, each journal is a run of the serial machine; lists of events join, and a book counts events.
use Rattle.std.proofs.Common.{ℕ, ◌≡◌, inl, inr, false, List, [], ◌∷◌, sym, ap, subst, ◌∙◌}
use Rattle.std.specs.Prelude.{All}
use Rattle.std.specs.List.{enumerate_from}
use Rattle.std.proofs.lemmas.List.Elements.{All-head, All-tail}
use Rattle.guest_image.specs.ImageValue.{ImageValue}
use Rattle.memory_law.proofs.Proved.{all_undone_is_serial}
use Rattle.event_def.specs.serial_machine.Run.{IsRun}
use Rattle.event_def.specs.spec_state.declared.settings.Settings.{Settings}
use Rattle.event_def.specs.spec_state.Groups.{logged_tasks}
use Rattle.event_def.specs.declared.event.Applied.{Applied}
use Rattle.event_def.specs.declared.event.Event.{Event}
use Rattle.event_def.specs.declared.event.Reply.TheVariants as replies
use Rattle.event_def.specs.Book.{BookView}
use Rattle.event_def.specs.Events.{IsGiven}
use Rattle.event_def.specs.Happens.{HappenAll}
use Rattle.spec_law.specs.Sound.{Sound}
use Rattle.spec_law.proofs.Proved.{undo_all_is_serial}
use Rattle.event_law.specs.Laws.{IsSerialRun, HistoriesAreRuns, CloseIsSerial, EventsJoin, EventsCountOne}
use Rattle.event_law.proofs.Openings.Opened.{opening_is_sound}
use Rattle.event_law.proofs.Openings.Untouched.{all_kept, none_touched}
use Rattle.event_law.proofs.Keeps.Events.{happens_keeps}

-- a sound view's journal is a run
sound_is_run : (image : ImageValue) (budget : ℕ) (book : BookView) → book.view.settings.budget ≡ budget
    → Sound image book.view → IsSerialRun image budget book.view
sound_is_run image budget book same sound =
    record {
      serial = sound.serial;
      is_run = subst (λ n. IsRun image n book.view.history sound.serial) same sound.is_run;
      output = sound.tasks.output;
      undone = record {
        ids = sound.memory.chained.ids;
        by_key = sound.memory.chained.by_key;
        memory_is =
            sym (all_undone_is_serial book.view.settings.line (logged_tasks book.view) sound.memory.chained.ids sound.serial.memory book.view.memory sound.memory.chained.by_key sound.memory.chained);
      };
      memory = λ memory undone.
          undone.memory_is
          ∙ all_undone_is_serial book.view.settings.line (logged_tasks book.view) undone.ids sound.serial.memory book.view.memory undone.by_key sound.memory.chained;
    }

-- so is what a closed book leaves
pub close_is_serial : CloseIsSerial
close_is_serial image book closed sound closes =
    let serial = undo_all_is_serial image book.view closes.left sound closes.undone in (
      sound.serial,
      subst (λ journal. IsRun image book.view.settings.budget journal sound.serial) (sym (closes.journal ∙ ap (λ view. view.history) closes.undone.frame)) sound.is_run,
      closes.memory ∙ serial.0,
      closes.output ∙ serial.1,
    )

-- events, one after another, keep a view sound
all_keep : (N : Type 0) (image : ImageValue) (settings : Settings) (events : List (Event N)) (answers : List Applied) (old new : BookView)
    → All (IsGiven image settings) events → old.view.settings ≡ settings → Sound image old.view
    → HappenAll old events answers new
    → (new.view.settings ≡ settings) × Sound image new.view
all_keep N image settings [] [] old new given same sound happen =
    subst (λ (b : BookView). (b.view.settings ≡ settings) × Sound image b.view) happen (same, sound)
all_keep N image settings [] (applied ∷ answers) old new given same sound happen = absurd happen
all_keep N image settings (event ∷ events) [] old new given same sound happen = absurd happen
all_keep N image settings (event ∷ events) (applied ∷ answers) old new given same sound happen =
    let first : IsGiven image old.view.settings event = subst (λ s. IsGiven image s event) (sym same) (All-head (IsGiven image settings) event events given) in
    let keeps = happens_keeps N image old happen.0 event applied.aborted first sound applied.reply happen.1 in
    all_keep N image settings events answers happen.0 new (All-tail (IsGiven image settings) event events given) (keeps.settings ∙ same) keeps.now happen.2

-- each list of events after the opening leaves a journal that is a run of the serial machine
pub histories_are_runs : (N : Type 0) → HistoriesAreRuns N
histories_are_runs N image settings placers taps opened book events answers within valid opening given happen =
    let start : BookView = record { view = opening.empty; placers = placers; taps = taps; steps = 0; stopped = false } in
    let is = all_kept image settings image.kind (enumerate_from 0 image.tasks) start opened (none_touched image settings opening.empty opening.is_empty) opening.placed in
    let all = all_keep N image settings events answers opened book given is.settings_are (opening_is_sound image settings placers taps opened within valid opening) happen in
    sound_is_run image settings.budget book (ap (λ s. s.budget) all.0) all.1

-- lists of events, one after the other
pub events_join : (N : Type 0) → EventsJoin N
events_join N old mid new [] second [] others before after =
    subst (λ b. HappenAll b second others new) (sym before) after
events_join N old mid new [] second (applied ∷ answers) others before after = absurd before
events_join N old mid new (event ∷ events) second [] others before after = absurd before
events_join N old mid new (event ∷ events) second (applied ∷ answers) others before after =
    (before.0, before.1, events_join N before.0 mid new events second answers others before.2 after)

-- an event leaves the count of events, or raises it by one, up to where it stands still
pub events_count_one : (N : Type 0) → EventsCountOne N
events_count_one N old new event replies.Ok aborted happens = inr happens.steps
events_count_one N old new event replies.Empty aborted happens =
    inl (ap (λ (b : BookView). b.steps) happens.unchanged.same)
events_count_one N old new event replies.Busy aborted happens =
    inl (ap (λ (b : BookView). b.steps) happens.unchanged.same)
events_count_one N old new event replies.Stall aborted happens =
    inl (ap (λ (b : BookView). b.steps) happens.unchanged.same)
events_count_one N old new event replies.Stale aborted happens =
    inl (ap (λ (b : BookView). b.steps) happens.unchanged.same)
events_count_one N old new event replies.Firm aborted happens =
    inl (ap (λ (b : BookView). b.steps) happens.unchanged.same)
events_count_one N old new event replies.Ended aborted happens =
    inl (ap (λ (b : BookView). b.steps) happens.unchanged.same)
events_count_one N old new event replies.Memory aborted happens = inl (ap (λ (b : BookView). b.steps) happens.1.same)
