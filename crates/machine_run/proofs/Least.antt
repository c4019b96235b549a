-- A run by events of the least tasks, of which each is counted.
use Rattle.std.proofs.Common.{ℕ, zero, suc, ◌+◌, ◌*◌, ◌≡◌, ◌≤◌, ◌∙◌, sym, ap, subst, length, arith}
use Rattle.std.specs.Prelude.{List, [], ◌∷◌, IfSome}
use Rattle.std.specs.List.{enumerate_from}
use Rattle.std.proofs.lemmas.Nat.{mul-le}
use Rattle.guest_image.specs.declared.image.ImageTask.{ImageTask}
use Rattle.guest_image.specs.declared.image.Kind.{Kind}
use Rattle.guest_image.specs.ImageValue.{ImageValue, IsImage}
use Rattle.place_policy.specs.Policy.{Policy}
use Rattle.trace_tap.specs.TapValue.{TapValue}
use Rattle.run_journal.specs.declared.closed.Closed.{Closed}
use Rattle.outcome_law.specs.spec_state.declared.settings.Settings.{Settings}
use Rattle.outcome_law.specs.spec_state.Settings.{IsValid}
use Rattle.outcome_law.specs.spec_state.View.{View}
use Rattle.outcome_law.specs.spec_law.Sound.{Sound}
use Rattle.outcome_law.specs.event_def.declared.event.Halt.{Halt}
use Rattle.outcome_law.specs.event_def.declared.event.Halt.TheVariants as halts
use Rattle.outcome_law.specs.event_def.Book.{BookView, next_count}
use Rattle.outcome_law.specs.event_def.Opening.{IsOpening, PlacesAll, opening_book}
use Rattle.outcome_law.specs.event_def.Advancing.{AdvanceAnswers, AdvancesBy}
use Rattle.outcome_law.specs.event_def.Closing.{Closes}
use Rattle.outcome_law.specs.event_def.End.{HasEnd}
use Rattle.outcome_law.proofs.Below.event_law.Proved.{all_kept, IsUntouched, least_events_are_few, none_touched}
use Rattle.outcome_law.proofs.Below.event_law.Proved.{opening_is_sound}
use Rattle.outcome_law.proofs.Below.event_law.Proved.{rest_is_there}
use Rattle.outcome_law.specs.conflict_book.Halting.{RunsLeast, last_answer}
use Rattle.tile_worker.specs.Halts.{HaltsAt}
use Rattle.machine_run.specs.Least.{IsLeastRun, end_of_halt, run_of_closed}
use Rattle.machine_run.proofs.Leaving.{run_left}

one_more : (n m : ℕ) → m + suc n ≤ 1000000000000 → next_count (m + n) ≡ m + suc n
one_more n m h = omega arith

-- each event is counted
counts : (N : Type 0) (image : ImageValue) (n : ℕ) (old new : BookView) → AdvancesBy N image n old new
    → old.steps + n ≤ 1000000000000 → new.steps ≡ old.steps + n
counts N image zero old new h few =
    let same : new.steps ≡ old.steps = ap (λ (b : BookView). b.steps) (sym h) in omega (arith, same)
counts N image (suc n) old new h few =
    let before : h.0.steps ≡ old.steps + n = counts N image n old h.0 h.2 (omega (arith, few)) in
    h.3.happens.steps ∙ ap next_count before ∙ one_more n old.steps few

-- so many events are few
few_events : (n left commits budget : ℕ) → n + left ≤ (commits + 1) * (budget + 4) → commits ≤ 1000000 → budget ≤ 65536
    → n ≤ 1000000000000
few_events n left commits budget h c b =
    let most : (commits + 1) * (budget + 4) ≤ 1000001 * 65540 = mul-le (commits + 1) (budget + 4) 1000001 65540 (omega (arith, c)) (omega (arith, b)) in
    omega (arith, h, most)

at_most : (commits before after limit : ℕ) → after ≡ before + commits → after ≤ limit → limit ≤ 1000000
    → commits ≤ 1000000
at_most commits before after limit longer few most = omega (arith, longer, few, most)

placed_steps : (kind : Kind) (es : List (ℕ × ImageTask)) (old new : BookView) → PlacesAll kind es old new
    → new.steps ≡ old.steps
placed_steps kind [] old new same = ap (λ (b : BookView). b.steps) (sym same)
placed_steps kind (e ∷ es) old new h = placed_steps kind es h.0 new h.2 ∙ ap (λ (b : BookView). b.steps) h.1.same

-- a run that halted at an end has it
pub halted : (N : Type 0) (image : ImageValue) (book : BookView) (halt : Halt)
    → AdvanceAnswers N image book (last_answer halt) book
    → IfSome (end_of_halt halt) (HasEnd book.view)
halted N image book (halts.Ended end) answers = answers.1
halted N image book halts.Memory answers = tt

-- so has one that workers left
pub halted_there : (view : View) (halt : Halt) → HaltsAt view halt → IfSome (end_of_halt halt) (HasEnd view)
halted_there view (halts.Ended end) there = there
halted_there view halts.Memory there = tt

module _ (image : ImageValue) (settings : Settings) (placers : List Policy) (taps : List TapValue) (opening : BookView) (is_opening : IsOpening image settings placers taps opening) where
  untouched : IsUntouched image settings opening.view
  untouched =
      all_kept image settings image.kind (enumerate_from 0 image.tasks)
      (opening_book is_opening.empty placers taps) opening
      (none_touched image settings is_opening.empty is_opening.is_empty) is_opening.placed

  -- at the opening no event was made
  pub opening_steps : opening.steps ≡ 0
  opening_steps =
      placed_steps image.kind (enumerate_from 0 image.tasks) (opening_book is_opening.empty placers taps) opening is_opening.placed

  -- and its settings are those with which it began
  pub opening_settings : opening.view.settings ≡ settings
  opening_settings = untouched.settings_are

  module _ (N : Type 0) (last : BookView) (within : IsImage image) (valid : IsValid settings) where
    -- from the opening on each event of a least task is counted
    events_are : (events : ℕ) → AdvancesBy N image events opening last → last.steps ≡ events
    events_are events advances =
        let few = least_events_are_few N image events opening last (opening_is_sound image settings placers taps opening within valid is_opening) advances in
        let sound : Sound image last.view = few.sound in
        let left = rest_is_there image last.view sound in
        let made : few.commits ≤ 1000000 =
        at_most few.commits (length opening.view.history) (length last.view.history) last.view.settings.commits few.longer sound.tasks.few sound.sizes.settings.commits.1 in
        let budget : opening.view.settings.budget ≤ 65536 = subst (λ (s : Settings). s.budget ≤ 65536) (sym opening_settings) valid.budget.1 in
        let bound : events ≤ 1000000000000 = few_events events left.0 few.commits opening.view.settings.budget (few.few left.0 left.1) made budget in
        let none = opening_steps in
        let counted_is : last.steps ≡ opening.steps + events = counts N image events opening last advances (omega (arith, bound, none)) in
        omega (arith, counted_is, none)

    -- what a book leaves that was led so is a run by events of the least tasks, as many as were counted
    pub left_is_least_run : (closed : Closed) (halt : Halt) → RunsLeast N image opening halt last → Closes last closed
        → IsLeastRun N image settings placers taps closed.steps (run_of_closed closed (end_of_halt halt))
    left_is_least_run closed halt runs closes = record {
      opening = opening;
      is_opening = is_opening;
      last = last;
      advances =
          subst (λ n. AdvancesBy N image n opening last) (sym (closes.steps ∙ events_are runs.made runs.advances)) runs.advances;
      leaves = run_left last closed closes (end_of_halt halt);
      end_is = halted N image last halt runs.halts;
    }
