-- A script that is played twice says and leaves one thing.
use Rattle.std.proofs.Common.{◌≡◌, ◌⊎◌, inl, inr, refl, sym, ap, ◌∙◌, subst, ℕ, true, List, map, Some}
use Rattle.std.specs.Prelude.{All}
use Rattle.std.specs.List.{AllByRecursion}
use Rattle.std.proofs.lemmas.List.Elements.{recursion_from_All}
use Rattle.guest_image.specs.ImageValue.{ImageValue, IsImage}
use Rattle.place_policy.specs.Policy.{Policy}
use Rattle.trace_tap.specs.TapValue.{TapValue}
use Rattle.run_journal.specs.declared.end.End.{End}
use Rattle.run_journal.specs.declared.end.End.TheVariants as ends
use Rattle.outcome_law.specs.serial_machine.declared.whole_run.SerialRun.{SerialRun}
use Rattle.outcome_law.specs.spec_state.declared.settings.Settings.{Settings}
use Rattle.outcome_law.specs.spec_state.Settings.{IsValid}
use Rattle.outcome_law.specs.spec_state.View.{View}
use Rattle.outcome_law.specs.event_def.Book.{BookView}
use Rattle.outcome_law.specs.event_def.End.{HasEnd, IsOver}
use Rattle.outcome_law.proofs.Below.event_law.Proved.{end_is_one, opening_is_sound}
use Rattle.outcome_law.specs.step_script.declared.act.Act.{Act}
use Rattle.outcome_law.specs.step_script.declared.saying.Said.{Said}
use Rattle.outcome_law.specs.step_script.Ranges.{ActIsInRange}
use Rattle.outcome_law.specs.Alike.{IdPermutation, inverse_of, AreAlike}
use Rattle.outcome_law.specs.Laws.{AreSameBooks}
use Rattle.outcome_law.proofs.Proved.{alike_turned, end_is_alike, opening_is_one, over_too, play_is_one, undone_alike}
use Rattle.machine_run.specs.Leaving.{LeavesRun}
use Rattle.machine_run.specs.Played.{IsPlayedRun, StandsAt, tap_lists}
use Rattle.machine_run.specs.One.{IsOneRun, PlayedRunIsOne, TracedRunIsOne}
use Rattle.machine_run.proofs.Least.{opening_settings}

-- what stands at an end is over, or stands open
stands_so : (view : View) (end : End) → StandsAt view end
    → ((end ≡ ends.Unfinished) × (IsOver view → ⊥)) ⊎ HasEnd view end
stands_so view ends.Normal stands = inr stands
stands_so view ends.Limit stands = inr stands
stands_so view (ends.Trap name cause pc) stands = inr stands
stands_so view ends.Unfinished stands = inl (refl, stands)

-- views that are alike stand at one end
module _ (r : IdPermutation) (a b : View) (alike : AreAlike r a b) (end other : End) where
  one_of : ((end ≡ ends.Unfinished) × (IsOver a → ⊥)) ⊎ HasEnd a end
      → ((other ≡ ends.Unfinished) × (IsOver b → ⊥)) ⊎ HasEnd b other → other ≡ end
  one_of (inl stands) (inl stands') = stands'.0 ∙ sym stands.0
  one_of (inl stands) (inr has') =
      absurd (stands.1 (over_too (inverse_of r) b a (alike_turned r a b alike) (other, has')))
  one_of (inr has) (inl stands') = absurd (stands'.1 (over_too r a b alike (end, has)))
  one_of (inr has) (inr has') = end_is_one b other end has' (end_is_alike r a b end alike has)

  stand_at_one : StandsAt a end → StandsAt b other → other ≡ end
  stand_at_one stands stands' = one_of (stands_so a end stands) (stands_so b other stands')

-- books that are alike leave one run
module _ (a b : BookView) (same : AreSameBooks a b) (events other : ℕ) (run other_run : SerialRun)
    (one : LeavesRun a events run) (two : LeavesRun b other other_run) where
  journal_one : other_run.journal ≡ run.journal
  journal_one = two.journal_is ∙ (ap (λ v. v.history) same.1.view.frame ∙ sym one.journal_is)

  output_one : other_run.output ≡ run.output
  output_one = two.output_is ∙ (ap (λ v. v.output) same.1.view.frame ∙ sym one.output_is)

  memory_one : other_run.memory ≡ run.memory
  memory_one =
      undone_alike same.0 a.view b.view same.1.view (λ id. true) (λ id. true) (λ k. refl) run.memory other_run.memory
      one.memory_is two.memory_is

  run_one : other_run.end ≡ run.end → other_run ≡ run
  run_one end_one =
      λ i. record { journal = journal_one i; memory = memory_one i; output = output_one i; end = end_one i }

  events_one : other ≡ events
  events_one = two.events_are ∙ (same.1.steps ∙ sym one.events_are)

module _ (N : Type 0) (image : ImageValue) (settings : Settings) (script : List Act) (placers : List Policy)
    (taps : List TapValue) (said other_said : List Said) (events other_events : ℕ) (end other_end : End)
    (run other_run : SerialRun) (is_image : IsImage image) (valid : IsValid settings)
    (within : All (ActIsInRange settings.tiles settings.cores) script)
    (one : IsPlayedRun N image settings script placers taps said events end run)
    (two : IsPlayedRun N image settings script placers taps other_said other_events other_end other_run) where
  inside : AllByRecursion (ActIsInRange one.opening.view.settings.tiles one.opening.view.settings.cores) script
  inside =
      recursion_from_All (ActIsInRange one.opening.view.settings.tiles one.opening.view.settings.cores) script
      (subst (λ (s : Settings). All (ActIsInRange s.tiles s.cores) script)
      (sym (opening_settings image settings placers taps one.opening one.is_opening)) within)

  both : (other_said ≡ said) × AreSameBooks one.last two.last
  both =
      play_is_one N image script one.opening two.opening one.last two.last said other_said
      (opening_is_sound image settings placers taps one.opening is_image valid one.is_opening)
      (opening_is_sound image settings placers taps two.opening is_image valid two.is_opening)
      (opening_is_one image settings placers taps one.opening two.opening one.is_opening two.is_opening)
      inside one.plays two.plays

  ends_one : other_end ≡ end
  ends_one = stand_at_one both.1.0 one.last.view two.last.view both.1.1.view end other_end one.stands two.stands

  runs_one : IsOneRun events other_events end other_end run other_run
  runs_one = record {
    events_are = events_one one.last two.last both.1 events other_events run other_run one.leaves two.leaves;
    end_is = ends_one;
    run_is = run_one one.last two.last both.1 events other_events run other_run one.leaves two.leaves
        (two.end_is ∙ (ap Some ends_one ∙ sym one.end_is));
  }

  lists_one : tap_lists two.last ≡ tap_lists one.last
  lists_one = ap (map (λ (reading : TapValue). reading.list)) both.1.1.taps

pub played_run_is_one : (N : Type 0) → PlayedRunIsOne N
played_run_is_one N image settings script placers taps said other_said events other_events end other_end run other_run
    is_image valid within one two = (
      (both N image settings script placers taps said other_said events other_events end other_end run other_run
          is_image valid within one two).0,
      runs_one N image settings script placers taps said other_said events other_events end other_end run other_run
          is_image valid within one two,
    )

pub traced_run_is_one : (N : Type 0) → TracedRunIsOne N
traced_run_is_one N image settings script placers taps lists other_lists events other_events end other_end run other_run
    is_image valid within one two = (
      two.lists_are
          ∙ (lists_one N image settings script placers taps one.said two.said events other_events end other_end run
          other_run is_image valid within one.played two.played ∙ sym one.lists_are),
      runs_one N image settings script placers taps one.said two.said events other_events end other_end run other_run
          is_image valid within one.played two.played,
    )
