-- What a book leaves on which a script was played.
use Rattle.std.proofs.Common.{◌≡◌, List, Option, Some, None, Result, Ok, Err, refl, ℕ, sym, subst, length, arith}
use Rattle.std.specs.Prelude.{All, IfSome, IsSomeAnd, OnErr, map}
use Rattle.std.proofs.lemmas.List.{take_all}
use Rattle.guest_image.specs.ImageValue.{ImageValue}
use Rattle.place_policy.specs.Policy.{Policy}
use Rattle.trace_tap.specs.TapValue.{TapValue}
use Rattle.run_journal.specs.declared.closed.Closed.{Closed}
use Rattle.run_journal.specs.declared.end.End.{End}
use Rattle.outcome_law.specs.spec_state.declared.settings.Settings.{Settings}
use Rattle.outcome_law.specs.event_def.Book.{BookView}
use Rattle.outcome_law.specs.event_def.Closing.{Closes}
use Rattle.outcome_law.specs.event_def.Opening.{IsOpening}
use Rattle.outcome_law.specs.step_script.declared.act.Act.{Act}
use Rattle.outcome_law.specs.step_script.declared.saying.Said.{Said}
use Rattle.outcome_law.specs.step_script.Playing.{Plays, PlaysSome}
use Rattle.outcome_law.specs.step_script.Ranges.{ActIsInRange}
use Rattle.machine_run.specs.Least.{run_of_closed}
use Rattle.machine_run.specs.Played.{IsPlayedInPart, IsPlayedOrPart, IsPlayedRun, IsTracedOrPart, IsTracedRun}
use Rattle.machine_run.specs.Played.{LeavesTapLists, StandsAt}
use Rattle.machine_run.specs.declared.playing.Played.{Played}
use Rattle.machine_run.specs.declared.playing.Traced.{Traced}
use Rattle.machine_run.proofs.Least.{opening_settings}
use Rattle.machine_run.proofs.Leaving.{run_left}
use Rattle.machine_run.proofs.Standing.{if_told}

-- a script that is within the settings is within those of the opening
pub stays_within : (image : ImageValue) (settings : Settings) (script : List Act) (placers : List Policy) (taps : List TapValue) (opening : BookView)
    → IsOpening image settings placers taps opening → All (ActIsInRange settings.tiles settings.cores) script
    → All (ActIsInRange opening.view.settings.tiles opening.view.settings.cores) script
stays_within image settings script placers taps opening is_opening within =
    subst (λ (s : Settings). All (ActIsInRange s.tiles s.cores) script) (sym (opening_settings image settings placers taps opening is_opening)) within

-- a script that was played whole was played in part
whole_part : (N : Type 0) (image : ImageValue) (script : List Act) (old new : BookView) (said : List Said)
    → Plays N image script old said new
    → PlaysSome N image script old new
whole_part N image script old new said plays = record {
  count = length script;
  said = said;
  plays = subst (λ acts. Plays N image acts old said new) (sym (take_all (length script) script (omega arith))) plays;
}

-- whatever runs out of memory then
pub played_before : {T E : Type 0} (N : Type 0) (image : ImageValue) (script : List Act) (old new : BookView) (said : List Said) (r : Result T E)
    → Plays N image script old said new → OnErr r (PlaysSome N image script old new)
played_before N image script old new said (Ok t) plays = tt
played_before N image script old new said (Err e) plays = whole_part N image script old new said plays

module _ (N : Type 0) (image : ImageValue) (settings : Settings) (script : List Act) (placers : List Policy) (taps : List TapValue)
    (opening : BookView) (is_opening : IsOpening image settings placers taps opening) (last : BookView) (closed : Closed) (closes : Closes last closed) where
  -- closed at the end at which it stands, it leaves the run of this script
  abbrev played_at : (said : List Said) (end : End) → Plays N image script opening said last → StandsAt last.view end
      → IsPlayedRun N image settings script placers taps said closed.steps end (run_of_closed closed (Some end))
  played_at said end plays stands = record {
    opening = opening;
    is_opening = is_opening;
    last = last;
    plays = plays;
    leaves = run_left last closed closes (Some end);
    stands = stands;
    end_is = refl;
  }

  -- wherever an end is told
  left_is_played : (said : List Said) (told : Option End) → Plays N image script opening said last
      → IfSome told (StandsAt last.view)
      → IfSome told
      (λ end. IsPlayedRun N image settings script placers taps said closed.steps end (run_of_closed closed told))
  left_is_played said None plays stands = tt
  left_is_played said (Some end) plays stands = played_at said end plays stands

  -- and so where its taps were read before
  left_is_traced : (lists : List (List ℕ)) (told : Option End) → LeavesTapLists N image script opening lists last
      → IfSome told (StandsAt last.view)
      → IfSome told (λ end. IsTracedRun N image settings script placers taps lists closed.steps end (run_of_closed closed told))
  left_is_traced lists None seen stands = tt
  left_is_traced lists (Some end) seen stands =
      record { said = seen.said; played = played_at seen.said end seen.plays stands; lists_are = seen.lists_are }

  -- and where memory ran out, that of the acts that were played
  left_in_part : (told : Option End) → PlaysSome N image script opening last → told ≡ None
      → IsPlayedInPart N image settings script placers taps closed.steps (run_of_closed closed told)
  left_in_part told plays none = record {
    opening = opening;
    is_opening = is_opening;
    last = last;
    plays = plays;
    leaves = run_left last closed closes told;
    end_is = none;
  }

-- the lists that are told
abbrev lists_in : Traced → List (List ℕ)
lists_in t = map (λ list. list.items) t.lists.items

none_told : (P : End → Type 0) (told : Option End) → told ≡ None → IfSome told P
none_told P told none = subst (λ o. IfSome o P) (sym none) tt

some_told : (P : End → Type 0) (told : Option End) → IsSomeAnd told P → told ≡ None → ⊥
some_told P told some none = subst (λ o. IsSomeAnd o P) none some

module _ (N : Type 0) (image : ImageValue) (settings : Settings) (script : List Act) (placers : List Policy)
    (taps : List TapValue) (opening : BookView) (is_opening : IsOpening image settings placers taps opening)
    (last : BookView) where
  -- what a script leaves that was played whole
  pub left_whole : (p : Played) → Closes last p.ran.closed → Plays N image script opening p.said.items last
      → IsSomeAnd p.ran.end (StandsAt last.view) → IsPlayedOrPart N image settings script placers taps p
  left_whole p closes plays stands = record {
    played = left_is_played N image settings script placers taps opening is_opening last p.ran.closed closes
        p.said.items p.ran.end plays (if_told last.view p.ran.end stands);
    part = λ none. absurd (some_told (StandsAt last.view) p.ran.end stands none);
  }

  -- and one that wasn't
  pub left_cut : (p : Played) → Closes last p.ran.closed → PlaysSome N image script opening last → p.ran.end ≡ None
      → IsPlayedOrPart N image settings script placers taps p
  left_cut p closes plays none = record {
    played = none_told (λ end. IsPlayedRun N image settings script placers taps p.said.items p.ran.closed.steps end
        (run_of_closed p.ran.closed p.ran.end)) p.ran.end none;
    part = left_in_part N image settings script placers taps opening is_opening last p.ran.closed closes p.ran.end
        plays;
  }

  -- the same where its taps were read
  pub traced_whole : (t : Traced) → Closes last t.ran.closed
      → LeavesTapLists N image script opening (lists_in t) last → IsSomeAnd t.ran.end (StandsAt last.view)
      → IsTracedOrPart N image settings script placers taps t
  traced_whole t closes seen stands = record {
    traced = left_is_traced N image settings script placers taps opening is_opening last t.ran.closed closes
        (lists_in t) t.ran.end seen (if_told last.view t.ran.end stands);
    part = λ none. absurd (some_told (StandsAt last.view) t.ran.end stands none);
  }

  -- and where they weren't
  pub traced_cut : (t : Traced) → Closes last t.ran.closed → PlaysSome N image script opening last → t.ran.end ≡ None
      → IsTracedOrPart N image settings script placers taps t
  traced_cut t closes plays none = record {
    traced = none_told (λ end. IsTracedRun N image settings script placers taps (lists_in t) t.ran.closed.steps end
        (run_of_closed t.ran.closed t.ran.end)) t.ran.end none;
    part = left_in_part N image settings script placers taps opening is_opening last t.ran.closed closes t.ran.end
        plays;
  }
