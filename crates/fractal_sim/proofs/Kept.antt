-- What is found of the machine's answer is found where the words ask for it, and can be written.
use Rattle.std.proofs.Common.{◌≡◌, ◌≢◌, refl, sym, ap, subst, ℕ, true, false, List, length, Result, Ok, Err, Some}
use Rattle.std.proofs.Common.{None}
use Rattle.std.specs.Prelude.{IfOk, IfSome, IsSome, MatchOption, MatchResult}
use Rattle.std.specs.declared.alloc.AllocError.{AllocError}
use Rattle.std.specs.declared.option.Option.{Option}
use Rattle.std.specs.declared.marker.Brand.{Brand}
use Rattle.guest_image.specs.ImageValue.{ImageValue}
use Rattle.place_policy.specs.Policy.{Policy}
use Rattle.trace_tap.specs.TapValue.{TapValue}
use Rattle.run_journal.specs.declared.end.End.TheVariants as ends
use Rattle.run_journal.specs.declared.end.End.{End}
use Rattle.machine_run.specs.serial_machine.WholeRun.{IsRunOf}
use Rattle.machine_run.specs.spec_state.declared.settings.Settings.{Settings}
use Rattle.machine_run.specs.spec_state.declared.pending.Pending.{Pending}
use Rattle.machine_run.specs.spec_state.Pendings.{RunLeaves}
use Rattle.machine_run.specs.conflict_book.declared.freezing.Frozen.{Frozen}
use Rattle.machine_run.specs.Halted.{IsLeftOf, IsMachineRun, KeepsPending}
use Rattle.machine_run.specs.Least.{IsLeastRun, run_of_closed}
use Rattle.machine_run.specs.Played.{IsPlayedOrPart, IsTracedOrPart}
use Rattle.machine_run.specs.Stopping.{IsStoppedWith}
use Rattle.machine_run.specs.declared.left.Ran.{Ran}
use Rattle.machine_run.specs.declared.left.Stopped.{Stopped}
use Rattle.machine_run.specs.declared.playing.Played.{Played}
use Rattle.machine_run.specs.declared.playing.Traced.{Traced}
use Rattle.machine_run.specs.step_script.declared.act.Act.{Act}
use Rattle.command_line.specs.declared.request.Command.TheVariants as commands
use Rattle.command_line.specs.declared.request.Request.{Request}
use Rattle.load_gen.specs.Generated.{load_image}
use Rattle.fractal_sim.specs.declared.finding.Finding.{Finding}
use Rattle.fractal_sim.specs.declared.finding.Finding.TheVariants as finding
use Rattle.fractal_sim.specs.declared.finding.Loading.{Loading}
use Rattle.fractal_sim.specs.declared.finding.Saving.{Saving}
use Rattle.fractal_sim.specs.Deciding.{event_count, run_finding, load_finding}
use Rattle.fractal_sim.specs.Deciding.{play_finding}
use Rattle.fractal_sim.specs.Deciding.{trace_finding, IsFoundBehind, IsKeptSo, IsKeptStopped, IsLoadedSo, IsRunSo}
use Rattle.fractal_sim.specs.Deciding.{IsSavedSo, IsStoppedSo, Saves}
use Rattle.fractal_sim.specs.Finding.{HasWindow, IsWritable}
use Rattle.fractal_sim.specs.Runs.{IsReported, IsScript}
use Rattle.fractal_sim.proofs.Found.{ran_behind}

-- ---- a run that is to go on

module _ (image : ImageValue) (settings : Settings) (placers : List Policy) (taps : List TapValue) (frozen : Frozen)
    (steps : Option ℕ) (steps_is : steps ≡ event_count settings.workers frozen.closed.steps)
    (least : settings.workers ≡ 0
    → IsLeastRun Brand image settings placers taps frozen.closed.steps (run_of_closed frozen.closed (Some ends.Limit)))
    (run : IsRunOf image settings.commits settings.budget (run_of_closed frozen.closed (Some ends.Limit)))
    (left : RunLeaves image settings.budget frozen.closed.journal frozen.closed.memory frozen.closed.output
    frozen.pending) where
  -- the run to its limit
  ran_to_limit : IsRunSo image settings placers taps (record { closed = frozen.closed; end = Some ends.Limit }) steps
  ran_to_limit = record { least = least; run = run; steps_is = steps_is; over = λ e. absurd (cc (e)) }

  -- and the same without its end
  ran_without : IsRunSo image settings placers taps (record { closed = frozen.closed; end = None }) steps
  ran_without = record {
    least = λ none. let l = least none in record {
      opening = l.opening;
      is_opening = l.is_opening;
      last = l.last;
      advances = l.advances;
      leaves = record {
        journal_is = l.leaves.journal_is;
        output_is = l.leaves.output_is;
        memory_is = l.leaves.memory_is;
        events_are = l.leaves.events_are;
      };
      end_is = tt;
    };
    run = record {
      state = run.state;
      is_run = run.is_run;
      within = run.within;
      memory_is = run.memory_is;
      output_is = run.output_is;
      end_is = tt;
    };
    steps_is = steps_is;
    over = λ e. absurd (cc (e));
  }

  stopped_so : (made : Saving) → Saves image frozen.closed.memory frozen.pending made
      → IsStoppedSo image settings placers taps (record { closed = frozen.closed; end = Some ends.Limit }) steps made
  stopped_so made saves =
      record { run = ran_to_limit; limit = refl; pendings = frozen.pending; left = left; saves = saves }

  -- what is kept so is found where the words ask for a run that can go on
  pub kept_is_saved : (found : Finding) → IsKeptSo image frozen steps found
      → IsSavedSo image settings placers taps found
  kept_is_saved (finding.Ran image' ran told) kept = (
    kept.0,
    subst (λ (r : Ran). IsRunSo image settings placers taps r told) (sym kept.1)
        (subst (λ t. IsRunSo image settings placers taps (record { closed = frozen.closed; end = None }) t)
        (sym kept.2) ran_without),
    subst (λ (r : Ran). IfSome r.end (IsReported commands.Save)) (sym kept.1) tt,
  )
  kept_is_saved (finding.Stopped ran told made) kept =
      subst (λ (r : Ran). IsStoppedSo image settings placers taps r told made) (sym kept.0)
      (subst (λ t. IsStoppedSo image settings placers taps (record { closed = frozen.closed; end = Some ends.Limit })
      t made) (sym kept.1) (stopped_so made kept.2))
  kept_is_saved finding.Memory kept = absurd kept
  kept_is_saved (finding.Refused line) kept = absurd kept
  kept_is_saved (finding.NoScript line) kept = absurd kept
  kept_is_saved (finding.Accepted closed) kept = absurd kept
  kept_is_saved (finding.Loaded load image' ran told) kept = absurd kept
  kept_is_saved (finding.Played image' played) kept = absurd kept
  kept_is_saved (finding.Traced traced) kept = absurd kept

-- and can be written
pub kept_is_writable : (image : ImageValue) (frozen : Frozen) (steps : Option ℕ) (found : Finding)
    → length frozen.closed.memory ≡ image.data_size → IsKeptSo image frozen steps found → IsWritable found
kept_is_writable image frozen steps (finding.Ran image' ran told) sized kept =
    subst (λ (r : Ran). length r.closed.memory ≡ image'.data_size) (sym kept.1)
    (subst (λ (i : ImageValue). length frozen.closed.memory ≡ i.data_size) (sym kept.0) sized)
kept_is_writable image frozen steps (finding.Stopped ran told made) sized kept = tt
kept_is_writable image frozen steps finding.Memory sized kept = tt
kept_is_writable image frozen steps (finding.Refused line) sized kept = tt
kept_is_writable image frozen steps (finding.NoScript line) sized kept = tt
kept_is_writable image frozen steps (finding.Accepted closed) sized kept = tt
kept_is_writable image frozen steps (finding.Loaded load image' ran told) sized kept = absurd kept
kept_is_writable image frozen steps (finding.Played image' played) sized kept = absurd kept
kept_is_writable image frozen steps (finding.Traced traced) sized kept = tt

-- what is kept of a frozen run is kept of the stopped one that it is of
pub kept_frozen : (image : ImageValue) (workers : ℕ) (stopped : Stopped) (pendings : List Pending) (steps : Option ℕ)
    (found : Finding) → stopped.pending ≡ Some pendings → steps ≡ event_count workers stopped.ran.closed.steps
    → IsKeptSo image (record { closed = stopped.ran.closed; pending = pendings }) steps found
    → IsKeptStopped image workers stopped found
kept_frozen image workers stopped pendings steps found is told kept =
    let due = event_count workers stopped.ran.closed.steps in
    subst (λ (pending : Option (List Pending)). MatchOption pending (found ≡ finding.Ran image stopped.ran due)
    (λ some. IsKeptSo image (record { closed = stopped.ran.closed; pending = some }) due found)) (sym is)
    (subst (λ s. IsKeptSo image (record { closed = stopped.ran.closed; pending = pendings }) s found) told kept)

-- a run to another end than the limit is told by its report
reported : (told : Option End) → told ≢ Some ends.Unfinished → (told ≡ Some ends.Limit → ⊥)
    → IfSome told (IsReported commands.Save)
reported None over limit = tt
reported (Some end) over limit = (λ open_yet. over (ap Some open_yet), λ full. limit (ap Some full))

stopped_is_writable : (image : ImageValue) (workers : ℕ) (ran : Ran) (pending : Option (List Pending))
    (found : Finding) → length ran.closed.memory ≡ image.data_size
    → IsKeptStopped image workers (record { ran = ran; pending = pending }) found → IsWritable found
stopped_is_writable image workers ran None found sized kept = subst IsWritable (sym kept) sized
stopped_is_writable image workers ran (Some pendings) found sized kept =
    kept_is_writable image (record { closed = ran.closed; pending = pendings }) (event_count workers ran.closed.steps)
    found sized kept

-- what pends after a run that was made and was to go on pends where it met its commit limit
pub made_pends : (image : ImageValue) (budget : ℕ) (made : Result Stopped AllocError)
    → IfOk made (KeepsPending image budget true)
    → IfOk made (λ stopped. IfSome stopped.pending (IsStoppedWith image budget stopped.ran))
made_pends image budget (Ok stopped) keeps = keeps.pending
made_pends image budget (Err error) keeps = tt

module _ (image : ImageValue) (settings : Settings) (placers : List Policy) (taps : List TapValue) where
  -- what is kept of a run that was made and was to go on is found where the words ask for such a run
  stopped_is_saved : (ran : Ran) (pending : Option (List Pending)) (found : Finding)
      → IsMachineRun Brand image settings placers taps ran
      → IfSome pending (IsStoppedWith image settings.budget ran) → (ran.end ≡ Some ends.Limit → IsSome pending)
      → IsKeptStopped image settings.workers (record { ran = ran; pending = pending }) found
      → IsSavedSo image settings placers taps found
  stopped_is_saved ran None found is stopped limit kept =
      subst (IsSavedSo image settings placers taps) (sym kept) (
        refl,
        record { least = is.least; run = is.halted.left.run; steps_is = refl; over = is.halted.over },
        reported ran.end is.halted.over (λ full. let no : false ≡ true = limit full in absurd (cc (no))),
      )
  stopped_is_saved ran (Some pendings) found is stopped limit kept =
      kept_is_saved image settings placers taps (record { closed = ran.closed; pending = pendings })
      (event_count settings.workers ran.closed.steps) refl
      (λ none. subst (λ e. IsLeastRun Brand image settings placers taps ran.closed.steps (run_of_closed ran.closed e))
      stopped.end_is (is.least none))
      (subst (λ e. IsRunOf image settings.commits settings.budget (run_of_closed ran.closed e)) stopped.end_is
      is.halted.left.run)
      stopped.left found kept

  -- and so is what is found of the machine's answer
  pub made_is_saved : (made : Result Stopped AllocError) (found : Finding)
      → IfOk made (λ stopped. IsMachineRun Brand image settings placers taps stopped.ran)
      → IfOk made (KeepsPending image settings.budget true)
      → MatchResult made (λ stopped. IsKeptStopped image settings.workers stopped found)
      (λ error. found ≡ finding.Memory)
      → IsSavedSo image settings placers taps found
  made_is_saved (Ok stopped) found is keeps kept =
      stopped_is_saved stopped.ran stopped.pending found is keeps.pending (keeps.limit refl) kept
  made_is_saved (Err error) found is keeps kept = subst (IsSavedSo image settings placers taps) (sym kept) tt

  -- and it can be written
  pub made_is_writable : (made : Result Stopped AllocError) (found : Finding)
      → IfOk made (λ stopped. IsMachineRun Brand image settings placers taps stopped.ran)
      → MatchResult made (λ stopped. IsKeptStopped image settings.workers stopped found)
      (λ error. found ≡ finding.Memory)
      → IsWritable found
  made_is_writable (Ok stopped) found is kept =
      stopped_is_writable image settings.workers stopped.ran stopped.pending found is.halted.left.writable kept
  made_is_writable (Err error) found is kept = subst IsWritable (sym kept) tt

-- ---- a run to its end

module _ (image : ImageValue) (settings : Settings) (placers : List Policy) (taps : List TapValue) where
  -- a run of the machine, with the count of its events
  pub made_so : (made : Result Ran AllocError) → IfOk made (IsMachineRun Brand image settings placers taps)
      → IfOk made (λ ran. IsRunSo image settings placers taps ran (event_count settings.workers ran.closed.steps))
  made_so (Ok ran) is =
      record { least = is.least; run = is.halted.left.run; steps_is = refl; over = is.halted.over }
  made_so (Err error) is = tt

  -- the window lies in its memory
  pub made_has_window : (made : Result Ran AllocError) → IfOk made (IsMachineRun Brand image settings placers taps)
      → IfOk made (HasWindow image)
  made_has_window (Ok ran) is = is.halted.left.writable
  made_has_window (Err error) is = tt

-- what is found of the machine's answer is found behind the image that was read
pub run_found_behind : (request : Request) (image : ImageValue) (rest : List ℕ) (placers : List Policy)
    (taps : List TapValue) (made : Result Ran AllocError) (found : Finding)
    → found ≡ run_finding image request.settings.workers made → request.command ≡ commands.Run
    → IfOk made (λ ran. IsRunSo image request.settings placers taps ran
    (event_count request.settings.workers ran.closed.steps))
    → IsFoundBehind request image rest placers taps found
run_found_behind request image rest placers taps (Ok ran) found kept is so =
    subst (IsFoundBehind request image rest placers taps) (sym kept)
    (ran_behind request image rest placers taps ran (event_count request.settings.workers ran.closed.steps) is so)
run_found_behind request image rest placers taps (Err error) found kept is so =
    subst (IsFoundBehind request image rest placers taps) (sym kept) tt

pub run_writable : (image : ImageValue) (workers : ℕ) (made : Result Ran AllocError) (found : Finding)
    → found ≡ run_finding image workers made → IfOk made (HasWindow image) → IsWritable found
run_writable image workers (Ok ran) found kept sized = subst IsWritable (sym kept) sized
run_writable image workers (Err error) found kept sized = subst IsWritable (sym kept) tt

-- and of a generated image where the words ask for it
pub load_so : (load : Loading) (image : ImageValue) (settings : Settings) (placers : List Policy) (taps : List TapValue)
    (made : Result Ran AllocError) (found : Finding) → found ≡ load_finding load image settings.workers made
    → image ≡ load_image load.load load.seed load.size
    → IfOk made (λ ran. IsRunSo image settings placers taps ran (event_count settings.workers ran.closed.steps))
    → IsLoadedSo load settings placers taps found
load_so load image settings placers taps (Ok ran) found kept is so =
    subst (IsLoadedSo load settings placers taps) (sym kept) (refl, is, so)
load_so load image settings placers taps (Err error) found kept is so =
    subst (IsLoadedSo load settings placers taps) (sym kept) tt

pub load_writable : (load : Loading) (image : ImageValue) (workers : ℕ) (made : Result Ran AllocError) (found : Finding)
    → found ≡ load_finding load image workers made → IfOk made (HasWindow image) → IsWritable found
load_writable load image workers (Ok ran) found kept sized = subst IsWritable (sym kept) sized
load_writable load image workers (Err error) found kept sized = subst IsWritable (sym kept) tt

-- ---- a script

module _ (request : Request) (image : ImageValue) (rest : List ℕ) (placers : List Policy) (taps : List TapValue)
    (script : List Act) (script_is : IsScript request rest script) where
  -- what is found of the machine's answer is found behind the image that was read
  pub play_found_behind : (made : Result Played AllocError) (found : Finding) → found ≡ play_finding image made
      → request.command ≡ commands.Steps
      → IfOk made (IsPlayedOrPart Brand image request.settings script placers taps)
      → IfOk made (λ p. IsLeftOf image request.settings.commits request.settings.budget p.ran)
      → IsFoundBehind request image rest placers taps found
  play_found_behind (Ok p) found kept is how left =
      subst (IsFoundBehind request image rest placers taps) (sym kept) (
        is,
        refl,
        record { script = script; script_is = script_is; run = left.run; played = how.played; part = how.part },
      )
  play_found_behind (Err error) found kept is how left =
      subst (IsFoundBehind request image rest placers taps) (sym kept) tt

  -- and so for its taps
  pub trace_found_behind : (made : Result Traced AllocError) (found : Finding) → found ≡ trace_finding made
      → request.command ≡ commands.Trace
      → IfOk made (IsTracedOrPart Brand image request.settings script placers taps)
      → IfOk made (λ t. IsLeftOf image request.settings.commits request.settings.budget t.ran)
      → IsFoundBehind request image rest placers taps found
  trace_found_behind (Ok t) found kept is how left =
      subst (IsFoundBehind request image rest placers taps) (sym kept) (
        is,
        record { script = script; script_is = script_is; run = left.run; traced = how.traced; part = how.part },
      )
  trace_found_behind (Err error) found kept is how left =
      subst (IsFoundBehind request image rest placers taps) (sym kept) tt

pub play_writable : (image : ImageValue) (commits budget : ℕ) (made : Result Played AllocError) (found : Finding)
    → found ≡ play_finding image made → IfOk made (λ p. IsLeftOf image commits budget p.ran) → IsWritable found
play_writable image commits budget (Ok p) found kept left = subst IsWritable (sym kept) left.writable
play_writable image commits budget (Err error) found kept left = subst IsWritable (sym kept) tt

pub trace_writable : (made : Result Traced AllocError) (found : Finding) → found ≡ trace_finding made
    → IsWritable found
trace_writable (Ok t) found kept = subst IsWritable (sym kept) tt
trace_writable (Err error) found kept = subst IsWritable (sym kept) tt
