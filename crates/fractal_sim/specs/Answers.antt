-- The table of answers: which status and which text report what was found with an image, and why.
use Rattle.std.specs.Prelude.{◌≡◌, ◌<◌, ◌≤◌, ◌-◌, ◌^◌, ℕ, List, length, min, None}
use Rattle.guest_image.specs.ImageValue.{ImageValue}
use Rattle.guest_image.specs.Writing.{image_bytes}
use Rattle.guest_image.specs.declared.limits.TheConstants.{MAX_TASKS}
use Rattle.run_journal.specs.declared.end.End.{End}
use Rattle.resume_image.specs.Pendings.{AreOfRoot, IsGreatestDepth}
use Rattle.resume_image.specs.Saved.{saved_image}
use Rattle.machine_run.specs.spec_state.declared.pending.Pending.{Pending}
use Rattle.load_gen.specs.declared.making.Load.{Load}
use Rattle.machine_run.specs.step_script.declared.saying.Said.{Said}
use Rattle.command_line.specs.declared.request.Command.TheVariants.{Check}
use Rattle.script_text.specs.Traces.{trace_text}
use Rattle.program_call.specs.declared.outcome.Outcome.{Outcome}
use Rattle.program_call.specs.Call.{Call, Input}
use Rattle.program_call.specs.Given.{ReadsAsAsked}
use Rattle.program_call.specs.Outcomes.{IsEmpty, closed_of}
use Rattle.program_call.specs.Runs.{HoldsRunOfInput}
use Rattle.fractal_sim.specs.Given.{HasImage, front}
use Rattle.fractal_sim.specs.Checks.{IsAcceptedReport, IsRefusedReport, IsNoScript}
use Rattle.fractal_sim.specs.Runs.{RunsToEnd, StopsAtLimit, LoadsToEnd, PlaysToEnd, TracesToEnd}
use Rattle.fractal_sim.specs.Texts.{end_status, played_status, journal_fault_line, script_fault_line, accepted_line}
use Rattle.fractal_sim.specs.Texts.{nested_line, tasks_line, run_text, load_text, played_text}

pub data IsAnswer (image : ImageValue) (input : Input) (o : Outcome) : ℕ → List ℕ → Type 0 where
  Refused : (line : ℕ) → IsRefusedReport input line → IsEmpty o → IsAnswer image input o 8 (journal_fault_line line)
  NoScript : (line : ℕ) → IsNoScript input line → IsEmpty o → IsAnswer image input o 9 (script_fault_line line)
  Accepted : IsAcceptedReport input image (closed_of o)
      → IsAnswer image input o 0 (accepted_line (length o.journal))
  Ended : (end : End) → RunsToEnd input image end (closed_of o)
      → IsAnswer image input o (end_status end) (run_text image (closed_of o) end)
  Saved : (pendings : List Pending) → StopsAtLimit input image pendings (closed_of o)
      → AreOfRoot pendings → length pendings ≤ MAX_TASKS
      → IsAnswer image input o 4 (image_bytes (saved_image image o.memory pendings))
  Nested : (pendings : List Pending) (depth : ℕ)
      → StopsAtLimit input image pendings (closed_of o) → IsGreatestDepth pendings depth → 1 < depth
      → IsAnswer image input o 12 (nested_line depth)
  TooMany : (pendings : List Pending) → StopsAtLimit input image pendings (closed_of o)
      → AreOfRoot pendings → MAX_TASKS < length pendings
      → IsAnswer image input o 13 (tasks_line (min (length pendings) (2 ^ 32 - 1)))
  Loaded : (load : Load) (seed size : ℕ) (end : End) → LoadsToEnd input load seed size image end (closed_of o)
      → IsAnswer image input o (end_status end) (load_text load seed size image (closed_of o) end)
  Played : (said : List Said) (end : End) → PlaysToEnd input image said end o
      → IsAnswer image input o (played_status end) (played_text said image (closed_of o) end)
  Traced : (lists : List (List ℕ)) (end : End) → TracesToEnd input image lists end o
      → IsAnswer image input o 0 (trace_text lists)

-- the sink may have taken a part of a text that reports what was found
abbrev pub IsCutAnswer : ImageValue → Input → Outcome → List ℕ → Type 0
IsCutAnswer image input o text = (status : ℕ) × IsAnswer image input o status text

-- memory ran out after the beginning of a run: the outcome has what a command that makes a run had run so far, which
-- has no end, no more was read than the arguments ask for, and the sink is as before
pub record HoldsRunSoFar (image : ImageValue) (call : Call) (o : Outcome) : Type 0 where
  pub end : o.end ≡ None
  pub held : HoldsRunOfInput front HasImage image call.input o
  pub makes : held.asked.command ≡ Check → ⊥
  pub read : ReadsAsAsked front call.input
  pub untouched : call.sink_after ≡ call.sink_before
