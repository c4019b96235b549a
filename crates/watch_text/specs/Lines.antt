-- The line of a moment.
use Rattle.std.specs.Prelude.{ℕ, List, ◌++◌, codes, length}
use Rattle.std.specs.declared.option.Option.{Option}
use Rattle.task_request.specs.declared.request.Request.{Request}
use Rattle.script_text.specs.spec_state.Effects.{EffectValue}
use Rattle.script_text.specs.spec_state.View.{View}
use Rattle.script_text.specs.event_def.declared.event.Reply.{Reply}
use Rattle.script_text.specs.step_script.Asking.{Attempt}
use Rattle.watch_text.specs.Changes.{change_by, change_text, reply_part}
use Rattle.watch_text.specs.Moments.{Moment}
use Rattle.watch_text.specs.Requests.{front_text}

-- the rest of a line behind its event
abbrev pub rest_text : {N : Type 0} → EffectValue → ℕ → View → Attempt N → Option ℕ → Option Request → Reply → ℕ → ℕ
    → List ℕ
rest_text effect output new asks task request answer aborted events =
    reply_part answer events ++ change_by answer (change_text effect output new asks task request aborted)
    ++ codes "}\n"

-- the line of a moment: what was done and asked for, the reply, and what changed
unfoldable pub line_of : {N : Type 0} → Moment N → List ℕ
line_of m =
    front_text m.at m.act m.asks m.task m.request
    ++ rest_text m.effect (length m.old.view.output) m.new.view m.asks m.task m.request m.reply m.aborted m.new.steps
