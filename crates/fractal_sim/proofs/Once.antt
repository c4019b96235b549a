-- A call of the program that plays a script and ends well.
use Rattle.std.proofs.Common.{◌≡◌, ◌≤◌, inl, inr, refl, sym, ap, ℕ, List, [], ◌∷◌, ◌++◌, codes, arith, drop, length, Some}
use Rattle.std.proofs.Common.{Ok}
use Rattle.std.proofs.lemmas.List.{append-nil}
use Rattle.guest_image.specs.Limits.{limits_fault}
use Rattle.guest_image.specs.Numbers.{half_at, word_at}
use Rattle.guest_image.specs.Reading.{after_header, header_fault, image_of, image_task_at, tasks_from, value_in_bytes}
use Rattle.guest_image.specs.Reading.{whole_length, words_from}
use Rattle.guest_image.specs.Writing.{image_bytes}
use Rattle.run_journal.specs.declared.end.End.TheVariants as ends
use Rattle.text_lines.specs.Numerals.{number_below}
use Rattle.machine_run.specs.step_script.Grammar.{act_at, act_in, acts_of}
use Rattle.command_line.specs.declared.request.Command.TheVariants as commands
use Rattle.command_line.specs.declared.request.Request.{Request}
use Rattle.command_line.specs.Requests.{IsLimited, command_by, request_by, request_of_words, settings_by}
use Rattle.program_call.specs.declared.outcome.Outcome.{Outcome}
use Rattle.program_call.specs.Call.{Call, Input, input_limit}
use Rattle.fractal_sim.specs.Answers as answers
use Rattle.fractal_sim.specs.Runs.{PlaysToEnd}
use Rattle.fractal_sim.specs.Texts.{played_text}
use Rattle.fractal_sim.specs.Twice.{ScriptCallsEndWell}
use Rattle.fractal_sim.proofs.Dispatched.{image, is_image, is_played, is_run, run, said, script, settings}

-- what the word `steps` asks for
abbrev asked_for : Request
asked_for = record { command = commands.Steps; settings = settings }

asks : request_of_words (codes "steps" ∷ []) ≡ Some asked_for
unfolding request_by command_by settings_by
asks = refl

is_limited : IsLimited asked_for
is_limited = record {
  settings = record {
    tiles = (omega arith, omega arith);
    cores = (omega arith, omega arith);
    task_queue = (omega arith, omega arith);
    commit_queue = (omega arith, omega arith);
    line = inr (inr (inl refl));
    quantum = (omega arith, omega arith);
    workers = (omega arith, omega arith);
    commits = (omega arith, omega arith);
    budget = (omega arith, omega arith);
    phase = (omega arith, omega arith);
  };
  size = tt;
}

-- the text of the script, and the bytes that stand in the source: the image and this text
abbrev text : List ℕ
text = codes "dispatch 0\n"

is_script : acts_of text 4 2 ≡ Ok script
unfolding act_in act_at number_below
is_script = refl

abbrev bytes : List ℕ
bytes = image_bytes image ++ text

no_fault : header_fault bytes ≡ Ok tt
unfolding image_bytes header_fault limits_fault word_at half_at
no_fault = refl

image_is : image_of bytes ≡ Ok (image, 52)
unfolding image_bytes image_of whole_length value_in_bytes words_from tasks_from image_task_at word_at half_at
image_is = ap (after_header bytes) no_fault

text_is : text ≡ drop 52 bytes
unfolding image_bytes
text_is = refl

within : length bytes ≤ input_limit
unfolding image_bytes
within = omega arith

abbrev input : Input
input = record {
  words = codes "steps" ∷ [];
  placers = [];
  taps = [];
  source_before = record { left = Some bytes; faults = 0 };
  source_after = record { left = Some []; faults = 0 };
}

abbrev outcome : Outcome
outcome = record {
  status = 0;
  journal = [];
  memory = [];
  output = [];
  end = Some ends.Unfinished;
  steps = Some 1;
}

abbrev answer : List ℕ
answer = played_text said image run ends.Unfinished

abbrev call : Call
call = record {
  input = input;
  sink_before = record { taken = Some []; faults = 0 };
  sink_after = record { taken = Some answer; faults = 0 };
}

abbrev plays : PlaysToEnd input image said ends.Unfinished outcome
plays = record {
  request = asked_for;
  bytes_behind = text;
  given = record {
    bytes = bytes;
    size = 52;
    read = record {
      asks = asks;
      reads = tt;
      read = record { taken = sym (append-nil bytes); ended = refl; within = within };
    };
    image_is = image_is;
    behind_is = text_is;
    fits = is_image;
    within = is_limited;
  };
  command = refl;
  script = script;
  script_is = is_script;
  events = 1;
  steps_is = refl;
  played = is_played;
  is_run = is_run;
}

pub script_calls_end_well : ScriptCallsEndWell
script_calls_end_well = (
  image,
  call,
  outcome,
  record {
    asks = record { request = asked_for; asked = asks; plays = tt };
    same = record { words = refl; placers = refl; taps = refl; bytes = bytes; has = refl; other_has = refl };
    plays = record { said = said; end = ends.Unfinished; played = plays; some = omega arith };
    tells = inr (inr (inr record {
      text = answer;
      answer = inr (answers.Played said ends.Unfinished plays);
      took = refl;
    }));
    well = record {
      memory = λ e. omega (arith, e);
      source = λ e. omega (arith, e);
      sink = λ e. omega (arith, e);
    };
  },
)
