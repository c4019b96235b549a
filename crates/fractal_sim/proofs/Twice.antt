-- Two calls that play a script, are given the same and both end well, answer the same.
use Rattle.std.proofs.Common.{◌≡◌, ◌⊎◌, inl, inr, refl, sym, ap, ◌∙◌, subst, ℕ, ◌<◌, ◌≤◌, List, length, drop, codes}
use Rattle.std.proofs.Common.{arith, Some, None, Result, Ok, Err}
use Rattle.std.specs.declared.marker.Brand.{Brand}
use Rattle.sim_io.specs.Parts.{SinkTakes}
use Rattle.guest_image.specs.ImageValue.{ImageValue, IsImage}
use Rattle.guest_image.specs.Reading.{image_of}
use Rattle.guest_image.specs.declared.fault.ImageFault.{ImageFault}
use Rattle.run_journal.specs.declared.end.End.{End}
use Rattle.machine_run.specs.spec_state.Settings.{IsValid}
use Rattle.machine_run.specs.step_script.declared.act.Act.{Act}
use Rattle.machine_run.specs.step_script.declared.saying.Said.{Said}
use Rattle.machine_run.proofs.Below.step_script.Proved.{acts_within}
use Rattle.place_policy.specs.Policy.{Policy}
use Rattle.trace_tap.specs.TapValue.{TapValue}
use Rattle.machine_run.specs.Played.{IsPlayedRun, IsTracedRun}
use Rattle.machine_run.proofs.Proved.{played_run_is_one, traced_run_is_one}
use Rattle.command_line.specs.declared.request.Command.{Command}
use Rattle.command_line.specs.declared.request.Command.TheVariants as commands
use Rattle.command_line.specs.declared.request.Request.{Request}
use Rattle.command_line.specs.Requests.{request_of_words}
use Rattle.script_text.specs.Traces.{trace_text}
use Rattle.program_call.specs.declared.outcome.Outcome.{Outcome}
use Rattle.fractal_sim.specs.Answers as table
use Rattle.fractal_sim.specs.Answers.{IsAnswer}
use Rattle.program_call.specs.Answers as refusals
use Rattle.program_call.specs.Answers.{IsRefused}
use Rattle.program_call.specs.Call.{Call, Input, input_limit}
use Rattle.program_call.specs.Program.{IsToldBy, TellsAnswer, TellsOutcome}
use Rattle.fractal_sim.specs.Given.{front}
use Rattle.fractal_sim.specs.Program.{program}
use Rattle.fractal_sim.specs.Checks.{IsNoScriptAt}
use Rattle.program_call.specs.Outcomes.{IsEmpty, closed_of}
use Rattle.program_call.proofs.Proved.{asks_all, begins, past_all}
use Rattle.fractal_sim.specs.Runs.{IsReported, IsScript, PlaysScript}
use Rattle.fractal_sim.specs.Texts.{image_fault_line, script_fault_line, played_status, played_text}
use Rattle.fractal_sim.specs.Twice.{EndsWell, ScriptCallsAreOne}
use Rattle.fractal_sim.proofs.Counting.{same_request}

-- ---- what the bytes are

-- what bytes are where the words ask for a script: too many, without an image, without a script, or with both
data Verdict : Type 0 where
  TooLong : Verdict
  NoImageThere : ImageFault → Verdict
  NoScriptThere : ℕ → Verdict
  ScriptThere : ImageValue → List Act → Verdict

abbrev IsOf : Request → List ℕ → Verdict → Type 0
IsOf request bytes TooLong = input_limit < length bytes
IsOf request bytes (NoImageThere fault) = (length bytes ≤ input_limit) × (image_of bytes ≡ Err fault)
IsOf request bytes (NoScriptThere line) =
    (length bytes ≤ input_limit) × (image : ImageValue) × (size : ℕ) × (image_of bytes ≡ Ok (image, size))
    × IsNoScriptAt request (drop size bytes) line
IsOf request bytes (ScriptThere image script) =
    (length bytes ≤ input_limit) × (size : ℕ) × (image_of bytes ≡ Ok (image, size))
    × IsScript request (drop size bytes) script

-- an image or a fault, and a script or a line, is one
module _ (request : Request) (bytes : List ℕ) where
  fault_one : (fault other : ImageFault) → image_of bytes ≡ Err fault → image_of bytes ≡ Err other → other ≡ fault
  fault_one fault other one two =
      let both : ◌≡◌ {A = Result (ImageValue × ℕ) ImageFault} (Err other) (Err fault) = sym two ∙ one in cc

  image_one : (a b : ImageValue) (n m : ℕ) → image_of bytes ≡ Ok (a, n) → image_of bytes ≡ Ok (b, m)
      → ◌≡◌ {A = ImageValue × ℕ} (b, m) (a, n)
  image_one a b n m one two =
      let both : ◌≡◌ {A = Result (ImageValue × ℕ) ImageFault} (Ok (b, m)) (Ok (a, n)) = sym two ∙ one in cc

  no_both : (fault : ImageFault) (a : ImageValue) (n : ℕ) → image_of bytes ≡ Err fault → image_of bytes ≡ Ok (a, n) → ⊥
  no_both fault a n one two =
      let both : ◌≡◌ {A = Result (ImageValue × ℕ) ImageFault} (Err fault) (Ok (a, n)) = sym one ∙ two in cc

  -- behind either image the same stands
  moved : (P : List ℕ → Type 0) (a b : ImageValue) (n m : ℕ) → image_of bytes ≡ Ok (a, n) → image_of bytes ≡ Ok (b, m)
      → P (drop m bytes) → P (drop n bytes)
  moved P a b n m one two = subst (λ (p : ImageValue × ℕ). P (drop p.1 bytes)) (image_one a b n m one two)

  line_one : (rest : List ℕ) (line other : ℕ) → IsNoScriptAt request rest line → IsNoScriptAt request rest other
      → other ≡ line
  line_one rest line other one two =
      let both : ◌≡◌ {A = Result (List Act) ℕ} (Err other) (Err line) = sym two ∙ one in cc

  script_one : (rest : List ℕ) (script other : List Act) → IsScript request rest script → IsScript request rest other
      → other ≡ script
  script_one rest script other one two =
      let both : ◌≡◌ {A = Result (List Act) ℕ} (Ok other) (Ok script) = sym two ∙ one in cc

  no_line : (rest : List ℕ) (line : ℕ) (script : List Act) → IsNoScriptAt request rest line
      → IsScript request rest script → ⊥
  no_line rest line script one two =
      let both : ◌≡◌ {A = Result (List Act) ℕ} (Err line) (Ok script) = sym one ∙ two in cc

  too_long : input_limit < length bytes → length bytes ≤ input_limit → ⊥
  too_long long short = omega (arith, long, short)

  -- what the bytes are is one
  verdict_one : (v w : Verdict) → IsOf request bytes v → IsOf request bytes w → w ≡ v
  verdict_one TooLong TooLong is is' = refl
  verdict_one TooLong (NoImageThere fault) is is' = absurd (too_long is is'.0)
  verdict_one TooLong (NoScriptThere line) is is' = absurd (too_long is is'.0)
  verdict_one TooLong (ScriptThere image script) is is' = absurd (too_long is is'.0)
  verdict_one (NoImageThere fault) TooLong is is' = absurd (too_long is' is.0)
  verdict_one (NoScriptThere line) TooLong is is' = absurd (too_long is' is.0)
  verdict_one (ScriptThere image script) TooLong is is' = absurd (too_long is' is.0)
  verdict_one (NoImageThere fault) (NoImageThere other) is is' = ap NoImageThere (fault_one fault other is.1 is'.1)
  verdict_one (NoImageThere fault) (NoScriptThere line) is is' = absurd (no_both fault is'.1 is'.2 is.1 is'.3)
  verdict_one (NoImageThere fault) (ScriptThere image script) is is' = absurd (no_both fault image is'.1 is.1 is'.2)
  verdict_one (NoScriptThere line) (NoImageThere fault) is is' = absurd (no_both fault is.1 is.2 is'.1 is.3)
  verdict_one (ScriptThere image script) (NoImageThere fault) is is' = absurd (no_both fault image is.1 is'.1 is.2)
  verdict_one (NoScriptThere line) (NoScriptThere other) is is' =
      let rest = drop is.2 bytes in
      let there = moved (λ r. IsNoScriptAt request r other) is.1 is'.1 is.2 is'.2 is.3 is'.3 is'.4 in
      ap NoScriptThere (line_one rest line other is.4 there)
  verdict_one (NoScriptThere line) (ScriptThere image script) is is' =
      let there = moved (λ r. IsScript request r script) is.1 image is.2 is'.1 is.3 is'.2 is'.3 in
      absurd (no_line (drop is.2 bytes) line script is.4 there)
  verdict_one (ScriptThere image script) (NoScriptThere line) is is' =
      let there = moved (λ r. IsScript request r script) is'.1 image is'.2 is.1 is'.3 is.2 is.3 in
      absurd (no_line (drop is'.2 bytes) line script is'.4 there)
  verdict_one (ScriptThere image script) (ScriptThere other acts) is is' =
      let images : other ≡ image = ap (λ (p : ImageValue × ℕ). p.0) (image_one image other is.1 is'.1 is.2 is'.2) in
      let there = moved (λ r. IsScript request r acts) image other is.1 is'.1 is.2 is'.2 is'.3 in
      let scripts = script_one (drop is.1 bytes) script acts is.3 there in
      λ i. ScriptThere (images i) (scripts i)

-- ---- what is told of them

-- the outcome is empty, and this line tells why
record Refuses (o : Outcome) (status : ℕ) (line : List ℕ) (n : ℕ) (text : List ℕ) : Type 0 where
  empty : IsEmpty o
  status_is : n ≡ status
  text_is : text ≡ line

-- the script was played, and its replies are told
record TellsPlay (placers : List Policy) (taps : List TapValue) (request : Request) (image : ImageValue)
    (script : List Act) (o : Outcome) (n : ℕ) (text : List ℕ) : Type 0 where
  command : request.command ≡ commands.Steps
  said : List Said
  events : ℕ
  end : End
  steps_is : o.steps ≡ Some events
  played : IsPlayedRun Brand image request.settings script placers taps said events end (closed_of o)
  status_is : n ≡ played_status end
  text_is : text ≡ played_text said image (closed_of o) end

-- the script was played, and what the taps saw is told
record TellsTrace (placers : List Policy) (taps : List TapValue) (request : Request) (image : ImageValue)
    (script : List Act) (o : Outcome) (n : ℕ) (text : List ℕ) : Type 0 where
  command : request.command ≡ commands.Trace
  lists : List (List ℕ)
  events : ℕ
  end : End
  steps_is : o.steps ≡ Some events
  traced : IsTracedRun Brand image request.settings script placers taps lists events end (closed_of o)
  status_is : n ≡ 0
  text_is : text ≡ trace_text lists

abbrev Tells : List Policy → List TapValue → Request → Outcome → ℕ → List ℕ → Verdict → Type 0
Tells placers taps request o n text TooLong = Refuses o 10 (codes "fault long\n") n text
Tells placers taps request o n text (NoImageThere fault) = Refuses o 2 (image_fault_line fault) n text
Tells placers taps request o n text (NoScriptThere line) = Refuses o 9 (script_fault_line line) n text
Tells placers taps request o n text (ScriptThere image script) =
    IsImage image × IsValid request.settings
    × (TellsPlay placers taps request image script o n text ⊎ TellsTrace placers taps request image script o n text)

record Says (input : Input) (bytes : List ℕ) (request : Request) (o : Outcome) (n : ℕ) (text : List ℕ) : Type 0 where
  verdict : Verdict
  is_of : IsOf request bytes verdict
  tells : Tells input.placers input.taps request o n text verdict

-- a command that plays a script is none whose run is told by its report alone
not_reported : (command : Command) (end : End) → PlaysScript command → IsReported command end → ⊥
not_reported commands.Run end plays told = plays
not_reported commands.Save end plays told = plays
not_reported commands.Steps end plays told = told
not_reported commands.Trace end plays told = told
not_reported commands.Check end plays told = plays
not_reported (commands.Load load seed size) end plays told = plays

module _ (input : Input) (bytes : List ℕ) (request : Request) (o : Outcome)
    (has : input.source_before.left ≡ Some bytes) (asked : request_of_words input.words ≡ Some request)
    (plays : PlaysScript request.command) where
  -- the command that is asked for plays a script
  asks_so : (r : Request) (command : Command) → request_of_words input.words ≡ Some r → r.command ≡ command
      → PlaysScript command
  asks_so r command asks is = subst PlaysScript
      (ap (λ (q : Request). q.command) (sym (same_request input.words r request asks asked)) ∙ is) plays

  -- what a refusal says of the bytes
  refusal_says : {n : ℕ} {text : List ℕ} → IsEmpty o → IsRefused front input n text → Says input bytes request o n text
  refusal_says empty (refusals.Usage usage) =
      absurd (let both : Some request ≡ None = sym asked ∙ usage.refused in cc (both))
  refusal_says empty (refusals.Long long) = record {
    verdict = TooLong;
    is_of = past_all bytes input.source_before input.source_after input_limit has long.past;
    tells = record { empty = empty; status_is = refl; text_is = refl };
  }
  refusal_says empty (refusals.NoImage fault is) =
      let all = asks_all front input bytes is.bytes is.asked (inl has) is.read in
      record {
        verdict = NoImageThere fault;
        is_of = (all.within, ap image_of (sym all.same) ∙ is.fault_is);
        tells = record { empty = empty; status_is = refl; text_is = refl };
      }

  -- what an answer says of the bytes
  says : {image : ImageValue} {n : ℕ} {text : List ℕ} → IsAnswer image input o n text
      → Says input bytes request o n text
  says (table.Refused line is empty) = absurd (asks_so is.request commands.Check is.given.read.asks is.command)
  says (table.NoScript line is empty) =
      let begun = begins front input bytes is.request is.image is.bytes_behind (inl has) is.given in
      let rest = drop begun.size bytes in
      let behind : IsNoScriptAt is.request rest line =
      subst (λ rest. IsNoScriptAt is.request rest line) begun.behind_is is.wrong in
      let wrong = subst (λ r. IsNoScriptAt r rest line) (same_request input.words is.request request begun.asks asked)
      behind in
      record {
        verdict = NoScriptThere line;
        is_of = (begun.within, is.image, begun.size, begun.image_is, wrong);
        tells = record { empty = empty; status_is = refl; text_is = refl };
      }
  says (table.Accepted is) = absurd (asks_so is.request commands.Check is.given.read.asks is.command)
  says (table.Ended end is) =
      let command = is.request.command in
      absurd (not_reported command end (asks_so is.request command is.given.read.asks refl) is.told)
  says (table.Saved pendings is rooted few) =
      absurd (asks_so is.request commands.Save is.given.read.asks is.command)
  says (table.Nested pendings depth is deep over) =
      absurd (asks_so is.request commands.Save is.given.read.asks is.command)
  says (table.TooMany pendings is rooted many) =
      absurd (asks_so is.request commands.Save is.given.read.asks is.command)
  says (table.Loaded load seed size end is) =
      absurd (asks_so is.request (commands.Load load seed size) is.given.asked is.given.command)
  says {image} (table.Played said end is) =
      let begun = begins front input bytes is.request image is.bytes_behind (inl has) is.given in
      let one = same_request input.words is.request request begun.asks asked in
      let rest = drop begun.size bytes in
      let behind : IsScript is.request rest is.script =
      subst (λ rest. IsScript is.request rest is.script) begun.behind_is is.script_is in
      let script_is = subst (λ r. IsScript r rest is.script) one behind in
      let valid = subst (λ (r : Request). IsValid r.settings) one is.given.within.settings in
      record {
        verdict = ScriptThere image is.script;
        is_of = (begun.within, begun.size, begun.image_is, script_is);
        tells = (
          is.given.fits,
          valid,
          inl record {
            command = ap (λ (r : Request). r.command) (sym one) ∙ is.command;
            said = said;
            events = is.events;
            end = end;
            steps_is = is.steps_is;
            played = subst (λ (r : Request). IsPlayedRun Brand image r.settings is.script input.placers input.taps said
                is.events end (closed_of o)) one is.played;
            status_is = refl;
            text_is = refl;
          },
        );
      }
  says {image} (table.Traced lists end is) =
      let begun = begins front input bytes is.request image is.bytes_behind (inl has) is.given in
      let one = same_request input.words is.request request begun.asks asked in
      let rest = drop begun.size bytes in
      let behind : IsScript is.request rest is.script =
      subst (λ rest. IsScript is.request rest is.script) begun.behind_is is.script_is in
      let script_is = subst (λ r. IsScript r rest is.script) one behind in
      let valid = subst (λ (r : Request). IsValid r.settings) one is.given.within.settings in
      record {
        verdict = ScriptThere image is.script;
        is_of = (begun.within, begun.size, begun.image_is, script_is);
        tells = (
          is.given.fits,
          valid,
          inr record {
            command = ap (λ (r : Request). r.command) (sym one) ∙ is.command;
            lists = lists;
            events = is.events;
            end = end;
            steps_is = is.steps_is;
            traced = subst (λ (r : Request). IsTracedRun Brand image r.settings is.script input.placers input.taps lists
                is.events end (closed_of o)) one is.traced;
            status_is = refl;
            text_is = refl;
          },
        );
      }

  -- what is found says something of the bytes
  found_says : {image : ImageValue} {n : ℕ} {text : List ℕ} → IsToldBy program image input o n text
      → Says input bytes request o n text
  found_says (inl refused) = refusal_says refused.0 refused.1
  found_says (inr answer) = says answer

-- ---- what is told is one thing

record IsOneAnswer (o other : Outcome) (n m : ℕ) (text other_text : List ℕ) : Type 0 where
  status : m ≡ n
  run : closed_of other ≡ closed_of o
  steps : other.steps ≡ o.steps
  text_is : other_text ≡ text

module _ (o other : Outcome) (n m : ℕ) (text other_text : List ℕ) where
  refusal_one : (status : ℕ) (line : List ℕ) → Refuses o status line n text → Refuses other status line m other_text
      → IsOneAnswer o other n m text other_text
  refusal_one status line one two = record {
    status = two.status_is ∙ sym one.status_is;
    run = λ i. record {
      journal = (two.empty.journal ∙ sym one.empty.journal) i;
      memory = (two.empty.memory ∙ sym one.empty.memory) i;
      output = (two.empty.output ∙ sym one.empty.output) i;
      end = (two.empty.end ∙ sym one.empty.end) i;
    };
    steps = two.empty.steps ∙ sym one.empty.steps;
    text_is = two.text_is ∙ sym one.text_is;
  }

  module _ (placers : List Policy) (taps : List TapValue) (request : Request) (image : ImageValue) (script : List Act)
      (rest : List ℕ) (is_script : IsScript request rest script) (fits : IsImage image)
      (valid : IsValid request.settings) where
    play_one : TellsPlay placers taps request image script o n text
        → TellsPlay placers taps request image script other m other_text → IsOneAnswer o other n m text other_text
    play_one one two =
        let within = acts_within rest request.settings.tiles request.settings.cores script is_script in
        let both =
        played_run_is_one Brand image request.settings script placers taps one.said two.said one.events two.events
        one.end two.end (closed_of o) (closed_of other) fits valid within one.played two.played in
        let run = both.1 in
        record {
          status = two.status_is ∙ (ap played_status run.end_is ∙ sym one.status_is);
          run = run.run_is;
          steps = two.steps_is ∙ (ap Some run.events_are ∙ sym one.steps_is);
          text_is = two.text_is
              ∙ ((λ i. played_text (both.0 i) image (run.run_is i) (run.end_is i)) ∙ sym one.text_is);
        }

    trace_one : TellsTrace placers taps request image script o n text
        → TellsTrace placers taps request image script other m other_text → IsOneAnswer o other n m text other_text
    trace_one one two =
        let within = acts_within rest request.settings.tiles request.settings.cores script is_script in
        let both =
        traced_run_is_one Brand image request.settings script placers taps one.lists two.lists one.events two.events
        one.end two.end (closed_of o) (closed_of other) fits valid within one.traced two.traced in
        let run = both.1 in
        record {
          status = two.status_is ∙ sym one.status_is;
          run = run.run_is;
          steps = two.steps_is ∙ (ap Some run.events_are ∙ sym one.steps_is);
          text_is = two.text_is ∙ (ap trace_text both.0 ∙ sym one.text_is);
        }

    -- one list of words asks for one of both
    not_both : request.command ≡ commands.Steps → request.command ≡ commands.Trace → ⊥
    not_both steps trace = let both : commands.Steps ≡ commands.Trace = sym steps ∙ trace in cc

    script_told_one : TellsPlay placers taps request image script o n text
        ⊎ TellsTrace placers taps request image script o n text
        → TellsPlay placers taps request image script other m other_text
        ⊎ TellsTrace placers taps request image script other m other_text → IsOneAnswer o other n m text other_text
    script_told_one (inl one) (inl two) = play_one one two
    script_told_one (inl one) (inr two) = absurd (not_both one.command two.command)
    script_told_one (inr one) (inl two) = absurd (not_both two.command one.command)
    script_told_one (inr one) (inr two) = trace_one one two

  told_one : (placers : List Policy) (taps : List TapValue) (request : Request) (bytes : List ℕ) (v : Verdict)
      → IsOf request bytes v → Tells placers taps request o n text v → Tells placers taps request other m other_text v
      → IsOneAnswer o other n m text other_text
  told_one placers taps request bytes TooLong is one two = refusal_one 10 (codes "fault long\n") one two
  told_one placers taps request bytes (NoImageThere fault) is one two =
      refusal_one 2 (image_fault_line fault) one two
  told_one placers taps request bytes (NoScriptThere line) is one two =
      refusal_one 9 (script_fault_line line) one two
  told_one placers taps request bytes (ScriptThere image script) is one two =
      script_told_one placers taps request image script (drop is.1 bytes) is.3 one.0 one.1 one.2 two.2

-- ---- calls

-- a call that ended well has an answer
answered : (image : ImageValue) (call : Call) (o : Outcome) → EndsWell o → TellsOutcome program image call o
    → TellsAnswer program image call o
answered image call o well (inl want) = absurd (well.memory want.status_is)
answered image call o well (inr (inl fault)) = absurd (well.source fault.status_is)
answered image call o well (inr (inr (inl fault))) = absurd (well.sink fault.status_is)
answered image call o well (inr (inr (inr answer))) = answer

pub script_calls_are_one : ScriptCallsAreOne
script_calls_are_one call other o other_o image other_image asks given tells other_tells well other_well =
    let first = answered image call o well tells in
    let second = answered other_image other other_o other_well other_tells in
    let bytes = given.bytes in
    let request = asks.request in
    let input = call.input in
    let asked = ap request_of_words given.words ∙ asks.asked in
    let one = found_says input bytes request o given.has asks.asked asks.plays first.answer in
    let two = found_says other.input bytes request other_o given.other_has asked asks.plays second.answer in
    let same_verdict : two.verdict ≡ one.verdict =
    verdict_one request bytes one.verdict two.verdict one.is_of two.is_of in
    let by_placers =
    subst (λ p. Tells p other.input.taps request other_o other_o.status second.text two.verdict) given.placers
    two.tells in
    let by_taps =
    subst (λ t. Tells input.placers t request other_o other_o.status second.text two.verdict) given.taps
    by_placers in
    let tells' =
    subst (λ v. Tells input.placers input.taps request other_o other_o.status second.text v) same_verdict by_taps in
    let is =
    told_one o other_o o.status other_o.status first.text second.text input.placers input.taps request bytes
    one.verdict one.is_of one.tells tells' in
    record {
      outcome = λ i. record {
        status = is.status i;
        journal = (is.run i).journal;
        memory = (is.run i).memory;
        output = (is.run i).output;
        end = (is.run i).end;
        steps = is.steps i;
      };
      text = first.text;
      took = first.took;
      other_took = subst (SinkTakes other.sink_before other.sink_after) is.text_is second.took;
    }
