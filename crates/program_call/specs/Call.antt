-- A call of a program, as its contract sees it.
use denote.Ref.{Bor}
use Rattle.std.specs.Prelude.{ℕ, List, map}
use Rattle.place_policy.specs.Policy.{Policy}
use Rattle.trace_tap.specs.TapValue.{TapValue}
use Rattle.sim_io.specs.Causes.{Rose}
use Rattle.sim_io.specs.Streams.{SinkState, SourceState}

-- what a call was given: its words, its placers and its taps, and the source before and after it
pub record Input : Type 0 where
  pub words : List (List ℕ)
  pub placers : List Policy
  pub taps : List TapValue
  pub source_before : SourceState
  pub source_after : SourceState

-- a call: what it was given, and the sink before and after it
pub record Call : Type 0 where
  pub input : Input
  pub sink_before : SinkState
  pub sink_after : SinkState

-- an input with the arguments of these references
abbrev pub input_of : List (Bor (List ℕ)) → List Policy → List TapValue
    → (source_before source_after : SourceState) → Input
input_of words placers taps source_before source_after = record {
  words = map (λ w. w.now) words;
  placers = placers;
  taps = taps;
  source_before = source_before;
  source_after = source_after;
}

-- a call on this input
abbrev pub call_on : Input → (sink_before sink_after : SinkState) → Call
call_on input sink_before sink_after = record { input = input; sink_before = sink_before; sink_after = sink_after }

-- the greatest number of bytes that an input may have
abbrev pub input_limit : ℕ
input_limit = 67108864

-- neither the source nor the sink failed in the call
pub record IsFaultless (call : Call) : Type 0 where
  pub source : Rose call.input.source_before.faults call.input.source_after.faults → ⊥
  pub sink : Rose call.sink_before.faults call.sink_after.faults → ⊥
