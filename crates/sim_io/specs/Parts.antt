-- How much of a source was taken, and how much of a text was written.
use Rattle.std.specs.Prelude.{ℕ, ◌≡◌, ◌+◌, ◌≤◌, List, length, take, Result, OnOk, OnErr}
use Rattle.std.specs.Io.KnownBytes.{Appends, Consumes, IsAtEnd}
use Rattle.sim_io.specs.Causes.{HasCause}
use Rattle.sim_io.specs.Streams.{SinkState, SourceState}

-- all that was left was taken: these bytes, of which there are at most `limit`
pub record ReadsAll (old new : SourceState) (limit : ℕ) (found : List ℕ) : Type 0 where
  pub taken : Consumes old.left new.left found
  pub ended : IsAtEnd new.left
  pub within : length found ≤ limit

-- one byte more than the limit was taken
pub record ReadsPast (old new : SourceState) (limit : ℕ) : Type 0 where
  pub found : List ℕ
  pub taken : Consumes old.left new.left found
  pub past : length found ≡ limit + 1

-- some bytes were taken, at most `limit`
pub record ReadsSome (old new : SourceState) (limit : ℕ) : Type 0 where
  pub found : List ℕ
  pub taken : Consumes old.left new.left found
  pub within : length found ≤ limit

-- the sink took this text and no other byte
abbrev pub SinkTakes : SinkState → SinkState → List ℕ → Type 0
SinkTakes old new text = Appends old.taken new.taken text

-- the sink took the first bytes of the text and no other byte
pub record TakesFront (old new : SinkState) (text : List ℕ) : Type 0 where
  pub count : ℕ
  pub within : count ≤ length text
  pub front : SinkTakes old new (take count text)

-- a call wrote this text; after a fault the sink has a front of it
pub record Writes {E : Type 0} (old new : SinkState) (result : Result (Unit {0}) E) (text : List ℕ) : Type 0 where
  pub ok : OnOk result (SinkTakes old new text)
  pub err : OnErr result (TakesFront old new text)
  pub cause : HasCause old.faults new.faults result
