-- What contracts see of a source and of a sink.
use Rattle.std.specs.Prelude.{ℕ, List}
use Rattle.std.specs.declared.option.Option.{Option}

-- a source: the bytes that are left, where they are known, and how often it failed
pub record SourceState : Type 0 where
  pub left : Option (List ℕ)
  pub faults : ℕ

-- a sink: the bytes that were taken, where they are known, and how often it failed
pub record SinkState : Type 0 where
  pub taken : Option (List ℕ)
  pub faults : ℕ
