-- What a tap keeps, as contracts see it.
use Rattle.std.specs.Prelude.{ℕ, List}
use Rattle.trace_tap.specs.declared.record.Record.{Record}

-- a list of numbers, and the list after a record is noted
pub record TapValue : Type 0 where
  pub list : List ℕ
  pub after : List ℕ → Record → List ℕ

-- the tap after a record is noted: only its list changes
abbrev pub after_note : Record → TapValue → TapValue
after_note seen tap = record tap { list = tap.after tap.list seen }
