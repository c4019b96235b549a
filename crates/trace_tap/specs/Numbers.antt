-- A record as numbers.
use Rattle.std.specs.Prelude.{ℕ, ◌+◌, List, [], ◌∷◌, Option, Some, None}
use Rattle.trace_tap.specs.declared.record.Deed.{Deed}
use Rattle.trace_tap.specs.declared.record.Deed.TheVariants.{Dispatch, Access, Call, Keep, Abort, Commit, Coalesce}
use Rattle.trace_tap.specs.declared.record.Deed.TheVariants.{Split}
use Rattle.trace_tap.specs.declared.record.Record.{Record}

-- the deeds are numbered from 1
abbrev pub code : Deed → ℕ
code Dispatch = 1
code Access = 2
code Call = 3
code Keep = 4
code Abort = 5
code Commit = 6
code Coalesce = 7
code Split = 8

-- a line plus 1, or 0 where there is none
abbrev pub line_number : Option ℕ → ℕ
line_number None = 0
line_number (Some line) = line + 1

-- the five numbers of a record
abbrev pub numbers_of_record : Record → List ℕ
numbers_of_record seen = code seen.deed ∷ seen.tile ∷ line_number seen.line ∷ seen.aborted ∷ seen.commits ∷ []
