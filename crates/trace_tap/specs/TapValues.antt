-- The taps that the machine comes with.
use Rattle.std.specs.Prelude.{ℕ, ◌+◌, ◌-◌, ◌*◌, ◌^◌, List, ◌++◌, Option, Some, min, slice_index, slice_set}
use Rattle.circular_buffer.specs.Buffer.{keep_last}
use Rattle.trace_tap.specs.declared.record.Deed.{Deed}
use Rattle.trace_tap.specs.declared.record.Deed.TheVariants.{Access}
use Rattle.trace_tap.specs.Numbers.{numbers_of_record}
use Rattle.trace_tap.specs.TapValue.{TapValue}

-- the numbers of the last n records, the oldest first
abbrev pub last_records : ℕ → List ℕ → TapValue
last_records n list = record { list = list; after = λ list seen. keep_last (5 * n) (list ++ numbers_of_record seen) }

-- an amount is added at a place, and the sum stands still at 2^64 - 1
abbrev pub add_at : List ℕ → ℕ → ℕ → List ℕ
add_at counts place amount = slice_set counts place (min (slice_index counts place + amount) (2 ^ 64 - 1))

-- an access to a line counts what it aborted, the lines after the last one together; nothing else counts, and no event
-- makes an access without a line
abbrev pub counts_after : ℕ → List ℕ → Deed → Option ℕ → ℕ → List ℕ
counts_after lines counts Access (Some line) aborted = add_at counts (min line lines) aborted
counts_after lines counts deed line aborted = counts

-- the counts of this many lines, and of all lines after them
abbrev pub line_counts : ℕ → List ℕ → TapValue
line_counts lines counts = record {
  list = counts;
  after = λ counts seen. counts_after lines counts seen.deed seen.line seen.aborted;
}
