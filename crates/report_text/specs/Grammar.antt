-- The grammar of a report: exactly the lines that a report has, in their order.
use Rattle.std.specs.Prelude.{ℕ, ◌+◌, ◌==◌, ◌&&◌, Bool, true, false, nat_le, List, [], ◌∷◌, ◌++◌, length, codes}
use Rattle.std.specs.Prelude.{Some, None, Result, Ok, Err, if◌then◌else◌, ◌≡◌}
use Rattle.std.specs.declared.option.Option.{Option}
use Rattle.std.specs.Str.{bytes_eq}
use Rattle.run_journal.specs.declared.journal.Entry.{Entry}
use Rattle.run_journal.specs.declared.end.End.{End}
use Rattle.run_journal.specs.declared.end.End.TheVariants as ends
use Rattle.report_text.specs.declared.limits.TheConstants.{MAX_ENTRIES, MAX_DEPTH, MAX_CAUSE}
use Rattle.report_text.specs.declared.report.WindowWord.{WindowWord}
use Rattle.report_text.specs.declared.report.Report.{Report}
use Rattle.report_text.specs.declared.fault.JournalFault.{JournalFault}
use Rattle.report_text.specs.declared.fault.JournalFault.TheVariants as faults
use Rattle.text_lines.specs.Lines.{◌>>=◌, some_if, lines_of, cut, behind}
use Rattle.text_lines.specs.Numerals.{number, field}
use Rattle.report_text.specs.Hex.{hex_word, hex_bytes}

-- the n-th entry: `<n> <creator>.<index> <depth> <ts>`
unfoldable pub entry_in : ℕ → List ℕ → Option Entry
entry_in n line =
    field 32 line >>= λ a. field 46 a.1 >>= λ b. field 32 b.1 >>= λ c. field 32 c.1 >>= λ d. number d.1 >>= λ ts.
    some_if ((a.0 == n) && (nat_le n MAX_ENTRIES && (nat_le 1 d.0 && nat_le d.0 MAX_DEPTH)))
    (record { name = record { creator = b.0; index = c.0 }; depth = d.0; ts = ts })

-- the bytes of two digits each, of which there are some, or a dash for none
abbrev pub output_bytes : List ℕ → Option (List ℕ)
output_bytes digits =
    if bytes_eq digits (codes "-") then Some []
    else if length digits == 0 then None
    else hex_bytes digits

-- the emitted bytes: `output <hex>`
unfoldable pub output_in : List ℕ → Option (List ℕ)
output_in line = behind (codes "output ") line >>= output_bytes

-- a word of the window: `window <address> <value>`
unfoldable pub window_in : List ℕ → Option WindowWord
window_in line =
    behind (codes "window ") line >>= λ words. cut 32 words >>= λ p.
    hex_word p.0 >>= λ addr. hex_word p.1 >>= λ value.
    Some (record { addr = addr; value = value })

-- the trap that ends a run, from the text after `end trap `: `<cause> <pc> <creator>.<index>`
unfoldable pub trap_in : List ℕ → Option End
trap_in rest =
    field 32 rest >>= λ a. cut 32 a.1 >>= λ p. hex_word p.0 >>= λ pc. field 46 p.1 >>= λ b. number b.1 >>= λ index.
    some_if (nat_le 1 a.0 && nat_le a.0 MAX_CAUSE) (ends.Trap (record { creator = b.0; index = index }) a.0 pc)

-- how the run ended
unfoldable pub end_in : List ℕ → Option End
end_in line =
    if bytes_eq line (codes "end normal") then Some ends.Normal
    else if bytes_eq line (codes "end limit") then Some ends.Limit
    else if bytes_eq line (codes "end open") then Some ends.Unfinished
    else behind (codes "end trap ") line >>= trap_in

-- whether there are zero lines
abbrev pub is_nothing : List (List ℕ) → Bool
is_nothing [] = true
is_nothing (l ∷ ls) = false

-- words at the front of a window that was read
abbrev pub onto_window : List WindowWord → Result (List WindowWord × End) ℕ
    → Result (List WindowWord × End) ℕ
onto_window front (Ok r) = Ok (front ++ r.0, r.1)
onto_window front (Err line) = Err line

-- line k is a word of the window, with what the lines after it say, or it is outside
abbrev pub after_window_word : ℕ → Option WindowWord → Result (List WindowWord × End) ℕ
    → Result (List WindowWord × End) ℕ
after_window_word k None rest = Err k
after_window_word k (Some w) rest = onto_window (w ∷ []) rest

-- line k is the end, after which no line may follow, or else what the rest says
abbrev pub after_end : ℕ → List (List ℕ) → Option End → Result (List WindowWord × End) ℕ
    → Result (List WindowWord × End) ℕ
after_end k ls None rest = rest
after_end k ls (Some e) rest = if is_nothing ls then Ok ([], e) else Err (k + 1)

-- the window and the end in the lines from the k-th on, or the first line outside
abbrev pub window_at : ℕ → List (List ℕ) → Result (List WindowWord × End) ℕ
window_at k [] = Err k
window_at k (l ∷ ls) = after_end k ls (end_in l) (after_window_word k (window_in l) (window_at (k + 1) ls))

-- a report without entries
abbrev pub with_output : List ℕ → Result (List WindowWord × End) ℕ → Result Report ℕ
with_output output (Ok r) = Ok (record { journal = []; output = output; window = r.0; end = r.1 })
with_output output (Err line) = Err line

-- entries at the front of a report that was read
abbrev pub onto_journal : List Entry → Result Report ℕ → Result Report ℕ
onto_journal front (Ok r) = Ok (record r { journal = front ++ r.journal })
onto_journal front (Err line) = Err line

-- line n + 1 is the n-th entry, with what the lines after it say, or it is outside
abbrev pub after_entry : ℕ → Option Entry → Result Report ℕ → Result Report ℕ
after_entry n None rest = Err (n + 1)
after_entry n (Some e) rest = onto_journal (e ∷ []) rest

-- the line has the output, with what the lines after it say, or else what the rest says
abbrev pub after_output : Option (List ℕ) → Result (List WindowWord × End) ℕ → Result Report ℕ
    → Result Report ℕ
after_output None window rest = rest
after_output (Some output) window rest = with_output output window

-- the entries from the n-th on, which is line n + 1, and all after them, or the first line outside
abbrev pub entries_at : ℕ → List (List ℕ) → Result Report ℕ
entries_at n [] = Err (n + 1)
entries_at n (l ∷ ls) =
    after_output (output_in l) (window_at (n + 2) ls) (after_entry n (entry_in n l) (entries_at (n + 1) ls))

-- the lines of a whole report, or the first line outside
abbrev pub report_at : List (List ℕ) → Result Report ℕ
report_at [] = Err 1
report_at (l ∷ ls) = if bytes_eq l (codes "fractal 1") then entries_at 1 ls else Err 1

-- the report that a text is, or the number of its first line outside the grammar
abbrev pub report_of : List ℕ → Result Report ℕ
report_of text = report_at (lines_of text)

-- a call answered what reading gives, unless memory was wanting
abbrev pub GivesRead : {X : Type 0} → Result X JournalFault → Result X ℕ → Type 0
GivesRead (Ok x) read = read ≡ Ok x
GivesRead (Err faults.Memory) read = Unit {0}
GivesRead (Err (faults.Line line)) read = read ≡ Err line
