-- The laws of the three kinds of filters.
use Rattle.std.specs.Prelude.{◌≡◌, ◌↔◌, ℕ, Bool, true, false, List, []}
use Rattle.line_table.specs.declared.lines.FilterKind.{FilterKind}
use Rattle.line_table.specs.declared.lines.FilterKind.TheVariants.{Modulo, Exact}
use Rattle.line_table.specs.declared.lines.Lines.{Lines}
use Rattle.line_table.specs.Note.{Note, touched_in, wrote_in, Meet}
use Rattle.line_table.specs.Signature.{touched_beside, wrote_beside, meets_of}
use Rattle.line_table.specs.Lines.{IsLines, touched_by, wrote_by}

-- what was noted is reported, and what is reported as written is also reported as touched
abbrev pub NotedIsTold : Type 0
NotedIsTold =
    (kind : FilterKind) (size : ℕ) (lines : Lines) (notes : List Note) (line : ℕ) → IsLines kind size lines notes
    → (touched_in notes line ≡ true → touched_by lines notes line ≡ true)
    × (wrote_in notes line ≡ true → wrote_by lines notes line ≡ true)
    × (wrote_by lines notes line ≡ true → touched_by lines notes line ≡ true)

-- where nothing was noted, nothing is reported
abbrev pub ClearedTellsNone : Type 0
ClearedTellsNone =
    (kind : FilterKind) (size : ℕ) (lines : Lines) (line : ℕ) → IsLines kind size lines []
    → (touched_by lines [] line ≡ false) × (wrote_by lines [] line ≡ false)

-- a filter of this kind reports what is touched and written by these functions of the notes, and nothing else
abbrev pub TellsExactly : FilterKind → (touched wrote : List Note → ℕ → Bool) → Type 0
TellsExactly kind touched wrote =
    (size : ℕ) (lines : Lines) (notes : List Note) (line : ℕ) → IsLines kind size lines notes
    → (touched_by lines notes line ≡ touched notes line) × (wrote_by lines notes line ≡ wrote notes line)

-- an exact filter reports what was noted, and nothing else
abbrev pub ExactTellsNoted : Type 0
ExactTellsNoted = TellsExactly Exact touched_in wrote_in

-- a filter of the kind Modulo reports the lines that equal a noted one modulo 1,024, and nothing else
abbrev pub BitsTellModulo : Type 0
BitsTellModulo = TellsExactly Modulo touched_beside wrote_beside

-- of the kind Modulo a line that was noted with a write is reported as touched by the later filter exactly where a bit
-- is set both in the first row of writes and in the later one of touches
abbrev pub BitsMeetModulo : Type 0
BitsMeetModulo =
    (size : ℕ) (one two : Lines) (ones twos : List Note) → IsLines Modulo size one ones → IsLines Modulo size two twos
    → (meets_of one.near two.near ≡ true) ↔ Meet (wrote_in ones) (touched_by two twos)

-- lines of one kind with the same notes answer alike
abbrev pub LinesAgree : Type 0
LinesAgree =
    (kind : FilterKind) (size : ℕ) (one two : Lines) (notes : List Note)
    → IsLines kind size one notes → IsLines kind size two notes
    → (line : ℕ)
    → (touched_by one notes line ≡ touched_by two notes line) × (wrote_by one notes line ≡ wrote_by two notes line)
