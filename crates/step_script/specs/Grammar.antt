-- The grammar of a script: which line is which act, for a machine of so many tiles with so many cores each.
use Rattle.std.specs.Prelude.{ℕ, ◌+◌, List, [], ◌∷◌, ◌++◌, codes, Some, None, Result, Ok, Err, if◌then◌else◌, ◌≡◌}
use Rattle.std.specs.declared.option.Option.{Option}
use Rattle.std.specs.Str.{bytes_eq}
use Rattle.step_script.specs.declared.act.Act.{Act}
use Rattle.step_script.specs.declared.act.Act.TheVariants as acts
use Rattle.step_script.specs.declared.fault.ScriptFault.{ScriptFault}
use Rattle.step_script.specs.declared.fault.ScriptFault.TheVariants as faults
use Rattle.text_lines.specs.Lines.{◌>>=◌, lines_of, cut}
use Rattle.text_lines.specs.Numerals.{number_below}

-- a tile and one of its cores: `<tile> <core>`
unfoldable pub core_in : ℕ → ℕ → List ℕ → Option (ℕ × ℕ)
core_in tiles cores places =
    cut 32 places >>= λ p. number_below tiles p.0 >>= λ tile. number_below cores p.1 >>= λ core. Some (tile, core)

-- an act on the tile that this number names
abbrev pub on_tile : ℕ → (ℕ → Act) → List ℕ → Option Act
on_tile tiles act places = number_below tiles places >>= λ tile. Some (act tile)

-- an act on the core that these numbers name
abbrev pub on_core : ℕ → ℕ → (ℕ → ℕ → Act) → List ℕ → Option Act
on_core tiles cores act places = core_in tiles cores places >>= λ p. Some (act p.0 p.1)

-- the act that a word names, with the rest of the line
unfoldable pub act_at : ℕ → ℕ → List ℕ → List ℕ → Option Act
act_at tiles cores word places =
    if bytes_eq word (codes "dispatch") then on_tile tiles acts.Dispatch places
    else if bytes_eq word (codes "step") then on_core tiles cores acts.Step places
    else if bytes_eq word (codes "take") then on_core tiles cores acts.Take places
    else if bytes_eq word (codes "give") then on_core tiles cores acts.Give places
    else if bytes_eq word (codes "abort") then on_tile tiles acts.Abort places
    else if bytes_eq word (codes "coalesce") then on_tile tiles acts.Coalesce places
    else if bytes_eq word (codes "split") then on_tile tiles acts.Split places
    else None

-- the act that a line is: `commit`, `advance`, or a word, one space and where it acts
unfoldable pub act_in : ℕ → ℕ → List ℕ → Option Act
act_in tiles cores line =
    if bytes_eq line (codes "commit") then Some acts.Commit
    else if bytes_eq line (codes "advance") then Some acts.Advance
    else cut 32 line >>= λ p. act_at tiles cores p.0 p.1

-- acts at the front of a script that was read
abbrev pub onto_acts : List Act → Result (List Act) ℕ → Result (List Act) ℕ
onto_acts front (Ok acts) = Ok (front ++ acts)
onto_acts front (Err line) = Err line

-- line k is an act, with the result of the lines after it, or it is outside
abbrev pub after_act : ℕ → Option Act → Result (List Act) ℕ → Result (List Act) ℕ
after_act k None rest = Err k
after_act k (Some act) rest = onto_acts (act ∷ []) rest

-- the acts in the lines from the k-th on, or the first line outside
abbrev pub acts_at : ℕ → ℕ → ℕ → List (List ℕ) → Result (List Act) ℕ
acts_at tiles cores k [] = Ok []
acts_at tiles cores k (l ∷ ls) = after_act k (act_in tiles cores l) (acts_at tiles cores (k + 1) ls)

-- the acts that a text is, or the number of its first line outside the grammar
abbrev pub acts_of : List ℕ → ℕ → ℕ → Result (List Act) ℕ
acts_of text tiles cores = acts_at tiles cores 1 (lines_of text)

-- a fault is what reading gives, unless memory ran out
abbrev pub IsFaultOf : Result (List Act) ℕ → ScriptFault → Type 0
IsFaultOf read faults.Memory = Unit {0}
IsFaultOf read (faults.Line line) = read ≡ Err line
