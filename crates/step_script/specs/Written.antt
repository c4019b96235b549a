-- A script that is written.
use Rattle.std.specs.Prelude.{ℕ, ◌≡◌, ◌^◌, ◌≤◌, List, [], ◌∷◌, ◌++◌, map, codes, decimal, Ok}
use Rattle.std.specs.List.{AllByRecursion}
use Rattle.step_script.specs.declared.act.Act.{Act}
use Rattle.step_script.specs.declared.act.Act.TheVariants as acts
use Rattle.text_lines.specs.Lines.{lines_of}
use Rattle.step_script.specs.Grammar.{acts_of}
use Rattle.step_script.specs.Ranges.{ActIsInRange}

-- a tile and a core, with one space between them
abbrev pub core_text : ℕ → ℕ → List ℕ
core_text tile core = decimal tile ++ 32 ∷ decimal core

-- the line of an act, without its newline
abbrev pub line_of_act : Act → List ℕ
line_of_act (acts.Dispatch tile) = codes "dispatch " ++ decimal tile
line_of_act (acts.Step tile core) = codes "step " ++ core_text tile core
line_of_act (acts.Take tile core) = codes "take " ++ core_text tile core
line_of_act (acts.Give tile core) = codes "give " ++ core_text tile core
line_of_act (acts.Abort tile) = codes "abort " ++ decimal tile
line_of_act acts.Commit = codes "commit"
line_of_act (acts.Coalesce tile) = codes "coalesce " ++ decimal tile
line_of_act (acts.Split tile) = codes "split " ++ decimal tile
line_of_act acts.Advance = codes "advance"

-- the text of a script: a line for each act
abbrev pub script : List Act → List ℕ
script [] = []
script (act ∷ rest) = line_of_act act ++ 10 ∷ script rest

-- what is written of acts on a machine's tiles and cores is read back as these acts
abbrev pub ScriptReadsBack : Type 0
ScriptReadsBack = (acts : List Act) (tiles cores : ℕ) → tiles ≤ 2 ^ 32 → cores ≤ 2 ^ 32
    → AllByRecursion (ActIsInRange tiles cores) acts → acts_of (script acts) tiles cores ≡ Ok acts

-- what a text is read as are acts whose lines are the text's
abbrev pub ReadsOnly : Type 0
ReadsOnly = (text : List ℕ) (tiles cores : ℕ) (acts : List Act)
    → acts_of text tiles cores ≡ Ok acts → map line_of_act acts ≡ lines_of text
