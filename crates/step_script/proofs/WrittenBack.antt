-- A script that is written is read back.
use Rattle.std.proofs.Common.{◌≡◌, ℕ, ◌+◌, ◌<◌, ◌≤◌, ◌^◌, ◌==◌, nat_lt, List, [], ◌∷◌, ◌++◌, Some, refl, ap, arith}
use Rattle.std.proofs.Common.{rules, true, false, Bool, Ok, ◌∙◌}
use Rattle.std.specs.Fmt.{decimal}
use Rattle.std.specs.List.{list_all, AllByRecursion}
use Rattle.std.specs.Char.{is_ascii_digit}
use Rattle.std.proofs.lemmas.Bool.{eqb-true, and_parts}
use Rattle.step_script.specs.declared.act.Act.{Act}
use Rattle.step_script.specs.declared.act.Act.TheVariants as acts
use Rattle.text_lines.specs.Lines.{lines_of}
use Rattle.text_lines.specs.Numerals.{number_below}
use Rattle.step_script.specs.Grammar.{core_in, act_at, act_in, acts_at, onto_acts}
use Rattle.step_script.specs.Ranges.{ActIsInRange}
use Rattle.step_script.specs.Written.{line_of_act, core_text, script, ScriptReadsBack}
use Rattle.text_lines.proofs.Proved.{lines_cut, all_digits, number_back, IsWithout, without_both}
use Rattle.text_lines.proofs.Proved.{cut_without}
use Rattle.step_script.proofs.Steps.{act_step}

-- ---- numbers

-- a number below a bound that is written is read again
number_below_back : (bound n : ℕ) → bound ≤ 2 ^ 32 → n < bound → number_below bound (decimal n) ≡ Some n
unfolding number_below
number_below_back bound n top small =
    let fits : nat_lt n bound ≡ true = search (rules, small) in
    rw (number_back n (omega (arith, top, small)), fits) refl

-- ---- lines

digit_free : (c x : ℕ) (b : Bool) → c < 48 → (x == c) ≡ b → is_ascii_digit x ≡ true → b ≡ false
digit_free c x false low is digit = refl
digit_free c x true low is digit = grind (arith, digit, low, eqb-true x c is)

digits_free : (c : ℕ) (xs : List ℕ) → c < 48 → list_all is_ascii_digit xs ≡ true → IsWithout c xs
digits_free c [] low h = refl
digits_free c (x ∷ xs) low h =
    let both = and_parts (is_ascii_digit x) _ h in
    let e : (x == c) ≡ false = digit_free c x (x == c) low refl both.0 in
    rw (e, digits_free c xs low both.1) refl

number_free : (c n : ℕ) → c < 48 → n < 2 ^ 32 → IsWithout c (decimal n)
number_free c n low small = digits_free c (decimal n) low (all_digits n (omega (arith, small)))

place_free : (tile core : ℕ) → tile < 2 ^ 32 → core < 2 ^ 32 → IsWithout 10 (core_text tile core)
place_free tile core h g =
    without_both 10 (decimal tile) (32 ∷ decimal core) (number_free 10 tile (omega arith) h) (number_free 10 core (omega arith) g)

-- an act's line has no newline
line_free : (tiles cores : ℕ) (act : Act) → tiles ≤ 2 ^ 32 → cores ≤ 2 ^ 32 → ActIsInRange tiles cores act
    → IsWithout 10 (line_of_act act)
line_free tiles cores (acts.Dispatch tile) t c h = number_free 10 tile (omega arith) (omega (arith, t, h))
line_free tiles cores (acts.Step tile core) t c h = place_free tile core (omega (arith, t, h.0)) (omega (arith, c, h.1))
line_free tiles cores (acts.Take tile core) t c h = place_free tile core (omega (arith, t, h.0)) (omega (arith, c, h.1))
line_free tiles cores (acts.Give tile core) t c h = place_free tile core (omega (arith, t, h.0)) (omega (arith, c, h.1))
line_free tiles cores (acts.Abort tile) t c h = number_free 10 tile (omega arith) (omega (arith, t, h))
line_free tiles cores acts.Commit t c h = refl
line_free tiles cores (acts.Coalesce tile) t c h = number_free 10 tile (omega arith) (omega (arith, t, h))
line_free tiles cores (acts.Split tile) t c h = number_free 10 tile (omega arith) (omega (arith, t, h))
line_free tiles cores acts.Advance t c h = refl

-- ---- acts

place_back : (tiles cores tile core : ℕ) → tiles ≤ 2 ^ 32 → cores ≤ 2 ^ 32 → (tile < tiles) × (core < cores)
    → core_in tiles cores (core_text tile core) ≡ Some (tile, core)
unfolding core_in
place_back tiles cores tile core t c h =
    rw (cut_without 32 (decimal tile) (decimal core) (number_free 32 tile (omega arith) (omega (arith, t, h.0))), number_below_back tiles tile t h.0, number_below_back cores core c h.1) refl

-- an act's line is that act
act_back : (tiles cores : ℕ) (act : Act) → tiles ≤ 2 ^ 32 → cores ≤ 2 ^ 32 → ActIsInRange tiles cores act
    → act_in tiles cores (line_of_act act) ≡ Some act
unfolding act_in act_at
act_back tiles cores (acts.Dispatch tile) t c h = rw (number_below_back tiles tile t h) refl
act_back tiles cores (acts.Step tile core) t c h = rw (place_back tiles cores tile core t c h) refl
act_back tiles cores (acts.Take tile core) t c h = rw (place_back tiles cores tile core t c h) refl
act_back tiles cores (acts.Give tile core) t c h = rw (place_back tiles cores tile core t c h) refl
act_back tiles cores (acts.Abort tile) t c h = rw (number_below_back tiles tile t h) refl
act_back tiles cores acts.Commit t c h = refl
act_back tiles cores (acts.Coalesce tile) t c h = rw (number_below_back tiles tile t h) refl
act_back tiles cores (acts.Split tile) t c h = rw (number_below_back tiles tile t h) refl
act_back tiles cores acts.Advance t c h = refl

acts_back : (acts : List Act) (tiles cores k : ℕ) → tiles ≤ 2 ^ 32 → cores ≤ 2 ^ 32
    → AllByRecursion (ActIsInRange tiles cores) acts → acts_at tiles cores k (lines_of (script acts)) ≡ Ok acts
acts_back [] tiles cores k t c all = refl
acts_back (act ∷ rest) tiles cores k t c all =
    ap (acts_at tiles cores k) (lines_cut (line_of_act act ++ 10 ∷ script rest) (line_of_act act) (script rest) (cut_without 10 (line_of_act act) (script rest) (line_free tiles cores act t c all.0)))
    ∙ act_step tiles cores k (line_of_act act) (lines_of (script rest)) act (act_back tiles cores act t c all.0)
    ∙ ap (onto_acts (act ∷ [])) (acts_back rest tiles cores (k + 1) t c all.1)

pub script_back : ScriptReadsBack
script_back acts tiles cores t c all = acts_back acts tiles cores 1 t c all
