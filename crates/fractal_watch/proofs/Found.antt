-- A script has no more acts than bytes.
use Rattle.std.specs.Prelude.{IfOk}
use Rattle.std.proofs.Common.{◌≡◌, ℕ, ◌+◌, ◌^◌, ◌<◌, ◌≤◌, ◌==◌, List, [], ◌∷◌, length, ap, arith}
use Rattle.std.proofs.Common.{Result, Ok, Err, Bool, true, false, if◌then◌else◌, Some, None}
use Rattle.std.specs.declared.option.Option.{Option}
use Rattle.watch_play.specs.step_script.declared.act.Act.{Act}
use Rattle.watch_play.specs.step_script.Grammar.{act_in, acts_at, acts_of, after_act}
use Rattle.text_lines.specs.Lines.{lines_of, onto}
use Rattle.program_call.specs.Call.{input_limit}

onto_few : (x : ℕ) (ls : List (List ℕ)) → length (onto x ls) ≤ length ls + 1
onto_few x [] = omega arith
onto_few x (l ∷ ls) = omega arith

-- a text has no more lines than bytes
lines_few : (text : List ℕ) → length (lines_of text) ≤ length text
lines_few [] = omega arith
lines_few (x ∷ xs) = go (x == 10) (lines_few xs) where
  go : (b : Bool) → length (lines_of xs) ≤ length xs
      → length (if◌then◌else◌ {A = List (List ℕ)} b ([] ∷ lines_of xs) (onto x (lines_of xs))) ≤ length (x ∷ xs)
  go true few = omega (arith, few)
  go false few = omega (arith, few, onto_few x (lines_of xs))

abbrev count_in : Result (List Act) ℕ → ℕ
count_in (Ok acts) = length acts
count_in (Err line) = 0

-- and a script no more acts than lines
acts_few : (tiles cores k : ℕ) (ls : List (List ℕ)) → count_in (acts_at tiles cores k ls) ≤ length ls
acts_few tiles cores k [] = omega arith
acts_few tiles cores k (l ∷ ls) = go (act_in tiles cores l) _ (acts_few tiles cores (k + 1) ls) where
  go : (a : Option Act) (r : Result (List Act) ℕ) → count_in r ≤ length ls
      → count_in (after_act k a r) ≤ length (l ∷ ls)
  go None r few = omega arith
  go (Some act) (Err line) few = omega arith
  go (Some act) (Ok acts) few = omega (arith, few)

-- so a script has no more acts than bytes
pub acts_are_few : (text : List ℕ) (tiles cores : ℕ) (acts : List Act) → acts_of text tiles cores ≡ Ok acts
    → length acts ≤ length text
acts_are_few text tiles cores acts is =
    let few : count_in (acts_of text tiles cores) ≤ length (lines_of text) = acts_few tiles cores 1 (lines_of text) in
    let same : count_in (acts_of text tiles cores) ≡ length acts = ap count_in is in
    omega (arith, few, same, lines_few text)

-- and fewer than 2^32, as no more bytes than the limit are read
pub acts_below : {A E : Type 0} (read : Result A E) (items : A → List Act) (text : List ℕ) (tiles cores : ℕ)
    → length text ≤ input_limit → IfOk read (λ a. acts_of text tiles cores ≡ Ok (items a))
    → IfOk read (λ a. length (items a) < 2 ^ 32)
acts_below (Ok a) items text tiles cores short is =
    omega (arith, acts_are_few text tiles cores (items a) is, short)
acts_below (Err fault) items text tiles cores short is = tt
