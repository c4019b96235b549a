-- The acts that the grammar gives name tiles and cores of the machine.
use Rattle.std.proofs.Common.{◌≡◌, ℕ, ◌+◌, ◌<◌, List, [], ◌∷◌, Some, None, refl, true, false, Bool, nat_lt, Result, Ok}
use Rattle.std.proofs.Common.{Err, subst, rules, IfSome, IfOk, All, arith, if◌then◌else◌, codes}
use Rattle.std.specs.declared.option.Option.{Option}
use Rattle.std.specs.Str.{bytes_eq}
use Rattle.std.proofs.lemmas.List.Elements.{All-cons}
use Rattle.step_script.specs.declared.act.Act.{Act}
use Rattle.step_script.specs.declared.act.Act.TheVariants as acts
use Rattle.text_lines.specs.Lines.{◌>>=◌, lines_of, cut}
use Rattle.text_lines.specs.Numerals.{number, number_below}
use Rattle.step_script.specs.Grammar.{core_in, on_tile, on_core, act_at, act_in, acts_at, acts_of, after_act}
use Rattle.step_script.specs.Ranges.{ActIsInRange}

-- what is found, if anything is, is within
record Finds (tiles cores : ℕ) (found : Option Act) : Type 0 where
  pub within : IfSome found (ActIsInRange tiles cores)

nothing : {tiles cores : ℕ} → Finds tiles cores None
nothing = record { within = tt }

either : {tiles cores : ℕ} (b : Bool) (x y : Option Act) → Finds tiles cores x → Finds tiles cores y
    → Finds tiles cores (if b then x else y)
either true x y h g = h
either false x y h g = g

tested : (bound n : ℕ) (b : Bool) → nat_lt n bound ≡ b
    → IfSome (if◌then◌else◌ {A = Option ℕ} b (Some n) None) (λ m. m < bound)
tested bound n true is = search (rules, is)
tested bound n false is = tt

found_below : (bound : ℕ) (found : Option ℕ)
    → IfSome (found >>= λ n. if◌then◌else◌ {A = Option ℕ} (nat_lt n bound) (Some n) None) (λ n. n < bound)
found_below bound None = tt
found_below bound (Some n) = tested bound n (nat_lt n bound) refl

number_below-less : (bound : ℕ) (ds : List ℕ) → IfSome (number_below bound ds) (λ n. n < bound)
unfolding number_below
number_below-less bound ds = found_below bound (number ds)

both_below : (tiles cores : ℕ) (a b : Option ℕ) → IfSome a (λ n. n < tiles) → IfSome b (λ n. n < cores)
    → IfSome {T = ℕ × ℕ} (a >>= λ tile. b >>= λ core. Some (tile, core)) (λ p. (p.0 < tiles) × (p.1 < cores))
both_below tiles cores None b h g = tt
both_below tiles cores (Some a) None h g = tt
both_below tiles cores (Some a) (Some b) h g = (h, g)

cut_below : (tiles cores : ℕ) (parts : Option (List ℕ × List ℕ))
    → IfSome {T = ℕ × ℕ} (parts >>= λ p. number_below tiles p.0 >>= λ tile. number_below cores p.1 >>= λ core. Some (tile, core)) (λ p. (p.0 < tiles) × (p.1 < cores))
cut_below tiles cores None = tt
cut_below tiles cores (Some p) =
    both_below tiles cores (number_below tiles p.0) (number_below cores p.1) (number_below-less tiles p.0) (number_below-less cores p.1)

core_in-less : (tiles cores : ℕ) (places : List ℕ)
    → IfSome (core_in tiles cores places) (λ p. (p.0 < tiles) × (p.1 < cores))
unfolding core_in
core_in-less tiles cores places = cut_below tiles cores (cut 32 places)

mapped : (A : Type 0) (P : A → Type 0) (Q : Act → Type 0) (act : A → Act) (found : Option A)
    → ((a : A) → P a → Q (act a)) → IfSome found P → IfSome (found >>= λ a. Some (act a)) Q
mapped A P Q act None make h = tt
mapped A P Q act (Some a) make h = make a h

tile_within : (tiles cores : ℕ) (act : ℕ → Act) (places : List ℕ)
    → ((t : ℕ) → t < tiles → ActIsInRange tiles cores (act t)) → Finds tiles cores (on_tile tiles act places)
tile_within tiles cores act places make =
    record {
      within = mapped ℕ (λ t. t < tiles) (ActIsInRange tiles cores) act (number_below tiles places) make (number_below-less tiles places);
    }

core_within : (tiles cores : ℕ) (act : ℕ → ℕ → Act) (places : List ℕ)
    → ((p : ℕ × ℕ) → (p.0 < tiles) × (p.1 < cores) → ActIsInRange tiles cores (act p.0 p.1))
    → Finds tiles cores (on_core tiles cores act places)
core_within tiles cores act places make =
    record {
      within = mapped (ℕ × ℕ) (λ p. (p.0 < tiles) × (p.1 < cores)) (ActIsInRange tiles cores) (λ p. act p.0 p.1) (core_in tiles cores places) make (core_in-less tiles cores places);
    }

act_at-within : (tiles cores : ℕ) (word places : List ℕ) → Finds tiles cores (act_at tiles cores word places)
unfolding act_at
act_at-within tiles cores word places =
    let tile = tile_within tiles cores in
    let core = core_within tiles cores in
    either (bytes_eq word (codes "dispatch")) _ _ (tile acts.Dispatch places (λ t h. h))
    (either (bytes_eq word (codes "step")) _ _ (core acts.Step places (λ p h. h))
    (either (bytes_eq word (codes "take")) _ _ (core acts.Take places (λ p h. h))
    (either (bytes_eq word (codes "give")) _ _ (core acts.Give places (λ p h. h))
    (either (bytes_eq word (codes "abort")) _ _ (tile acts.Abort places (λ t h. h))
    (either (bytes_eq word (codes "coalesce")) _ _ (tile acts.Coalesce places (λ t h. h))
    (either (bytes_eq word (codes "split")) _ _ (tile acts.Split places (λ t h. h)) nothing))))))

parts_within : (tiles cores : ℕ) (parts : Option (List ℕ × List ℕ))
    → Finds tiles cores (parts >>= λ p. act_at tiles cores p.0 p.1)
parts_within tiles cores None = nothing
parts_within tiles cores (Some p) = act_at-within tiles cores p.0 p.1

act_in-within : (tiles cores : ℕ) (line : List ℕ) → Finds tiles cores (act_in tiles cores line)
unfolding act_in
act_in-within tiles cores line =
    either (bytes_eq line (codes "commit")) (Some acts.Commit) _ (record { within = tt })
    (either (bytes_eq line (codes "advance")) (Some acts.Advance) _ (record { within = tt })
    (parts_within tiles cores (cut 32 line)))

one_more : (P : Act → Type 0) (k : ℕ) (act : Option Act) (rest : Result (List Act) ℕ) → IfSome act P → IfOk rest (All P)
    → IfOk (after_act k act rest) (All P)
one_more P k None rest h all = tt
one_more P k (Some a) (Ok acts) h all = All-cons P a acts h all
one_more P k (Some a) (Err line) h all = tt

acts_at-within : (tiles cores k : ℕ) (ls : List (List ℕ))
    → IfOk (acts_at tiles cores k ls) (All (ActIsInRange tiles cores))
acts_at-within tiles cores k [] = λ k d h. absurd (omega (arith, h))
acts_at-within tiles cores k (l ∷ ls) =
    one_more (ActIsInRange tiles cores) k (act_in tiles cores l) (acts_at tiles cores (k + 1) ls) (act_in-within tiles cores l).within (acts_at-within tiles cores (k + 1) ls)

-- the acts that a text is name tiles and cores of the machine
pub acts_within : (text : List ℕ) (tiles cores : ℕ) (acts : List Act) → acts_of text tiles cores ≡ Ok acts
    → All (ActIsInRange tiles cores) acts
acts_within text tiles cores acts is =
    subst (λ r. IfOk r (All (ActIsInRange tiles cores))) is (acts_at-within tiles cores 1 (lines_of text))
