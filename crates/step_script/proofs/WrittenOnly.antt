-- A script is read as acts alone whose lines are its lines.
use Rattle.std.proofs.Common.{◌≡◌, ℕ, ◌+◌, ◌<◌, ◌^◌, ◌==◌, ◌&&◌, nat_lt, option_map, List, [], ◌∷◌, ◌++◌, length}
use Rattle.std.proofs.Common.{get_or, Some, None, refl, ap, arith, true, false, Bool, subst, codes, Result, Ok, Err}
use Rattle.std.proofs.Common.{IfSome, IfOk, ◌∙◌, sym, map, if◌then◌else◌}
use Rattle.std.specs.declared.option.Option.{Option}
use Rattle.std.specs.Fmt.{decimal}
use Rattle.std.specs.List.{list_all}
use Rattle.std.specs.Char.{is_ascii_digit}
use Rattle.std.specs.Str.{bytes_eq}
use Rattle.std.specs.Str.Parse.{digits_value}
use Rattle.std.proofs.lemmas.Bool.{eqb-true, and_parts}
use Rattle.std.proofs.lemmas.Fmt.{decimal-digits_value}
use Rattle.step_script.specs.declared.act.Act.{Act}
use Rattle.step_script.specs.declared.act.Act.TheVariants as acts
use Rattle.text_lines.specs.Lines.{◌>>=◌, cut, lines_of}
use Rattle.text_lines.specs.Numerals.{is_plain, number, number_below}
use Rattle.step_script.specs.Grammar.{core_in, on_tile, on_core, act_at, act_in, acts_at, after_act}
use Rattle.step_script.specs.Written.{line_of_act, core_text, ReadsOnly}
use Rattle.text_lines.proofs.Proved.{own}

-- ---- bytes

same_bytes : (xs ys : List ℕ) → bytes_eq xs ys ≡ true → xs ≡ ys
same_bytes [] [] h = refl
same_bytes [] (y ∷ ys) h = cc
same_bytes (x ∷ xs) [] h = cc
same_bytes (x ∷ xs) (y ∷ ys) h =
    let both = and_parts (x == y) _ h in rw (eqb-true x y both.0, same_bytes xs ys both.1) refl

-- the two parts of a cut, with the mark between them, are the list
abbrev Joins : ℕ → List ℕ → Option (List ℕ × List ℕ) → Type 0
Joins c bs None = Unit {0}
Joins c bs (Some p) = bs ≡ p.0 ++ c ∷ p.1

joined : (c x : ℕ) (xs : List ℕ) (parts : Option (List ℕ × List ℕ)) → Joins c xs parts
    → Joins c (x ∷ xs) (option_map (λ p. (x ∷ p.0, p.1)) parts)
joined c x xs None h = tt
joined c x xs (Some p) h = ap (λ bs. x ∷ bs) h

by_first : (c x : ℕ) (xs : List ℕ) (b : Bool) → (x == c) ≡ b → Joins c xs (cut c xs)
    → Joins c (x ∷ xs) (if b then Some ([], xs) else option_map (λ p. (x ∷ p.0, p.1)) (cut c xs))
by_first c x xs true is h = ap (λ y. y ∷ xs) (eqb-true x c is)
by_first c x xs false is h = joined c x xs (cut c xs) h

cut_joins : (c : ℕ) (bs : List ℕ) → Joins c bs (cut c bs)
cut_joins c [] = tt
cut_joins c (x ∷ xs) = by_first c x xs (x == c) refl (cut_joins c xs)

-- ---- numbers

digits_only : (ds : List ℕ) (b : Bool) → (is_plain ds && nat_lt (digits_value 10 ds) (2 ^ 32)) ≡ b
    → IfSome (if◌then◌else◌ {A = Option ℕ} b (Some (digits_value 10 ds)) None) (λ n. decimal n ≡ ds)
digits_only ds false is = tt
digits_only ds true is =
    let both = and_parts (is_plain ds) _ is in
    let plain : is_plain ds ≡ true = both.0 in
    let less : nat_lt (digits_value 10 ds) (2 ^ 32) ≡ true = both.1 in
    let digits : list_all is_ascii_digit ds ≡ true = grind (arith, plain) in
    let some : 0 < length ds = grind (arith, plain) in
    let alone : get_or ds 0 0 ≡ 48 → length ds ≡ 1 = (λ zero. grind (arith, plain, zero)) in
    let small : digits_value 10 ds < 2 ^ 64 = grind (arith, less) in
    decimal-digits_value own ds digits some alone small

number_only : (ds : List ℕ) → IfSome (number ds) (λ n. decimal n ≡ ds)
number_only ds = digits_only ds (is_plain ds && nat_lt (digits_value 10 ds) (2 ^ 32)) refl

kept : (ds : List ℕ) (n : ℕ) (b : Bool) → decimal n ≡ ds
    → IfSome (if◌then◌else◌ {A = Option ℕ} b (Some n) None) (λ m. decimal m ≡ ds)
kept ds n true h = h
kept ds n false h = tt

below_only : (bound : ℕ) (ds : List ℕ) (found : Option ℕ) → IfSome found (λ n. decimal n ≡ ds)
    → IfSome (found >>= λ n. if◌then◌else◌ {A = Option ℕ} (nat_lt n bound) (Some n) None) (λ n. decimal n ≡ ds)
below_only bound ds None h = tt
below_only bound ds (Some n) h = kept ds n (nat_lt n bound) h

number_below_only : (bound : ℕ) (ds : List ℕ) → IfSome (number_below bound ds) (λ n. decimal n ≡ ds)
unfolding number_below
number_below_only bound ds = below_only bound ds (number ds) (number_only ds)

both_only : (l r : List ℕ) (a b : Option ℕ) → IfSome a (λ n. decimal n ≡ l) → IfSome b (λ n. decimal n ≡ r)
    → IfSome {T = ℕ × ℕ} (a >>= λ tile. b >>= λ core. Some (tile, core)) (λ p. core_text p.0 p.1 ≡ l ++ 32 ∷ r)
both_only l r None b h g = tt
both_only l r (Some a) None h g = tt
both_only l r (Some a) (Some b) h g = rw (h, g) refl

cut_only : (tiles cores : ℕ) (places : List ℕ) (parts : Option (List ℕ × List ℕ)) → Joins 32 places parts
    → IfSome {T = ℕ × ℕ} (parts >>= λ p. number_below tiles p.0 >>= λ tile. number_below cores p.1 >>= λ core. Some (tile, core)) (λ p. core_text p.0 p.1 ≡ places)
cut_only tiles cores places None h = tt
cut_only tiles cores places (Some p) h =
    rw h (both_only p.0 p.1 (number_below tiles p.0) (number_below cores p.1) (number_below_only tiles p.0) (number_below_only cores p.1))

core_in_only : (tiles cores : ℕ) (places : List ℕ)
    → IfSome (core_in tiles cores places) (λ p. core_text p.0 p.1 ≡ places)
unfolding core_in
core_in_only tiles cores places = cut_only tiles cores places (cut 32 places) (cut_joins 32 places)

-- ---- acts

-- the act found, if any is, has this line
record HasLine (line : List ℕ) (found : Option Act) : Type 0 where
  pub has : IfSome found (λ act. line_of_act act ≡ line)

nothing : {line : List ℕ} → HasLine line None
nothing = record { has = tt }

mapped : (A : Type 0) (P : A → Type 0) (line : List ℕ) (act : A → Act) (found : Option A)
    → ((a : A) → P a → line_of_act (act a) ≡ line) → IfSome found P → HasLine line (found >>= λ a. Some (act a))
mapped A P line act None make h = nothing
mapped A P line act (Some a) make h = record { has = make a h }

-- a word that is tested, with what stands behind it
word_by : (word name places : List ℕ) (b : Bool) (x y : Option Act) → bytes_eq word name ≡ b
    → HasLine (name ++ 32 ∷ places) x → HasLine (word ++ 32 ∷ places) y
    → HasLine (word ++ 32 ∷ places) (if b then x else y)
word_by word name places true x y is h g = rw (same_bytes word name is) h
word_by word name places false x y is h g = g

word_is : (word places name : List ℕ) (x y : Option Act) → HasLine (name ++ 32 ∷ places) x
    → HasLine (word ++ 32 ∷ places) y → HasLine (word ++ 32 ∷ places) (if bytes_eq word name then x else y)
word_is word places name x y h g = word_by word name places (bytes_eq word name) x y refl h g

tile_only : (tiles : ℕ) (places name : List ℕ) (act : ℕ → Act)
    → ((t : ℕ) → line_of_act (act t) ≡ name ++ 32 ∷ decimal t)
    → HasLine (name ++ 32 ∷ places) (on_tile tiles act places)
tile_only tiles places name act make =
    mapped ℕ (λ t. decimal t ≡ places) (name ++ 32 ∷ places) act (number_below tiles places) (λ t e. make t ∙ ap (λ ds. name ++ 32 ∷ ds) e) (number_below_only tiles places)

core_only : (tiles cores : ℕ) (places name : List ℕ) (act : ℕ → ℕ → Act)
    → ((t c : ℕ) → line_of_act (act t c) ≡ name ++ 32 ∷ core_text t c)
    → HasLine (name ++ 32 ∷ places) (on_core tiles cores act places)
core_only tiles cores places name act make =
    mapped (ℕ × ℕ) (λ p. core_text p.0 p.1 ≡ places) (name ++ 32 ∷ places) (λ p. act p.0 p.1) (core_in tiles cores places) (λ p e. make p.0 p.1 ∙ ap (λ ds. name ++ 32 ∷ ds) e) (core_in_only tiles cores places)

act_at_only : (tiles cores : ℕ) (word places : List ℕ) → HasLine (word ++ 32 ∷ places) (act_at tiles cores word places)
unfolding act_at
act_at_only tiles cores word places =
    let is = word_is word places in
    let tile = tile_only tiles places in
    let core = core_only tiles cores places in
    is (codes "dispatch") _ _ (tile (codes "dispatch") acts.Dispatch (λ t. refl))
    (is (codes "step") _ _ (core (codes "step") acts.Step (λ t c. refl))
    (is (codes "take") _ _ (core (codes "take") acts.Take (λ t c. refl))
    (is (codes "give") _ _ (core (codes "give") acts.Give (λ t c. refl))
    (is (codes "abort") _ _ (tile (codes "abort") acts.Abort (λ t. refl))
    (is (codes "coalesce") _ _ (tile (codes "coalesce") acts.Coalesce (λ t. refl))
    (is (codes "split") _ _ (tile (codes "split") acts.Split (λ t. refl)) nothing))))))

parts_only : (tiles cores : ℕ) (line : List ℕ) (parts : Option (List ℕ × List ℕ)) → Joins 32 line parts
    → HasLine line (parts >>= λ p. act_at tiles cores p.0 p.1)
parts_only tiles cores line None h = nothing
parts_only tiles cores line (Some p) h = rw h (act_at_only tiles cores p.0 p.1)

line_by : (line : List ℕ) (act : Act) (b : Bool) (y : Option Act) → bytes_eq line (line_of_act act) ≡ b → HasLine line y
    → HasLine line (if b then Some act else y)
line_by line act true y is h = record { has = sym (same_bytes line (line_of_act act) is) }
line_by line act false y is h = h

-- an act that is read has the line that it was read from
act_in_only : (tiles cores : ℕ) (line : List ℕ) → HasLine line (act_in tiles cores line)
unfolding act_in
act_in_only tiles cores line =
    line_by line acts.Commit (bytes_eq line (codes "commit")) _ refl
    (line_by line acts.Advance (bytes_eq line (codes "advance")) _ refl
    (parts_only tiles cores line (cut 32 line) (cut_joins 32 line)))

one_more : (k : ℕ) (line : List ℕ) (ls : List (List ℕ)) (act : Option Act) (rest : Result (List Act) ℕ)
    → IfSome act (λ a. line_of_act a ≡ line) → IfOk rest (λ acts. map line_of_act acts ≡ ls)
    → IfOk (after_act k act rest) (λ acts. map line_of_act acts ≡ line ∷ ls)
one_more k line ls None rest h all = tt
one_more k line ls (Some a) (Ok acts) h all = rw (h, all) refl
one_more k line ls (Some a) (Err n) h all = tt

acts_at_only : (tiles cores k : ℕ) (ls : List (List ℕ))
    → IfOk (acts_at tiles cores k ls) (λ acts. map line_of_act acts ≡ ls)
acts_at_only tiles cores k [] = refl
acts_at_only tiles cores k (l ∷ ls) =
    one_more k l ls (act_in tiles cores l) (acts_at tiles cores (k + 1) ls) (act_in_only tiles cores l).has (acts_at_only tiles cores (k + 1) ls)

pub script_only : ReadsOnly
script_only text tiles cores acts is =
    subst (λ r. IfOk r (λ acts. map line_of_act acts ≡ lines_of text)) is (acts_at_only tiles cores 1 (lines_of text))
