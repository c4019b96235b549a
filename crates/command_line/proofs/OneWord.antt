-- What `clap` makes of one word at our command, by what the word is.
use Rattle.std.proofs.Common.{◌≡◌, ℕ, List, [], ◌∷◌, ◌++◌, Some, None, true, false, Bool, not, ◌&&◌, ◌||◌, ◌==◌, refl}
use Rattle.std.proofs.Common.{sym, subst, min, ◌+◌, if◌then◌else◌}
use Rattle.std.proofs.lemmas.Bool.{eqb-true}
use Rattle.std.specs.declared.option.Option.{Option}
use Rattle.std.specs.Str.{bytes_eq}
use Rattle.std.specs.List.{list_any, before_first, after_first}
use Rattle.clap.specs.Faults.{settle_fault, turn_fault}
use Rattle.clap.specs.Kinds.{Kinds}
use Rattle.clap.specs.Lexer.{long_of, short_of, usize_max}
use Rattle.clap.specs.Simple.{Shape, filled, new_rule}
use Rattle.clap.specs.Walk.{Held, Rule, Text, Walk, arg_by_id, arg_by_index, arg_by_long, has_row, idle, is_pending}
use Rattle.clap.specs.Walk.{option, reacted, settled, walked}
use Rattle.clap.specs.declared.error.kind.ErrorKind.{ErrorKind}
use Rattle.clap.proofs.OnLiterals.{clap_on_literals}
use Rattle.command_line.specs.App.{option_rule}
use Rattle.command_line.specs.Reading.{ArgumentWord, Whole, Named, Plain, Stray, is_equals, word_with_name}
use Rattle.command_line.specs.Reading.{word_with_dash, word_of}

-- ---- what a word is

abbrev pub dashes : Text
dashes = 45 ∷ 45 ∷ []

-- clap reads the same name and text, and takes a plain word for no flag
abbrev pub Reads : Text → ArgumentWord → Type 0
Reads word (Whole name text) = (bytes_eq word dashes ≡ false) × (long_of word ≡ Some (name, Some text))
Reads word (Named name) = (bytes_eq word dashes ≡ false) × (long_of word ≡ Some (name, None))
Reads word Plain = (bytes_eq word dashes ≡ false) × (long_of word ≡ None) × (short_of word ≡ None)
Reads word Stray = Unit {0}

by_equals : (x : ℕ) (xs : Text) (b : Bool) → list_any is_equals (x ∷ xs) ≡ b
    → Reads (45 ∷ 45 ∷ x ∷ xs) (if b then Whole (before_first is_equals (x ∷ xs)) (after_first is_equals (x ∷ xs)) else Named (before_first is_equals (x ∷ xs)))
by_equals x xs true is = (refl, rw is refl)
by_equals x xs false is = (refl, rw is refl)

reads-word_with_name : (xs : Text) → Reads (45 ∷ 45 ∷ xs) (word_with_name xs)
reads-word_with_name [] = tt
reads-word_with_name (x ∷ xs) = by_equals x xs (list_any is_equals (x ∷ xs)) refl

by_second : (y : ℕ) (ys : Text) (b : Bool) → (y == 45) ≡ b
    → Reads (45 ∷ y ∷ ys) (if b then word_with_name ys else Stray)
by_second y ys true is =
    let P : ℕ → Type 0 = λ b. Reads (45 ∷ b ∷ ys) (word_with_name ys) in
    subst P (sym (eqb-true y 45 is)) (reads-word_with_name ys)
by_second y ys false is = tt

reads-word_with_dash : (xs : Text) → Reads (45 ∷ xs) (word_with_dash xs)
reads-word_with_dash [] = (refl, refl, refl)
reads-word_with_dash (y ∷ ys) = by_second y ys (y == 45) refl

by_first : (x : ℕ) (xs : Text) (b : Bool) → (x == 45) ≡ b → Reads (x ∷ xs) (if b then word_with_dash xs else Plain)
by_first x xs true is =
    let P : ℕ → Type 0 = λ a. Reads (a ∷ xs) (word_with_dash xs) in
    subst P (sym (eqb-true x 45 is)) (reads-word_with_dash xs)
by_first x xs false is = (rw is refl, rw is refl, rw is refl)

pub reads : (word : Text) → Reads word (word_of word)
reads [] = (refl, refl, refl)
reads (x ∷ xs) = by_first x xs (x == 45) refl

-- ---- where the walk stands

abbrev pub opt : Text → Rule
opt name = filled (option_rule name)

abbrev pub place : ℕ → Text → Rule
place i name = record (filled (new_rule name)) { index = Some i }

abbrev pub walk_at : Held → ℕ → Walk
walk_at h p = record { held = h; waiting = idle; position = p; is_trailing = false; stopped = None }

abbrev pub waits : Held → Text → ℕ → Walk
waits h name p = record { held = h; waiting = option name; position = p; is_trailing = false; stopped = None }

abbrev pub at : Option Text → Held → ℕ → Walk
at None h p = walk_at h p
at (Some name) h p = waits h name p

-- something is at fault
abbrev pub Fails : Kinds → Type 0
Fails [] = ⊥
Fails (k ∷ ks) = Unit {0}

-- ---- `--name=text`

pub whole_turn : (s : Shape) (h : Held) (p : ℕ) (word n v : Text) → bytes_eq word dashes ≡ false
    → long_of word ≡ Some (n, Some v) → arg_by_long s.rules n ≡ Some (opt n)
    → settle_fault s.rules s.args_override_self h ≡ [] → has_row n (settled s.rules h).rows ≡ false
    → turn_fault s [] (walk_at h p) word ≡ []
unfolding clap_on_literals
whole_turn s h p word n v bare long found settles fresh = rw (bare, long, found, settles, fresh) refl

pub whole_walked : (s : Shape) (h : Held) (p : ℕ) (word n v : Text) → bytes_eq word dashes ≡ false
    → long_of word ≡ Some (n, Some v) → arg_by_long s.rules n ≡ Some (opt n)
    → walked s.rules [] (walk_at h p) word ≡ walk_at (reacted s.rules (opt n) (v ∷ []) h) p
unfolding clap_on_literals
whole_walked s h p word n v bare long found = rw (bare, long, found) refl

pub repeated_turn : (s : Shape) (h : Held) (p : ℕ) (word n v : Text) → bytes_eq word dashes ≡ false
    → long_of word ≡ Some (n, Some v) → arg_by_long s.rules n ≡ Some (opt n)
    → settle_fault s.rules s.args_override_self h ≡ [] → has_row n (settled s.rules h).rows ≡ true
    → s.args_override_self ≡ false → Fails (turn_fault s [] (walk_at h p) word)
unfolding clap_on_literals
repeated_turn s h p word n v bare long found settles there once = rw (bare, long, found, settles, there, once) tt

-- ---- an option that isn't known, or one where the last use doesn't settle

pub unknown_turn : (s : Shape) (m : Option Text) (h : Held) (p : ℕ) (word n : Text) (v : Option Text)
    → bytes_eq word dashes ≡ false → long_of word ≡ Some (n, v) → arg_by_long s.rules n ≡ None
    → Fails (turn_fault s [] (at m h p) word)
unfolding clap_on_literals
unknown_turn s None h p word n v bare long found = rw (bare, long, found) tt
unknown_turn s (Some m) h p word n v bare long found = rw (bare, long, found) tt

pub unsettled_turn : (s : Shape) (m : Option Text) (h : Held) (p : ℕ) (word n : Text) (v : Option Text) (k : ErrorKind) (ks : Kinds)
    → bytes_eq word dashes ≡ false → long_of word ≡ Some (n, v)
    → arg_by_long s.rules n ≡ Some (opt n) → settle_fault s.rules s.args_override_self h ≡ k ∷ ks
    → Fails (turn_fault s [] (at m h p) word)
unfolding clap_on_literals
unsettled_turn s None h p word n None k ks bare long found fails = rw (bare, long, found, fails) tt
unsettled_turn s None h p word n (Some v) k ks bare long found fails = rw (bare, long, found, fails) tt
unsettled_turn s (Some m) h p word n None k ks bare long found fails = rw (bare, long, found, fails) tt
unsettled_turn s (Some m) h p word n (Some v) k ks bare long found fails = rw (bare, long, found, fails) tt

-- ---- `--name`, and the word behind it

pub named_turn : (s : Shape) (h : Held) (p : ℕ) (word n : Text) → bytes_eq word dashes ≡ false
    → long_of word ≡ Some (n, None) → arg_by_long s.rules n ≡ Some (opt n)
    → settle_fault s.rules s.args_override_self h ≡ [] → turn_fault s [] (walk_at h p) word ≡ []
unfolding clap_on_literals
named_turn s h p word n bare long found settles = rw (bare, long, found, settles) refl

pub named_walked : (s : Shape) (h : Held) (p : ℕ) (word n : Text) → bytes_eq word dashes ≡ false
    → long_of word ≡ Some (n, None) → arg_by_long s.rules n ≡ Some (opt n)
    → walked s.rules [] (walk_at h p) word ≡ waits (record (settled s.rules h) { pending = Some (n, []) }) n p
unfolding clap_on_literals
named_walked s h p word n bare long found = rw (bare, long, found) refl

pub value_turn : (s : Shape) (h : Held) (p : ℕ) (word n : Text) → bytes_eq word dashes ≡ false → long_of word ≡ None
    → short_of word ≡ None → turn_fault s [] (waits h n p) word ≡ []
unfolding clap_on_literals
value_turn s h p word n bare long short = rw (bare, long, short) refl

pub value_walked : (s : Shape) (h : Held) (p : ℕ) (word n : Text) → bytes_eq word dashes ≡ false → long_of word ≡ None
    → short_of word ≡ None → arg_by_id s.rules n ≡ Some (opt n)
    → bytes_eq n n ≡ true → h.pending ≡ Some (n, [])
    → walked s.rules [] (waits h n p) word ≡ walk_at (record h { pending = Some (n, word ∷ []) }) p
unfolding clap_on_literals
value_walked s h p word n bare long short found same pending = rw (bare, long, short, found, pending, same) refl

-- ---- a further word

pub further_turn : (s : Shape) (h : Held) (p : ℕ) (word id : Text) (b : Bool) → is_pending (place p id) h.pending ≡ b
    → bytes_eq word dashes ≡ false → long_of word ≡ None → short_of word ≡ None
    → arg_by_index s.rules p ≡ Some (place p id) → settle_fault s.rules s.args_override_self h ≡ []
    → turn_fault s [] (walk_at h p) word ≡ []
unfolding clap_on_literals
further_turn s h p word id true waiting bare long short found settles =
    rw (bare, long, short, found, waiting, settles) refl
further_turn s h p word id false waiting bare long short found settles =
    rw (bare, long, short, found, waiting, settles) refl

pub further_walked : (s : Shape) (h : Held) (p : ℕ) (word id : Text) (b : Bool) → is_pending (place p id) h.pending ≡ b
    → bytes_eq word dashes ≡ false → long_of word ≡ None → short_of word ≡ None
    → arg_by_index s.rules p ≡ Some (place p id)
    → walked s.rules [] (walk_at h p) word ≡ walk_at (record (settled s.rules h) { pending = Some (id, word ∷ []) }) (min (p + 1) usize_max)
unfolding clap_on_literals
further_walked s h p word id true waiting bare long short found = rw (bare, long, short, found, waiting) refl
further_walked s h p word id false waiting bare long short found = rw (bare, long, short, found, waiting) refl

pub unsettled_further : (s : Shape) (h : Held) (p : ℕ) (word id : Text) (b : Bool) (k : ErrorKind) (ks : Kinds)
    → is_pending (place p id) h.pending ≡ b → bytes_eq word dashes ≡ false
    → long_of word ≡ None → short_of word ≡ None → arg_by_index s.rules p ≡ Some (place p id)
    → settle_fault s.rules s.args_override_self h ≡ k ∷ ks → Fails (turn_fault s [] (walk_at h p) word)
unfolding clap_on_literals
unsettled_further s h p word id true k ks waiting bare long short found fails =
    rw (bare, long, short, found, waiting, fails) tt
unsettled_further s h p word id false k ks waiting bare long short found fails =
    rw (bare, long, short, found, waiting, fails) tt

pub stray_turn : (s : Shape) (h : Held) (p : ℕ) (word : Text) → bytes_eq word dashes ≡ false → long_of word ≡ None
    → short_of word ≡ None → arg_by_index s.rules p ≡ None → s.is_leaf ≡ true
    → Fails (turn_fault s [] (walk_at h p) word)
unfolding clap_on_literals
stray_turn s h p word bare long short found leaf = rw (bare, long, short, found, leaf) tt
