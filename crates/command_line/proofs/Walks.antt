-- Where no word is stray, `clap` makes of the words what the grammar does; else the grammar gives nothing.
use Rattle.std.proofs.Common.{◌≡◌, ◌⊎◌, inl, inr, ℕ, List, [], ◌∷◌, ◌++◌, Some, None, true, false, Bool, not, ◌&&◌}
use Rattle.std.proofs.Common.{◌||◌, refl, ap, sym, ◌∙◌, subst, map, fold, find, if◌then◌else◌, min, ◌+◌}
use Rattle.std.proofs.lemmas.List.{map-append}
use Rattle.std.proofs.lemmas.List.Folds.{list_any-append}
use Rattle.std.proofs.lemmas.Slice.Eq.{bytes_eq-Decides}
use Rattle.std.specs.declared.option.Option.{Option}
use Rattle.std.specs.Prelude.{is_some}
use Rattle.std.specs.List.{list_any}
use Rattle.std.specs.Str.{bytes_eq}
use Rattle.clap.specs.Faults.{default_fault, defaults_fault, entered_fault, fault_of, level_fault, settle_fault}
use Rattle.clap.specs.Faults.{turn_fault, walk_fault}
use Rattle.clap.specs.Kinds.{Kinds, or_else}
use Rattle.clap.specs.Lexer.{long_of, usize_max}
use Rattle.clap.specs.Simple.{Shape, built, entered, matches_of}
use Rattle.clap.specs.Walk.{Held, Row, Rule, Text, Walk, arg_by_id, arg_by_index, arg_by_long, at_row, first_of}
use Rattle.clap.specs.Walk.{has_long, has_row, more_values, nothing_held, reacted, reading_by, settled, used, walk}
use Rattle.clap.specs.Walk.{walked, with_default, without}
use Rattle.clap.specs.declared.error.kind.ErrorKind.TheVariants.{InvalidValue}
use Rattle.clap.specs.declared.parser.matches.ValueSource.TheVariants.{CommandLine}
use Rattle.command_line.specs.App.{command_app, plain_app}
use Rattle.command_line.specs.Settings.{Setting, all_settings}
use Rattle.command_line.specs.Reading.{ArgumentWord, Whole, Named, Plain, Stray, Given, word_of, is_stray, is_given}
use Rattle.command_line.specs.Reading.{is_new, is_option, text_in, with_text, after_plain, after_word, after_name}
use Rattle.command_line.specs.Reading.{read_on, given_in, further_names, kind, seed, size}
use Rattle.command_line.proofs.OneWord.{Reads, reads, opt, place, walk_at, waits, at, Fails, whole_turn, whole_walked}
use Rattle.command_line.proofs.OneWord.{repeated_turn, unknown_turn, unsettled_turn, named_turn, named_walked}
use Rattle.command_line.proofs.OneWord.{value_turn, value_walked, further_turn, further_walked, unsettled_further}
use Rattle.command_line.proofs.OneWord.{stray_turn}

-- ---- the rules of our command

shape : Shape
unfolding command_app plain_app
shape = (built command_app).top

abbrev places : List Rule
places = place 1 kind ∷ place 2 seed ∷ place 3 size ∷ []

rules_are : shape.rules ≡ map (λ s. opt s.name) all_settings ++ places
unfolding shape command_app plain_app all_settings
rules_are = refl

once : shape.args_override_self ≡ false
unfolding shape command_app plain_app
once = refl

leaf : shape.is_leaf ≡ true
unfolding shape command_app plain_app
leaf = refl

abbrev is_called : Text → Rule → Bool
is_called n a = not (is_some a.index) && has_long a n

abbrev has_id : Text → Rule → Bool
has_id n a = bytes_eq a.id n

same-text : (m n : Text) → bytes_eq m n ≡ true → m ≡ n
same-text m n is = (bytes_eq-Decides m n).0 is

known-long : (ss : List Setting) (tail : List Rule) (n : Text) → list_any (λ s. bytes_eq s.name n) ss ≡ true
    → find (is_called n) (map (λ s. opt s.name) ss ++ tail) ≡ Some (opt n)
known-long [] tail n is = cc
known-long (s ∷ ss) tail n is = go (bytes_eq s.name n) refl is (known-long ss tail n) where
  go : (b : Bool) → bytes_eq s.name n ≡ b → (b || list_any (λ s. bytes_eq s.name n) ss) ≡ true
      → (list_any (λ s. bytes_eq s.name n) ss ≡ true → find (is_called n) (map (λ s. opt s.name) ss ++ tail) ≡ Some (opt n))
      → find (is_called n) (opt s.name ∷ (map (λ s. opt s.name) ss ++ tail)) ≡ Some (opt n)
  go true here h later = rw here (ap (λ m. Some (opt m)) (same-text s.name n here))
  go false here h later = rw here (later h)

unknown-long : (ss : List Setting) (tail : List Rule) (n : Text) → list_any (λ s. bytes_eq s.name n) ss ≡ false
    → find (is_called n) tail ≡ None → find (is_called n) (map (λ s. opt s.name) ss ++ tail) ≡ None
unknown-long [] tail n is none = none
unknown-long (s ∷ ss) tail n is none = go (bytes_eq s.name n) refl is (λ h. unknown-long ss tail n h none) where
  go : (b : Bool) → bytes_eq s.name n ≡ b → (b || list_any (λ s. bytes_eq s.name n) ss) ≡ false
      → (list_any (λ s. bytes_eq s.name n) ss ≡ false → find (is_called n) (map (λ s. opt s.name) ss ++ tail) ≡ None)
      → find (is_called n) (opt s.name ∷ (map (λ s. opt s.name) ss ++ tail)) ≡ None
  go true here h later = cc
  go false here h later = rw here (later h)

known-id : (ss : List Setting) (tail : List Rule) (n : Text) → list_any (λ s. bytes_eq s.name n) ss ≡ true
    → find (has_id n) (map (λ s. opt s.name) ss ++ tail) ≡ Some (opt n)
known-id [] tail n is = cc
known-id (s ∷ ss) tail n is = go (bytes_eq s.name n) refl is (known-id ss tail n) where
  go : (b : Bool) → bytes_eq s.name n ≡ b → (b || list_any (λ s. bytes_eq s.name n) ss) ≡ true
      → (list_any (λ s. bytes_eq s.name n) ss ≡ true → find (has_id n) (map (λ s. opt s.name) ss ++ tail) ≡ Some (opt n))
      → find (has_id n) (opt s.name ∷ (map (λ s. opt s.name) ss ++ tail)) ≡ Some (opt n)
  go true here h later = rw here (ap (λ m. Some (opt m)) (same-text s.name n here))
  go false here h later = rw here (later h)

long-of : (n : Text) → is_option n ≡ true → arg_by_long shape.rules n ≡ Some (opt n)
long-of n is = ap (find (is_called n)) rules_are ∙ known-long all_settings places n is

no-long-of : (n : Text) → is_option n ≡ false → arg_by_long shape.rules n ≡ None
no-long-of n is = ap (find (is_called n)) rules_are ∙ unknown-long all_settings places n is refl

id-of : (n : Text) → is_option n ≡ true → arg_by_id shape.rules n ≡ Some (opt n)
id-of n is = ap (find (has_id n)) rules_are ∙ known-id all_settings places n is

-- which further word comes next
pub data Spot : Type 0 where
  first : Spot
  second : Spot
  third : Spot
  over : Spot

abbrev left_at : Spot → List (List ℕ)
left_at first = further_names
left_at second = seed ∷ size ∷ []
left_at third = size ∷ []
left_at over = []

abbrev position_at : Spot → ℕ
position_at first = 1
position_at second = 2
position_at third = 3
position_at over = 4

-- the place of the p-th further word, and its name
abbrev IsPlace : ℕ → Text → Type 0
IsPlace p id =
    (arg_by_index shape.rules p ≡ Some (place p id)) × (arg_by_id shape.rules id ≡ Some (place p id)) × (is_option id ≡ false)

kind_place : IsPlace 1 kind
unfolding shape command_app plain_app all_settings
kind_place = (refl, refl, refl)

seed_place : IsPlace 2 seed
unfolding shape command_app plain_app all_settings
seed_place = (refl, refl, refl)

size_place : IsPlace 3 size
unfolding shape command_app plain_app all_settings
size_place = (refl, refl, refl)

no_place : arg_by_index shape.rules 4 ≡ None
unfolding shape command_app plain_app
no_place = refl

-- ---- rows

abbrev use_row : Given → Row
use_row g =
    record {
      id = g.name;
      values = g.text ∷ [];
      count = None;
      source = Some CommandLine;
      reading = reading_by (opt g.name);
    }

has-rows : (given : List Given) (n : Text) → has_row n (map use_row given) ≡ is_given given n
has-rows [] n = refl
has-rows (g ∷ gs) n = ap (λ b. bytes_eq g.name n || b) (has-rows gs n)

first-rows : (given : List Given) (n : Text) → first_of n (map use_row given) ≡ text_in given n
first-rows [] n = refl
first-rows (g ∷ gs) n = go (bytes_eq g.name n) refl (first-rows gs n) where
  go : (b : Bool) → bytes_eq g.name n ≡ b → first_of n (map use_row gs) ≡ text_in gs n
      → first_of n (use_row g ∷ map use_row gs) ≡ text_in (g ∷ gs) n
  go true here later = rw here refl
  go false here later = rw here later

or-false : (a b : Bool) → (a || b) ≡ false → (a ≡ false) × (b ≡ false)
or-false true b is = cc
or-false false b is = (refl, is)

without-none : (n : Text) (rows : List Row) → has_row n rows ≡ false → without n rows ≡ rows
without-none n [] none = refl
without-none n (r ∷ rs) none =
    let both = or-false (bytes_eq r.id n) (has_row n rs) none in rw both.0 (ap (λ z. r ∷ z) (without-none n rs both.1))

at-end : (n : Text) (change : Row → List Row) (new : Row) (rows : List Row) → has_row n rows ≡ false
    → at_row n change (new ∷ []) rows ≡ rows ++ new ∷ []
at-end n change new [] none = refl
at-end n change new (r ∷ rs) none =
    let both = or-false (bytes_eq r.id n) (has_row n rs) none in
    rw both.0 (ap (λ z. r ∷ z) (at-end n change new rs both.1))

-- a use that is the first of its name stands behind all others
used-new : (given : List Given) (rows : List Row) (n v : Text) → rows ≡ map use_row given → is_given given n ≡ false
    → used (opt n) (v ∷ []) rows ≡ map use_row (with_text given n v)
used-new given rows n v is none =
    let free : has_row n rows ≡ false = ap (has_row n) is ∙ has-rows given n ∙ none in
    let g : Given = record { name = n; text = v } in
    rw (without-none n rows free) (at-end n (more_values CommandLine (v ∷ [])) (use_row g) rows free ∙ ap (λ rs. rs ++ use_row g ∷ []) is ∙ sym (map-append use_row given (g ∷ [])))

-- names that were not given
abbrev AreFresh : List Given → List (List ℕ) → Type 0
AreFresh given [] = Unit {0}
AreFresh given (n ∷ ns) = (is_given given n ≡ false) × AreFresh given ns

-- another name was given
given-other : (given : List Given) (n v m : Text) → is_given given m ≡ false → bytes_eq n m ≡ false
    → is_given (with_text given n v) m ≡ false
given-other given n v m none other =
    list_any-append (λ g. bytes_eq g.name m) given (record { name = n; text = v } ∷ []) ∙ rw (none, other) refl

-- a name is no other name, where one is an option's and the other isn't
apart : (n m : Text) → is_option n ≡ true → is_option m ≡ false → bytes_eq n m ≡ false
apart n m known other = go (bytes_eq n m) refl where
  go : (b : Bool) → bytes_eq n m ≡ b → b ≡ false
  go false is = refl
  go true is = let bad : true ≡ false = sym known ∙ ap is_option (same-text n m is) ∙ other in cc

fresh-option : (given : List Given) (n v : Text) (k : Spot) → is_option n ≡ true → AreFresh given (left_at k)
    → AreFresh (with_text given n v) (left_at k)
fresh-option given n v first known fresh =
    (given-other given n v kind fresh.0 (apart n kind known kind_place.2), (given-other given n v seed fresh.1.0 (apart n seed known seed_place.2), (given-other given n v size fresh.1.1.0 (apart n size known size_place.2), tt)))
fresh-option given n v second known fresh =
    (given-other given n v seed fresh.0 (apart n seed known seed_place.2), (given-other given n v size fresh.1.0 (apart n size known size_place.2), tt))
fresh-option given n v third known fresh = (given-other given n v size fresh.0 (apart n size known size_place.2), tt)
fresh-option given n v over known fresh = tt

-- ---- the walk

record Ready (given : List Given) (k : Spot) (h : Held) : Type 0 where
  settles : settle_fault shape.rules shape.args_override_self h ≡ []
  rows : (settled shape.rules h).rows ≡ map use_row given
  fresh : AreFresh given (left_at k)

record Waits (given : List Given) (k : Spot) (n : Text) (h : Held) : Type 0 where
  pending : h.pending ≡ Some (n, [])
  known : is_option n ≡ true
  new : is_given given n ≡ false
  rows : h.rows ≡ map use_row given
  fresh : AreFresh given (left_at k)

abbrev State : List Given → Spot → Option Text → Held → Type 0
State given k None h = Ready given k h
State given k (Some n) h = Waits given k n h

abbrev end_of : Walk → List Text → Held
end_of w ws = (fold (walked shape.rules []) w ws).held

-- what is at fault in the walk over words, or at its end
abbrev fault : Walk → List Text → Kinds
fault w ws = or_else (walk_fault shape [] w ws) (settle_fault shape.rules shape.args_override_self (end_of w ws))

record TakesAs (w : Walk) (ws : List Text) (read : Option (List Given)) : Type 0 where
  given : List Given
  quiet : fault w ws ≡ []
  is : read ≡ Some given
  rows : (settled shape.rules (end_of w ws)).rows ≡ map use_row given

record RefusesAs (w : Walk) (ws : List Text) (read : Option (List Given)) : Type 0 where
  fails : Fails (fault w ws)
  is : read ≡ None

-- the words are taken with what was read of them, or refused as they are by the grammar
abbrev Agrees : Walk → List Text → Option (List Given) → Type 0
Agrees w ws read = TakesAs w ws read ⊎ RefusesAs w ws read

or-first : (a b : Kinds) → Fails a → Fails (or_else a b)
or-first [] b h = absurd h
or-first (k ∷ ks) b h = tt

fault-on : (w : Walk) (word : Text) (ws : List Text) → turn_fault shape [] w word ≡ []
    → fault w (word ∷ ws) ≡ fault (walked shape.rules [] w word) ws
unfolding walk_fault
fault-on w word ws turn = rw turn refl

fault-off : (w : Walk) (word : Text) (ws : List Text) → Fails (turn_fault shape [] w word) → Fails (fault w (word ∷ ws))
unfolding walk_fault
fault-off w word ws fails =
    let next = walk_fault shape [] (walked shape.rules [] w word) ws in
    or-first (or_else (turn_fault shape [] w word) next) (settle_fault shape.rules shape.args_override_self (end_of w (word ∷ ws))) (or-first (turn_fault shape [] w word) next fails)

fault-end : (w : Walk) → fault w [] ≡ settle_fault shape.rules shape.args_override_self w.held
unfolding walk_fault
fault-end w = refl

step-on : (w after : Walk) (word : Text) (ws : List Text) (read : Option (List Given)) → turn_fault shape [] w word ≡ []
    → walked shape.rules [] w word ≡ after → Agrees after ws read → Agrees w (word ∷ ws) read
step-on w after word ws read turn is rest =
    go (let P : Walk → Type 0 = λ u. Agrees u ws read in subst P (sym is) rest) where
      go : Agrees (walked shape.rules [] w word) ws read → Agrees w (word ∷ ws) read
      go (inl t) = inl record { given = t.given; quiet = fault-on w word ws turn ∙ t.quiet; is = t.is; rows = t.rows }
      go (inr r) = inr record { fails = subst Fails (sym (fault-on w word ws turn)) r.fails; is = r.is }

step-off : (w : Walk) (word : Text) (ws : List Text) (read : Option (List Given)) → Fails (turn_fault shape [] w word)
    → read ≡ None → Agrees w (word ∷ ws) read
step-off w word ws read fails is = inr record { fails = fault-off w word ws fails; is = is }

abbrev pub NoStray : List Text → Type 0
NoStray [] = Unit {0}
NoStray (w ∷ ws) = (is_stray (word_of w) ≡ false) × NoStray ws

-- a long word where the last use doesn't settle
long_off : (m : Option Text) (h : Held) (p : ℕ) (word n : Text) (v : Option Text) → bytes_eq word (45 ∷ 45 ∷ []) ≡ false
    → long_of word ≡ Some (n, v)
    → (o : Kinds) → settle_fault shape.rules shape.args_override_self h ≡ o → Fails o
    → Fails (turn_fault shape [] (at m h p) word)
long_off m h p word n v bare long [] is fails = absurd fails
long_off m h p word n v bare long (e ∷ es) is fails = go (is_option n) refl where
  go : (b : Bool) → is_option n ≡ b → Fails (turn_fault shape [] (at m h p) word)
  go true known = unsettled_turn shape m h p word n v e es bare long (long-of n known) is
  go false known = unknown_turn shape m h p word n v bare long (no-long-of n known)

-- any word that isn't stray, where the last use doesn't settle
dead_turn : (k : Spot) (h : Held) (word : Text) (kind : ArgumentWord) → Reads word kind → is_stray kind ≡ false
    → (o : Kinds) → settle_fault shape.rules shape.args_override_self h ≡ o → Fails o
    → Fails (turn_fault shape [] (walk_at h (position_at k)) word)
dead_turn k h word (Whole n v) reads ok o is fails =
    long_off None h (position_at k) word n (Some v) reads.0 reads.1 o is fails
dead_turn k h word (Named n) reads ok o is fails =
    long_off None h (position_at k) word n None reads.0 reads.1 o is fails
dead_turn k h word Plain reads ok [] is fails = absurd fails
dead_turn first h word Plain reads ok (e ∷ es) is fails =
    unsettled_further shape h 1 word kind _ e es refl reads.0 reads.1 reads.2 kind_place.0 is
dead_turn second h word Plain reads ok (e ∷ es) is fails =
    unsettled_further shape h 2 word seed _ e es refl reads.0 reads.1 reads.2 seed_place.0 is
dead_turn third h word Plain reads ok (e ∷ es) is fails =
    unsettled_further shape h 3 word size _ e es refl reads.0 reads.1 reads.2 size_place.0 is
dead_turn over h word Plain reads ok (e ∷ es) is fails = stray_turn shape h 4 word reads.0 reads.1 reads.2 no_place leaf
dead_turn k h word Stray reads ok o is fails = cc

dead : (k : Spot) (h : Held) (ws : List Text) → NoStray ws → Fails (settle_fault shape.rules shape.args_override_self h)
    → Fails (fault (walk_at h (position_at k)) ws)
dead k h [] ok fails = subst Fails (sym (fault-end (walk_at h (position_at k)))) fails
dead k h (w ∷ ws) ok fails =
    fault-off (walk_at h (position_at k)) w ws (dead_turn k h w (word_of w) (reads w) ok.0 _ refl fails)

same : (n : Text) → bytes_eq n n ≡ true
same n = (bytes_eq-Decides n n).1 refl

-- a name without a text doesn't settle
no_text : (h : Held) (n : Text) → h.pending ≡ Some (n, []) → is_option n ≡ true
    → settle_fault shape.rules shape.args_override_self h ≡ InvalidValue ∷ []
no_text h n pending known = rw (pending, id-of n known) refl

-- a name that was given before doesn't settle
repeated : (h : Held) (n v : Text) → is_option n ≡ true → has_row n h.rows ≡ true
    → Fails (settle_fault shape.rules shape.args_override_self (record h { pending = Some (n, v ∷ []) }))
repeated h n v known there = rw (id-of n known, there, once) tt

-- a name that was given before waits for its text
dead_name : (k : Spot) (h : Held) (n : Text) (ws : List Text) → NoStray ws → h.pending ≡ Some (n, [])
    → is_option n ≡ true → has_row n h.rows ≡ true → Fails (fault (waits h n (position_at k)) ws)
dead_name k h n [] ok pending known there =
    subst Fails (sym (fault-end (waits h n (position_at k)) ∙ no_text h n pending known)) tt
dead_name k h n (w ∷ ws) ok pending known there = by_kind (word_of w) (reads w) ok.0 where
  by_kind : (kind : ArgumentWord) → Reads w kind → is_stray kind ≡ false
      → Fails (fault (waits h n (position_at k)) (w ∷ ws))
  by_kind (Whole m v) reads plain =
      fault-off (waits h n (position_at k)) w ws (long_off (Some n) h (position_at k) w m (Some v) reads.0 reads.1 _ (no_text h n pending known) tt)
  by_kind (Named m) reads plain =
      fault-off (waits h n (position_at k)) w ws (long_off (Some n) h (position_at k) w m None reads.0 reads.1 _ (no_text h n pending known) tt)
  by_kind Plain reads plain =
      let turn = value_turn shape h (position_at k) w n reads.0 reads.1 reads.2 in
      let after = value_walked shape h (position_at k) w n reads.0 reads.1 reads.2 (id-of n known) (same n) pending in
      subst Fails (sym (fault-on (waits h n (position_at k)) w ws turn ∙ ap (λ u. fault u ws) after)) (dead k (record h { pending = Some (n, w ∷ []) }) ws ok.1 (repeated h n w known there))
  by_kind Stray reads plain = cc

abbrev Goes : List Text → Type 0
Goes ws =
    (given : List Given) (k : Spot) (m : Option Text) (h : Held) → State given k m h → NoStray ws → Agrees (at m h (position_at k)) ws (read_on given (left_at k) m ws)

-- a name that waits settles once the next word is its text
settles_text : (given : List Given) (k : Spot) (h : Held) (n v : Text) → Waits given k n h
    → Ready (with_text given n v) k (record h { pending = Some (n, v ∷ []) })
settles_text given k h n v s = record {
  settles =
      let free : has_row n h.rows ≡ false = ap (has_row n) s.rows ∙ has-rows given n ∙ s.new in
      rw (id-of n s.known, free) refl;
  rows = rw (id-of n s.known) (used-new given h.rows n v s.rows s.new);
  fresh = fresh-option given n v k s.known s.fresh;
}

by_whole : (given : List Given) (k : Spot) (h : Held) (w n v : Text) (ws : List Text) → Goes ws → Ready given k h
    → Reads w (Whole n v) → NoStray ws
    → (b : Bool) → is_option n ≡ b → (c : Bool) → is_given given n ≡ c
    → Agrees (walk_at h (position_at k)) (w ∷ ws) (if b && not c then read_on (with_text given n v) (left_at k) None ws else None)
by_whole given k h w n v ws rest s reads ok false known c there =
    step-off (walk_at h (position_at k)) w ws None (unknown_turn shape None h (position_at k) w n (Some v) reads.0 reads.1 (no-long-of n known)) refl
by_whole given k h w n v ws rest s reads ok true known true there =
    let row : has_row n (settled shape.rules h).rows ≡ true = ap (has_row n) s.rows ∙ has-rows given n ∙ there in
    step-off (walk_at h (position_at k)) w ws None (repeated_turn shape h (position_at k) w n v reads.0 reads.1 (long-of n known) s.settles row once) refl
by_whole given k h w n v ws rest s reads ok true known false there =
    let free : has_row n (settled shape.rules h).rows ≡ false = ap (has_row n) s.rows ∙ has-rows given n ∙ there in
    let after = reacted shape.rules (opt n) (v ∷ []) h in
    step-on (walk_at h (position_at k)) (walk_at after (position_at k)) w ws (read_on (with_text given n v) (left_at k) None ws)
    (whole_turn shape h (position_at k) w n v reads.0 reads.1 (long-of n known) s.settles free)
    (whole_walked shape h (position_at k) w n v reads.0 reads.1 (long-of n known))
    (rest (with_text given n v) k None after (record { settles = refl; rows = used-new given (settled shape.rules h).rows n v s.rows there; fresh = fresh-option given n v k known s.fresh }) ok)

abbrev waiting_for : Held → Text → Held
waiting_for h n = record (settled shape.rules h) { pending = Some (n, []) }

abbrev placed : Held → Text → Text → Held
placed h id w = record (settled shape.rules h) { pending = Some (id, w ∷ []) }

by_name : (given : List Given) (k : Spot) (h : Held) (w n : Text) (ws : List Text) → Goes ws → Ready given k h
    → Reads w (Named n) → NoStray ws
    → (b : Bool) → is_option n ≡ b → (c : Bool) → is_given given n ≡ c
    → Agrees (walk_at h (position_at k)) (w ∷ ws) (if b && not c then read_on given (left_at k) (Some n) ws else None)
by_name given k h w n ws rest s reads ok false known c there =
    step-off (walk_at h (position_at k)) w ws None (unknown_turn shape None h (position_at k) w n None reads.0 reads.1 (no-long-of n known)) refl
by_name given k h w n ws rest s reads ok true known c there =
    step-on (walk_at h (position_at k)) (waits (waiting_for h n) n (position_at k)) w ws (if not c then read_on given (left_at k) (Some n) ws else None)
    (named_turn shape h (position_at k) w n reads.0 reads.1 (long-of n known) s.settles)
    (named_walked shape h (position_at k) w n reads.0 reads.1 (long-of n known))
    (by_given c there) where
      by_given : (c : Bool) → is_given given n ≡ c
          → Agrees (waits (waiting_for h n) n (position_at k)) ws (if not c then read_on given (left_at k) (Some n) ws else None)
      by_given true there =
          let row : has_row n (settled shape.rules h).rows ≡ true = ap (has_row n) s.rows ∙ has-rows given n ∙ there in
          inr record { fails = dead_name k (waiting_for h n) n ws ok refl known row; is = refl }
      by_given false there =
          rest given k (Some n) (waiting_for h n) (record { pending = refl; known = known; new = there; rows = s.rows; fresh = s.fresh }) ok

-- a further word at a place that is left
by_place : (given : List Given) (k k' : Spot) (p : ℕ) (h : Held) (w id : Text) (ws : List Text) → Goes ws
    → Ready given k h → Reads w Plain → NoStray ws → IsPlace p id → position_at k ≡ p
    → min (p + 1) usize_max ≡ position_at k' → is_given given id ≡ false → AreFresh (with_text given id w) (left_at k')
    → Agrees (walk_at h p) (w ∷ ws) (read_on (with_text given id w) (left_at k') None ws)
by_place given k k' p h w id ws rest s reads ok spot at_k next fresh others =
    let free : has_row id (settled shape.rules h).rows ≡ false = ap (has_row id) s.rows ∙ has-rows given id ∙ fresh in
    let after = further_walked shape h p w id _ refl reads.0 reads.1 reads.2 spot.0 ∙ ap (walk_at (placed h id w)) next in
    step-on (walk_at h p) (walk_at (placed h id w) (position_at k')) w ws (read_on (with_text given id w) (left_at k') None ws)
    (further_turn shape h p w id _ refl reads.0 reads.1 reads.2 spot.0 s.settles)
    after
    (rest (with_text given id w) k' None (placed h id w) (record { settles = rw (spot.1, free) refl; rows = rw spot.1 (used-new given (settled shape.rules h).rows id w s.rows fresh); fresh = others }) ok)

by_plain : (given : List Given) (k : Spot) (h : Held) (w : Text) (ws : List Text) → Goes ws → Ready given k h
    → Reads w Plain → NoStray ws
    → Agrees (walk_at h (position_at k)) (w ∷ ws) (after_plain given (left_at k) w (λ given' left'. read_on given' left' None ws))
by_plain given first h w ws rest s reads ok =
    by_place given first second 1 h w kind ws rest s reads ok kind_place refl refl s.fresh.0
    (given-other given kind w seed s.fresh.1.0 refl, (given-other given kind w size s.fresh.1.1.0 refl, tt))
by_plain given second h w ws rest s reads ok =
    by_place given second third 2 h w seed ws rest s reads ok seed_place refl refl s.fresh.0
    (given-other given seed w size s.fresh.1.0 refl, tt)
by_plain given third h w ws rest s reads ok =
    by_place given third over 3 h w size ws rest s reads ok size_place refl refl s.fresh.0 tt
by_plain given over h w ws rest s reads ok =
    step-off (walk_at h 4) w ws None (stray_turn shape h 4 w reads.0 reads.1 reads.2 no_place leaf) refl

by_word : (given : List Given) (k : Spot) (h : Held) (w : Text) (ws : List Text) → Goes ws → Ready given k h
    → (kind : ArgumentWord) → Reads w kind → is_stray kind ≡ false → NoStray ws
    → Agrees (walk_at h (position_at k)) (w ∷ ws) (after_word given (left_at k) w kind (λ given' left' waiting. read_on given' left' waiting ws))
by_word given k h w ws rest s (Whole n v) reads plain ok =
    by_whole given k h w n v ws rest s reads ok (is_option n) refl (is_given given n) refl
by_word given k h w ws rest s (Named n) reads plain ok =
    by_name given k h w n ws rest s reads ok (is_option n) refl (is_given given n) refl
by_word given k h w ws rest s Plain reads plain ok = by_plain given k h w ws rest s reads ok
by_word given k h w ws rest s Stray reads plain ok = cc

-- the word behind a name
by_text : (given : List Given) (k : Spot) (h : Held) (n w : Text) (ws : List Text) → Goes ws → Waits given k n h
    → (kind : ArgumentWord) → Reads w kind → is_stray kind ≡ false → NoStray ws
    → Agrees (waits h n (position_at k)) (w ∷ ws) (after_name given n w kind (λ given'. read_on given' (left_at k) None ws))
by_text given k h n w ws rest s (Whole m v) reads plain ok =
    step-off (waits h n (position_at k)) w ws None (long_off (Some n) h (position_at k) w m (Some v) reads.0 reads.1 _ (no_text h n s.pending s.known) tt) refl
by_text given k h n w ws rest s (Named m) reads plain ok =
    step-off (waits h n (position_at k)) w ws None (long_off (Some n) h (position_at k) w m None reads.0 reads.1 _ (no_text h n s.pending s.known) tt) refl
by_text given k h n w ws rest s Plain reads plain ok =
    step-on (waits h n (position_at k)) (walk_at (record h { pending = Some (n, w ∷ []) }) (position_at k)) w ws (read_on (with_text given n w) (left_at k) None ws)
    (value_turn shape h (position_at k) w n reads.0 reads.1 reads.2)
    (value_walked shape h (position_at k) w n reads.0 reads.1 reads.2 (id-of n s.known) (same n) s.pending)
    (rest (with_text given n w) k None (record h { pending = Some (n, w ∷ []) }) (settles_text given k h n w s) ok)
by_text given k h n w ws rest s Stray reads plain ok = cc

goes : (ws : List Text) → Goes ws
goes [] given k None h s ok =
    inl record { given = given; quiet = fault-end (walk_at h (position_at k)) ∙ s.settles; is = refl; rows = s.rows }
goes [] given k (Some n) h s ok =
    inr record { fails = subst Fails (sym (fault-end (waits h n (position_at k)) ∙ no_text h n s.pending s.known)) tt; is = refl }
goes (w ∷ ws) given k None h s ok = by_word given k h w ws (goes ws) s (word_of w) (reads w) ok.0 ok.1
goes (w ∷ ws) given k (Some n) h s ok = by_text given k h n w ws (goes ws) s (word_of w) (reads w) ok.0 ok.1

-- ---- the whole parse

or-nil : (a : Kinds) → or_else a [] ≡ a
or-nil [] = refl
or-nil (k ∷ ks) = refl

-- no rule has a default
abbrev HaveNoDefault : List Rule → Type 0
HaveNoDefault [] = Unit {0}
HaveNoDefault (a ∷ rest) = (a.defaults ≡ []) × HaveNoDefault rest

default-none : (a : Rule) (rows : List Row) → a.defaults ≡ []
    → (default_fault rows a ≡ []) × (with_default rows a ≡ rows)
default-none a rows none = go (has_row a.id rows) refl where
  go : (b : Bool) → has_row a.id rows ≡ b → (default_fault rows a ≡ []) × (with_default rows a ≡ rows)
  go true is = (rw is refl, rw is refl)
  go false is = (rw (is, none) refl, rw (is, none) refl)

defaults-none : (rules : List Rule) (rows : List Row) → HaveNoDefault rules
    → (defaults_fault rows rules ≡ []) × (fold with_default rows rules ≡ rows)
unfolding defaults_fault
defaults-none [] rows none = (refl, refl)
defaults-none (a ∷ rest) rows none =
    let one = default-none a rows none.0 in
    let more = defaults-none rest rows none.1 in
    (rw (one.0, one.1) more.0, rw one.1 more.1)

no-defaults : HaveNoDefault shape.rules
unfolding shape command_app plain_app
no-defaults = (refl, (refl, (refl, (refl, (refl, (refl, (refl, (refl, (refl, (refl, (refl, (refl, (refl, tt)))))))))))))

abbrev begin : Walk
begin = walk_at nothing_held 1

-- what is at fault in words is so in the walk or at its end
whole-fault : (ws : List Text) → fault_of command_app ws ≡ fault begin ws
unfolding shape command_app plain_app
whole-fault ws = go (fold (walked shape.rules []) begin ws).stopped where
  go : (stop : Option (Text × List Text))
      → level_fault (built command_app).top [] nothing_held ws (is_some (entered (built command_app) stop)) (entered_fault (built command_app) stop) ≡ fault begin ws
  go None =
      ap (λ d. or_else (walk_fault shape [] begin ws) (or_else (settle_fault shape.rules shape.args_override_self (end_of begin ws)) (or_else d []))) (defaults-none shape.rules (settled shape.rules (end_of begin ws)).rows no-defaults).0
      ∙ ap (or_else (walk_fault shape [] begin ws)) (or-nil (settle_fault shape.rules shape.args_override_self (end_of begin ws)))
  go (Some p) =
      ap (λ d. or_else (walk_fault shape [] begin ws) (or_else (settle_fault shape.rules shape.args_override_self (end_of begin ws)) (or_else d []))) (defaults-none shape.rules (settled shape.rules (end_of begin ws)).rows no-defaults).0
      ∙ ap (or_else (walk_fault shape [] begin ws)) (or-nil (settle_fault shape.rules shape.args_override_self (end_of begin ws)))

whole-rows : (ws : List Text) → matches_of command_app ws ≡ (settled shape.rules (end_of begin ws)).rows
unfolding shape command_app plain_app
whole-rows ws = (defaults-none shape.rules (settled shape.rules (end_of begin ws)).rows no-defaults).1

parsed : (ws : List Text) → NoStray ws → Agrees begin ws (given_in ws)
parsed ws ok =
    goes ws [] first None nothing_held (record { settles = refl; rows = refl; fresh = (refl, (refl, (refl, tt))) }) ok

-- words where nothing is at fault give what was found
pub record IsGivenBy (ws : List Text) : Type 0 where
  pub given : List Given
  pub is : given_in ws ≡ Some given
  pub text : (n : Text) → first_of n (matches_of command_app ws) ≡ text_in given n

pub given-by : (ws : List Text) → NoStray ws → fault_of command_app ws ≡ [] → IsGivenBy ws
given-by ws ok quiet = go (parsed ws ok) where
  go : Agrees begin ws (given_in ws) → IsGivenBy ws
  go (inl t) =
      record { given = t.given; is = t.is; text = λ n. ap (first_of n) (whole-rows ws ∙ t.rows) ∙ first-rows t.given n }
  go (inr r) = absurd (subst Fails (sym (whole-fault ws) ∙ quiet) r.fails)

-- words where something is at fault give nothing
pub none-by : (ws : List Text) → NoStray ws → (fault_of command_app ws ≡ [] → ⊥) → given_in ws ≡ None
none-by ws ok faulty = go (parsed ws ok) where
  go : Agrees begin ws (given_in ws) → given_in ws ≡ None
  go (inl t) = absurd (faulty (whole-fault ws ∙ t.quiet))
  go (inr r) = r.is

-- ---- stray words

-- what is read from a word on, by what it is
abbrev read_word : List Given → List (List ℕ) → Option Text → Text → List Text → ArgumentWord → Option (List Given)
read_word given left None w ws kind =
    after_word given left w kind (λ given' left' waiting. read_on given' left' waiting ws)
read_word given left (Some n) w ws kind = after_name given n w kind (λ given'. read_on given' left None ws)

new_or_none : (b : Bool) (o : Option (List Given)) → o ≡ None → (if b then o else None) ≡ None
new_or_none true o is = is
new_or_none false o is = refl

stray_word : (given : List Given) (left : List (List ℕ)) (m : Option Text) (w : Text) (ws : List Text) (kind : ArgumentWord)
    → (is_stray kind || list_any (λ w. is_stray (word_of w)) ws) ≡ true
    → ((given' : List Given) (left' : List (List ℕ)) (m' : Option Text) → list_any (λ w. is_stray (word_of w)) ws ≡ true → read_on given' left' m' ws ≡ None)
    → read_word given left m w ws kind ≡ None
stray_word given left None w ws (Whole n v) h later =
    new_or_none (is_new given n) (read_on (with_text given n v) left None ws) (later (with_text given n v) left None h)
stray_word given left None w ws (Named n) h later =
    new_or_none (is_new given n) (read_on given left (Some n) ws) (later given left (Some n) h)
stray_word given [] None w ws Plain h later = refl
stray_word given (n ∷ ns) None w ws Plain h later = later (with_text given n w) ns None h
stray_word given left None w ws Stray h later = refl
stray_word given left (Some n) w ws (Whole n' v) h later = refl
stray_word given left (Some n) w ws (Named n') h later = refl
stray_word given left (Some n) w ws Plain h later = later (with_text given n w) left None h
stray_word given left (Some n) w ws Stray h later = refl

stray_on : (given : List Given) (left : List (List ℕ)) (m : Option Text) (ws : List Text)
    → list_any (λ w. is_stray (word_of w)) ws ≡ true → read_on given left m ws ≡ None
stray_on given left m [] is = cc
stray_on given left None (w ∷ ws) is =
    stray_word given left None w ws (word_of w) is (λ given' left' m' h. stray_on given' left' m' ws h)
stray_on given left (Some n) (w ∷ ws) is =
    stray_word given left (Some n) w ws (word_of w) is (λ given' left' m' h. stray_on given' left' m' ws h)

pub no-stray : (ws : List Text) → list_any (λ w. is_stray (word_of w)) ws ≡ false → NoStray ws
no-stray [] is = tt
no-stray (w ∷ ws) is =
    let both = or-false (is_stray (word_of w)) (list_any (λ w. is_stray (word_of w)) ws) is in
    (both.0, no-stray ws both.1)

pub stray-none : (ws : List Text) → list_any (λ w. is_stray (word_of w)) ws ≡ true → given_in ws ≡ None
stray-none ws is = stray_on [] further_names None ws is
