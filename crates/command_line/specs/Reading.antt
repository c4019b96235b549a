-- The grammar of the words: options and further words, in any order.
use Rattle.std.specs.Prelude.{ℕ, ◌==◌, ◌&&◌, ◌||◌, not, Bool, true, false, List, [], ◌∷◌, ◌++◌, codes, find}
use Rattle.std.specs.Prelude.{if◌then◌else◌}
use Rattle.std.specs.Prelude.{Some, None, option_map}
use Rattle.std.specs.declared.option.Option.{Option}
use Rattle.std.specs.List.{after_first, before_first, list_any}
use Rattle.std.specs.Str.{bytes_eq}
use Rattle.command_line.specs.Settings.{all_settings}

-- what a word is: `--name=text`, `--name` whose text is the next word, a plain word, or one that is none of these
pub data ArgumentWord : Type 0 where
  Whole : (name text : List ℕ) → ArgumentWord
  Named : (name : List ℕ) → ArgumentWord
  Plain : ArgumentWord
  Stray : ArgumentWord

abbrev pub is_equals : ℕ → Bool
is_equals byte = byte == 61

-- the argument after two dashes: the name is before the first `=`, and the text after it
abbrev pub word_with_name : List ℕ → ArgumentWord
word_with_name [] = Stray
word_with_name (x ∷ xs) =
    let name = before_first is_equals (x ∷ xs) in
    if list_any is_equals (x ∷ xs) then Whole name (after_first is_equals (x ∷ xs)) else Named name

-- the word behind one dash (45), where a dash alone is plain
abbrev pub word_with_dash : List ℕ → ArgumentWord
word_with_dash [] = Plain
word_with_dash (x ∷ xs) = if x == 45 then word_with_name xs else Stray

abbrev pub word_of : List ℕ → ArgumentWord
word_of [] = Plain
word_of (x ∷ xs) = if x == 45 then word_with_dash xs else Plain

abbrev pub is_stray : ArgumentWord → Bool
is_stray (Whole name text) = false
is_stray (Named name) = false
is_stray Plain = false
is_stray Stray = true

-- an option or a further word as it is given: its name and its text
pub record Given : Type 0 where
  pub name : List ℕ
  pub text : List ℕ

-- the names of the further words, in their order
abbrev pub kind : List ℕ
kind = codes "kind"

abbrev pub seed : List ℕ
seed = codes "seed"

abbrev pub size : List ℕ
size = codes "size"

abbrev pub further_names : List (List ℕ)
further_names = kind ∷ seed ∷ size ∷ []

-- the text that is given under a name, if there is one
abbrev pub text_in : List Given → List ℕ → Option (List ℕ)
text_in given name = option_map (λ g. g.text) (find (λ g. bytes_eq g.name name) given)

abbrev pub is_given : List Given → List ℕ → Bool
is_given given name = list_any (λ g. bytes_eq g.name name) given

abbrev pub is_option : List ℕ → Bool
is_option name = list_any (λ s. bytes_eq s.name name) all_settings

-- an option that wasn't given yet
abbrev pub is_new : List Given → List ℕ → Bool
is_new given name = is_option name && not (is_given given name)

abbrev pub with_text : List Given → (name text : List ℕ) → List Given
with_text given name text = given ++ record { name = name; text = text } ∷ []

-- a plain word gets the next name of a further word, where one is left
abbrev pub after_plain : List Given → (left : List (List ℕ)) → List ℕ
    → (List Given → List (List ℕ) → Option (List Given)) → Option (List Given)
after_plain given [] word next = None
after_plain given (name ∷ left) word next = next (with_text given name word) left

-- the result of an argument where no name waits for its text
abbrev pub after_word : List Given → (left : List (List ℕ)) → List ℕ → ArgumentWord
    → (List Given → List (List ℕ) → Option (List ℕ) → Option (List Given)) → Option (List Given)
after_word given left word (Whole name text) next =
    if is_new given name then next (with_text given name text) left None else None
after_word given left word (Named name) next = if is_new given name then next given left (Some name) else None
after_word given left word Plain next = after_plain given left word (λ given' left'. next given' left' None)
after_word given left word Stray next = None

-- the text of the name that waits is a plain word
abbrev pub after_name : List Given → (name word : List ℕ) → ArgumentWord
    → (List Given → Option (List Given)) → Option (List Given)
after_name given name word Plain next = next (with_text given name word)
after_name given name word other next = None

-- what words give behind what was given, where these names of further words are left and a name may wait for its text;
-- none where a word is refused: an option is known and given once, and no text is missing
abbrev pub read_on : List Given → (left : List (List ℕ)) → (waiting : Option (List ℕ)) → List (List ℕ)
    → Option (List Given)
read_on given left None [] = Some given
read_on given left (Some name) [] = None
read_on given left None (word ∷ words) =
    after_word given left word (word_of word) (λ given' left' waiting. read_on given' left' waiting words)
read_on given left (Some name) (word ∷ words) =
    after_name given name word (word_of word) (λ given'. read_on given' left None words)

-- what the words behind the command give; none where one is refused
abbrev pub given_in : List (List ℕ) → Option (List Given)
given_in words = read_on [] further_names None words
