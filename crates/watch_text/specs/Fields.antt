-- Fields of a line.
use Rattle.std.specs.Prelude.{◌==◌, ℕ, List, [], ◌∷◌, ◌++◌, codes, decimal, slice_index, Some, None, if◌then◌else◌}
use Rattle.std.specs.List.{flat_map}
use Rattle.std.specs.declared.option.Option.{Option}
use Rattle.guest_image.specs.declared.image.Kind.{Kind}
use Rattle.guest_image.specs.declared.image.Kind.TheVariants.{Unordered, Ordered}
use Rattle.line_table.specs.declared.lines.FilterKind.{FilterKind}
use Rattle.line_table.specs.declared.lines.FilterKind.TheVariants.{Modulo, Bloom, Exact}
use Rattle.script_text.specs.report_text.Hex.{byte_hex}

-- a number under a name
abbrev pub number_field : List ℕ → ℕ → List ℕ
number_field name number = codes ",\"" ++ name ++ codes "\":" ++ decimal number

-- the same where there is one
abbrev pub some_field : List ℕ → Option ℕ → List ℕ
some_field name None = []
some_field name (Some number) = number_field name number

-- a word under a name
abbrev pub word_field : List ℕ → List ℕ → List ℕ
word_field name word = codes ",\"" ++ name ++ codes "\":\"" ++ word ++ codes "\""

-- two numbers in brackets
abbrev pub pair_text : ℕ → ℕ → List ℕ
pair_text one two = codes "[" ++ (decimal one ++ (codes "," ++ (decimal two ++ codes "]")))

-- a task's name: its creator and its place among the children
abbrev pub name_field : ℕ → ℕ → List ℕ
name_field creator index = codes ",\"name\":" ++ pair_text creator index

-- the texts of items behind commas
abbrev pub more_items : {X : Type 0} → (X → List ℕ) → List X → List ℕ
more_items text items = flat_map (λ item. codes "," ++ text item) items

-- the texts of items with commas between them
abbrev pub items_text : {X : Type 0} → (X → List ℕ) → List X → List ℕ
items_text text [] = []
items_text text (first ∷ items) = text first ++ more_items text items

-- the comma before an item of this place, unless it is the first
abbrev pub comma_before : ℕ → List ℕ
comma_before place = if place == 0 then [] else codes ","

-- a list under a name, where it has any items
abbrev pub items_field : {X : Type 0} → List ℕ → (X → List ℕ) → List X → List ℕ
items_field name text [] = []
items_field name text (first ∷ items) =
    codes ",\"" ++ name ++ codes "\":[" ++ text first ++ more_items text items ++ codes "]"

-- three arguments
abbrev pub args_field : List ℕ → List ℕ
args_field args =
    codes ",\"args\":[" ++ decimal (slice_index args 0) ++ codes "," ++ decimal (slice_index args 1) ++ codes ","
    ++ decimal (slice_index args 2) ++ codes "]"

-- two hex digits for each byte
abbrev pub hex_text : List ℕ → List ℕ
hex_text bytes = flat_map byte_hex bytes

-- the kind of filters
abbrev pub filter_word : FilterKind → List ℕ
filter_word Modulo = codes "modulo"
filter_word Bloom = codes "bloom"
filter_word Exact = codes "exact"

-- the kind of a domain
abbrev pub kind_word : Kind → List ℕ
kind_word Unordered = codes "unordered"
kind_word Ordered = codes "ordered"

-- what a task starts with: its entry address, its timestamp, its arguments and its hint
unfoldable pub start_text : (entry ts : ℕ) → (args : List ℕ) → (hint : ℕ) → List ℕ
start_text entry ts args hint =
    number_field (codes "entry") entry ++ number_field (codes "ts") ts ++ args_field args
    ++ number_field (codes "hint") hint

-- where a window begins, and how many words it has
unfoldable pub window_field : ℕ → ℕ → List ℕ
window_field offset words = codes ",\"window\":" ++ pair_text offset words
