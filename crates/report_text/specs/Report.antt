-- The text of a report, line by line.
use Rattle.std.specs.Prelude.{ℕ, ◌+◌, ◌*◌, List, [], ◌∷◌, ◌++◌, codes, decimal, map}
use Rattle.std.specs.List.{flat_map, enumerate_from, range_with_len}
use Rattle.guest_image.specs.ImageValue.{ImageValue}
use Rattle.guest_image.specs.Numbers.{word_at}
use Rattle.task_desc.specs.declared.desc.Name.{Name}
use Rattle.run_journal.specs.declared.journal.Entry.{Entry}
use Rattle.run_journal.specs.declared.end.End.{End}
use Rattle.run_journal.specs.declared.end.End.TheVariants as ends
use Rattle.report_text.specs.declared.report.WindowWord.{WindowWord}
use Rattle.report_text.specs.Hex.{byte_hex, word_hex}

-- `<creator>.<index>`
abbrev pub name_text : Name → List ℕ
name_text name = decimal name.creator ++ codes "." ++ decimal name.index

-- the line of a committed task, beside its number: `<n> <creator>.<index> <depth> <ts>`
unfoldable pub entry_line : ℕ × Entry → List ℕ
entry_line e =
    decimal e.0 ++ codes " " ++ name_text e.1.name ++ codes " " ++ decimal e.1.depth ++ codes " "
    ++ decimal e.1.ts ++ codes "\n"

-- the first line, and one for each committed task, which are numbered from 1
unfoldable pub entry_lines : List Entry → List ℕ
entry_lines journal = codes "fractal 1\n" ++ flat_map entry_line (enumerate_from 1 journal)

-- two hex digits for each byte, or a dash for none
abbrev pub output_digits : List ℕ → List ℕ
output_digits [] = codes "-"
output_digits (b ∷ bs) = flat_map byte_hex (b ∷ bs)

-- the line of the emitted bytes: `output <hex>`
unfoldable pub output_line : List ℕ → List ℕ
output_line output = codes "output " ++ output_digits output ++ codes "\n"

-- the k-th word of an image's window in a memory, read little-endian; the data begins at 0x10000000
abbrev pub window_word : ImageValue → List ℕ → ℕ → WindowWord
window_word image memory k =
    let offset = image.window_offset + 4 * k in record { addr = 0x10000000 + offset; value = word_at memory offset }

-- the words of an image's window in a memory, by rising address
unfoldable pub window_of : ImageValue → List ℕ → List WindowWord
window_of image memory = map (window_word image memory) (range_with_len 0 image.window_words)

-- the line of a word of the window: `window <address> <value>`, eight hex digits each
unfoldable pub window_line : WindowWord → List ℕ
window_line w = codes "window " ++ word_hex w.addr ++ codes " " ++ word_hex w.value ++ codes "\n"

-- the lines of the emitted bytes and of the window
unfoldable pub body_lines : ImageValue → List ℕ → List ℕ → List ℕ
body_lines image memory output = output_line output ++ flat_map window_line (window_of image memory)

-- the last line, which says how the run ended
unfoldable pub end_line : End → List ℕ
end_line ends.Normal = codes "end normal\n"
end_line ends.Limit = codes "end limit\n"
end_line ends.Unfinished = codes "end open\n"
end_line (ends.Trap name cause pc) =
    codes "end trap " ++ decimal cause ++ codes " " ++ word_hex pc ++ codes " " ++ name_text name ++ codes "\n"

-- the report of a run: its journal, the memory and the output at its end, and how it ended
unfoldable pub report : ImageValue → List Entry → List ℕ → List ℕ → End → List ℕ
report image journal memory output end = entry_lines journal ++ body_lines image memory output ++ end_line end
