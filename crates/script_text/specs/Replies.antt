-- The text of the replies to the acts of a script.
use Rattle.std.specs.Prelude.{ℕ, List, ◌++◌, codes, decimal}
use Rattle.std.specs.List.{flat_map}
use Rattle.step_script.specs.event_def.declared.event.Reply.{Reply}
use Rattle.step_script.specs.event_def.declared.event.Reply.TheVariants as reply
use Rattle.step_script.specs.declared.saying.Said.{Said}
use Rattle.step_script.specs.declared.saying.Word.{Word}
use Rattle.step_script.specs.declared.saying.Word.TheVariants as words

-- the word for a reply
abbrev pub reply_text : Reply → List ℕ
reply_text reply.Ok = codes "ok"
reply_text reply.Empty = codes "empty"
reply_text reply.Busy = codes "busy"
reply_text reply.Stall = codes "stall"
reply_text reply.Stale = codes "stale"
reply_text reply.Firm = codes "firm"
reply_text reply.Ended = codes "ended"
reply_text reply.Memory = codes "memory"

-- the word for an act
abbrev pub word_text : Word → List ℕ
word_text (words.Plain answer) = reply_text answer
word_text words.Moved = codes "moved"
word_text words.Committed = codes "committed"

-- the line of an act: `<word> <tasks aborted>`
unfoldable pub reply_line : Said → List ℕ
reply_line said = word_text said.word ++ codes " " ++ decimal said.aborted ++ codes "\n"

-- a line for each act
abbrev pub reply_lines : List Said → List ℕ
reply_lines said = flat_map reply_line said
