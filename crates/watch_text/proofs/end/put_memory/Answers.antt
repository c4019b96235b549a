use Rattle.std.specs.Prelude.{codes}
use Rattle.std.specs.String.{string_bytes}
use Rattle.watch_text.specs.Views.{memory_text, windows_text}
use Rattle.watch_text.proofs.Joined.{two_texts}
use Rattle.watch_text.proofs.end.put_memory.Goals as goal

pub returns : goal.returns
unfolding memory_text
returns c =
    two_texts _ (string_bytes c.args.line.now) (string_bytes c.write.new.self) (string_bytes c.put_window.new.line)
    (codes ",\"window\":[") (windows_text c.args.image.now c.args.memory.now) c.in_ok-write.ensures.bytes
    c.put_window.ensures
