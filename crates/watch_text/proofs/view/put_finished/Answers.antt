use Rattle.std.specs.Prelude.{codes, decimal}
use Rattle.std.specs.String.{string_bytes}
use Rattle.script_text.specs.spec_state.View.{finished_at}
use Rattle.watch_text.specs.Fields.{items_text}
use Rattle.watch_text.specs.Views.{finished_text}
use Rattle.watch_text.proofs.Joined.{two_texts}
use Rattle.watch_text.proofs.view.put_finished.Goals as goal

pub returns : goal.returns
unfolding finished_text
returns g c =
    two_texts _ (string_bytes c.args.line.now) (string_bytes c.write.new.self) (string_bytes c.put_items.new.line)
    (codes "],\"finished\":[") (items_text decimal (finished_at c.args.state.now.view c.args.tile))
    c.in_ok-write.ensures.bytes (rw c.finished_in.ensures at c.put_items.ensures)
