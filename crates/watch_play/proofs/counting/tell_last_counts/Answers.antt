use Rattle.std.proofs.Common.{[], sym, subst, ◌∙◌}
use Rattle.std.specs.Prelude.{if◌then◌else◌}
use Rattle.watch_counts.specs.Texts.{counts_line}
use Rattle.watch_play.specs.Telling.{TellsText}
use Rattle.watch_play.proofs.counting.tell_last_counts.Goals as goal

pub returns : goal.returns
returns g c counts are =
    subst (λ due. TellsText (if due then counts_line counts c.args.state.now.view else [])
    (g.K.Sink.state c.args.sink.now) (g.K.Sink.state c.tell_counts_if.new.sink) c.tell_counts_if.result)
    c.has_counts.ensures (c.tell_counts_if.ensures counts (λ due. are (sym c.has_counts.ensures ∙ due)))
