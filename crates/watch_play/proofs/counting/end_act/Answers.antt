use Rattle.std.proofs.Common.{◌≡◌, ◌==◌, ◌∙◌, Bool, ℕ, [], ap, sym, subst}
use Rattle.std.specs.Prelude.{if◌then◌else◌}
use Rattle.watch_counts.specs.Capped.{capped_counts}
use Rattle.watch_counts.specs.Counts.{after_round}
use Rattle.watch_counts.specs.Texts.{counts_line}
use Rattle.watch_counts.specs.declared.counts.Counts.{Counts}
use Rattle.watch_play.specs.Counted.{after_stage, is_due_behind}
use Rattle.watch_play.specs.Courses.{course_of}
use Rattle.watch_play.specs.Staged.{stage_of}
use Rattle.watch_play.specs.Telling.{TellsText}
use Rattle.watch_play.specs.Texts.{has_counts}
use Rattle.watch_play.proofs.Due.{untold_where}
use Rattle.watch_play.proofs.counting.end_act.Goals as goal

pub returns-else-has_counts-clause-tells : goal.returns-else-has_counts-clause-tells
returns-else-has_counts-clause-tells g c settings script at counts is are =
    untold_where c.has_counts.result (has_counts c.args.telling)
    (if is_due_behind c.args.telling (course_of c.args.stage.now.course settings script) c.args.number at
    (stage_of c.args.stage.now)
    then counts_line (after_stage at (stage_of c.args.stage.now) counts) c.args.state.now.view else [])
    (g.K.Sink.state c.args.sink.now) c.has_counts.ensures c.if-has_counts.false

pub returns-then-has_counts-clause-tells : goal.returns-then-has_counts-clause-tells
returns-then-has_counts-clause-tells g c settings script at counts is are =
    let has = sym c.has_counts.ensures ∙ c.if-has_counts.true in
    let next = stage_of c.args.stage.now in
    let view = c.args.state.now.view in
    let counted = c.count_round.ensures counts (are has)
    ∙ ap (λ (r : ℕ). capped_counts (if next.round == r then counts else after_round counts)) (sym is) in
    let due = c.is_due_behind-due.ensures settings script at is in
    let told = c.tell_counts_if.ensures (after_stage at next counts) (λ yes_due. counted) in
    let where_due = subst (λ (b : Bool). TellsText (if b then counts_line (after_stage at next counts) view else [])
    (g.K.Sink.state c.args.sink.now) (g.K.Sink.state c.tell_counts_if.new.sink) c.tell_counts_if.result) due told in
    subst (λ (b : Bool). TellsText (if b then (if is_due_behind c.args.telling
    (course_of c.args.stage.now.course settings script) c.args.number at next
    then counts_line (after_stage at next counts) view else []) else [])
    (g.K.Sink.state c.args.sink.now) (g.K.Sink.state c.tell_counts_if.new.sink) c.tell_counts_if.result) (sym has)
    where_due

pub returns-then-has_counts-clause-counts : goal.returns-then-has_counts-clause-counts
returns-then-has_counts-clause-counts g c at counts is told are =
    c.count_round.ensures counts are
    ∙ ap (λ (r : ℕ). capped_counts (if c.args.stage.now.round == r then counts else after_round counts)) (sym is)

pub returns-else-has_counts-clause-counts : goal.returns-else-has_counts-clause-counts
returns-else-has_counts-clause-counts g c at counts is told are =
    absurd (cc (sym told ∙ sym c.has_counts.ensures ∙ c.if-has_counts.false))
