use Rattle.std.proofs.Common.{◌≡◌, ◌==◌, ◌&&◌, ◌∙◌, ap, ℕ, subst, sym}
use Rattle.std.specs.Prelude.{not}
use Rattle.watch_play.specs.Counted.{is_due_behind}
use Rattle.watch_play.specs.Courses.{course_of}
use Rattle.watch_play.specs.Staged.{stage_of}
use Rattle.watch_play.specs.Texts.{are_counts_due}
use Rattle.watch_play.proofs.counting.is_due_behind.Goals as goal

pub returns-in-Lockstep : goal.returns-in-Lockstep
returns-in-Lockstep c settings script at is =
    let now = c.args.stage.now.round in
    subst (λ word. c.is_round_due.result ≡ is_due_behind c.args.telling (course_of word settings script) c.args.number at
    (stage_of c.args.stage.now)) (sym c.in-Lockstep.is)
    (c.is_round_due.ensures ∙ ap (λ (r : ℕ). not (now == r) && are_counts_due c.args.telling now) (sym is))
