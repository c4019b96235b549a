use Rattle.std.proofs.Common.{rules, refl}
use Rattle.watch_counts.specs.conflict_book.BookViews.{machine_view}
use Rattle.watch_play.specs.Courses.{course_of}
use Rattle.watch_play.specs.Staged.{stage_of}
use Rattle.watch_play.proofs.Waiting.{next_by}
use Rattle.watch_play.proofs.stage.Stage.after.Goals as goal

pub returns-in-Steps-clause-next : goal.returns-in-Steps-clause-next
returns-in-Steps-clause-next g c settings script =
    next_by g.N.Naming.image (course_of c.args.self.now.course settings script) (stage_of c.args.self.now)
    (machine_view c.args.book.now) _ c.is_sound.ensures.sound (λ waits is. search rules)

pub returns-in-Least-clause-next : goal.returns-in-Least-clause-next
returns-in-Least-clause-next g c settings script =
    next_by g.N.Naming.image (course_of c.args.self.now.course settings script) (stage_of c.args.self.now)
    (machine_view c.args.book.now) _ c.is_sound.ensures.sound (λ waits is. search rules)

pub returns-in-Lockstep-clause-next : goal.returns-in-Lockstep-clause-next
returns-in-Lockstep-clause-next g c settings script =
    next_by g.N.Naming.image (course_of c.args.self.now.course settings script) (stage_of c.args.self.now)
    (machine_view c.args.book.now) _ c.is_sound.ensures.sound (λ waits is. search rules)
