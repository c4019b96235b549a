use Rattle.event_step.proofs.Below.event_law.Proved.{rest_is_bounded}
use Rattle.conflict_book.proofs.Nexts.{falls_if_moved}
use Rattle.conflict_book.proofs.Settled.{advance_settles}
use Rattle.conflict_book.proofs.book.Book.advance.Goals as goal

pub returns-clause-falls : goal.returns-clause-falls
returns-clause-falls g c =
    falls_if_moved g.row.N.Denot g.N.Naming.image _ _ c.advance_once.result c.is_sound.ensures.sound c.advance_once.ensures.0

pub returns-clause-settings : goal.returns-clause-settings
returns-clause-settings g c =
    advance_settles g.row.N.Denot g.N.Naming.image _ _ c.advance_once.result c.is_sound.ensures.sound c.advance_once.ensures.0

pub returns-clause-bound : goal.returns-clause-bound
returns-clause-bound g c left has = rest_is_bounded _ left has

pub returns-clause-answers : goal.returns-clause-answers
returns-clause-answers g c = c.advance_once.ensures.0
