use Rattle.std.proofs.Common.{rules}
use Rattle.spec_state.proofs.Noted.{noted_more}
use Rattle.spec_state.proofs.children.Children.note_child.Goals.{then-free, else-free}
use Rattle.spec_state.proofs.children.Children.note_child.Goals as goal

pub returns-else-not-put-clause-noted : goal.returns-else-not-put-clause-noted
returns-else-not-put-clause-noted c = elim c.if-free.branch [
  | then-free w ↦
      noted_more c.args.tasks.now.slots c.args.self.now c.put-put.new.self c.args.id c.args.creator c.args.place c.requires.child c.requires.others
      (c.is_free-free.ensures.0 (search (rules, w.if-free))) (c.put-put.ensures.notes (search (rules, c.if-not-put.false))) c.put-put.ensures.complete
  | else-free w ↦ absurd (search (rules, w.t-18-is, c.if-not-put.false))
]
