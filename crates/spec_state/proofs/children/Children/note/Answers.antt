use Rattle.std.proofs.Common.{sym, ap, ◌∙◌}
use Rattle.std.specs.Option.{option_copied}
use Rattle.slab.specs.Slab.{get}
use Rattle.spec_state.specs.Children.{IsChildAt}
use Rattle.spec_state.proofs.Noted.{firm_noted, nothing_noted, notable_as}
use Rattle.spec_state.proofs.children.Children.note.Goals as goal

pub returns-in-Live-clause-complete : goal.returns-in-Live-clause-complete
returns-in-Live-clause-complete c =
    let child : IsChildAt c.in-Live.creator.0 c.in-Live.index (get c.args.tasks.now c.args.id) =
    record { child = c.in-Some.task.now; there = sym c.get.ensures ∙ ap option_copied c.in-Some.is; made_by = c.in-Live.is } in
    let stays = c.note_child.ensures.complete in (
      λ whole. (
        (stays.0 whole).0,
        notable_as c.args.tasks.now.slots c.args.self.now c.args.id c.in-Live.creator.0 c.in-Live.index child (stays.0 whole).1,
      ),
      λ both. stays.1 (both.0, both.1 c.in-Live.creator.0 c.in-Live.index child),
    )

pub returns-in_default-creator-clause-noted : goal.returns-in_default-creator-clause-noted
returns-in_default-creator-clause-noted c =
    firm_noted c.args.tasks.now.slots c.args.self.now c.args.id c.in_default-creator.field-0 c.in_default-creator.field-1 c.in-Some.task.now
    (sym c.get.ensures ∙ ap option_copied c.in-Some.is) c.in_default-creator.is c.requires

pub returns-in_default-clause-noted : goal.returns-in_default-clause-noted
returns-in_default-clause-noted c =
    nothing_noted c.args.tasks.now.slots c.args.self.now c.args.id (sym c.get.ensures ∙ ap option_copied c.in_default.is) c.requires
