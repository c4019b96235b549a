use Rattle.std.proofs.Common.{rules, ◌≡◌, ◌∙◌, ◌==◌, ap, length}
use Rattle.pending_list.proofs.Presents.{none_present}
use Rattle.pending_list.proofs.list.PendingList.is_empty.Goals as goal

pub returns : goal.returns
returns c =
    let s = c.self.inside in
    let none : c.is_empty.result ≡ (length s.slots.items == 0) = search rules in
    none ∙ none_present s.slots.items c.self.invariant.ends ∙ ap (λ v. length v.tasks == 0) c.self.view_is
