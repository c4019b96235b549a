use Rattle.std.proofs.Common.{rules, ◌∙◌, sym, ap, Some}
use Rattle.std.proofs.lemmas.List.{get_or_read}
use Rattle.pending_list.specs.Pending.{find_named}
use Rattle.pending_list.specs.Slots.{IsNowhere, IsPlaceOfName, vacant}
use Rattle.pending_list.proofs.Presents.{find_there, find_none}
use Rattle.pending_list.proofs.list.PendingList.find.Goals as goal

pub returns-in_default : goal.returns-in_default
returns-in_default c =
    let slots = c.self.inside.slots.items in
    let missing : IsNowhere c.args.name slots = search rules in
    sym (find_none c.args.name slots missing) ∙ ap (λ v. find_named c.args.name v.tasks) c.self.view_is

pub returns : goal.returns
returns c =
    let slots = c.self.inside.slots.items in
    let there : IsPlaceOfName c.args.name slots c.in-Some.place = search rules in
    ap (λ slot. Some slot.task)
    (get_or_read slots c.in-Some.place c.index.result.now there.within c.index.ensures vacant)
    ∙ sym (find_there c.args.name slots c.in-Some.place there)
    ∙ ap (λ v. find_named c.args.name v.tasks) c.self.view_is
