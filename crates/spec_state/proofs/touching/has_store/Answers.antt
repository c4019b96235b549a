use Rattle.std.proofs.Common.{◌≡◌, ◌==◌, ◌&&◌, ◌/◌, ◌∙◌, sym, is_some, rules, tests}
use Rattle.std.specs.List.{list_any}
use Rattle.std.proofs.lemmas.Iterator.{YieldsList-from_slice}
use Rattle.std.proofs.lemmas.Iterator.Search.{any_from_yields_List}
use Rattle.undo_log.specs.declared.access.Access.{Access}
use Rattle.spec_state.proofs.Touched.{any_store}
use Rattle.spec_state.proofs.touching.has_store.Goals as goal

pub returns : goal.returns
returns c =
    let any : c.any.result
    ≡ list_any (λ (a : Access). is_some a.new && a.offset / c.args.size == c.args.line) c.args.log.now =
    any_from_yields_List (λ (a : Access). is_some a.new && a.offset / c.args.size == c.args.line) c.any.new.self _
    c.any.result
    c.any.ensures.ran (YieldsList-from_slice c.args.log.now cc) (λ x b q k. search (rules, tests)) in
    any ∙ sym (any_store c.args.size c.args.line c.args.log.now)
