use Rattle.std.proofs.Common.{rules, tests, ◌≡◌, ◌↔◌, ◌∙◌, ap, subst, true}
use Rattle.std.specs.List.{list_any}
use Rattle.std.proofs.lemmas.Iterator.Consumers.{YieldsList-from_rest}
use Rattle.std.proofs.lemmas.Iterator.Search.{any_from_yields_List}
use Rattle.line_table.specs.Exact.{touched_of, wrote_of}
use Rattle.line_table.specs.Note.{Meet}
use Rattle.line_table.proofs.Pairs.{meets_pair, pairs-meet}
use Rattle.line_table.proofs.exact.ExactFilter.meets.Goals as goal

pub returns : goal.returns
returns c =
    let any : c.any.result ≡ list_any (meets_pair c.args.later.now) c.iter.result =
    any_from_yields_List (meets_pair c.args.later.now) c.any.new.self _ c.any.result c.any.ensures.ran (YieldsList-from_rest c.iter.result cc) (λ x b q k. search (rules, tests)) in
    subst (λ lines. (c.any.result ≡ true) ↔ Meet (wrote_of lines) (touched_of c.args.later.now)) c.self.view_is
    (pairs-meet c.self.inside.lines.entries c.args.later.now c.iter.ensures.found c.any.result (any ∙ ap (list_any (meets_pair c.args.later.now)) c.iter.ensures.rest))
