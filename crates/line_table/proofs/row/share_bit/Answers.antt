use Rattle.std.proofs.Common.{arith, rules, tests, ◌≡◌}
use Rattle.std.specs.List.{list_any, zip}
use Rattle.std.proofs.lemmas.Iterator.{YieldsList-from_slice, YieldsList-from_zip}
use Rattle.std.proofs.lemmas.Iterator.Search.{any_from_yields_List}
use Rattle.line_table.proofs.Bits.{some_word, rows-share}
use Rattle.line_table.proofs.row.share_bit.Goals as goal

pub returns : goal.returns
returns c =
    let any : c.any.result ≡ list_any some_word (zip c.args.one.now c.args.other.now) =
    any_from_yields_List some_word c.any.new.self _ c.any.result c.any.ensures.ran
    (YieldsList-from_zip (YieldsList-from_slice c.args.one.now cc) (YieldsList-from_slice c.args.other.now cc)) (λ x b q k. search (rules, tests)) in
    rows-share c.args.one.now c.args.other.now c.requires.one c.requires.other (λ k below. omega (arith, c.type_inv.one k)) c.any.result any
