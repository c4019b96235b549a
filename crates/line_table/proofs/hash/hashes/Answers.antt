use Rattle.std.proofs.Common.{◌≡◌, ap, sym, ◌∙◌, arith}
use Rattle.std.specs.Prelude.{bit_xor}
use Rattle.std.specs.List.{fold}
use Rattle.line_table.specs.Hash.{mix, digits_below, hashes}
use Rattle.line_table.proofs.Hashes.{mixed_more}
use Rattle.line_table.proofs.hash.hashes.Goals as goal

pub loop-bit-preserved : goal.loop-bit-preserved
loop-bit-preserved c =
    c.mix-mixed.ensures
    ∙ ap (λ m. mix c.args.line m c.loop-bit.bit) c.loop-bit.invariant
    ∙ sym (mixed_more c.args.line c.loop-bit.bit)

pub returns : goal.returns
unfolding hashes
returns c =
    let all : c.loop-bit.bit ≡ 32 = omega (arith, c.loop-bit.auto, c.loop-bit-test.false) in
    c.loop-bit.invariant ∙ ap (λ n. fold bit_xor 0 (digits_below c.args.line n)) all
