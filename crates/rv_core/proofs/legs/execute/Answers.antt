use Rattle.std.proofs.Common.{sym, ◌∙◌, arith}
use Rattle.rv_core.specs.Legs.{core_of_parts}
use Rattle.rv_core.proofs.Effects.{next_at-effect}
use Rattle.rv_core.proofs.legs.execute.Goals as goal

pub returns-clause-next : goal.returns-clause-next
returns-clause-next g c =
    c.obey.ensures.next
    ∙ sym (next_at-effect _ _ _ (core_of_parts c.args.head.now c.args.stack.now) c.in-Some.word c.in-Some-decode_at.instr c.effect-effect.result
    (omega arith) (sym c.in-Some.ensures) (sym c.in-Some-decode_at.ensures) (sym c.effect-effect.ensures))
