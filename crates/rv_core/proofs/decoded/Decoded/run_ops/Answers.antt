use Rattle.std.proofs.Common.{◌≡◌, ◌+◌, ◌/◌, arith, sym, subst}
use Rattle.guest_image.specs.declared.memory_map.TheConstants.{TEXT_START}
use Rattle.rv_table.specs.Exec.{minus}
use Rattle.rv_core.specs.Legs.{PlainInstructions}
use Rattle.rv_core.specs.Ops.{AreDecoded, OpsLead, address, point}
use Rattle.rv_core.proofs.Ops.{ops_go, address_back}
use Rattle.rv_core.proofs.decoded.Decoded.run_ops.Goals as goal

pub returns-clause-steps : goal.returns-clause-steps
returns-clause-steps g c size budget within =
    let core = c.args.core.now in
    let start = minus core.pc TEXT_START / 4 in
    let made = subst (AreDecoded g.N.Naming.image) (sym c.deref.ensures.value) c.self.invariant in
    let here : core.pc ≡ address start = sym (address_back core.pc (omega arith) (omega arith)) in
    let done = c.do_ops-index.result.1 in
    let steps = subst (λ v. OpsLead v c.deref.result.now done (point start core.regs core.stack)
    (point c.do_ops-index.result.0 c.do_ops-index.new.regs c.do_ops-index.new.stack)) c.requires.version c.do_ops-index.ensures.steps in
    subst (λ pc. PlainInstructions g.N.Naming.image size budget done core
    (record core { pc = pc; regs = c.do_ops-index.new.regs; used = core.used + done; stack = c.do_ops-index.new.stack }))
    (sym c.address_of-core.ensures)
    (ops_go _ size budget core c.deref.result.now _ _ _ made here (omega arith) steps)
