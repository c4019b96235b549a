use Rattle.std.proofs.Common.{◌≡◌, ◌/◌, arith, sym, subst, refl}
use Rattle.guest_image.specs.declared.memory_map.TheConstants.{TEXT_START}
use Rattle.rv_table.specs.Exec.{minus}
use Rattle.rv_core.specs.Ops.{AreDecoded, address}
use Rattle.rv_core.proofs.Ops.{if_stops, address_back}
use Rattle.rv_core.proofs.decoded.Decoded.stop_at.Goals as goal

pub returns : goal.returns
returns g c =
    let made = subst (AreDecoded g.N.Naming.image) (sym c.deref.ensures.value) c.self.invariant in
    let here : c.args.core.now.pc ≡ address (minus c.args.core.now.pc TEXT_START / 4) = sym (address_back c.args.core.now.pc (omega arith) (omega arith)) in
    if_stops _ _ c.args.core.now c.deref.result.now (minus c.args.core.now.pc TEXT_START / 4) _ c.stop_among.result made here refl c.stop_among.ensures
