use Rattle.std.proofs.Common.{◌≡◌, arith}
use Rattle.undo_log.proofs.Writes.{written_half, written_whole}
use Rattle.undo_log.proofs.memory.write_in.Goals as goal

pub returns-in-2 : goal.returns-in-2
returns-in-2 c =
    rw c.in-2.is
    (written_half c.args.bytes.now c.args.offset c.args.value c.write_u16.new.buf (omega arith) c.write_u16.ensures)

pub returns-in_default : goal.returns-in_default
returns-in_default c = let four : c.args.width ≡ 4 = grind arith in
    rw four
    (written_whole c.args.bytes.now c.args.offset c.args.value c.write_u32.new.buf (omega arith) c.write_u32.ensures)
