use Rattle.guest_image.specs.Numbers.{half_bytes}
use Rattle.task_desc.proofs.RecordBytes.{put_at}
use Rattle.task_desc.proofs.record.put_half.Goals as goal

pub returns : goal.returns
returns c =
    put_at c.args.bytes.now c.write_u16.new.buf (half_bytes c.args.half) c.args.at 2 c.told-bytes c.requires c.write_u16.ensures
