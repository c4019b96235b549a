use Rattle.guest_image.specs.Numbers.{word_bytes}
use Rattle.task_desc.proofs.RecordBytes.{put_at}
use Rattle.task_desc.proofs.record.put_word.Goals as goal

pub returns : goal.returns
returns c =
    put_at c.args.bytes.now c.write_u32.new.buf (word_bytes c.args.word) c.args.at 4 c.told-bytes c.requires c.write_u32.ensures
