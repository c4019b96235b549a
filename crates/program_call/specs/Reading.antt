-- What is read of a source, whatever the request: all bytes and the image at their front, or why there is none.
use Rattle.std.specs.Prelude.{◌≡◌, ℕ, List, Ok, Err}
use Rattle.sim_io.specs.Causes.{Rose}
use Rattle.sim_io.specs.Parts.{ReadsAll, ReadsPast, ReadsSome}
use Rattle.sim_io.specs.Streams.{SourceState}
use Rattle.guest_image.specs.ImageValue.{IsImage}
use Rattle.guest_image.specs.Reading.{image_of}
use Rattle.program_call.specs.declared.input.Opened.{Opened}
use Rattle.program_call.specs.declared.input.FrontFault.{FrontFault}
use Rattle.program_call.specs.declared.input.FrontFault.TheVariants as faults
use Rattle.program_call.specs.Call.{input_limit}

-- all bytes that were left were read, and they begin with this image, which is so long
pub record OpensWithImage (before after : SourceState) (opened : Opened) : Type 0 where
  pub read : ReadsAll before after input_limit opened.bytes.items
  pub image_is : image_of opened.bytes.items ≡ Ok (opened.image, opened.size)
  pub fits : IsImage opened.image

-- no image was read, for this reason
abbrev pub GivesNoImage : (before after : SourceState) → FrontFault → Type 0
GivesNoImage before after faults.Usage = ⊥
GivesNoImage before after faults.Memory = ReadsSome before after input_limit
GivesNoImage before after faults.Unread = ReadsSome before after input_limit × Rose before.faults after.faults
GivesNoImage before after faults.Long = ReadsPast before after input_limit
GivesNoImage before after (faults.NoImage fault) =
    (bytes : List ℕ) × ReadsAll before after input_limit bytes × (image_of bytes ≡ Err fault)
