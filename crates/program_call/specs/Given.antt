-- What a call was given: what its arguments request, what was read, and the image.
use Rattle.std.specs.Prelude.{◌≡◌, ℕ, List, drop, Some, None, Ok, Err}
use Rattle.sim_io.specs.Causes.{Rose}
use Rattle.sim_io.specs.Parts.{ReadsAll, ReadsPast, ReadsSome}
use Rattle.guest_image.specs.ImageValue.{ImageValue, IsImage}
use Rattle.guest_image.specs.Reading.{image_of}
use Rattle.guest_image.specs.declared.fault.ImageFault.{ImageFault}
use Rattle.program_call.specs.declared.input.FrontFault.{FrontFault}
use Rattle.program_call.specs.declared.input.FrontFault.TheVariants as faults
use Rattle.program_call.specs.Call.{Input, input_limit}
use Rattle.program_call.specs.Front.{Front}

module _ (front : Front) where
  -- the arguments request nothing that reads the source
  abbrev pub NeedsNoInput : List (List ℕ) → Type 0
  NeedsNoInput words = (asked : front.Asked) → front.asked_in words ≡ Some asked → front.Reads asked → ⊥

  -- at most as many bytes as are read were taken, if they are known, and none if the arguments request nothing that
  -- reads the source
  pub record ReadsAsAsked (input : Input) : Type 0 where
    pub read : ReadsSome input.source_before input.source_after input_limit
    pub untouched : NeedsNoInput input.words → input.source_after ≡ input.source_before

  -- this, which reads the source, is what the arguments request, and these are all the bytes that the source had left
  pub record ReadsInput (input : Input) (asked : front.Asked) (bytes : List ℕ) : Type 0 where
    pub asks : front.asked_in input.words ≡ Some asked
    pub reads : front.Reads asked
    pub read : ReadsAll input.source_before input.source_after input_limit bytes

  -- the bytes that were read are this image followed by these; the image and the request are within their limits
  pub record ReadsImage (input : Input) (asked : front.Asked) (image : ImageValue) (behind : List ℕ) : Type 0 where
    pub bytes : List ℕ
    pub size : ℕ
    pub read : ReadsInput input asked bytes
    pub image_is : image_of bytes ≡ Ok (image, size)
    pub behind_is : behind ≡ drop size bytes
    pub fits : IsImage image
    pub within : front.IsWithin asked

  -- the arguments are invalid, and the source was not read
  pub record IsUsage (input : Input) : Type 0 where
    pub refused : front.asked_in input.words ≡ None
    pub untouched : input.source_after ≡ input.source_before

  -- the arguments request something that reads the source, and it failed after at most as many bytes as are read
  pub record IsUnread (input : Input) : Type 0 where
    pub asked : front.Asked
    pub asks : front.asked_in input.words ≡ Some asked
    pub reads : front.Reads asked
    pub read : ReadsSome input.source_before input.source_after input_limit
    pub rose : Rose input.source_before.faults input.source_after.faults

  -- the arguments request something that reads the source, and it has more bytes than are read
  pub record IsLong (input : Input) : Type 0 where
    pub asked : front.Asked
    pub asks : front.asked_in input.words ≡ Some asked
    pub reads : front.Reads asked
    pub past : ReadsPast input.source_before input.source_after input_limit

  -- the bytes that were read begin with no image
  pub record IsNoImage (input : Input) (fault : ImageFault) : Type 0 where
    pub asked : front.Asked
    pub bytes : List ℕ
    pub read : ReadsInput input asked bytes
    pub fault_is : image_of bytes ≡ Err fault

  -- why a call finds no image
  abbrev pub IsFrontFault : Input → FrontFault → Type 0
  IsFrontFault input faults.Usage = IsUsage input
  IsFrontFault input faults.Memory = ReadsAsAsked input
  IsFrontFault input faults.Unread = IsUnread input
  IsFrontFault input faults.Long = IsLong input
  IsFrontFault input (faults.NoImage fault) = IsNoImage input fault
