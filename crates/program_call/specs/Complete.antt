-- The status that is due where nothing fails and memory is there, as far as the front decides it.
use Rattle.std.specs.Prelude.{◌≡◌, ◌⊎◌, ◌<◌, ◌≤◌, ℕ, List, length, drop, Some, None, Ok, Err}
use Rattle.guest_image.specs.ImageValue.{ImageValue}
use Rattle.guest_image.specs.Reading.{image_of}
use Rattle.guest_image.specs.declared.fault.ImageFault.{ImageFault}
use Rattle.program_call.specs.Call.{Input, input_limit}
use Rattle.program_call.specs.Front.{Front}
use Rattle.program_call.specs.Given.{NeedsNoInput}

module _ (front : Front) where
  -- this is what the arguments request, and the bytes are within the limit of reading and consist of this image
  -- followed by these
  pub record BeginsWithImage (words : List (List ℕ)) (bytes : List ℕ) (asked : front.Asked) (image : ImageValue)
      (behind : List ℕ) : Type 0 where
    pub asks : front.asked_in words ≡ Some asked
    pub within : length bytes ≤ input_limit
    pub size : ℕ
    pub image_is : image_of bytes ≡ Ok (image, size)
    pub behind_is : behind ≡ drop size bytes

  -- the status that is due to arguments and to these bytes as the whole input, if they give no image
  pub data IsDueAtFront (words : List (List ℕ)) (bytes : List ℕ) : ℕ → Type 0 where
    Usage : front.asked_in words ≡ None → IsDueAtFront words bytes 1
    Long : (asked : front.Asked) → front.asked_in words ≡ Some asked → front.Reads asked → input_limit < length bytes
        → IsDueAtFront words bytes 10
    NoImage : (asked : front.Asked) (fault : ImageFault) → front.asked_in words ≡ Some asked → front.Reads asked
        → length bytes ≤ input_limit → image_of bytes ≡ Err fault → IsDueAtFront words bytes 2

  -- these are the bytes that the source has, or whatever they are none is needed
  abbrev pub IsKnown : Input → List ℕ → Type 0
  IsKnown input bytes = (input.source_before.left ≡ Some bytes) ⊎ NeedsNoInput front input.words
