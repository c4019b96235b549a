-- An image that was made of values.
use Rattle.std.proofs.Common.{◌≡◌, Result, Ok, Err}
use Rattle.guest_image.specs.declared.fault.ImageFault.{ImageFault}
use Rattle.guest_image.specs.ImageValue.{ImageValue}
use Rattle.guest_image.specs.Limits.{image_made, unless_fault}

unless : (fault : Result (Unit {0}) ImageFault) (value image : ImageValue) → unless_fault fault value ≡ Ok image
    → image ≡ value
unless (Ok _) value image e = cc
unless (Err fault) value image e = cc

-- the image of given values is those values
pub made_is : (value image : ImageValue) → image_made value ≡ Ok image → image ≡ value
unfolding image_made
made_is value image e = unless _ value image e
