-- What the crates above cite of these proofs.
pub use Rattle.guest_image.proofs.Made.{made_is}
pub use Rattle.guest_image.proofs.Sizes.{size_within}
