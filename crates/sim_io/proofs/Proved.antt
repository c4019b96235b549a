-- What the crates above may cite of these proofs.
pub use Rattle.sim_io.proofs.Fronts.{writes_front, writes_then}
pub use Rattle.sim_io.proofs.Lists.{Wrote, wrote_front, wrote_item, wrote_item_front, wrote_items, wrote_more}
