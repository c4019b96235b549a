-- What the crates above may cite of these proofs.
pub use Rattle.tile_queues.proofs.Ids.{remove-distinct, ids_but-absent, ids_but-cons_other}
pub use Rattle.tile_queues.proofs.Places.{one_place}
