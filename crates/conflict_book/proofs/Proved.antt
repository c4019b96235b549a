-- What the crates above may cite of these proofs.
pub use Rattle.conflict_book.proofs.Leading.{ReadsTile, next_commit, next_dispatch, next_split, tile_is}
