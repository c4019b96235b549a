-- The lemmas that other crates cite.
pub use Rattle.watch_play.proofs.Openings.{text_begins}
