-- What the crates above may cite of these proofs.
pub use Rattle.rv_core.proofs.Runs.{next_at-inside, PlainInstruction-counted, PlainInstruction-within, PlainInstructions-counted, PlainInstructions-within}
