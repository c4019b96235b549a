-- The lemmas that other crates cite.
pub use Rattle.program_call.proofs.Fronts.{fault_answers, fault_given, fault_is_empty, holds_lawful, image_given}
pub use Rattle.program_call.proofs.Fronts.{made_answers, no_image, want_answers}
pub use Rattle.program_call.proofs.Reading.{asks_all, begins, left_alone, past_all, read_as_asked}
