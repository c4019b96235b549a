-- What the crates above may cite of these proofs.
pub use Rattle.line_table.proofs.Signatures.{meets_of-Meet}
pub use Rattle.line_table.proofs.Lined.{bits_meet_modulo, bits_tell_modulo, cleared_tells_none, exact_tells_noted}
pub use Rattle.line_table.proofs.Lined.{lines_agree, none_are, noted_is_told, touched_as, wrote_as}
