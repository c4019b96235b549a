-- What the crates above may cite of these proofs.
pub use Rattle.text_lines.proofs.Breaks.{lines_cut}
pub use Rattle.text_lines.proofs.Numbers.{own}
pub use Rattle.text_lines.proofs.Decimals.{IsWithout, all_digits, cut_without, without_both}
pub use Rattle.text_lines.proofs.Decimals.{no_leading_zero, number_back}
