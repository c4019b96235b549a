-- Contracts mean all but Laws, BankLaws and BitLaws, which serve this crate alone.
pub mod BankLaws
pub mod Banks
pub mod BitLaws
pub mod Exact
pub mod Hash
pub mod Laws
pub mod LineLaws
pub mod Lines
pub mod Note
pub mod Row
pub mod Signature
pub mod SignatureLaws
