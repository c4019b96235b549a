-- Contracts mean all but Started and Table, which serve this crate alone.
pub mod Started
pub mod Table
pub mod Numbered
-- What the crates above name of the crates below.
pub use Rattle.spec_state.specs as spec_state
