-- Contracts mean all but App, which serves this crate alone.
pub mod Settings
pub mod Reading
pub mod Requests
pub mod App
