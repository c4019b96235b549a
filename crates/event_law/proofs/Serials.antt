-- A run that is over ends as the serial one.
pub mod Stack
pub mod Free
pub mod Trap
pub mod Ends
