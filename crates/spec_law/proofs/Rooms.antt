-- Room in a task queue.
pub mod Fit
pub mod Later
pub mod Moved
pub mod Kinds
pub mod Calls
pub mod Child
pub mod Made
pub mod Returned
