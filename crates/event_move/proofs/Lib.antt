mod Dispatched
mod Aborted
mod Committed
mod Moved
mod Idled
