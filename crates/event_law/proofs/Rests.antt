-- What is left up to and with the next commit, or up to the end.
pub mod Rest
pub mod LeastSpot
pub mod RestThere
pub mod RestOne
