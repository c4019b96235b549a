-- Contracts of public calls of both programs use all of these except Reading, and Answers except how a fault is
-- reported.
pub mod Call
pub mod Outcomes
pub mod Front
pub mod Given
pub mod Reading
pub mod Runs
pub mod Complete
pub mod Answers
pub mod Program
