-- Which uncommitted task comes first, and what stands where.
pub mod Ranked
pub mod Places
pub mod Turned
pub mod Beside
pub mod Stacked
pub mod Foremost
pub mod Returned
pub mod Next
pub mod Firm
pub mod Rebound
pub mod Filtered
pub mod Distinct
pub mod Lowest
pub mod Leasts
pub mod Contained
