pub mod Counting
pub mod Stamps
pub mod Jobs
