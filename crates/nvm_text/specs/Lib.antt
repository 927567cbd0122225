pub mod Handed
pub mod Runs
pub mod Lines
