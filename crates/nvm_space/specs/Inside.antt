-- What is in Inside is cited by private functions and invariants alone: no public clause needs it.
pub mod Dealing
pub mod Meeting
pub mod Parts
pub mod Replying
pub mod Recorded
