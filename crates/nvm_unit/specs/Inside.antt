-- What is in Inside is cited by private functions and invariants alone: no public clause needs it.
pub mod Lending
pub mod Telling
pub mod Book
pub mod Snapshot
pub mod Attempt
pub mod Seats
pub mod Rule
pub mod Plays
pub mod Holding
pub mod Parts
