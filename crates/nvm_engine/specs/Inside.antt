-- What is in Inside is cited by private functions and invariants alone: no public clause needs it.
pub mod Rule
pub mod Plays
pub mod Seats
pub mod Shows
pub mod Working
pub mod Gathering
