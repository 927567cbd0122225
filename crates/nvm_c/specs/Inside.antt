-- What stands in Inside is cited by private functions and invariants alone: no public clause needs it.
pub mod AtOnce
pub mod Gathering
pub mod Handing
pub mod Line
pub mod Pieces
pub mod Window
