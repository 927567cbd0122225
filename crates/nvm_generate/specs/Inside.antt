pub mod Range
pub mod Kinds
pub mod Asking
pub mod Commands
