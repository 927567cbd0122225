pub mod Blocks
pub mod Stamp
pub mod Wanted
pub mod Load
pub mod Inside
