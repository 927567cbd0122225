pub mod Words
pub mod Runs
pub mod Judged
pub mod Answer
pub mod Asked
