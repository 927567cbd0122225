pub mod Explained
pub mod Contradicted
pub mod Judged
pub mod Faults
pub mod HeadProfile
