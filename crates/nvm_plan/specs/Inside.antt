pub mod Reach
pub mod UnitsLeft
