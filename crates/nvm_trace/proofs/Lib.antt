pub mod Places
pub mod Gathered
pub mod WriteLimit
pub mod Matched
pub mod Topped
pub mod Wholes
pub mod Differing
pub mod Rooms
pub mod ShownSteps
pub mod NoFault
pub mod Moments
pub mod Greatest
pub mod Latest
pub mod Sorting
pub mod Walk
pub mod UnitParts
pub mod RightSteps
pub mod Runs
mod CutRanges
mod UnitPieces
