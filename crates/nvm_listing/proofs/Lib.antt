pub mod AnswersMade
pub mod FirstOfAll
pub mod Naming
pub mod UnitByUnit
pub mod ListLines
pub mod ChecksMade
pub mod WrongBehind
