-- What is found of a part at its point.
pub mod Judging
-- One unit while it is audited.
pub mod Audited
-- Which entries were made by parts.
pub mod Claims
-- The parts of a unit while they are looked at.
pub mod Scanned
-- What a search through checks finds.
pub mod Search
-- How often each job was done.
pub mod Occurrences
-- The parts of all units, by unit.
pub mod Grouped
-- The parts that name a unit.
pub mod Gathered
-- Units that are audited each by itself.
pub mod UnitSearch
-- Where done jobs are, while they are noted.
pub mod Noted
