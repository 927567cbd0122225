-- The greatest beginnings of a unit's steps, by level.
pub mod Latest
-- Into which pieces a job is cut.
pub mod Cutting
-- The jobs of a trace and of a record.
pub mod Matching
-- The least job whose reply differs.
pub mod Replies
-- The table of the beginnings before it is filled.
pub mod Table
-- How a traced job ended.
pub mod Endings
