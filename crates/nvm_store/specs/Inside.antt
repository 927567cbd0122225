-- What private functions' contracts say of the blocks as a unit keeps them, and what `==` of entries computes.
pub mod SameEntries
pub mod Sound
-- The blocks of a unit as nodes of a tree.
pub mod Rewrite
pub mod Stored
pub mod Tree
pub mod Levels
pub mod Source
-- The blocks of a unit in one piece of memory.
pub mod Flat
pub mod Memory
-- Rows that are known by their numbers, and pages of blocks.
pub mod Gathered
pub mod Pages
pub mod Stretch
