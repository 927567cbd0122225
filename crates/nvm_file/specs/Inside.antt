-- What private functions' contracts say of a file that is read, and of a record or a trace that is written.
pub mod Rest
pub mod Head
pub mod Frames
pub mod TraceFrames
pub mod Short
pub mod Items
