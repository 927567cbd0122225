pub mod Taking
pub mod RunLemmas
pub mod EqualBytes
pub mod JoinedRuns
pub mod TextPieces
pub mod FirstRun
