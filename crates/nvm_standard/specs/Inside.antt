-- What is kept of blocks and of points as an order is walked.
pub mod Held
pub mod Latest
pub mod Done
-- What rows have to be like.
pub mod Right
-- The times up to a position.
pub mod Timely
-- What is known, as the checker notes it.
pub mod Noted
pub mod Derived
