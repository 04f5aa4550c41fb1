-- The laws of `stream`: a file rests only on those before it.
-- Assumes nothing.
pub mod Records
pub mod Lengths
pub mod WrittenBack
pub mod ReadBack
pub mod Same
pub mod Refusals
pub mod Offsets
pub mod Answers
pub mod Trips
pub mod Entries
