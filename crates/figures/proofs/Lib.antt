-- The laws of `figures`: a file rests only on those before it.
-- Assumes nothing.
pub mod Laws
pub mod Questions
pub mod Refusals
pub mod Answers
pub mod Once
pub mod Same
pub mod Entries
