-- The laws of `arbiter`: a file rests only on those before it.
-- Assumes nothing.
pub mod Questions
pub mod Refusals
pub mod Slots
pub mod Runs
pub mod Laws
pub mod Latency
pub mod Same
pub mod Entries
