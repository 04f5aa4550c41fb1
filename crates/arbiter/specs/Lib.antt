-- The definitions of `arbiter`: a file rests only on those before it.
pub mod Step
pub mod Run
pub mod Entries
