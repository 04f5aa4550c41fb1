-- The definitions of `promises`: a file rests only on those before it.
pub mod Entries
pub mod Readings
pub mod Bench
pub mod Texts
pub mod Verdict
