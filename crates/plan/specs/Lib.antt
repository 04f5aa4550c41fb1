-- The definitions of `plan`: a file rests only on those before it.
pub mod Plan
pub mod Check
pub mod Entries
