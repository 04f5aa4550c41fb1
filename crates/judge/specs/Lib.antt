-- The definitions of `judge`: a file rests only on those before it.
pub mod Rules
pub mod Judge
pub mod Entries
