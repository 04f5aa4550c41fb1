-- The definitions of `figures`: a file rests only on those before it.
pub mod Check
pub mod Figures
pub mod Entries
