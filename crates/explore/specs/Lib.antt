-- The definitions of `explore`: a file rests only on those before it.
pub mod Best
pub mod Needs
pub mod Seen
