-- The definitions of `text`: a file rests only on those before it.
pub mod Text
pub mod Entries
