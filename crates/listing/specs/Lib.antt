-- The definitions of `listing`: a file rests only on those before it.
pub mod Listing
pub mod Entries
