-- The definitions of `stream`: a file rests only on those before it.
pub mod Kind
pub mod Write
pub mod Read
pub mod Trip
pub mod Entries
