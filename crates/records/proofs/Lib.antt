-- The laws of `records`: a file rests only on those before it.
-- Assumes nothing.
pub mod Checks
pub mod Refusals
pub mod Said
pub mod Entry
pub mod Lists
pub mod Parts
pub mod Puts
pub mod Words
pub mod Entries
