-- The definitions of `capi`: a file rests only on those before it.
pub mod Calls
pub mod Entries
