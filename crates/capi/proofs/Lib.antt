-- The laws of `capi`: a file rests only on those before it.
-- Assumes nothing.
pub mod Laws
pub mod Entries
