-- The laws of `explore`: a file rests only on those before it.
-- Assumes nothing.
pub mod Needs
pub mod Order
pub mod Fronts
pub mod Seen
