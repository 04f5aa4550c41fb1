-- The laws of `search`: a file rests only on those before it.
-- Assumes nothing.
pub mod Questions
pub mod Refusals
pub mod Fillings
pub mod Sets
pub mod Planting
pub mod Mending
pub mod Once
pub mod Same
pub mod Entries
