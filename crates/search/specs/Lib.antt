-- The definitions of `search`: a file rests only on those before it.
pub mod Search
pub mod Mend
pub mod Trees
pub mod Entries
