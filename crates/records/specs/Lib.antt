-- The definitions of `records`: a file rests only on those before it.
pub mod Refusal
pub mod First
pub mod Said
pub mod Entry
pub mod Pieces
pub mod Record
pub mod Put
pub mod Entries
