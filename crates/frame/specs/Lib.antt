-- The definitions of `frame`: a file rests only on those before it.
pub mod Frame
pub mod Largest
pub mod Queue
pub mod Service
