-- The laws of `frame`: a file rests only on those before it.
-- Assumes nothing.
pub mod Within
pub mod Scaled
pub mod Limits
pub mod Queue
pub mod Service
pub mod Latency
pub mod Starts
