-- The theorems of `promises`: a file rests only on those before it.
-- Assumes nothing.
pub mod Contracts
pub mod Shown
pub mod Demand1
pub mod Demand2
pub mod Accepted
pub mod Demand3
pub mod Worked
pub mod Tests
pub mod Figured
pub mod Bench
pub mod Texts
