-- Whole modules: which of their elements are used, and what it means to compact them.
pub mod AbstractTypes
pub mod Compaction
pub mod References
pub mod Runs
pub mod Used
pub mod Visits
