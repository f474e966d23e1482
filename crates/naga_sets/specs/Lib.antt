pub mod HandleSet
pub mod HandleVec
pub mod Lends
pub mod Words
