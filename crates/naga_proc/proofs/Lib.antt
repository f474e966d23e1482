pub mod AllLemmas
pub mod Bodies
pub mod Building
pub mod Closing
pub mod Flattening
pub mod ReferencesOfTreeLemmas
pub mod Texts
