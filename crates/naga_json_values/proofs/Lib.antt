pub mod ReadsLemmas
pub mod ObjectsLemmas
pub mod HandlesLemmas
pub mod ItemsLemmas
