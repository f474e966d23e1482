pub mod LevelsLemmas
pub mod TakesHolderLemmas
pub mod TakesItems
pub mod TakesLemmas
pub mod TakesListsLemmas
pub mod TakesMapLemmas
pub mod TakesPartsLemmas
pub mod TakesStructLemmas
