-- Lemmas on flattening: the handles that are opened and yielded, what is looked up, and the leaves that are found.
pub mod PartsLemmas
pub mod AreLevelsLemmas
pub mod SpreadLemmas
pub mod CanFlattenLemmas
pub mod HasLeavesLemmas
pub mod NestsNarrowerLemmas
