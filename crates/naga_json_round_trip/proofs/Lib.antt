pub mod BlockLemmas
pub mod FitsLemmas
pub mod ModuleLemmas
pub mod UnspannedLemmas
