pub mod DocumentLemmas
pub mod MapsLemmas
pub mod ModuleLemmas
pub mod PartsLemmas
