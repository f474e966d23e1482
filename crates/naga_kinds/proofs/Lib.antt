pub mod BitAndLemmas
pub mod DecidesLemmas
pub mod FindsLemmas
pub mod FirstOfEachLemmas
pub mod PartialEqLemmas
pub mod PathLemmas
