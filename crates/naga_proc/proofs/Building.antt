-- Lemmas on lists of commands, and on what they build.
pub mod ZipLemmas
pub mod AppendedLemmas
pub mod EmissionLemmas
pub mod IsAscendingLemmas
pub mod IsBuiltLemmas
pub mod IsInTurnLemmas
pub mod IsAtTurnLemmas
pub mod SomeBuiltLemmas
pub mod IsCoveredLemmas
pub mod RefusedLemmas
