-- Lemmas on where jumps are allowed, and on the values that are evaluated before they are used.
pub mod StructuredLemmas
pub mod UsesKnownLemmas
pub mod EvaluatedOnceLemmas
pub mod RenamesLemmas
pub mod ReadsLemmas
pub mod CompactedUsesLemmas
pub mod CompactedBodiesLemmas
pub mod IsAvailableLemmas
pub mod BuiltOnceLemmas
pub mod EvaluatesBeforeUseLemmas
