-- Lemmas on texts and their answers.
pub mod ClosedOutlineLemmas
pub mod ReshapesLemmas
