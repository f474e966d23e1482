-- Lemmas on modules of which only the bodies change.
pub mod AllZipLemmas
pub mod ChangesBodiesLemmas
pub mod AddsNoHandlesLemmas
