mod ArenasLemmas
mod DistinctLemmas
mod ListsLemmas
pub mod TakesArenasLemmas
