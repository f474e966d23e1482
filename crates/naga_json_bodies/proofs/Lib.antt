mod BlockLemmas
mod TakesBlockLemmas
