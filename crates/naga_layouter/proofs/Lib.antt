pub mod AccessesLemmas
pub mod CheckLemmas
pub mod FaultLemmas
pub mod LayingLemmas
pub mod LeavesLemmas
pub mod PathLemmas
pub mod SoundLemmas
