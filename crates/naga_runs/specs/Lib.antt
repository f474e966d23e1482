pub mod Alike
pub mod Diverges
pub mod Exits
pub mod Runs
pub mod RunsFit
pub mod Replay
