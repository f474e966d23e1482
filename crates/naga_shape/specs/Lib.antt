pub mod Arguments
pub mod Faults
pub mod Lines
pub mod Messages
pub mod Program
