pub mod Buffer
pub mod Fault
pub mod Failure
pub mod Answer
