pub mod Module
pub mod Parts
pub mod Taken
pub mod Messages
