pub mod Limits
pub mod Outline
pub mod Reading
pub mod Refusal
