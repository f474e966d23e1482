pub mod Document
pub mod Fault
pub mod Messages
pub mod Rest
pub mod Steps
pub mod Awaits
