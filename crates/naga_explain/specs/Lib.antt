pub mod Explains
pub mod Items
pub mod Messages
pub mod Position
pub mod Statements
