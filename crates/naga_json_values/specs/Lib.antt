pub mod Reads
pub mod Cause
pub mod Items
pub mod StructParts
pub mod Messages
