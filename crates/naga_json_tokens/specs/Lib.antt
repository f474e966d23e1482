pub mod Levels
pub mod Takes
pub mod TakesParts
pub mod TakesVariants
