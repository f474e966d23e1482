pub mod Task
pub mod Arguments
pub mod Input
pub mod Answer
pub mod Messages
pub mod Said
pub mod Program
