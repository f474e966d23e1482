pub mod ExplainsLemmas
pub mod PositionLemmas
pub mod StatementsLemmas
