pub mod PlainLemmas
pub mod RulesLemmas
pub mod TypingLemmas
