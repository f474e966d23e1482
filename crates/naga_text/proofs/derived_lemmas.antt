-- Made by tests/derive from the declarations of naga_kinds and naga_ir.
pub mod ReadableNamesLemmas
pub mod ReadableTextsLemmas
