-- Made by tests/derive from the declarations of naga_kinds and naga_ir.
pub mod AddressSpaceLemmas
pub mod BindingLemmas
pub mod BuiltinLemmas
pub mod EntryPointLemmas
pub mod ExpressionLemmas
pub mod ImageLemmas
pub mod KindsLemmas
pub mod LiteralLemmas
pub mod ModuleLemmas
pub mod ScalarLemmas
pub mod StatementLemmas
pub mod SwitchLemmas
pub mod TypesLemmas
