-- Made by tests/derive from the declarations of naga_kinds and naga_ir.
pub mod AddressSpace
pub mod Binding
pub mod Builtin
pub mod EntryPoint
pub mod Expression
pub mod Image
pub mod Kinds
pub mod Literal
pub mod Module
pub mod Scalar
pub mod Statement
pub mod Switch
pub mod Types
