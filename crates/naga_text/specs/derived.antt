-- Made by tests/derive from the declarations of naga_kinds and naga_ir.
pub mod AddressSpace
pub mod Builtin
pub mod Expression
pub mod Image
pub mod Statement
