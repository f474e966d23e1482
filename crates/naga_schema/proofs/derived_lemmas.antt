-- Made by tests/derive from the declarations of naga_kinds and naga_ir.
pub mod ExpressionAgree
pub mod KindLeavesAgree
pub mod KindsAgree
pub mod LiteralAgree
pub mod ModuleAgree
pub mod StatementAgree
pub mod TypesAgree
