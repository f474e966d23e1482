-- The handles that the declarations of a module contain, in declared order.
use Rattle.std.specs.Prelude.{ℕ, List, [], ◌∷◌, ◌++◌, map, Option, Some, None, option_to_list}
use Rattle.std.specs.Option.{option_map}
use Rattle.naga_kinds.specs.declared.diagnostic_filter.DiagnosticFilterNode.{DiagnosticFilterNode}
use Rattle.naga_ir.specs.declared.module.Constant as constant
use Rattle.naga_ir.specs.declared.module.Function as function
use Rattle.naga_ir.specs.declared.module.GlobalVariable as global
use Rattle.naga_ir.specs.declared.module.LocalVariable as local
use Rattle.naga_ir.specs.declared.module.MeshStageInfo.{MeshStageInfo}
use Rattle.naga_ir.specs.declared.module.Override as override
use Rattle.naga_ir.specs.declared.types.ArraySize.{ArraySize}
use Rattle.naga_ir.specs.declared.types.ArraySize.TheVariants as size
use Rattle.naga_ir.specs.declared.types.«Type».{«Type» as NamedType}
use Rattle.naga_ir.specs.declared.types.TypeInner.{TypeInner}
use Rattle.naga_ir.specs.declared.types.TypeInner.TheVariants.{Scalar, Vector, Matrix, CooperativeMatrix, Atomic, Pointer, ValuePointer, Array, Struct, Image, Sampler, AccelerationStructure, RayQuery, BindingArray}
use Rattle.naga_valid.specs.declared.reference.Reference.{Reference}
use Rattle.naga_valid.specs.declared.reference.Reference.TheVariants.{«Type», Override, GlobalVariable, GlobalExpression, Expression, DiagnosticFilter}

-- ---- types

-- the override of a size
abbrev pub pending_of : ArraySize → Option ℕ
pending_of (size.Constant count) = None
pending_of (size.Pending handle) = Some handle
pending_of size.Dynamic = None

-- what the description of a type contains
abbrev pub references_of_inner : TypeInner → List Reference
references_of_inner (Scalar scalar) = []
references_of_inner (Vector size scalar) = []
references_of_inner (Matrix columns rows scalar) = []
references_of_inner (CooperativeMatrix columns rows scalar role) = []
references_of_inner (Atomic scalar) = []
references_of_inner (Pointer base space) = «Type» base ∷ []
references_of_inner (ValuePointer size scalar space) = []
references_of_inner (Array base size stride) = «Type» base ∷ option_to_list (option_map Override (pending_of size))
references_of_inner (Struct members span) = map (λ member. «Type» member.ty) members.items
references_of_inner (Image dim arrayed class) = []
references_of_inner (Sampler comparison) = []
references_of_inner (AccelerationStructure vertex_return) = []
references_of_inner (RayQuery vertex_return) = []
references_of_inner (BindingArray base size) = «Type» base ∷ option_to_list (option_map Override (pending_of size))

-- what a type contains
abbrev pub references_of_type : NamedType → List Reference
references_of_type type = references_of_inner type.inner

-- ---- declarations with an init

-- what a constant contains
abbrev pub references_of_constant : constant.Constant → List Reference
references_of_constant declared = «Type» declared.ty ∷ GlobalExpression declared.init ∷ []

-- what an override contains
abbrev pub references_of_override : override.Override → List Reference
references_of_override declared = «Type» declared.ty ∷ option_to_list (option_map GlobalExpression declared.init)

-- what a global variable contains
abbrev pub references_of_global_variable : global.GlobalVariable → List Reference
references_of_global_variable declared = «Type» declared.ty ∷ option_to_list (option_map GlobalExpression declared.init)

-- what a local variable contains
abbrev pub references_of_local_variable : local.LocalVariable → List Reference
references_of_local_variable declared = «Type» declared.ty ∷ option_to_list (option_map Expression declared.init)

-- ---- filters

-- the innermost filter, if there is one
abbrev pub references_of_leaf : Option ℕ → List Reference
references_of_leaf leaf = option_to_list (option_map DiagnosticFilter leaf)

-- what a node of the tree of filters contains: its parent
abbrev pub references_of_filter : DiagnosticFilterNode → List Reference
references_of_filter node = references_of_leaf node.parent

-- ---- functions

-- ---- entry points

-- what the description of a mesh stage contains
abbrev pub references_of_mesh_info : MeshStageInfo → List Reference
references_of_mesh_info info =
    option_to_list (option_map GlobalExpression info.max_vertices_override)
    ++ option_to_list (option_map GlobalExpression info.max_primitives_override)
    ++ «Type» info.vertex_output_type ∷ «Type» info.primitive_output_type ∷ GlobalVariable info.output_variable ∷ []
