-- What the type of an expression depends on, besides the types of its operands.
use Rattle.std.specs.Prelude.{ℕ, List, Option, Some, slice_get}
use Rattle.std.specs.Option.{option_map}
use Rattle.indexmap.specs.IndexMap.{get}
use Rattle.naga_arena.specs.Arena.{value_at}
use Rattle.naga_kinds.specs.declared.address_space.AddressSpace.{AddressSpace}
use Rattle.naga_kinds.specs.declared.scalar.PredeclaredType.{PredeclaredType}
use Rattle.naga_kinds.specs.contracts.scalar.PredeclaredTypePartialEq.TheImpl as predeclared_eq
use Rattle.naga_ir.specs.declared.module.Constant.{Constant}
use Rattle.naga_ir.specs.declared.module.Function.{Function}
use Rattle.naga_ir.specs.declared.module.FunctionArgument.{FunctionArgument}
use Rattle.naga_ir.specs.declared.module.GlobalVariable.{GlobalVariable}
use Rattle.naga_ir.specs.declared.module.LocalVariable.{LocalVariable}
use Rattle.naga_ir.specs.declared.module.Module.{Module}
use Rattle.naga_ir.specs.declared.module.Override.{Override}
use Rattle.naga_ir.specs.declared.module.SpecialTypes.{SpecialTypes}
use Rattle.naga_ir.specs.declared.types.Type.{«Type» as Declared}
use Rattle.naga_ir.specs.declared.types.TypeInner.{TypeInner}
use Rattle.naga_arena.specs.declared.span.Span.{Span}
use Rattle.naga_typifier.specs.declared.context.ResolveContext.{ResolveContext}
use Rattle.naga_typifier.specs.declared.resolution.TypeResolution.{TypeResolution}
use Rattle.naga_typifier.specs.declared.resolution.TypeResolution.TheVariants as resolution

-- The contents of the types that a module declares, and the handle of the type of each other thing that an expression
-- can name. Each field is a partial function: of handles, of indices of arguments, or of predeclared types. A function
-- of the module that returns nothing has the result type `None`.
pub record Context : Type 0 where
  pub types : ℕ → Option TypeInner
  pub constants : ℕ → Option ℕ
  pub overrides : ℕ → Option ℕ
  pub globals : ℕ → Option (AddressSpace × ℕ)
  pub locals : ℕ → Option ℕ
  pub arguments : ℕ → Option ℕ
  pub results : ℕ → Option (Option ℕ)
  pub ray_intersection : Option ℕ
  pub ray_vertex_return : Option ℕ
  pub predeclared : PredeclaredType → Option ℕ

-- the contents of the type with this handle, or `None` if the arena has no such type
abbrev pub inner_at : List (Declared × Span) → ℕ → Option TypeInner
inner_at types handle = option_map (λ type. type.inner) (value_at types handle)

-- the context with these parts of a module and of a function
abbrev pub context_with : List (Constant × Span) → List (Override × Span) → List (Declared × Span) → SpecialTypes
    → List (GlobalVariable × Span) → List (LocalVariable × Span) → List (Function × Span) → List FunctionArgument → Context
context_with constants overrides types special_types globals locals functions arguments = record {
  types = inner_at types;
  constants = λ handle. option_map (λ constant. constant.ty) (value_at constants handle);
  overrides = λ handle. option_map (λ override. override.ty) (value_at overrides handle);
  globals = λ handle. option_map (λ variable. (variable.space, variable.ty)) (value_at globals handle);
  locals = λ handle. option_map (λ variable. variable.ty) (value_at locals handle);
  arguments = λ index. option_map (λ argument. argument.ty) (slice_get arguments index);
  results = λ handle. option_map (λ function. option_map (λ result. result.ty) function.result) (value_at functions handle);
  ray_intersection = special_types.ray_intersection;
  ray_vertex_return = special_types.ray_vertex_return;
  predeclared = get predeclared_eq.ghosts.eq special_types.predeclared_types;
}

-- the context of the expressions of a function
abbrev pub context_of : ResolveContext → Context
context_of ctx =
    context_with ctx.constants.now ctx.overrides.now ctx.types.now ctx.special_types.now ctx.global_vars.now ctx.local_vars.now
    ctx.functions.now ctx.arguments.now

-- the context of the expressions of a function of a module
abbrev pub context_in : Module → Function → Context
context_in owner function =
    context_with owner.constants owner.overrides owner.types owner.special_types owner.global_variables function.local_variables
    owner.functions function.arguments.items

-- the contents of a type, of which the types with handles are given, or `None` if there is no type with its handle
abbrev pub contents_of : (ℕ → Option TypeInner) → TypeResolution → Option TypeInner
contents_of types (resolution.Handle handle) = types handle
contents_of types (resolution.Value contents) = Some contents

-- the contents of a resolved type
abbrev pub inner_of : Context → TypeResolution → Option TypeInner
inner_of ctx resolved = contents_of ctx.types resolved
