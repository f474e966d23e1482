-- What the requirements of a function depend on: its module, itself, and the types of its expressions.
use Rattle.std.specs.Prelude.{ℕ, Option, map, slice_get}
use Rattle.std.specs.Option.{option_map}
use Rattle.naga_arena.specs.Arena.{value_at}
use Rattle.naga_ir.specs.declared.module.Function as function
use Rattle.naga_ir.specs.declared.module.Module as the_module
use Rattle.naga_typifier.specs.Context.{Context, context_in}
use Rattle.naga_typifier.specs.declared.resolution.TypeResolution.{TypeResolution}
use Rattle.naga_typing.specs.Requirements.{Fits, IsMet, Signature}
use Rattle.naga_typing.specs.declared.requirement.Requirement.{Requirement}
use Rattle.naga_typing.specs.declared.typed_function.TypedFunction.{TypedFunction}

-- what a function of a module depends on, besides the types of its expressions
abbrev pub signature_in : the_module.Module → function.Function → Signature
signature_in whole inside = record {
  parameters = λ handle. option_map (λ called. map (λ argument. argument.ty) called.arguments.items) (value_at whole.functions handle);
  result = option_map (λ result. result.ty) inside.result;
  ray_desc = whole.special_types.ray_desc;
}

-- the context of the expressions of the function
abbrev pub context_of : TypedFunction → Context
context_of typed = context_in typed.module.now typed.function.now

-- the types of its expressions
abbrev pub types_of : TypedFunction → ℕ → Option TypeResolution
types_of typed = slice_get typed.known.now

abbrev pub signature_of : TypedFunction → Signature
signature_of typed = signature_in typed.module.now typed.function.now

-- a requirement is met in the function
abbrev pub IsMetIn : TypedFunction → Requirement → Type 0
IsMetIn typed = IsMet (context_of typed) (types_of typed) (signature_of typed)

-- a requirement that may be absent is met in the function
abbrev pub FitsIn : TypedFunction → Option Requirement → Type 0
FitsIn typed = Fits (context_of typed) (types_of typed) (signature_of typed)
