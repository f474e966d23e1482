-- The types of the expressions of a function of a module.
use Rattle.std.specs.Prelude.{◌≡◌, ℕ, Option}
use Rattle.naga_arena.specs.Arena.{value_at}
use Rattle.naga_ir.specs.declared.module.Function as function
use Rattle.naga_ir.specs.declared.module.Module as the_module
use Rattle.naga_typifier.specs.Context.{context_in}
use Rattle.naga_typifier.specs.declared.context.ResolveContext.{ResolveContext}
use Rattle.naga_typifier.specs.declared.resolution.TypeResolution.{TypeResolution}
use Rattle.naga_typing.specs.Arenas.{AreTypes}

-- the parts of the context are those of the module and of the function, as `with_function` and `with_entry_point` of
-- `ResolveContext` return it
pub record IsContextOf (whole : the_module.Module) (inside : function.Function) (ctx : ResolveContext) : Type 0 where
  pub constants : ctx.constants.now ≡ whole.constants
  pub overrides : ctx.overrides.now ≡ whole.overrides
  pub types : ctx.types.now ≡ whole.types
  pub special_types : ctx.special_types.now ≡ whole.special_types
  pub global_vars : ctx.global_vars.now ≡ whole.global_variables
  pub local_vars : ctx.local_vars.now ≡ inside.local_variables
  pub functions : ctx.functions.now ≡ whole.functions
  pub arguments : ctx.arguments.now ≡ inside.arguments.items

-- these are the types of the expressions of the function, by their handles
abbrev pub HasTypes : the_module.Module → function.Function → (types : ℕ → Option TypeResolution) → Type 0
HasTypes whole inside types = AreTypes (context_in whole inside) (value_at inside.expressions) types
