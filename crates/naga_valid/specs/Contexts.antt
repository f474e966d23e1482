-- The context of a module, in which constant expressions are looked up and the sizes of arrays are resolved.
use Rattle.std.specs.Prelude.{◌≡◌, Option, Some, None}
use Rattle.naga_ir.specs.declared.global_ctx.GlobalCtx.{GlobalCtx}
use Rattle.naga_ir.specs.declared.module.Module as the_module
use Rattle.naga_ir.specs.declared.types.ArraySize.{ArraySize}
use Rattle.naga_ir.specs.declared.types.TypeInner.{TypeInner}
use Rattle.naga_ir.specs.declared.types.TypeInner.TheVariants.{Array, BindingArray}

-- the context borrows these parts of the module
pub record IsContextOf (whole : the_module.Module) (ctx : GlobalCtx) : Type 0 where
  pub types : ctx.types.now ≡ whole.types
  pub constants : ctx.constants.now ≡ whole.constants
  pub overrides : ctx.overrides.now ≡ whole.overrides
  pub global_expressions : ctx.global_expressions.now ≡ whole.global_expressions

-- the size of an array type or of a binding array type, or `None` for any other type
abbrev pub size_of : TypeInner → Option ArraySize
size_of (Array base size stride) = Some size
size_of (BindingArray base size) = Some size
size_of _ = None
