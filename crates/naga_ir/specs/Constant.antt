-- The values of constant expressions, and the lengths to which the sizes of arrays resolve.
--
-- A literal represents itself, and the zero of a scalar type the zero of that scalar. A constant represents what its
-- init represents by these two rules, so a constant is replaced only once. The size of an array is its number, or the
-- value of the init of its override, read as a `u32` above 0; otherwise the length is known only when the shader runs.
use Rattle.std.specs.Prelude.{◌<◌, ⊤, ℕ, suc, List, All, length, Option, Some, None, option_and_then, IfSome, Result, Ok, Err}
use Rattle.std.specs.Int.NonZero.{non_zero_u32_get}
use Rattle.naga_arena.specs.Arena.{value_at, values}
use Rattle.naga_arena.specs.declared.span.Span.{Span}
use Rattle.naga_ir.specs.declared.const_value.ConstValueError.{ConstValueError}
use Rattle.naga_ir.specs.declared.const_value.ConstValueError.TheVariants.{NonConst}
use Rattle.naga_ir.specs.declared.expression.Expression.{Expression}
use Rattle.naga_ir.specs.declared.expression.Expression.TheVariants.{Literal, Constant, ZeroValue}
use Rattle.naga_ir.specs.declared.global_ctx.GlobalCtx.{GlobalCtx}
use Rattle.naga_ir.specs.declared.literal.Literal as literal
use Rattle.naga_ir.specs.declared.module.Constant as constant
use Rattle.naga_ir.specs.declared.module.Override as override
use Rattle.naga_ir.specs.declared.types.ArraySize.{ArraySize}
use Rattle.naga_ir.specs.declared.types.ArraySize.TheVariants as size
use Rattle.naga_ir.specs.declared.types.IndexableLength.{IndexableLength}
use Rattle.naga_ir.specs.declared.types.IndexableLength.TheVariants.{Known, Dynamic}
use Rattle.naga_ir.specs.declared.types.ResolveArraySizeError.{ResolveArraySizeError}
use Rattle.naga_ir.specs.declared.types.ResolveArraySizeError.TheVariants.{ExpectedPositiveArrayLength, NonConstArrayLength}
use Rattle.naga_ir.specs.declared.types.TypeInner.{TypeInner}
use Rattle.naga_ir.specs.declared.types.TypeInner.TheVariants.{Scalar}
use Rattle.naga_ir.specs.Literal.{literal_of, u32_of}

-- ---- contexts that contain everything that is looked up in them

-- the context contains the constant that the expression refers to, or the type of the zero value
abbrev pub IsKnown : GlobalCtx → Expression → Type 0
IsKnown ctx (Constant named) = named < length ctx.constants.now
IsKnown ctx (ZeroValue ty) = ty < length ctx.types.now
IsKnown ctx _ = ⊤

-- the init of a constant is a global expression of the context
abbrev pub HasInit : GlobalCtx → constant.Constant → Type 0
HasInit ctx named = named.init < length ctx.global_expressions.now

-- the init of an override is a global expression of the context, if the override has one
abbrev pub MayHaveInit : GlobalCtx → override.Override → Type 0
MayHaveInit ctx named = IfSome named.init (λ init. init < length ctx.global_expressions.now)

-- the context contains the constants and the types of zero values that the expressions of an arena and the global
-- expressions refer to, and the inits of the constants and of the overrides
pub record IsClosedOver (ctx : GlobalCtx) (arena : List (Expression × Span)) : Type 0 where
  pub expressions : All (IsKnown ctx) (values arena)
  pub global_expressions : All (IsKnown ctx) (values ctx.global_expressions.now)
  pub constants : All (HasInit ctx) (values ctx.constants.now)
  pub overrides : All (MayHaveInit ctx) (values ctx.overrides.now)

-- ---- values

-- the zero literal of a type, if the type is a scalar that has one
abbrev pub zero_of : TypeInner → Option literal.Literal
zero_of (Scalar scalar) = literal_of scalar.kind scalar.width 0
zero_of _ = None

-- the literal that an expression is by itself or as the zero value of a scalar, if it is one
abbrev pub own_literal : GlobalCtx → Expression → Option literal.Literal
own_literal ctx (Literal itself) = Some itself
own_literal ctx (ZeroValue ty) = option_and_then (λ type. zero_of type.inner) (value_at ctx.types.now ty)
own_literal ctx _ = None

-- the literal that is the value of an expression, if there is one; a constant is replaced by its init, once
abbrev pub const_literal : GlobalCtx → Expression → Option literal.Literal
const_literal ctx (Constant named) =
    let own_literal_at = λ (init : ℕ). option_and_then (own_literal ctx) (value_at ctx.global_expressions.now init) in
    option_and_then (λ declared. own_literal_at declared.init) (value_at ctx.constants.now named)
const_literal ctx expression = own_literal ctx expression

-- the literal that is the value of the expression with this handle, if there is one
abbrev pub literal_at : GlobalCtx → List (Expression × Span) → ℕ → Option literal.Literal
literal_at ctx arena handle = option_and_then (const_literal ctx) (value_at arena handle)

-- the value that is read from a literal, or `NonConst` if there is no literal
abbrev pub const_value : {T : Type 0} → (read : literal.Literal → Result T ConstValueError)
    → Option literal.Literal → Result T ConstValueError
const_value read (Some found) = read found
const_value read None = Err NonConst

-- ---- lengths

-- the context contains the override of a `Pending` size
abbrev pub IsKnownSize : GlobalCtx → ArraySize → Type 0
IsKnownSize ctx (size.Pending named) = named < length ctx.overrides.now
IsKnownSize ctx _ = ⊤

-- the literal that is the value of the init of an override, if there is one
abbrev pub init_literal : GlobalCtx → override.Override → Option literal.Literal
init_literal ctx named = option_and_then (literal_at ctx ctx.global_expressions.now) named.init

-- the number that was read as a length, if it is greater than 0, or an error
abbrev pub length_of : Result ℕ ConstValueError → Result IndexableLength ResolveArraySizeError
length_of (Ok (suc number)) = Ok (Known (suc number))
length_of (Err NonConst) = Err NonConstArrayLength
length_of _ = Err ExpectedPositiveArrayLength

-- the length to which a size resolves, or the error
abbrev pub resolved : GlobalCtx → ArraySize → Result IndexableLength ResolveArraySizeError
resolved ctx (size.Constant number) = Ok (Known (non_zero_u32_get number))
resolved ctx (size.Pending named) =
    length_of (const_value u32_of (option_and_then (init_literal ctx) (value_at ctx.overrides.now named)))
resolved ctx size.Dynamic = Ok Dynamic
