-- Why an expression that has no type has none: the first operand at fault, or what the expression names.
use Rattle.std.specs.Prelude.{ℕ, Option, Some, None, Result, Ok, Err}
use Rattle.naga_kinds.specs.declared.math.MathFunction.{MathFunction}
use Rattle.naga_kinds.specs.declared.scalar.Scalar.{Scalar}
use Rattle.naga_ir.specs.declared.expression.Expression.{Expression}
use Rattle.naga_ir.specs.declared.types.TypeInner.{TypeInner}
use Rattle.naga_ir.specs.declared.types.TypeInner.TheVariants as inner
use Rattle.naga_typifier.specs.Context.{Context}
use Rattle.naga_typifier.specs.Math.{accepted, rule_of}
use Rattle.naga_typifier.specs.Rows.{scalar_in}
use Rattle.naga_typifier.specs.Rules.{rule_of_expression}
use Rattle.naga_typifier.specs.declared.math.MathResult.{MathResult}
use Rattle.naga_typifier.specs.declared.math.MathResult.TheVariants as gives
use Rattle.naga_typifier.specs.declared.resolution.TypeResolution.{TypeResolution}
use Rattle.naga_typifier.specs.declared.resolution.TypeResolution.TheVariants as resolution
use Rattle.naga_typifier.specs.declared.resolve_error.ResolveError.{ResolveError}
use Rattle.naga_typifier.specs.declared.resolve_error.ResolveError.TheVariants as error
use Rattle.naga_typifier.specs.declared.rules.Named.{Named}
use Rattle.naga_typifier.specs.declared.rules.Named.TheVariants as named
use Rattle.naga_typifier.specs.declared.rules.Reading.{Reading}
use Rattle.naga_typifier.specs.declared.rules.Reading.TheVariants as reading
use Rattle.naga_typifier.specs.declared.rules.Rule.{Rule}
use Rattle.naga_typifier.specs.declared.rules.Rule.TheVariants as rule

-- the error of a lookup, or the error that contents cause
abbrev pub blamed : Result TypeInner ResolveError → (TypeInner → ResolveError) → ResolveError
blamed (Err found) caused = found
blamed (Ok contents) caused = caused contents

-- ---- operands of a wrong kind

-- A base without this part: it has parts, but none at this index, or it has none at all.
abbrev pub part_fault : (base : ℕ) → Option ℕ → TypeInner → ResolveError
part_fault base (Some index) (inner.Vector size scalar) = error.IndexOutOfBounds base index
part_fault base (Some index) (inner.Matrix columns rows scalar) = error.IndexOutOfBounds base index
part_fault base (Some index) (inner.Struct members span) = error.IndexOutOfBounds base index
part_fault base _ _ = error.InvalidBase base

-- Factors that have no product: the left one is neither a number, a vector nor a matrix, or else the right one, or
-- else the two do not fit together.
abbrev pub factor_fault : (left right : ℕ) → (of_left of_right : Option Scalar) → ResolveError
factor_fault left right None of_right = error.InvalidFactor left
factor_fault left right (Some scalar) None = error.InvalidFactor right
factor_fault left right (Some scalar) (Some other) = error.IncompatibleFactors left right

module _ (ctx : Context) where
  -- the contents behind a pointer, or the error if its base is not in the module
  abbrev pub behind : (pointer base : ℕ) → Result TypeInner ResolveError
  behind pointer base =
      elim (ctx.types base) as (λ _. Result TypeInner ResolveError) [
        | None ↦ Err (error.UnknownType pointer base)
        | Some contents ↦ Ok contents
      ]

  -- the contents of a type, or the error if the operand with this type names one that is not in the module
  abbrev pub contents_or : (operand : ℕ) → TypeResolution → Result TypeInner ResolveError
  contents_or operand (resolution.Handle ty) = behind operand ty
  contents_or operand (resolution.Value contents) = Ok contents

  -- a base without this part, or a pointer to one
  abbrev pub access_fault : (base : ℕ) → Option ℕ → TypeInner → ResolveError
  access_fault base index (inner.Pointer ty space) = blamed (behind base ty) (part_fault base index)
  access_fault base index (inner.ValuePointer (Some size) scalar space) =
      part_fault base index (inner.Vector size scalar)
  access_fault base index contents = part_fault base index contents

  -- a pointer whose base is not in the module, or an operand through which nothing is loaded
  abbrev pub pointer_fault : (pointer : ℕ) → TypeInner → ResolveError
  pointer_fault pointer (inner.Pointer ty space) =
      blamed (behind pointer ty) (λ contents. error.InvalidPointer pointer)
  pointer_fault pointer contents = error.InvalidPointer pointer

  -- a function that is not in the module, or that returns nothing
  abbrev pub call_fault : (function : ℕ) → ResolveError
  call_fault function =
      elim (ctx.results function) as (λ _. ResolveError) [
        | None ↦ error.UnknownFunction function
        | Some result ↦ error.FunctionReturnsVoid function
      ]

  -- what an expression names is not in the module or in the function, or has no type
  abbrev pub fault_of_named : Named → ResolveError
  fault_of_named (named.Constant constant) = error.UnknownConstant constant
  fault_of_named (named.Override override) = error.UnknownOverride override
  fault_of_named (named.Argument index) = error.UnknownFunctionArgument index
  fault_of_named (named.GlobalVariable global) = error.UnknownGlobalVariable global
  fault_of_named (named.LocalVariable local) = error.UnknownLocalVariable local
  fault_of_named (named.Result function) = call_fault function
  fault_of_named named.RayVertexReturn = error.MissingSpecialType
  fault_of_named named.RayIntersection = error.MissingSpecialType

  -- an operand with these contents, from which this is not read
  abbrev pub reading_fault : (operand : ℕ) → Reading → TypeInner → ResolveError
  reading_fault operand (reading.Part index) contents = access_fault operand index contents
  reading_fault operand (reading.Splat size) contents = error.InvalidScalar operand
  reading_fault operand (reading.Swizzle size) contents = error.InvalidVector operand
  reading_fault operand reading.Load contents = pointer_fault operand contents
  reading_fault operand (reading.Sample gather) contents = error.InvalidImage operand
  reading_fault operand reading.Texel contents = error.InvalidImage operand
  reading_fault operand reading.Size contents = error.InvalidImage operand
  reading_fault operand reading.Truths contents = error.InvalidComponents operand
  reading_fault operand (reading.Cast kind convert) contents = error.InvalidComponents operand
  reading_fault operand (reading.Matrix columns rows role) contents = pointer_fault operand contents

-- `known` has the types of the expressions that come before.
module _ (ctx : Context) (known : ℕ → Option TypeResolution) where
  -- the contents of the type of an operand, or the error if no type is known or the type is not in the module
  abbrev pub operand_of : (operand : ℕ) → Result TypeInner ResolveError
  operand_of operand =
      elim (known operand) as (λ _. Result TypeInner ResolveError) [
        | None ↦ Err (error.UnknownOperand operand)
        | Some ty ↦ contents_or ctx operand ty
      ]

  -- the error of an operand, or this one if its type is known
  abbrev pub rejected : (operand : ℕ) → ResolveError → ResolveError
  rejected operand otherwise = blamed (operand_of operand) (λ contents. otherwise)

  -- an operand without a known type, or with a type that must be declared but is not
  abbrev pub same_fault : (operand : ℕ) → ResolveError
  same_fault operand =
      elim (known operand) as (λ _. ResolveError) [
        | None ↦ error.UnknownOperand operand
        | Some ty ↦ error.UndeclaredType operand
      ]

  -- two operands that have no product
  abbrev pub product_fault : (left right : ℕ) → ResolveError
  product_fault left right =
      blamed (operand_of left) λ in_left. blamed (operand_of right) λ in_right.
      factor_fault left right (scalar_in in_left) (scalar_in in_right)

  -- a second argument that is absent or not accepted
  abbrev pub second_fault : MathFunction → Option ℕ → ResolveError
  second_fault fun None = error.MissingArgument fun
  second_fault fun (Some operand) = rejected operand (error.InvalidArgument fun operand)

  -- why a result is absent though the first argument is accepted: for lack of a second one, or of a special type
  abbrev pub result_fault : MathFunction → MathResult → Option ℕ → ResolveError
  result_fault fun gives.Outer second = second_fault fun second
  result_fault fun _ second = error.MissingResult fun

  -- a first argument with these contents that is not accepted, or a result that is absent
  abbrev pub argument_fault : MathFunction → (first : ℕ) → (second : Option ℕ) → TypeInner → ResolveError
  argument_fault fun first second contents =
      elim (accepted (rule_of fun) contents) as (λ _. ResolveError) [
        | None ↦ error.InvalidArgument fun first
        | Some scalar ↦ result_fault fun (rule_of fun).gives second
      ]

  -- Why an expression with this rule has no type, if it has none. The operands are examined in their order, each first
  -- for a known type, then for the contents of that type, then for its kind. The first two rules always give a type.
  abbrev pub fault_by : Rule → ResolveError
  fault_by (rule.Fixed size scalar) = error.MissingSpecialType
  fault_by (rule.Declared ty) = error.MissingSpecialType
  fault_by (rule.Named named) = fault_of_named ctx named
  fault_by (rule.Like operand) = same_fault operand
  fault_by (rule.Read reading operand) = blamed (operand_of operand) (reading_fault ctx operand reading)
  fault_by (rule.Product left right) = product_fault left right
  fault_by (rule.Math fun first second) = blamed (operand_of first) (argument_fault fun first second)

  -- why an expression has no type, if it has none
  abbrev pub fault_of : Expression → ResolveError
  fault_of expression = fault_by (rule_of_expression expression)
