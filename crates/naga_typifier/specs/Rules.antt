-- The rule of each expression, by which its type is found: the one table over the variants of an expression. Its type,
-- its error if it has none, and the operands on whose types its type depends, follow from its rule.
--
-- The ground of each row is given above its definition, here and in the files of rows: the documentation of naga's IR,
-- the rules of WGSL where that documentation is silent, or a choice where both are.
use Rattle.std.specs.Prelude.{ℕ, Some, None}
use Rattle.naga_kinds.specs.declared.operator.BinaryOperator.{BinaryOperator}
use Rattle.naga_kinds.specs.declared.operator.BinaryOperator.TheVariants as op
use Rattle.naga_kinds.specs.declared.operator.RelationalFunction.{RelationalFunction}
use Rattle.naga_kinds.specs.declared.operator.RelationalFunction.TheVariants.{IsNan, IsInf}
use Rattle.naga_kinds.specs.declared.scalar.VectorSize.TheVariants.{Quad}
use Rattle.naga_kinds.specs.declared.scalar.TheConstants.Scalar.{BOOL, U32}
use Rattle.naga_ir.specs.Literal as literal
use Rattle.naga_ir.specs.declared.expression.Expression.{Expression}
use Rattle.naga_ir.specs.declared.expression.Expression.TheVariants.{Literal, Constant, Override, ZeroValue, Compose, Access, AccessIndex, Splat, Swizzle, FunctionArgument, GlobalVariable, LocalVariable, Load, ImageSample, ImageLoad, ImageQuery, Unary, Binary, Select, Derivative, Relational, Math, As, CallResult, AtomicResult, WorkGroupUniformLoadResult, ArrayLength, RayQueryVertexPositions, RayQueryProceedResult, RayQueryGetIntersection, SubgroupBallotResult, SubgroupOperationResult, CooperativeLoad, CooperativeMultiplyAdd}
use Rattle.naga_ir.specs.declared.expression.ImageQuery as query
use Rattle.naga_ir.specs.declared.expression.ImageQuery.TheVariants.{Size}
use Rattle.naga_typifier.specs.declared.rules.Named.TheVariants as named
use Rattle.naga_typifier.specs.declared.rules.Reading.TheVariants as reading
use Rattle.naga_typifier.specs.declared.rules.Rule.{Rule}
use Rattle.naga_typifier.specs.declared.rules.Rule.TheVariants.{Fixed, Declared, Named, Like, Read, Product}
use Rattle.naga_typifier.specs.declared.rules.Rule.TheVariants as rule

-- By the documentation, the other arithmetic operators have operands of one type. As in WGSL, their result has that
-- type too, a comparison and a logical operator give a boolean for each component, and operators on bits and shifts
-- give the type of the left operand. A choice: only a product depends on the right operand.
abbrev pub rule_of_binary : BinaryOperator → (left right : ℕ) → Rule
rule_of_binary op.Multiply left right = Product left right
rule_of_binary op.Equal left right = Read reading.Truths left
rule_of_binary op.NotEqual left right = Read reading.Truths left
rule_of_binary op.Less left right = Read reading.Truths left
rule_of_binary op.LessEqual left right = Read reading.Truths left
rule_of_binary op.Greater left right = Read reading.Truths left
rule_of_binary op.GreaterEqual left right = Read reading.Truths left
rule_of_binary op.LogicalAnd left right = Read reading.Truths left
rule_of_binary op.LogicalOr left right = Read reading.Truths left
rule_of_binary _ left right = Like left

-- As in WGSL, `All` and `Any` give one boolean. A choice: it does not depend on the operand. A choice, since WGSL has
-- no such functions: `IsNan` and `IsInf` give a boolean for each component.
abbrev pub rule_of_relational : RelationalFunction → (argument : ℕ) → Rule
rule_of_relational IsNan argument = Read reading.Truths argument
rule_of_relational IsInf argument = Read reading.Truths argument
rule_of_relational _ argument = Fixed None BOOL

-- By the documentation, the type of a size depends on the image, and all other queries give a `u32`.
abbrev pub rule_of_query : query.ImageQuery → (image : ℕ) → Rule
rule_of_query (Size level) image = Read reading.Size image
rule_of_query _ image = Fixed None U32

-- The rule of an expression.
--
-- By the documentation: literals, constants, overrides, zero values, arguments, variables, accesses, splats,
-- swizzles, loads, products, image loads and queries, conversions of scalars and vectors, and the results of calls,
-- of atomic operations and of `Proceed`. `Compose`, the results of loads from a workgroup and of operations of a
-- subgroup have the type that they name. What a ray query finds has one of the special types.
--
-- As in WGSL: unary operators and derivatives have the type of their operand, `Select` has that of `accept`, the
-- length of an array is a `u32`, and a ballot is a vector of four of them.
--
-- A choice: a cooperative load has the scalar behind its pointer, and the sum of a cooperative product has the type
-- of its addend. Whether a handle that an expression names as its type is in the module is not examined here.
abbrev pub rule_of_expression : Expression → Rule
rule_of_expression (Literal written) = Fixed None (literal.scalar_of written)
rule_of_expression (Constant constant) = Named (named.Constant constant)
rule_of_expression (Override override) = Named (named.Override override)
rule_of_expression (ZeroValue ty) = Declared ty
rule_of_expression (Compose ty components) = Declared ty
rule_of_expression (Access base index) = Read (reading.Part None) base
rule_of_expression (AccessIndex base index) = Read (reading.Part (Some index)) base
rule_of_expression (Splat size operand) = Read (reading.Splat size) operand
rule_of_expression (Swizzle size vector pattern) = Read (reading.Swizzle size) vector
rule_of_expression (FunctionArgument index) = Named (named.Argument index)
rule_of_expression (GlobalVariable global) = Named (named.GlobalVariable global)
rule_of_expression (LocalVariable local) = Named (named.LocalVariable local)
rule_of_expression (Load pointer) = Read reading.Load pointer
rule_of_expression (ImageSample image sampler gather coordinate array_index offset level depth_ref clamp_to_edge) =
    Read (reading.Sample gather) image
rule_of_expression (ImageLoad image coordinate array_index at level) = Read reading.Texel image
rule_of_expression (ImageQuery image query) = rule_of_query query image
rule_of_expression (Unary op expr) = Like expr
rule_of_expression (Binary op left right) = rule_of_binary op left right
rule_of_expression (Select condition accept reject) = Like accept
rule_of_expression (Derivative axis ctrl expr) = Like expr
rule_of_expression (Relational fun argument) = rule_of_relational fun argument
rule_of_expression (Math fun arg arg1 arg2 arg3) = rule.Math fun arg arg1
rule_of_expression (As expr kind convert) = Read (reading.Cast kind convert) expr
rule_of_expression (CallResult function) = Named (named.Result function)
rule_of_expression (AtomicResult ty comparison) = Declared ty
rule_of_expression (WorkGroupUniformLoadResult ty) = Declared ty
rule_of_expression (ArrayLength array) = Fixed None U32
rule_of_expression (RayQueryVertexPositions query committed) = Named named.RayVertexReturn
rule_of_expression RayQueryProceedResult = Fixed None BOOL
rule_of_expression (RayQueryGetIntersection query committed) = Named named.RayIntersection
rule_of_expression SubgroupBallotResult = Fixed (Some Quad) U32
rule_of_expression (SubgroupOperationResult ty) = Declared ty
rule_of_expression (CooperativeLoad columns rows role at) = Read (reading.Matrix columns rows role) at.pointer
rule_of_expression (CooperativeMultiplyAdd a b c) = Like c
