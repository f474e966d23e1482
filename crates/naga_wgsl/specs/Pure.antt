-- Which expressions a text may write out where they are used.
use Rattle.std.specs.Prelude.{◌≡◌, Bool, true, false, not, ◌&&◌, Option, Some, None}
use Rattle.naga_ir.specs.Expression.{needs_pre_emit}
use Rattle.naga_ir.specs.declared.expression.Expression.{Expression}
use Rattle.naga_ir.specs.declared.expression.Expression.TheVariants.{Literal, Constant, Override, ZeroValue, Compose, Access, AccessIndex, Splat, Swizzle, FunctionArgument, GlobalVariable, LocalVariable, Load, ImageSample, ImageLoad, ImageQuery, Unary, Binary, Select, Derivative, Relational, Math, As, CallResult, AtomicResult, WorkGroupUniformLoadResult, ArrayLength, RayQueryVertexPositions, RayQueryProceedResult, RayQueryGetIntersection, SubgroupBallotResult, SubgroupOperationResult, CooperativeLoad, CooperativeMultiplyAdd}
use Rattle.naga_valid.specs.declared.reference.Reference.{Reference}
use Rattle.naga_meaning.specs.Functions.{Meanings, shape_of}
use Rattle.naga_meaning.specs.Redirecting.{IsSteady}

-- No statement changes the value of such an expression for given values of its operands: it reads no memory, no texel and
-- no ray query, other invocations take no part in it, and it is not the result of a statement.
abbrev pub is_pure : Expression → Bool
is_pure (Literal literal) = true
is_pure (Constant constant) = true
is_pure (Override handle) = true
is_pure (ZeroValue ty) = true
is_pure (Compose ty components) = true
is_pure (Access base index) = true
is_pure (AccessIndex base index) = true
is_pure (Splat size value) = true
is_pure (Swizzle size vector pattern) = true
is_pure (FunctionArgument index) = true
is_pure (GlobalVariable variable) = true
is_pure (LocalVariable variable) = true
is_pure (Load pointer) = false
is_pure (ImageSample image sampler gather coordinate array_index offset level depth_ref clamp_to_edge) = false
is_pure (ImageLoad image coordinate array_index sample level) = false
is_pure (ImageQuery image query) = true
is_pure (Unary op expr) = true
is_pure (Binary op left right) = true
is_pure (Select condition accept reject) = true
is_pure (Derivative axis ctrl expr) = false
is_pure (Relational fun argument) = true
is_pure (Math fun arg arg1 arg2 arg3) = true
is_pure (As expr kind convert) = true
is_pure (CallResult function) = false
is_pure (AtomicResult ty comparison) = false
is_pure (WorkGroupUniformLoadResult ty) = false
is_pure (ArrayLength array) = true
is_pure (RayQueryVertexPositions query committed) = false
is_pure RayQueryProceedResult = false
is_pure (RayQueryGetIntersection query committed) = false
is_pure SubgroupBallotResult = false
is_pure (SubgroupOperationResult ty) = false
is_pure (CooperativeLoad columns rows role data') = false
is_pure (CooperativeMultiplyAdd a b c) = false

-- the expression is pure, and evaluated by an `Emit`
abbrev pub may_be_inline : Option Expression → Bool
may_be_inline None = false
may_be_inline (Some expression) = is_pure expression && not (needs_pre_emit expression)

-- no statement changes what the interpretation computes for pure expressions
abbrev pub PureIsSteady : {Thing Value State : Type 0} → (look : Reference → Thing) → Meanings Thing Value State → Type 0
PureIsSteady look by =
    (expression : Expression) → is_pure expression ≡ true → IsSteady by (Some (shape_of look expression))
