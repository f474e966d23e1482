-- The handles that an expression contains, in declared order: one line for each variant.
use Rattle.std.specs.Prelude.{ℕ, List, [], ◌∷◌, Option, Some, None}
use Rattle.naga_ir.specs.declared.expression.Expression.{Expression}
use Rattle.naga_ir.specs.declared.expression.Expression.TheVariants.{Literal, Constant, Override, ZeroValue, Compose, Access, AccessIndex, Splat, Swizzle, FunctionArgument, GlobalVariable, LocalVariable, Load, ImageSample, ImageLoad, ImageQuery, Unary, Binary, Select, Derivative, Relational, Math, As, CallResult, AtomicResult, WorkGroupUniformLoadResult, ArrayLength, RayQueryVertexPositions, RayQueryProceedResult, RayQueryGetIntersection, SubgroupBallotResult, SubgroupOperationResult, CooperativeLoad, CooperativeMultiplyAdd}
use Rattle.naga_ir.specs.declared.expression.ImageQuery as query
use Rattle.naga_ir.specs.declared.expression.ImageQuery.TheVariants.{Size, NumLevels, NumLayers, NumSamples}
use Rattle.naga_ir.specs.declared.expression.SampleLevel.{SampleLevel}
use Rattle.naga_ir.specs.declared.expression.SampleLevel.TheVariants.{Auto, Zero, Exact, Bias, Gradient}
use Rattle.naga_valid.specs.declared.reference.Reference.{Reference}
use Rattle.naga_valid.specs.declared.reference.Reference.TheVariants as reference
use Rattle.naga_valid.specs.Reference.{operands, present}

-- the first expression that a `SampleLevel` contains
abbrev pub first_of_sample_level : SampleLevel → Option ℕ
first_of_sample_level Auto = None
first_of_sample_level Zero = None
first_of_sample_level (Exact level) = Some level
first_of_sample_level (Bias offset) = Some offset
first_of_sample_level (Gradient x y) = Some x

-- the second expression that a `SampleLevel` contains
abbrev pub second_of_sample_level : SampleLevel → Option ℕ
second_of_sample_level Auto = None
second_of_sample_level Zero = None
second_of_sample_level (Exact level) = None
second_of_sample_level (Bias offset) = None
second_of_sample_level (Gradient x y) = Some y

-- the expression that an `ImageQuery` contains
abbrev pub operand_of_image_query : query.ImageQuery → Option ℕ
operand_of_image_query (Size level) = level
operand_of_image_query NumLevels = None
operand_of_image_query NumLayers = None
operand_of_image_query NumSamples = None

-- what an expression contains
abbrev pub references_of_expression : Expression → List Reference
references_of_expression (Literal literal) = []
references_of_expression (Constant constant) = reference.Constant constant ∷ []
references_of_expression (Override handle) = reference.Override handle ∷ []
references_of_expression (ZeroValue ty) = reference.«Type» ty ∷ []
references_of_expression (Compose ty components) = reference.«Type» ty ∷ operands components.items
references_of_expression (Access base index) = operands (base ∷ index ∷ [])
references_of_expression (AccessIndex base index) = operands (base ∷ [])
references_of_expression (Splat size value) = operands (value ∷ [])
references_of_expression (Swizzle size vector pattern) = operands (vector ∷ [])
references_of_expression (FunctionArgument index) = []
references_of_expression (GlobalVariable variable) = reference.GlobalVariable variable ∷ []
references_of_expression (LocalVariable variable) = reference.LocalVariable variable ∷ []
references_of_expression (Load pointer) = operands (pointer ∷ [])
references_of_expression (ImageSample image sampler gather coordinate array_index offset level depth_ref clamp_to_edge) = present (Some image ∷ Some sampler ∷ Some coordinate ∷ array_index ∷ offset ∷ first_of_sample_level level ∷ second_of_sample_level level ∷ depth_ref ∷ [])
references_of_expression (ImageLoad image coordinate array_index sample level) = present (Some image ∷ Some coordinate ∷ array_index ∷ sample ∷ level ∷ [])
references_of_expression (ImageQuery image query) = present (Some image ∷ operand_of_image_query query ∷ [])
references_of_expression (Unary op expr) = operands (expr ∷ [])
references_of_expression (Binary op left right) = operands (left ∷ right ∷ [])
references_of_expression (Select condition accept reject) = operands (condition ∷ accept ∷ reject ∷ [])
references_of_expression (Derivative axis ctrl expr) = operands (expr ∷ [])
references_of_expression (Relational fun argument) = operands (argument ∷ [])
references_of_expression (Math fun arg arg1 arg2 arg3) = present (Some arg ∷ arg1 ∷ arg2 ∷ arg3 ∷ [])
references_of_expression (As expr kind convert) = operands (expr ∷ [])
references_of_expression (CallResult function) = reference.Function function ∷ []
references_of_expression (AtomicResult ty comparison) = reference.«Type» ty ∷ []
references_of_expression (WorkGroupUniformLoadResult ty) = reference.«Type» ty ∷ []
references_of_expression (ArrayLength array) = operands (array ∷ [])
references_of_expression (RayQueryVertexPositions query committed) = operands (query ∷ [])
references_of_expression RayQueryProceedResult = []
references_of_expression (RayQueryGetIntersection query committed) = operands (query ∷ [])
references_of_expression SubgroupBallotResult = []
references_of_expression (SubgroupOperationResult ty) = reference.«Type» ty ∷ []
references_of_expression (CooperativeLoad columns rows role data') = operands (data'.pointer ∷ data'.stride ∷ [])
references_of_expression (CooperativeMultiplyAdd a b c) = operands (a ∷ b ∷ c ∷ [])
