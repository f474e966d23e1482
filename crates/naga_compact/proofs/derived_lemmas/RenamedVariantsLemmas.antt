-- Made by tests/derive from the declarations of naga_kinds and naga_ir.
-- The handles of a renamed expression or statement are its handles, renamed.
use Rattle.std.specs.Prelude.{[], map, option_map, option_to_list, Some, ◌∷◌}
use Rattle.naga_ir.specs.declared.expression.SampleLevel.{SampleLevel}
use Rattle.naga_ir.specs.declared.expression.SampleLevel.TheVariants as sample_level
use Rattle.naga_ir.specs.declared.expression.ImageQuery.{ImageQuery}
use Rattle.naga_ir.specs.declared.expression.ImageQuery.TheVariants as image_query
use Rattle.naga_ir.specs.declared.expression.Expression.{Expression}
use Rattle.naga_ir.specs.declared.expression.Expression.TheVariants as expression
use Rattle.naga_ir.specs.declared.expression.AtomicFunction.{AtomicFunction}
use Rattle.naga_ir.specs.declared.expression.AtomicFunction.TheVariants as atomic_function
use Rattle.naga_ir.specs.declared.statement.RayQueryFunction.{RayQueryFunction}
use Rattle.naga_ir.specs.declared.statement.RayQueryFunction.TheVariants as ray_query_function
use Rattle.naga_ir.specs.declared.statement.RayPipelineFunction.{RayPipelineFunction}
use Rattle.naga_ir.specs.declared.statement.RayPipelineFunction.TheVariants as ray_pipeline_function
use Rattle.naga_ir.specs.declared.expression.GatherMode.{GatherMode}
use Rattle.naga_ir.specs.declared.expression.GatherMode.TheVariants as gather_mode
use Rattle.naga_ir.specs.declared.statement.Statement.{Statement}
use Rattle.naga_ir.specs.declared.statement.Statement as statement
use Rattle.std.proofs.Common.{ap, refl, ◌∙◌, ◌≡◌}
use Rattle.naga_valid.specs.Reference.{operands, present}
use Rattle.naga_valid.specs.declared.reference.Reference.TheVariants as reference
use Rattle.naga_compact.specs.Renaming.{rename_reference, Renaming}
use Rattle.naga_compact.specs.derived.Renaming.{rename_atomic_function, rename_expression, rename_gather_mode, rename_image_query, rename_ray_pipeline_function, rename_ray_query_function, rename_sample_level, rename_statement}
use Rattle.naga_compact.proofs.MappedListLemmas.{items-mapped}
use Rattle.naga_compact.proofs.RenamedReferencesLemmas.{appended, operands-renamed, optional-renamed, present-renamed}
use Rattle.naga_valid.specs.Expressions.{first_of_sample_level, operand_of_image_query, references_of_expression, second_of_sample_level}
use Rattle.naga_valid.specs.Statements.{operand_of_atomic_function, operand_of_gather_mode, operands_of_ray_pipeline_function, operands_of_ray_query_function, references_of_statement}

first_of_sample_level-renamed : (r : Renaming) (sample_level : SampleLevel)
    → first_of_sample_level (rename_sample_level r sample_level) ≡ option_map r.expressions (first_of_sample_level sample_level)
first_of_sample_level-renamed r sample_level.Auto = refl
first_of_sample_level-renamed r sample_level.Zero = refl
first_of_sample_level-renamed r (sample_level.Exact expression) = refl
first_of_sample_level-renamed r (sample_level.Bias expression) = refl
first_of_sample_level-renamed r (sample_level.Gradient x y) = refl

second_of_sample_level-renamed : (r : Renaming) (sample_level : SampleLevel)
    → second_of_sample_level (rename_sample_level r sample_level) ≡ option_map r.expressions (second_of_sample_level sample_level)
second_of_sample_level-renamed r sample_level.Auto = refl
second_of_sample_level-renamed r sample_level.Zero = refl
second_of_sample_level-renamed r (sample_level.Exact expression) = refl
second_of_sample_level-renamed r (sample_level.Bias expression) = refl
second_of_sample_level-renamed r (sample_level.Gradient x y) = refl

operand_of_image_query-renamed : (r : Renaming) (image_query : ImageQuery)
    → operand_of_image_query (rename_image_query r image_query) ≡ option_map r.expressions (operand_of_image_query image_query)
operand_of_image_query-renamed r (image_query.Size level) = refl
operand_of_image_query-renamed r image_query.NumLevels = refl
operand_of_image_query-renamed r image_query.NumLayers = refl
operand_of_image_query-renamed r image_query.NumSamples = refl

pub references_of_expression-renamed : (r : Renaming) (expression : Expression)
    → references_of_expression (rename_expression r expression) ≡ map (rename_reference r) (references_of_expression expression)
references_of_expression-renamed r (expression.Literal literal) = refl
references_of_expression-renamed r (expression.Constant constant) = refl
references_of_expression-renamed r (expression.Override override) = refl
references_of_expression-renamed r (expression.ZeroValue ty) = refl
references_of_expression-renamed r (expression.Compose ty components) =
    ap (λ rest. reference.«Type» (r.types ty) ∷ rest)
    (ap operands (items-mapped r.expressions components) ∙ operands-renamed r components.items)
references_of_expression-renamed r (expression.Access base index) = refl
references_of_expression-renamed r (expression.AccessIndex base index) = refl
references_of_expression-renamed r (expression.Splat size value) = refl
references_of_expression-renamed r (expression.Swizzle size vector pattern) = refl
references_of_expression-renamed r (expression.FunctionArgument value) = refl
references_of_expression-renamed r (expression.GlobalVariable global_variable) = refl
references_of_expression-renamed r (expression.LocalVariable local_variable) = refl
references_of_expression-renamed r (expression.Load pointer) = refl
references_of_expression-renamed r (expression.ImageSample image sampler gather coordinate array_index offset level depth_ref clamp_to_edge) =
    (λ i. present (Some (r.expressions image) ∷ Some (r.expressions sampler) ∷ Some (r.expressions coordinate) ∷ option_map r.expressions array_index ∷ option_map r.expressions offset ∷ first_of_sample_level-renamed r level i ∷ second_of_sample_level-renamed r level i ∷ option_map r.expressions depth_ref ∷ []))
    ∙ present-renamed r (Some image ∷ Some sampler ∷ Some coordinate ∷ array_index ∷ offset ∷ first_of_sample_level level ∷ second_of_sample_level level ∷ depth_ref ∷ [])
references_of_expression-renamed r (expression.ImageLoad image coordinate array_index sample level) =
    present-renamed r (Some image ∷ Some coordinate ∷ array_index ∷ sample ∷ level ∷ [])
references_of_expression-renamed r (expression.ImageQuery image query) =
    (λ i. present (Some (r.expressions image) ∷ operand_of_image_query-renamed r query i ∷ []))
    ∙ present-renamed r (Some image ∷ operand_of_image_query query ∷ [])
references_of_expression-renamed r (expression.Unary op expr) = refl
references_of_expression-renamed r (expression.Binary op left right) = refl
references_of_expression-renamed r (expression.Select condition accept reject) = refl
references_of_expression-renamed r (expression.Derivative axis ctrl expr) = refl
references_of_expression-renamed r (expression.Relational fun argument) = refl
references_of_expression-renamed r (expression.Math fun arg arg1 arg2 arg3) =
    present-renamed r (Some arg ∷ arg1 ∷ arg2 ∷ arg3 ∷ [])
references_of_expression-renamed r (expression.As expr kind convert) = refl
references_of_expression-renamed r (expression.CallResult function) = refl
references_of_expression-renamed r (expression.AtomicResult ty comparison) = refl
references_of_expression-renamed r (expression.WorkGroupUniformLoadResult ty) = refl
references_of_expression-renamed r (expression.ArrayLength value) = refl
references_of_expression-renamed r (expression.RayQueryVertexPositions query committed) = refl
references_of_expression-renamed r expression.RayQueryProceedResult = refl
references_of_expression-renamed r (expression.RayQueryGetIntersection query committed) = refl
references_of_expression-renamed r expression.SubgroupBallotResult = refl
references_of_expression-renamed r (expression.SubgroupOperationResult ty) = refl
references_of_expression-renamed r (expression.CooperativeLoad columns rows role data') = refl
references_of_expression-renamed r (expression.CooperativeMultiplyAdd a b c) = refl

operand_of_atomic_function-renamed : (r : Renaming) (atomic_function : AtomicFunction)
    → operand_of_atomic_function (rename_atomic_function r atomic_function) ≡ option_map r.expressions (operand_of_atomic_function atomic_function)
operand_of_atomic_function-renamed r atomic_function.Add = refl
operand_of_atomic_function-renamed r atomic_function.Subtract = refl
operand_of_atomic_function-renamed r atomic_function.And = refl
operand_of_atomic_function-renamed r atomic_function.ExclusiveOr = refl
operand_of_atomic_function-renamed r atomic_function.InclusiveOr = refl
operand_of_atomic_function-renamed r atomic_function.Min = refl
operand_of_atomic_function-renamed r atomic_function.Max = refl
operand_of_atomic_function-renamed r (atomic_function.Exchange compare) = refl

operands_of_ray_query_function-renamed : (r : Renaming) (ray_query_function : RayQueryFunction)
    → operands_of_ray_query_function (rename_ray_query_function r ray_query_function) ≡ map r.expressions (operands_of_ray_query_function ray_query_function)
operands_of_ray_query_function-renamed r (ray_query_function.Initialize acceleration_structure descriptor) = refl
operands_of_ray_query_function-renamed r (ray_query_function.Proceed result) = refl
operands_of_ray_query_function-renamed r (ray_query_function.GenerateIntersection hit_t) = refl
operands_of_ray_query_function-renamed r ray_query_function.ConfirmIntersection = refl
operands_of_ray_query_function-renamed r ray_query_function.Terminate = refl

operands_of_ray_pipeline_function-renamed : (r : Renaming) (ray_pipeline_function : RayPipelineFunction)
    → operands_of_ray_pipeline_function (rename_ray_pipeline_function r ray_pipeline_function) ≡ map r.expressions (operands_of_ray_pipeline_function ray_pipeline_function)
operands_of_ray_pipeline_function-renamed r (ray_pipeline_function.TraceRay acceleration_structure descriptor payload) = refl

operand_of_gather_mode-renamed : (r : Renaming) (gather_mode : GatherMode)
    → operand_of_gather_mode (rename_gather_mode r gather_mode) ≡ option_map r.expressions (operand_of_gather_mode gather_mode)
operand_of_gather_mode-renamed r gather_mode.BroadcastFirst = refl
operand_of_gather_mode-renamed r (gather_mode.Broadcast expression) = refl
operand_of_gather_mode-renamed r (gather_mode.Shuffle expression) = refl
operand_of_gather_mode-renamed r (gather_mode.ShuffleDown expression) = refl
operand_of_gather_mode-renamed r (gather_mode.ShuffleUp expression) = refl
operand_of_gather_mode-renamed r (gather_mode.ShuffleXor expression) = refl
operand_of_gather_mode-renamed r (gather_mode.QuadBroadcast expression) = refl
operand_of_gather_mode-renamed r (gather_mode.QuadSwap direction) = refl

pub references_of_statement-renamed : (r : Renaming) (statement : Statement)
    → references_of_statement (rename_statement r statement) ≡ map (rename_reference r) (references_of_statement statement)
references_of_statement-renamed r (statement.Emit range) = refl
references_of_statement-renamed r (statement.Block' shape value) = refl
references_of_statement-renamed r (statement.If' condition shape accept shape' reject) = refl
references_of_statement-renamed r (statement.Switch' selector shape cases) = refl
references_of_statement-renamed r (statement.Loop' shape body shape' continuing break_if) =
    present-renamed r (break_if ∷ [])
references_of_statement-renamed r statement.Break = refl
references_of_statement-renamed r statement.Continue = refl
references_of_statement-renamed r (statement.Return value) =
    present-renamed r (value ∷ [])
references_of_statement-renamed r statement.Kill = refl
references_of_statement-renamed r (statement.ControlBarrier barrier) = refl
references_of_statement-renamed r (statement.MemoryBarrier barrier) = refl
references_of_statement-renamed r (statement.Store pointer value) = refl
references_of_statement-renamed r (statement.ImageStore image coordinate array_index value) =
    present-renamed r (Some image ∷ Some coordinate ∷ array_index ∷ Some value ∷ [])
references_of_statement-renamed r (statement.Atomic pointer fun value result) =
    (λ i. present (Some (r.expressions pointer) ∷ operand_of_atomic_function-renamed r fun i ∷ Some (r.expressions value) ∷ option_map r.expressions result ∷ []))
    ∙ present-renamed r (Some pointer ∷ operand_of_atomic_function fun ∷ Some value ∷ result ∷ [])
references_of_statement-renamed r (statement.ImageAtomic image coordinate array_index fun value) =
    (λ i. present (Some (r.expressions image) ∷ Some (r.expressions coordinate) ∷ option_map r.expressions array_index ∷ operand_of_atomic_function-renamed r fun i ∷ Some (r.expressions value) ∷ []))
    ∙ present-renamed r (Some image ∷ Some coordinate ∷ array_index ∷ operand_of_atomic_function fun ∷ Some value ∷ [])
references_of_statement-renamed r (statement.WorkGroupUniformLoad pointer result) = refl
references_of_statement-renamed r (statement.Call function arguments result) =
    ap (λ rest. reference.Function (r.functions function) ∷ rest)
    (appended (rename_reference r) (operands arguments.items) (option_to_list (option_map reference.Expression result))
    (ap operands (items-mapped r.expressions arguments) ∙ operands-renamed r arguments.items)
    (optional-renamed r reference.Expression r.expressions (λ h. refl) result))
references_of_statement-renamed r (statement.RayQuery query fun) =
    (λ i. operands (r.expressions query ∷ operands_of_ray_query_function-renamed r fun i))
    ∙ operands-renamed r (query ∷ operands_of_ray_query_function fun)
references_of_statement-renamed r (statement.RayPipelineFunction ray_pipeline_function) =
    (λ i. operands (operands_of_ray_pipeline_function-renamed r ray_pipeline_function i))
    ∙ operands-renamed r (operands_of_ray_pipeline_function ray_pipeline_function)
references_of_statement-renamed r (statement.SubgroupBallot result predicate) =
    present-renamed r (Some result ∷ predicate ∷ [])
references_of_statement-renamed r (statement.SubgroupGather mode argument result) =
    (λ i. present (operand_of_gather_mode-renamed r mode i ∷ Some (r.expressions argument) ∷ Some (r.expressions result) ∷ []))
    ∙ present-renamed r (operand_of_gather_mode mode ∷ Some argument ∷ Some result ∷ [])
references_of_statement-renamed r (statement.SubgroupCollectiveOperation op collective_op argument result) = refl
references_of_statement-renamed r (statement.CooperativeStore target data') = refl
