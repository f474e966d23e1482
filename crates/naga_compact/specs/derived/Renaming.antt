-- Made by tests/derive from the declarations of naga_kinds and naga_ir.
-- The handles that expressions, statements and types contain, renamed.
use Rattle.std.specs.Prelude.{map, option_map}
use Rattle.std.specs.Vec.{with_items}
use Rattle.naga_ir.specs.declared.expression.SampleLevel.{SampleLevel}
use Rattle.naga_ir.specs.declared.expression.SampleLevel.TheVariants as sample_level
use Rattle.naga_ir.specs.declared.expression.ImageQuery.{ImageQuery}
use Rattle.naga_ir.specs.declared.expression.ImageQuery.TheVariants as image_query
use Rattle.naga_ir.specs.declared.expression.CooperativeData.{CooperativeData}
use Rattle.naga_ir.specs.declared.expression.Expression.{Expression}
use Rattle.naga_ir.specs.declared.expression.Expression.TheVariants as expression
use Rattle.naga_ir.specs.declared.expression.AtomicFunction.{AtomicFunction}
use Rattle.naga_ir.specs.declared.expression.AtomicFunction.TheVariants as atomic_function
use Rattle.naga_ir.specs.declared.statement.RayQueryFunction.{RayQueryFunction}
use Rattle.naga_ir.specs.declared.statement.RayQueryFunction.TheVariants as ray_query_function
use Rattle.naga_ir.specs.declared.statement.RayPipelineFunction.{RayPipelineFunction}
use Rattle.naga_ir.specs.declared.statement.RayPipelineFunction.TheVariants as ray_pipeline_function
use Rattle.naga_ir.specs.declared.expression.GatherMode.{GatherMode}
use Rattle.naga_ir.specs.declared.expression.GatherMode.TheVariants as gather_mode
use Rattle.naga_ir.specs.declared.statement.Statement.{Statement}
use Rattle.naga_ir.specs.declared.statement.Statement as statement
use Rattle.naga_ir.specs.declared.types.ArraySize.{ArraySize}
use Rattle.naga_ir.specs.declared.types.ArraySize.TheVariants as array_size
use Rattle.naga_ir.specs.declared.types.StructMember.{StructMember}
use Rattle.naga_ir.specs.declared.types.TypeInner.{TypeInner}
use Rattle.naga_ir.specs.declared.types.TypeInner.TheVariants as type_inner
use Rattle.naga_ir.specs.declared.types.«Type».{«Type»}
use Rattle.naga_compact.specs.Renaming.{Renaming}

-- a `SampleLevel` with its handles renamed
abbrev pub rename_sample_level : Renaming → SampleLevel → SampleLevel
rename_sample_level r (sample_level.Exact expression) = sample_level.Exact (r.expressions expression)
rename_sample_level r (sample_level.Bias expression) = sample_level.Bias (r.expressions expression)
rename_sample_level r (sample_level.Gradient x y) = sample_level.Gradient (r.expressions x) (r.expressions y)
rename_sample_level r sample_level = sample_level

-- an `ImageQuery` with its handles renamed
abbrev pub rename_image_query : Renaming → ImageQuery → ImageQuery
rename_image_query r (image_query.Size level) = image_query.Size (option_map r.expressions level)
rename_image_query r image_query = image_query

-- a `CooperativeData` with its handles renamed
abbrev pub rename_cooperative_data : Renaming → CooperativeData → CooperativeData
rename_cooperative_data r cooperative_data = record cooperative_data {
  pointer = r.expressions cooperative_data.pointer;
  stride = r.expressions cooperative_data.stride;
}

-- an `Expression` with its handles renamed; vectors keep their capacity
abbrev pub rename_expression : Renaming → Expression → Expression
rename_expression r (expression.Constant constant) = expression.Constant (r.constants constant)
rename_expression r (expression.Override override) = expression.Override (r.overrides override)
rename_expression r (expression.ZeroValue ty) = expression.ZeroValue (r.types ty)
rename_expression r (expression.Compose ty components) =
    expression.Compose (r.types ty) (with_items components (map r.expressions components.items))
rename_expression r (expression.Access base index) = expression.Access (r.expressions base) (r.expressions index)
rename_expression r (expression.AccessIndex base index) = expression.AccessIndex (r.expressions base) index
rename_expression r (expression.Splat size value) = expression.Splat size (r.expressions value)
rename_expression r (expression.Swizzle size vector pattern) = expression.Swizzle size (r.expressions vector) pattern
rename_expression r (expression.GlobalVariable global_variable) =
    expression.GlobalVariable (r.global_variables global_variable)
rename_expression r (expression.Load pointer) = expression.Load (r.expressions pointer)
rename_expression r (expression.ImageSample image sampler gather coordinate array_index offset level depth_ref clamp_to_edge) =
    expression.ImageSample (r.expressions image) (r.expressions sampler) gather (r.expressions coordinate)
    (option_map r.expressions array_index) (option_map r.expressions offset) (rename_sample_level r level)
    (option_map r.expressions depth_ref) clamp_to_edge
rename_expression r (expression.ImageLoad image coordinate array_index sample level) =
    expression.ImageLoad (r.expressions image) (r.expressions coordinate) (option_map r.expressions array_index)
    (option_map r.expressions sample) (option_map r.expressions level)
rename_expression r (expression.ImageQuery image query) =
    expression.ImageQuery (r.expressions image) (rename_image_query r query)
rename_expression r (expression.Unary op expr) = expression.Unary op (r.expressions expr)
rename_expression r (expression.Binary op left right) = expression.Binary op (r.expressions left) (r.expressions right)
rename_expression r (expression.Select condition accept reject) =
    expression.Select (r.expressions condition) (r.expressions accept) (r.expressions reject)
rename_expression r (expression.Derivative axis ctrl expr) = expression.Derivative axis ctrl (r.expressions expr)
rename_expression r (expression.Relational fun argument) = expression.Relational fun (r.expressions argument)
rename_expression r (expression.Math fun arg arg1 arg2 arg3) =
    expression.Math fun (r.expressions arg) (option_map r.expressions arg1) (option_map r.expressions arg2)
    (option_map r.expressions arg3)
rename_expression r (expression.As expr kind convert) = expression.As (r.expressions expr) kind convert
rename_expression r (expression.CallResult function) = expression.CallResult (r.functions function)
rename_expression r (expression.AtomicResult ty comparison) = expression.AtomicResult (r.types ty) comparison
rename_expression r (expression.WorkGroupUniformLoadResult ty) = expression.WorkGroupUniformLoadResult (r.types ty)
rename_expression r (expression.ArrayLength value) = expression.ArrayLength (r.expressions value)
rename_expression r (expression.RayQueryVertexPositions query committed) =
    expression.RayQueryVertexPositions (r.expressions query) committed
rename_expression r (expression.RayQueryGetIntersection query committed) =
    expression.RayQueryGetIntersection (r.expressions query) committed
rename_expression r (expression.SubgroupOperationResult ty) = expression.SubgroupOperationResult (r.types ty)
rename_expression r (expression.CooperativeLoad columns rows role data') =
    expression.CooperativeLoad columns rows role (rename_cooperative_data r data')
rename_expression r (expression.CooperativeMultiplyAdd a b c) =
    expression.CooperativeMultiplyAdd (r.expressions a) (r.expressions b) (r.expressions c)
rename_expression r expression = expression

-- an `AtomicFunction` with its handles renamed
abbrev pub rename_atomic_function : Renaming → AtomicFunction → AtomicFunction
rename_atomic_function r (atomic_function.Exchange compare) =
    atomic_function.Exchange (option_map r.expressions compare)
rename_atomic_function r atomic_function = atomic_function

-- a `RayQueryFunction` with its handles renamed
abbrev pub rename_ray_query_function : Renaming → RayQueryFunction → RayQueryFunction
rename_ray_query_function r (ray_query_function.Initialize acceleration_structure descriptor) =
    ray_query_function.Initialize (r.expressions acceleration_structure) (r.expressions descriptor)
rename_ray_query_function r (ray_query_function.Proceed result) = ray_query_function.Proceed (r.expressions result)
rename_ray_query_function r (ray_query_function.GenerateIntersection hit_t) =
    ray_query_function.GenerateIntersection (r.expressions hit_t)
rename_ray_query_function r ray_query_function = ray_query_function

-- a `RayPipelineFunction` with its handles renamed
abbrev pub rename_ray_pipeline_function : Renaming → RayPipelineFunction → RayPipelineFunction
rename_ray_pipeline_function r (ray_pipeline_function.TraceRay acceleration_structure descriptor payload) =
    ray_pipeline_function.TraceRay (r.expressions acceleration_structure) (r.expressions descriptor)
    (r.expressions payload)

-- a `GatherMode` with its handles renamed
abbrev pub rename_gather_mode : Renaming → GatherMode → GatherMode
rename_gather_mode r (gather_mode.Broadcast expression) = gather_mode.Broadcast (r.expressions expression)
rename_gather_mode r (gather_mode.Shuffle expression) = gather_mode.Shuffle (r.expressions expression)
rename_gather_mode r (gather_mode.ShuffleDown expression) = gather_mode.ShuffleDown (r.expressions expression)
rename_gather_mode r (gather_mode.ShuffleUp expression) = gather_mode.ShuffleUp (r.expressions expression)
rename_gather_mode r (gather_mode.ShuffleXor expression) = gather_mode.ShuffleXor (r.expressions expression)
rename_gather_mode r (gather_mode.QuadBroadcast expression) = gather_mode.QuadBroadcast (r.expressions expression)
rename_gather_mode r gather_mode = gather_mode

-- a `Statement` with its handles renamed; vectors keep their capacity; the blocks in it stay as they are
abbrev pub rename_statement : Renaming → Statement → Statement
rename_statement r (statement.Emit range) = statement.Emit (r.ranges range)
rename_statement r (statement.If' condition shape accept shape' reject) =
    statement.If' (r.expressions condition) shape accept shape' reject
rename_statement r (statement.Switch' selector shape cases) = statement.Switch' (r.expressions selector) shape cases
rename_statement r (statement.Loop' shape body shape' continuing break_if) =
    statement.Loop' shape body shape' continuing (option_map r.expressions break_if)
rename_statement r (statement.Return value) = statement.Return (option_map r.expressions value)
rename_statement r (statement.Store pointer value) = statement.Store (r.expressions pointer) (r.expressions value)
rename_statement r (statement.ImageStore image coordinate array_index value) =
    statement.ImageStore (r.expressions image) (r.expressions coordinate) (option_map r.expressions array_index)
    (r.expressions value)
rename_statement r (statement.Atomic pointer fun value result) =
    statement.Atomic (r.expressions pointer) (rename_atomic_function r fun) (r.expressions value)
    (option_map r.expressions result)
rename_statement r (statement.ImageAtomic image coordinate array_index fun value) =
    statement.ImageAtomic (r.expressions image) (r.expressions coordinate) (option_map r.expressions array_index)
    (rename_atomic_function r fun) (r.expressions value)
rename_statement r (statement.WorkGroupUniformLoad pointer result) =
    statement.WorkGroupUniformLoad (r.expressions pointer) (r.expressions result)
rename_statement r (statement.Call function arguments result) =
    statement.Call (r.functions function) (with_items arguments (map r.expressions arguments.items))
    (option_map r.expressions result)
rename_statement r (statement.RayQuery query fun) =
    statement.RayQuery (r.expressions query) (rename_ray_query_function r fun)
rename_statement r (statement.RayPipelineFunction ray_pipeline_function) =
    statement.RayPipelineFunction (rename_ray_pipeline_function r ray_pipeline_function)
rename_statement r (statement.SubgroupBallot result predicate) =
    statement.SubgroupBallot (r.expressions result) (option_map r.expressions predicate)
rename_statement r (statement.SubgroupGather mode argument result) =
    statement.SubgroupGather (rename_gather_mode r mode) (r.expressions argument) (r.expressions result)
rename_statement r (statement.SubgroupCollectiveOperation op collective_op argument result) =
    statement.SubgroupCollectiveOperation op collective_op (r.expressions argument) (r.expressions result)
rename_statement r (statement.CooperativeStore target data') =
    statement.CooperativeStore (r.expressions target) (rename_cooperative_data r data')
rename_statement r statement = statement

-- an `ArraySize` with its handles renamed
abbrev pub rename_array_size : Renaming → ArraySize → ArraySize
rename_array_size r (array_size.Pending override) = array_size.Pending (r.overrides override)
rename_array_size r array_size = array_size

-- a `StructMember` with its handles renamed
abbrev pub rename_struct_member : Renaming → StructMember → StructMember
rename_struct_member r struct_member = record struct_member { ty = r.types struct_member.ty }

-- a `TypeInner` with its handles renamed; vectors keep their capacity
abbrev pub rename_type_inner : Renaming → TypeInner → TypeInner
rename_type_inner r (type_inner.Pointer base space) = type_inner.Pointer (r.types base) space
rename_type_inner r (type_inner.Array base size stride) =
    type_inner.Array (r.types base) (rename_array_size r size) stride
rename_type_inner r (type_inner.Struct members span) =
    type_inner.Struct (with_items members (map (rename_struct_member r) members.items)) span
rename_type_inner r (type_inner.BindingArray base size) =
    type_inner.BindingArray (r.types base) (rename_array_size r size)
rename_type_inner r type_inner = type_inner

-- a `Type` with its handles renamed
abbrev pub rename_type : Renaming → «Type» → «Type»
rename_type r ty = record ty { inner = rename_type_inner r ty.inner }
