-- Made by tests/derive from the declarations of naga_kinds and naga_ir.
-- The texts of the enums of `expression`.
use Rattle.std.specs.Prelude.{codes, is_some, List, ℕ, ◌++◌}
use Rattle.std.specs.Option.{option_map}
use Rattle.naga_text.specs.Literals.{literal_text}
use Rattle.naga_text.specs.Parts.{pattern_text}
use Rattle.naga_text.specs.Words.{flag, number, optional_name, optional_number, word}
use Rattle.naga_kinds.specs.derived.Names.{binary_operator_name, cooperative_role_name, cooperative_size_name, derivative_axis_name, derivative_control_name, direction_name, math_function_name, relational_function_name, scalar_kind_name, swizzle_component_name, unary_operator_name, vector_size_name}
use Rattle.naga_ir.specs.declared.expression.AtomicFunction.{AtomicFunction}
use Rattle.naga_ir.specs.declared.expression.AtomicFunction.TheVariants as atomic_function
use Rattle.naga_ir.specs.declared.expression.SampleLevel.{SampleLevel}
use Rattle.naga_ir.specs.declared.expression.SampleLevel.TheVariants as sample_level
use Rattle.naga_ir.specs.declared.expression.ImageQuery.{ImageQuery}
use Rattle.naga_ir.specs.declared.expression.ImageQuery.TheVariants as image_query
use Rattle.naga_ir.specs.declared.expression.GatherMode.{GatherMode}
use Rattle.naga_ir.specs.declared.expression.GatherMode.TheVariants as gather_mode
use Rattle.naga_ir.specs.declared.expression.Expression.{Expression}
use Rattle.naga_ir.specs.declared.expression.Expression.TheVariants as expression

-- an `AtomicFunction`, with a space before it
abbrev pub atomic_function_text : AtomicFunction → List ℕ
atomic_function_text atomic_function.Add = codes " Add"
atomic_function_text atomic_function.Subtract = codes " Subtract"
atomic_function_text atomic_function.And = codes " And"
atomic_function_text atomic_function.ExclusiveOr = codes " ExclusiveOr"
atomic_function_text atomic_function.InclusiveOr = codes " InclusiveOr"
atomic_function_text atomic_function.Min = codes " Min"
atomic_function_text atomic_function.Max = codes " Max"
atomic_function_text (atomic_function.Exchange compare) = codes " Exchange"

-- a `SampleLevel`, with a space before it
abbrev pub sample_level_text : SampleLevel → List ℕ
sample_level_text sample_level.Auto = codes " Auto"
sample_level_text sample_level.Zero = codes " Zero"
sample_level_text (sample_level.Exact expression) = codes " Exact"
sample_level_text (sample_level.Bias expression) = codes " Bias"
sample_level_text (sample_level.Gradient x y) = codes " Gradient"

-- an `ImageQuery`, with a space before it
abbrev pub image_query_text : ImageQuery → List ℕ
image_query_text (image_query.Size level) = codes " Size"
image_query_text image_query.NumLevels = codes " NumLevels"
image_query_text image_query.NumLayers = codes " NumLayers"
image_query_text image_query.NumSamples = codes " NumSamples"

-- a `GatherMode`, with a space before it
abbrev pub gather_mode_text : GatherMode → List ℕ
gather_mode_text gather_mode.BroadcastFirst = codes " BroadcastFirst"
gather_mode_text (gather_mode.Broadcast expression) = codes " Broadcast"
gather_mode_text (gather_mode.Shuffle expression) = codes " Shuffle"
gather_mode_text (gather_mode.ShuffleDown expression) = codes " ShuffleDown"
gather_mode_text (gather_mode.ShuffleUp expression) = codes " ShuffleUp"
gather_mode_text (gather_mode.ShuffleXor expression) = codes " ShuffleXor"
gather_mode_text (gather_mode.QuadBroadcast expression) = codes " QuadBroadcast"
gather_mode_text (gather_mode.QuadSwap direction) = codes " QuadSwap" ++ word (direction_name direction)

-- the name of a variant, its fields that are not handles, and the names of the optional handles that are present
abbrev pub kind_text : Expression → List ℕ
kind_text (expression.Literal literal) = codes "Literal" ++ word (literal_text literal)
kind_text (expression.Constant constant) = codes "Constant"
kind_text (expression.Override override) = codes "Override"
kind_text (expression.ZeroValue ty) = codes "ZeroValue"
kind_text (expression.Compose ty components) = codes "Compose"
kind_text (expression.Access base index) = codes "Access"
kind_text (expression.AccessIndex base index) = codes "AccessIndex" ++ number index
kind_text (expression.Splat size value) = codes "Splat" ++ word (vector_size_name size)
kind_text (expression.Swizzle size vector pattern) =
    codes "Swizzle" ++ (word (vector_size_name size) ++ word (pattern_text pattern))
kind_text (expression.FunctionArgument value) = codes "FunctionArgument" ++ number value
kind_text (expression.GlobalVariable global_variable) = codes "GlobalVariable"
kind_text (expression.LocalVariable local_variable) = codes "LocalVariable"
kind_text (expression.Load pointer) = codes "Load"
kind_text (expression.ImageSample image sampler gather coordinate array_index offset level depth_ref clamp_to_edge) =
    codes "ImageSample" ++ (optional_name (codes "gather") (option_map swizzle_component_name gather)
    ++ (flag (is_some array_index) (codes "array_index") ++ (flag (is_some offset) (codes "offset")
    ++ (sample_level_text level ++ (flag (is_some depth_ref) (codes "depth_ref")
    ++ flag clamp_to_edge (codes "clamp_to_edge"))))))
kind_text (expression.ImageLoad image coordinate array_index sample level) =
    codes "ImageLoad" ++ (flag (is_some array_index) (codes "array_index") ++ (flag (is_some sample) (codes "sample")
    ++ flag (is_some level) (codes "level")))
kind_text (expression.ImageQuery image query) = codes "ImageQuery" ++ image_query_text query
kind_text (expression.Unary op expr) = codes "Unary" ++ word (unary_operator_name op)
kind_text (expression.Binary op left right) = codes "Binary" ++ word (binary_operator_name op)
kind_text (expression.Select condition accept reject) = codes "Select"
kind_text (expression.Derivative axis ctrl expr) =
    codes "Derivative" ++ (word (derivative_axis_name axis) ++ word (derivative_control_name ctrl))
kind_text (expression.Relational fun argument) = codes "Relational" ++ word (relational_function_name fun)
kind_text (expression.Math fun arg arg1 arg2 arg3) = codes "Math" ++ word (math_function_name fun)
kind_text (expression.As expr kind convert) = codes "As" ++ (word (scalar_kind_name kind) ++ optional_number convert)
kind_text (expression.CallResult function) = codes "CallResult"
kind_text (expression.AtomicResult ty comparison) = codes "AtomicResult" ++ flag comparison (codes "comparison")
kind_text (expression.WorkGroupUniformLoadResult ty) = codes "WorkGroupUniformLoadResult"
kind_text (expression.ArrayLength value) = codes "ArrayLength"
kind_text (expression.RayQueryVertexPositions query committed) =
    codes "RayQueryVertexPositions" ++ flag committed (codes "committed")
kind_text expression.RayQueryProceedResult = codes "RayQueryProceedResult"
kind_text (expression.RayQueryGetIntersection query committed) =
    codes "RayQueryGetIntersection" ++ flag committed (codes "committed")
kind_text expression.SubgroupBallotResult = codes "SubgroupBallotResult"
kind_text (expression.SubgroupOperationResult ty) = codes "SubgroupOperationResult"
kind_text (expression.CooperativeLoad columns rows role data') =
    codes "CooperativeLoad" ++ (word (cooperative_size_name columns) ++ (word (cooperative_size_name rows)
    ++ (word (cooperative_role_name role) ++ flag data'.row_major (codes "row_major"))))
kind_text (expression.CooperativeMultiplyAdd a b c) = codes "CooperativeMultiplyAdd"
