-- Made by tests/derive from the declarations of naga_kinds and naga_ir.
-- The texts of expressions, statements and their parts contain only characters that show themselves.
use Rattle.std.proofs.Common.{refl}
use Rattle.naga_text.specs.Readable.{IsPlain}
use Rattle.naga_text.proofs.ReadableOperandsLemmas.{literal_text-plain}
use Rattle.naga_text.proofs.ReadablePartsLemmas.{access_text-plain, barrier_text-plain, loop_words-plain, pattern_text-plain}
use Rattle.naga_text.proofs.ReadableWordsLemmas.{flag-plain, number-plain, optional_name-plain, optional_number-plain, word-plain}
use Rattle.naga_text.proofs.SpellsLemmas.{Spells-after, Spells-append, Spells-ascii}
use Rattle.naga_text.proofs.derived_lemmas.ReadableNamesLemmas.{binary_operator_name-plain, collective_operation_name-plain, cooperative_role_name-plain, cooperative_size_name-plain, derivative_axis_name-plain, derivative_control_name-plain, direction_name-plain, math_function_name-plain, relational_function_name-plain, scalar_kind_name-plain, storage_format_name-plain, subgroup_operation_name-plain, swizzle_component_name-plain, unary_operator_name-plain, vector_size_name-plain}
use Rattle.std.specs.Prelude.{codes, is_some}
use Rattle.naga_kinds.specs.derived.Names.{swizzle_component_name}
use Rattle.naga_text.specs.derived.AddressSpace.{address_space_text}
use Rattle.naga_text.specs.derived.Builtin.{built_in_text}
use Rattle.naga_text.specs.derived.Image.{image_class_text}
use Rattle.naga_text.specs.derived.Expression.{atomic_function_text, gather_mode_text, image_query_text, kind_text, sample_level_text}
use Rattle.naga_text.specs.derived.Statement.{action_text, ray_query_function_text}
use Rattle.naga_kinds.specs.declared.address_space.AddressSpace.{AddressSpace}
use Rattle.naga_kinds.specs.declared.address_space.AddressSpace.TheVariants as address_space
use Rattle.naga_kinds.specs.declared.builtin.BuiltIn.{BuiltIn}
use Rattle.naga_kinds.specs.declared.builtin.BuiltIn.TheVariants as built_in
use Rattle.naga_kinds.specs.declared.image.ImageClass.{ImageClass}
use Rattle.naga_kinds.specs.declared.image.ImageClass.TheVariants as image_class
use Rattle.naga_ir.specs.declared.expression.AtomicFunction.{AtomicFunction}
use Rattle.naga_ir.specs.declared.expression.AtomicFunction.TheVariants as atomic_function
use Rattle.naga_ir.specs.declared.expression.SampleLevel.{SampleLevel}
use Rattle.naga_ir.specs.declared.expression.SampleLevel.TheVariants as sample_level
use Rattle.naga_ir.specs.declared.expression.ImageQuery.{ImageQuery}
use Rattle.naga_ir.specs.declared.expression.ImageQuery.TheVariants as image_query
use Rattle.naga_ir.specs.declared.expression.GatherMode.{GatherMode}
use Rattle.naga_ir.specs.declared.expression.GatherMode.TheVariants as gather_mode
use Rattle.naga_ir.specs.declared.expression.Expression.{Expression}
use Rattle.naga_ir.specs.declared.expression.Expression.TheVariants as expression
use Rattle.naga_ir.specs.declared.statement.RayQueryFunction.{RayQueryFunction}
use Rattle.naga_ir.specs.declared.statement.RayQueryFunction.TheVariants as ray_query_function
use Rattle.naga_ir.specs.declared.statement.Statement.{Statement}
use Rattle.naga_ir.specs.declared.statement.Statement as statement

pub address_space_text-plain : (value : AddressSpace) → IsPlain (address_space_text value)
address_space_text-plain (address_space.Storage access) =
    Spells-after (codes " Storage") refl (access_text-plain access)
address_space_text-plain value = Spells-ascii (address_space_text value) refl

pub built_in_text-plain : (value : BuiltIn) → IsPlain (built_in_text value)
built_in_text-plain (built_in.Position invariant) =
    Spells-after (codes " Position") refl (flag-plain invariant (Spells-ascii (codes "invariant") refl))
built_in_text-plain (built_in.Barycentric perspective) =
    Spells-after (codes " Barycentric") refl (flag-plain perspective (Spells-ascii (codes "perspective") refl))
built_in_text-plain value = Spells-ascii (built_in_text value) refl

pub image_class_text-plain : (value : ImageClass) → IsPlain (image_class_text value)
image_class_text-plain (image_class.Sampled kind multi) =
    Spells-after (codes " Sampled") refl
    (Spells-append (word-plain (scalar_kind_name-plain kind)) (flag-plain multi (Spells-ascii (codes "multi") refl)))
image_class_text-plain (image_class.Depth multi) =
    Spells-after (codes " Depth") refl (flag-plain multi (Spells-ascii (codes "multi") refl))
image_class_text-plain (image_class.Storage format access) =
    Spells-after (codes " Storage") refl
    (Spells-append (word-plain (storage_format_name-plain format)) (access_text-plain access))
image_class_text-plain value = Spells-ascii (image_class_text value) refl

pub atomic_function_text-plain : (value : AtomicFunction) → IsPlain (atomic_function_text value)
atomic_function_text-plain atomic_function.Add = Spells-ascii (codes " Add") refl
atomic_function_text-plain value = Spells-ascii (atomic_function_text value) refl

pub sample_level_text-plain : (value : SampleLevel) → IsPlain (sample_level_text value)
sample_level_text-plain sample_level.Auto = Spells-ascii (codes " Auto") refl
sample_level_text-plain value = Spells-ascii (sample_level_text value) refl

pub image_query_text-plain : (value : ImageQuery) → IsPlain (image_query_text value)
image_query_text-plain (image_query.Size level) = Spells-ascii (codes " Size") refl
image_query_text-plain value = Spells-ascii (image_query_text value) refl

pub gather_mode_text-plain : (value : GatherMode) → IsPlain (gather_mode_text value)
gather_mode_text-plain (gather_mode.QuadSwap direction) =
    Spells-after (codes " QuadSwap") refl (word-plain (direction_name-plain direction))
gather_mode_text-plain value = Spells-ascii (gather_mode_text value) refl

pub kind_text-plain : (value : Expression) → IsPlain (kind_text value)
kind_text-plain (expression.Literal literal) =
    Spells-after (codes "Literal") refl (word-plain (literal_text-plain literal))
kind_text-plain (expression.AccessIndex base index) = Spells-after (codes "AccessIndex") refl (number-plain index)
kind_text-plain (expression.Splat size value) =
    Spells-after (codes "Splat") refl (word-plain (vector_size_name-plain size))
kind_text-plain (expression.Swizzle size vector pattern) =
    Spells-after (codes "Swizzle") refl
    (Spells-append (word-plain (vector_size_name-plain size)) (word-plain (pattern_text-plain pattern)))
kind_text-plain (expression.FunctionArgument value) = Spells-after (codes "FunctionArgument") refl (number-plain value)
kind_text-plain (expression.ImageSample image sampler gather coordinate array_index offset level depth_ref clamp_to_edge) =
    Spells-after (codes "ImageSample") refl
    (Spells-append (optional_name-plain (Spells-ascii (codes "gather") refl) swizzle_component_name swizzle_component_name-plain gather)
    (Spells-append (flag-plain (is_some array_index) (Spells-ascii (codes "array_index") refl))
    (Spells-append (flag-plain (is_some offset) (Spells-ascii (codes "offset") refl))
    (Spells-append (sample_level_text-plain level)
    (Spells-append (flag-plain (is_some depth_ref) (Spells-ascii (codes "depth_ref") refl)) (flag-plain clamp_to_edge (Spells-ascii (codes "clamp_to_edge") refl)))))))
kind_text-plain (expression.ImageLoad image coordinate array_index sample level) =
    Spells-after (codes "ImageLoad") refl
    (Spells-append (flag-plain (is_some array_index) (Spells-ascii (codes "array_index") refl))
    (Spells-append (flag-plain (is_some sample) (Spells-ascii (codes "sample") refl)) (flag-plain (is_some level) (Spells-ascii (codes "level") refl))))
kind_text-plain (expression.ImageQuery image query) =
    Spells-after (codes "ImageQuery") refl (image_query_text-plain query)
kind_text-plain (expression.Unary op expr) =
    Spells-after (codes "Unary") refl (word-plain (unary_operator_name-plain op))
kind_text-plain (expression.Binary op left right) =
    Spells-after (codes "Binary") refl (word-plain (binary_operator_name-plain op))
kind_text-plain (expression.Derivative axis ctrl expr) =
    Spells-after (codes "Derivative") refl
    (Spells-append (word-plain (derivative_axis_name-plain axis)) (word-plain (derivative_control_name-plain ctrl)))
kind_text-plain (expression.Relational fun argument) =
    Spells-after (codes "Relational") refl (word-plain (relational_function_name-plain fun))
kind_text-plain (expression.Math fun arg arg1 arg2 arg3) =
    Spells-after (codes "Math") refl (word-plain (math_function_name-plain fun))
kind_text-plain (expression.As expr kind convert) =
    Spells-after (codes "As") refl
    (Spells-append (word-plain (scalar_kind_name-plain kind)) (optional_number-plain convert))
kind_text-plain (expression.AtomicResult ty comparison) =
    Spells-after (codes "AtomicResult") refl (flag-plain comparison (Spells-ascii (codes "comparison") refl))
kind_text-plain (expression.RayQueryVertexPositions query committed) =
    Spells-after (codes "RayQueryVertexPositions") refl (flag-plain committed (Spells-ascii (codes "committed") refl))
kind_text-plain (expression.RayQueryGetIntersection query committed) =
    Spells-after (codes "RayQueryGetIntersection") refl (flag-plain committed (Spells-ascii (codes "committed") refl))
kind_text-plain (expression.CooperativeLoad columns rows role data') =
    Spells-after (codes "CooperativeLoad") refl
    (Spells-append (word-plain (cooperative_size_name-plain columns))
    (Spells-append (word-plain (cooperative_size_name-plain rows))
    (Spells-append (word-plain (cooperative_role_name-plain role)) (flag-plain data'.row_major (Spells-ascii (codes "row_major") refl)))))
kind_text-plain value = Spells-ascii (kind_text value) refl

pub ray_query_function_text-plain : (value : RayQueryFunction) → IsPlain (ray_query_function_text value)
ray_query_function_text-plain (ray_query_function.Initialize acceleration_structure descriptor) =
    Spells-ascii (codes " Initialize") refl
ray_query_function_text-plain value = Spells-ascii (ray_query_function_text value) refl

pub action_text-plain : (value : Statement) → IsPlain (action_text value)
action_text-plain (statement.Loop' shape body shape' continuing break_if) = loop_words-plain break_if
action_text-plain (statement.ControlBarrier barrier) =
    Spells-after (codes "control_barrier") refl (barrier_text-plain barrier)
action_text-plain (statement.MemoryBarrier barrier) =
    Spells-after (codes "memory_barrier") refl (barrier_text-plain barrier)
action_text-plain (statement.Atomic pointer fun value result) =
    Spells-after (codes "atomic") refl (atomic_function_text-plain fun)
action_text-plain (statement.ImageAtomic image coordinate array_index fun value) =
    Spells-after (codes "image_atomic") refl (atomic_function_text-plain fun)
action_text-plain (statement.RayQuery query fun) =
    Spells-after (codes "ray_query") refl (ray_query_function_text-plain fun)
action_text-plain (statement.SubgroupGather mode argument result) =
    Spells-after (codes "subgroup_gather") refl (gather_mode_text-plain mode)
action_text-plain (statement.SubgroupCollectiveOperation op collective_op argument result) =
    Spells-after (codes "subgroup_collective") refl
    (Spells-append (word-plain (subgroup_operation_name-plain op)) (word-plain (collective_operation_name-plain collective_op)))
action_text-plain (statement.CooperativeStore target data') =
    Spells-after (codes "cooperative_store") refl (flag-plain data'.row_major (Spells-ascii (codes "row_major") refl))
action_text-plain value = Spells-ascii (action_text value) refl
