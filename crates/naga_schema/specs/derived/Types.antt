-- Made by tests/derive from the declarations of naga_kinds and naga_ir.
-- What the JSON of each type consists of.
use Rattle.std.specs.Prelude.{map}
use Rattle.naga_schema.specs.declared.derived.kind.Kind.TheVariants as kind
use Rattle.naga_schema.specs.declared.leaf.Leaf.TheVariants as leaves
use Rattle.naga_schema.specs.declared.schema.Length.TheVariants as lengths
use Rattle.naga_schema.specs.declared.derived.type_name.TypeName.{TypeName}
use Rattle.naga_schema.specs.declared.derived.type_name.TypeName.TheVariants as type
use Rattle.naga_schema.specs.Shape.{Shape}
use Rattle.naga_schema.specs.Shape as shape
use Rattle.naga_schema.specs.Tables.{field_of, name_of, variant_of}
use Rattle.naga_schema.specs.declared.tables.objects.TheConstants.{EMPTY_MAP, RANGE}
use Rattle.naga_schema.specs.declared.derived.kinds.TheConstants.{ADDRESS_SPACE_NAMES, ADDRESS_SPACE_STORAGE, ADDRESS_SPACE_VARIANTS, BINDING_LOCATION, BINDING_NAMES, BINDING_VARIANTS, BUILT_IN_BARYCENTRIC, BUILT_IN_NAMES, BUILT_IN_POSITION, BUILT_IN_VARIANTS, DIAGNOSTIC_FILTER, DIAGNOSTIC_FILTER_NODE, EARLY_DEPTH_TEST_ALLOW, EARLY_DEPTH_TEST_NAMES, EARLY_DEPTH_TEST_VARIANTS, IMAGE_CLASS_DEPTH, IMAGE_CLASS_NAMES, IMAGE_CLASS_SAMPLED, IMAGE_CLASS_STORAGE, IMAGE_CLASS_VARIANTS, RESOURCE_BINDING, SCALAR, SWITCH_VALUE_NAMES, SWITCH_VALUE_VARIANTS, TRIGGERING_RULE_NAMES, TRIGGERING_RULE_VARIANTS}
use Rattle.naga_schema.specs.declared.derived.expression.TheConstants.{ATOMIC_FUNCTION_EXCHANGE, ATOMIC_FUNCTION_NAMES, ATOMIC_FUNCTION_VARIANTS, COOPERATIVE_DATA, EXPRESSION_ACCESS, EXPRESSION_ACCESS_INDEX, EXPRESSION_AS, EXPRESSION_ATOMIC_RESULT, EXPRESSION_BINARY, EXPRESSION_COMPOSE, EXPRESSION_COOPERATIVE_LOAD, EXPRESSION_COOPERATIVE_MULTIPLY_ADD, EXPRESSION_DERIVATIVE, EXPRESSION_IMAGE_LOAD, EXPRESSION_IMAGE_QUERY, EXPRESSION_IMAGE_SAMPLE, EXPRESSION_LOAD, EXPRESSION_MATH, EXPRESSION_NAMES, EXPRESSION_RAY_QUERY_GET_INTERSECTION, EXPRESSION_RAY_QUERY_VERTEX_POSITIONS, EXPRESSION_RELATIONAL, EXPRESSION_SELECT, EXPRESSION_SPLAT, EXPRESSION_SUBGROUP_OPERATION_RESULT, EXPRESSION_SWIZZLE, EXPRESSION_UNARY, EXPRESSION_VARIANTS, EXPRESSION_WORK_GROUP_UNIFORM_LOAD_RESULT, GATHER_MODE_NAMES, GATHER_MODE_VARIANTS, IMAGE_QUERY_NAMES, IMAGE_QUERY_SIZE, IMAGE_QUERY_VARIANTS, SAMPLE_LEVEL_GRADIENT, SAMPLE_LEVEL_NAMES, SAMPLE_LEVEL_VARIANTS}
use Rattle.naga_schema.specs.declared.derived.literal.TheConstants.{LITERAL_NAMES, LITERAL_VARIANTS}
use Rattle.naga_schema.specs.declared.derived.module.TheConstants.{CONSTANT, DOC_COMMENTS, ENTRY_POINT, FUNCTION, FUNCTION_ARGUMENT, FUNCTION_RESULT, GLOBAL_VARIABLE, LOCAL_VARIABLE, MESH_STAGE_INFO, MODULE, OVERRIDE, SPECIAL_TYPES}
use Rattle.naga_schema.specs.declared.derived.statement.TheConstants.{RAY_PIPELINE_FUNCTION_NAMES, RAY_PIPELINE_FUNCTION_TRACE_RAY, RAY_PIPELINE_FUNCTION_VARIANTS, RAY_QUERY_FUNCTION_GENERATE_INTERSECTION, RAY_QUERY_FUNCTION_INITIALIZE, RAY_QUERY_FUNCTION_NAMES, RAY_QUERY_FUNCTION_PROCEED, RAY_QUERY_FUNCTION_VARIANTS, STATEMENT_ATOMIC, STATEMENT_CALL, STATEMENT_COOPERATIVE_STORE, STATEMENT_IF, STATEMENT_IMAGE_ATOMIC, STATEMENT_IMAGE_STORE, STATEMENT_LOOP, STATEMENT_NAMES, STATEMENT_RAY_QUERY, STATEMENT_RETURN, STATEMENT_STORE, STATEMENT_SUBGROUP_BALLOT, STATEMENT_SUBGROUP_COLLECTIVE_OPERATION, STATEMENT_SUBGROUP_GATHER, STATEMENT_SWITCH, STATEMENT_VARIANTS, STATEMENT_WORK_GROUP_UNIFORM_LOAD, SWITCH_CASE}
use Rattle.naga_schema.specs.declared.derived.types.TheConstants.{ARRAY_SIZE_NAMES, ARRAY_SIZE_VARIANTS, NAGA_TYPE, STRUCT_MEMBER, TYPE_INNER_ACCELERATION_STRUCTURE, TYPE_INNER_ARRAY, TYPE_INNER_BINDING_ARRAY, TYPE_INNER_COOPERATIVE_MATRIX, TYPE_INNER_IMAGE, TYPE_INNER_MATRIX, TYPE_INNER_NAMES, TYPE_INNER_POINTER, TYPE_INNER_RAY_QUERY, TYPE_INNER_SAMPLER, TYPE_INNER_STRUCT, TYPE_INNER_VALUE_POINTER, TYPE_INNER_VARIANTS, TYPE_INNER_VECTOR}

-- what the JSON of a type consists of
unfoldable pub shape_of : TypeName → Shape
shape_of (type.Leaf one) = shape.leaf one
shape_of type.AddressSpaceStorage = shape.struct (map field_of ADDRESS_SPACE_STORAGE)
shape_of type.AddressSpace = shape.enum (map name_of ADDRESS_SPACE_NAMES) (map variant_of ADDRESS_SPACE_VARIANTS)
shape_of type.BindingLocation = shape.struct (map field_of BINDING_LOCATION)
shape_of type.Binding = shape.enum (map name_of BINDING_NAMES) (map variant_of BINDING_VARIANTS)
shape_of type.ResourceBinding = shape.struct (map field_of RESOURCE_BINDING)
shape_of type.BuiltInPosition = shape.struct (map field_of BUILT_IN_POSITION)
shape_of type.BuiltInBarycentric = shape.struct (map field_of BUILT_IN_BARYCENTRIC)
shape_of type.BuiltIn = shape.enum (map name_of BUILT_IN_NAMES) (map variant_of BUILT_IN_VARIANTS)
shape_of type.TriggeringRule = shape.enum (map name_of TRIGGERING_RULE_NAMES) (map variant_of TRIGGERING_RULE_VARIANTS)
shape_of type.DiagnosticFilter = shape.struct (map field_of DIAGNOSTIC_FILTER)
shape_of type.DiagnosticFilterNode = shape.struct (map field_of DIAGNOSTIC_FILTER_NODE)
shape_of type.EarlyDepthTestAllow = shape.struct (map field_of EARLY_DEPTH_TEST_ALLOW)
shape_of type.EarlyDepthTest = shape.enum (map name_of EARLY_DEPTH_TEST_NAMES) (map variant_of EARLY_DEPTH_TEST_VARIANTS)
shape_of type.ImageClassSampled = shape.struct (map field_of IMAGE_CLASS_SAMPLED)
shape_of type.ImageClassDepth = shape.struct (map field_of IMAGE_CLASS_DEPTH)
shape_of type.ImageClassStorage = shape.struct (map field_of IMAGE_CLASS_STORAGE)
shape_of type.ImageClass = shape.enum (map name_of IMAGE_CLASS_NAMES) (map variant_of IMAGE_CLASS_VARIANTS)
shape_of type.Scalar = shape.struct (map field_of SCALAR)
shape_of type.SwitchValue = shape.enum (map name_of SWITCH_VALUE_NAMES) (map variant_of SWITCH_VALUE_VARIANTS)
shape_of type.AtomicFunctionExchange = shape.struct (map field_of ATOMIC_FUNCTION_EXCHANGE)
shape_of type.AtomicFunction = shape.enum (map name_of ATOMIC_FUNCTION_NAMES) (map variant_of ATOMIC_FUNCTION_VARIANTS)
shape_of type.SampleLevelGradient = shape.struct (map field_of SAMPLE_LEVEL_GRADIENT)
shape_of type.SampleLevel = shape.enum (map name_of SAMPLE_LEVEL_NAMES) (map variant_of SAMPLE_LEVEL_VARIANTS)
shape_of type.ImageQuerySize = shape.struct (map field_of IMAGE_QUERY_SIZE)
shape_of type.ImageQuery = shape.enum (map name_of IMAGE_QUERY_NAMES) (map variant_of IMAGE_QUERY_VARIANTS)
shape_of type.GatherMode = shape.enum (map name_of GATHER_MODE_NAMES) (map variant_of GATHER_MODE_VARIANTS)
shape_of type.CooperativeData = shape.struct (map field_of COOPERATIVE_DATA)
shape_of type.ExpressionCompose = shape.struct (map field_of EXPRESSION_COMPOSE)
shape_of type.ExpressionAccess = shape.struct (map field_of EXPRESSION_ACCESS)
shape_of type.ExpressionAccessIndex = shape.struct (map field_of EXPRESSION_ACCESS_INDEX)
shape_of type.ExpressionSplat = shape.struct (map field_of EXPRESSION_SPLAT)
shape_of type.ExpressionSwizzle = shape.struct (map field_of EXPRESSION_SWIZZLE)
shape_of type.ExpressionLoad = shape.struct (map field_of EXPRESSION_LOAD)
shape_of type.ExpressionImageSample = shape.struct (map field_of EXPRESSION_IMAGE_SAMPLE)
shape_of type.ExpressionImageLoad = shape.struct (map field_of EXPRESSION_IMAGE_LOAD)
shape_of type.ExpressionImageQuery = shape.struct (map field_of EXPRESSION_IMAGE_QUERY)
shape_of type.ExpressionUnary = shape.struct (map field_of EXPRESSION_UNARY)
shape_of type.ExpressionBinary = shape.struct (map field_of EXPRESSION_BINARY)
shape_of type.ExpressionSelect = shape.struct (map field_of EXPRESSION_SELECT)
shape_of type.ExpressionDerivative = shape.struct (map field_of EXPRESSION_DERIVATIVE)
shape_of type.ExpressionRelational = shape.struct (map field_of EXPRESSION_RELATIONAL)
shape_of type.ExpressionMath = shape.struct (map field_of EXPRESSION_MATH)
shape_of type.ExpressionAs = shape.struct (map field_of EXPRESSION_AS)
shape_of type.ExpressionAtomicResult = shape.struct (map field_of EXPRESSION_ATOMIC_RESULT)
shape_of type.ExpressionWorkGroupUniformLoadResult = shape.struct (map field_of EXPRESSION_WORK_GROUP_UNIFORM_LOAD_RESULT)
shape_of type.ExpressionRayQueryVertexPositions = shape.struct (map field_of EXPRESSION_RAY_QUERY_VERTEX_POSITIONS)
shape_of type.ExpressionRayQueryGetIntersection = shape.struct (map field_of EXPRESSION_RAY_QUERY_GET_INTERSECTION)
shape_of type.ExpressionSubgroupOperationResult = shape.struct (map field_of EXPRESSION_SUBGROUP_OPERATION_RESULT)
shape_of type.ExpressionCooperativeLoad = shape.struct (map field_of EXPRESSION_COOPERATIVE_LOAD)
shape_of type.ExpressionCooperativeMultiplyAdd = shape.struct (map field_of EXPRESSION_COOPERATIVE_MULTIPLY_ADD)
shape_of type.Expression = shape.enum (map name_of EXPRESSION_NAMES) (map variant_of EXPRESSION_VARIANTS)
shape_of type.Literal = shape.enum (map name_of LITERAL_NAMES) (map variant_of LITERAL_VARIANTS)
shape_of type.Override = shape.struct (map field_of OVERRIDE)
shape_of type.Constant = shape.struct (map field_of CONSTANT)
shape_of type.GlobalVariable = shape.struct (map field_of GLOBAL_VARIABLE)
shape_of type.LocalVariable = shape.struct (map field_of LOCAL_VARIABLE)
shape_of type.FunctionArgument = shape.struct (map field_of FUNCTION_ARGUMENT)
shape_of type.FunctionResult = shape.struct (map field_of FUNCTION_RESULT)
shape_of type.Function = shape.struct (map field_of FUNCTION)
shape_of type.EntryPoint = shape.struct (map field_of ENTRY_POINT)
shape_of type.MeshStageInfo = shape.struct (map field_of MESH_STAGE_INFO)
shape_of type.SpecialTypes = shape.struct (map field_of SPECIAL_TYPES)
shape_of type.DocComments = shape.struct (map field_of DOC_COMMENTS)
shape_of type.Module = shape.struct (map field_of MODULE)
shape_of type.SwitchCase = shape.struct (map field_of SWITCH_CASE)
shape_of type.RayQueryFunctionInitialize = shape.struct (map field_of RAY_QUERY_FUNCTION_INITIALIZE)
shape_of type.RayQueryFunctionProceed = shape.struct (map field_of RAY_QUERY_FUNCTION_PROCEED)
shape_of type.RayQueryFunctionGenerateIntersection = shape.struct (map field_of RAY_QUERY_FUNCTION_GENERATE_INTERSECTION)
shape_of type.RayQueryFunction = shape.enum (map name_of RAY_QUERY_FUNCTION_NAMES) (map variant_of RAY_QUERY_FUNCTION_VARIANTS)
shape_of type.RayPipelineFunctionTraceRay = shape.struct (map field_of RAY_PIPELINE_FUNCTION_TRACE_RAY)
shape_of type.RayPipelineFunction = shape.enum (map name_of RAY_PIPELINE_FUNCTION_NAMES) (map variant_of RAY_PIPELINE_FUNCTION_VARIANTS)
shape_of type.StatementIf = shape.struct (map field_of STATEMENT_IF)
shape_of type.StatementSwitch = shape.struct (map field_of STATEMENT_SWITCH)
shape_of type.StatementLoop = shape.struct (map field_of STATEMENT_LOOP)
shape_of type.StatementReturn = shape.struct (map field_of STATEMENT_RETURN)
shape_of type.StatementStore = shape.struct (map field_of STATEMENT_STORE)
shape_of type.StatementImageStore = shape.struct (map field_of STATEMENT_IMAGE_STORE)
shape_of type.StatementAtomic = shape.struct (map field_of STATEMENT_ATOMIC)
shape_of type.StatementImageAtomic = shape.struct (map field_of STATEMENT_IMAGE_ATOMIC)
shape_of type.StatementWorkGroupUniformLoad = shape.struct (map field_of STATEMENT_WORK_GROUP_UNIFORM_LOAD)
shape_of type.StatementCall = shape.struct (map field_of STATEMENT_CALL)
shape_of type.StatementRayQuery = shape.struct (map field_of STATEMENT_RAY_QUERY)
shape_of type.StatementSubgroupBallot = shape.struct (map field_of STATEMENT_SUBGROUP_BALLOT)
shape_of type.StatementSubgroupGather = shape.struct (map field_of STATEMENT_SUBGROUP_GATHER)
shape_of type.StatementSubgroupCollectiveOperation = shape.struct (map field_of STATEMENT_SUBGROUP_COLLECTIVE_OPERATION)
shape_of type.StatementCooperativeStore = shape.struct (map field_of STATEMENT_COOPERATIVE_STORE)
shape_of type.Statement = shape.enum (map name_of STATEMENT_NAMES) (map variant_of STATEMENT_VARIANTS)
shape_of type.ArraySize = shape.enum (map name_of ARRAY_SIZE_NAMES) (map variant_of ARRAY_SIZE_VARIANTS)
shape_of type.StructMember = shape.struct (map field_of STRUCT_MEMBER)
shape_of type.NagaType = shape.struct (map field_of NAGA_TYPE)
shape_of type.TypeInnerVector = shape.struct (map field_of TYPE_INNER_VECTOR)
shape_of type.TypeInnerMatrix = shape.struct (map field_of TYPE_INNER_MATRIX)
shape_of type.TypeInnerCooperativeMatrix = shape.struct (map field_of TYPE_INNER_COOPERATIVE_MATRIX)
shape_of type.TypeInnerPointer = shape.struct (map field_of TYPE_INNER_POINTER)
shape_of type.TypeInnerValuePointer = shape.struct (map field_of TYPE_INNER_VALUE_POINTER)
shape_of type.TypeInnerArray = shape.struct (map field_of TYPE_INNER_ARRAY)
shape_of type.TypeInnerStruct = shape.struct (map field_of TYPE_INNER_STRUCT)
shape_of type.TypeInnerImage = shape.struct (map field_of TYPE_INNER_IMAGE)
shape_of type.TypeInnerSampler = shape.struct (map field_of TYPE_INNER_SAMPLER)
shape_of type.TypeInnerAccelerationStructure = shape.struct (map field_of TYPE_INNER_ACCELERATION_STRUCTURE)
shape_of type.TypeInnerRayQuery = shape.struct (map field_of TYPE_INNER_RAY_QUERY)
shape_of type.TypeInnerBindingArray = shape.struct (map field_of TYPE_INNER_BINDING_ARRAY)
shape_of type.TypeInner = shape.enum (map name_of TYPE_INNER_NAMES) (map variant_of TYPE_INNER_VARIANTS)
shape_of type.Handles = shape.list lengths.Any (type.Leaf (leaves.Natural 0xffff_fffe))
shape_of type.SwizzlePattern = shape.list (lengths.Exactly 4) (type.Leaf (leaves.Kind kind.SwizzleComponent))
shape_of type.FunctionArguments = shape.list lengths.Any type.FunctionArgument
shape_of type.LocalVariables = shape.list (lengths.AtMost 0xffff_ffff) type.LocalVariable
shape_of type.Expressions = shape.list (lengths.AtMost 0xffff_ffff) type.Expression
shape_of type.NamedExpressions = shape.keyed 0xffff_fffe (type.Leaf leaves.Text)
shape_of type.Block = shape.block type.Statement
shape_of type.WorkgroupSize = shape.list (lengths.Exactly 3) (type.Leaf (leaves.Natural 0xffff_ffff))
shape_of type.WorkgroupSizeOverrides = shape.list (lengths.Exactly 3) (type.Leaf (leaves.OptionalNatural 0xffff_fffe))
shape_of type.EmptyMap = shape.struct (map field_of EMPTY_MAP)
shape_of type.HandleComments = shape.keyed 0xffff_fffe type.Lines
shape_of type.PositionComments = shape.keyed 0xffff_ffff_ffff_ffff type.Lines
shape_of type.Lines = shape.list lengths.Any (type.Leaf leaves.Text)
shape_of type.Types = shape.list (lengths.AtMost 0xffff_ffff) type.NagaType
shape_of type.Constants = shape.list (lengths.AtMost 0xffff_ffff) type.Constant
shape_of type.Overrides = shape.list (lengths.AtMost 0xffff_ffff) type.Override
shape_of type.GlobalVariables = shape.list (lengths.AtMost 0xffff_ffff) type.GlobalVariable
shape_of type.Functions = shape.list (lengths.AtMost 0xffff_ffff) type.Function
shape_of type.EntryPoints = shape.list lengths.Any type.EntryPoint
shape_of type.DiagnosticFilters = shape.list (lengths.AtMost 0xffff_ffff) type.DiagnosticFilterNode
shape_of type.SwitchCases = shape.list lengths.Any type.SwitchCase
shape_of type.StructMembers = shape.list lengths.Any type.StructMember
shape_of type.RuleNames = shape.list (lengths.Exactly 2) (type.Leaf leaves.Text)
shape_of type.Range = shape.range (map field_of RANGE)
