-- What the statements of a body require, and the bodies that use each value at its type.
use Rattle.std.specs.Prelude.{ℕ, ◌+◌, All, List, [], ◌∷◌, ◌++◌, length, Option, Some, None, is_some}
use Rattle.naga_arena.specs.declared.span.Span.{Span}
use Rattle.naga_kinds.specs.declared.scalar.TheConstants.Scalar.{BOOL, F32, U32}
use Rattle.naga_kinds.specs.declared.subgroup.SubgroupOperation.{SubgroupOperation}
use Rattle.naga_kinds.specs.declared.subgroup.SubgroupOperation.TheVariants as operation
use Rattle.naga_kinds.specs.declared.switch.SwitchValue.{SwitchValue}
use Rattle.naga_kinds.specs.declared.switch.SwitchValue.TheVariants as number
use Rattle.naga_ir.specs.Tree.{Tree, empty, push, Node, plain, nested, branch, switch, loop, jump, Jump, return, Cases, no_cases, case}
use Rattle.naga_ir.specs.declared.expression.AtomicFunction.{AtomicFunction}
use Rattle.naga_ir.specs.declared.expression.AtomicFunction.TheVariants.{Add, Subtract, Exchange}
use Rattle.naga_ir.specs.declared.expression.GatherMode.{GatherMode}
use Rattle.naga_ir.specs.declared.expression.GatherMode.TheVariants.{Broadcast, Shuffle, ShuffleDown, ShuffleUp, ShuffleXor, QuadBroadcast}
use Rattle.naga_ir.specs.declared.statement.RayPipelineFunction.TheVariants.{TraceRay}
use Rattle.naga_ir.specs.declared.statement.RayQueryFunction.{RayQueryFunction}
use Rattle.naga_ir.specs.declared.statement.RayQueryFunction.TheVariants.{Initialize, Proceed, GenerateIntersection}
use Rattle.naga_ir.specs.declared.statement.Statement.{Statement, Store, ImageStore, Atomic, ImageAtomic, WorkGroupUniformLoad, Call, RayQuery, RayPipelineFunction, SubgroupBallot, SubgroupGather, SubgroupCollectiveOperation, CooperativeStore}
use Rattle.naga_typifier.specs.Context.{Context}
use Rattle.naga_typifier.specs.declared.resolution.TypeResolution.{TypeResolution}
use Rattle.naga_typing.specs.Requirements.{Fits, Signature}
use Rattle.naga_typing.specs.declared.requirement.Expected.TheVariants as expected
use Rattle.naga_typing.specs.declared.requirement.Kind.{Kind}
use Rattle.naga_typing.specs.declared.requirement.Kind.TheVariants as kind
use Rattle.naga_typing.specs.declared.requirement.Requirement.{Requirement}
use Rattle.naga_typing.specs.declared.requirement.Requirement.TheVariants as requirement
use Rattle.naga_typing.specs.declared.requirement.Scalars.{Scalars}
use Rattle.naga_typing.specs.declared.requirement.Scalars.TheVariants as scalars
use Rattle.naga_typing.specs.declared.requirement.Source.{Source}
use Rattle.naga_typing.specs.declared.requirement.Source.TheVariants as source

-- ---- what one operand must be

-- an operand must be of this kind
abbrev pub of_kind : ℕ → Kind → Option Requirement
of_kind operand kind = Some (requirement.Operand operand (expected.Kind kind))

-- an operand must have the type that comes from this source
abbrev pub of_type : Source → ℕ → Option Requirement
of_type source operand = Some (requirement.Operand operand (expected.Type source))

-- an operand must be an `i32` or a `u32`
abbrev pub integer : ℕ → Option Requirement
integer operand = Some (requirement.Operand operand expected.Integer)

-- an operand that may be absent must have the type that comes from this source
abbrev pub of_type_if : Source → Option ℕ → Option Requirement
of_type_if source None = None
of_type_if source (Some operand) = of_type source operand

-- an operand that may be absent must be an `i32` or a `u32`
abbrev pub integer_if : Option ℕ → Option Requirement
integer_if None = None
integer_if (Some operand) = integer operand

-- a selector must have the type of the value of a case, unless it is the default
abbrev pub selects : ℕ → SwitchValue → Option Requirement
selects selector number.Default = None
selects selector value = of_type (source.Case value) selector

-- ---- plain statements

-- what an exchange compares
abbrev pub compared : AtomicFunction → Option ℕ
compared (Exchange compare) = compare
compared _ = None

-- the scalars that an atomic function combines
abbrev pub combined : AtomicFunction → Scalars
combined Add = scalars.Numbers
combined Subtract = scalars.Numbers
combined (Exchange None) = scalars.Numbers
combined _ = scalars.Integers

-- the values that a collective operation combines
abbrev pub collected : SubgroupOperation → Kind
collected operation.All = kind.Single scalars.Booleans
collected operation.Any = kind.Single scalars.Booleans
collected operation.And = kind.Components scalars.Integers
collected operation.Or = kind.Components scalars.Integers
collected operation.Xor = kind.Components scalars.Integers
collected _ = kind.Components scalars.Numbers

-- The type of the result of an atomic operation is the scalar of the atomic. That of an exchange that compares is the
-- predeclared structure of the old value and of whether it was exchanged.
abbrev pub atomic_result : ℕ → Option ℕ → Source
atomic_result pointer None = source.AtomicScalar pointer
atomic_result pointer (Some compare) = source.ExchangeResult pointer

-- the index from which a value is gathered
abbrev pub gather_index : GatherMode → Option ℕ
gather_index (Broadcast index) = Some index
gather_index (Shuffle index) = Some index
gather_index (ShuffleDown delta) = Some delta
gather_index (ShuffleUp delta) = Some delta
gather_index (ShuffleXor mask) = Some mask
gather_index (QuadBroadcast index) = Some index
gather_index _ = None

-- The image is no cube, and the coordinate, and the index of a layer if there are layers, are those of a texel of it.
-- The value has the type that comes from this source.
abbrev pub of_image : ℕ → ℕ → Option ℕ → Source → ℕ → List (Option Requirement)
of_image image coordinate array_index source value =
    of_kind image kind.StorageImage ∷ of_kind image kind.TexelImage
    ∷ Some (requirement.Operand coordinate (expected.Coordinate image))
    ∷ Some (requirement.Layers image (is_some array_index)) ∷ integer_if array_index ∷ of_type source value ∷ []

-- an acceleration structure, and the description of a ray
abbrev pub of_trace : ℕ → ℕ → List (Option Requirement)
of_trace structure descriptor =
    of_kind structure kind.AccelerationStructure ∷ of_type source.RayDescription descriptor ∷ []

-- The value that an atomic function combines is one of its scalars, and what it compares has the type that comes from
-- this source.
abbrev pub of_combined : Source → AtomicFunction → ℕ → List (Option Requirement)
of_combined source fun value = of_kind value (kind.Single (combined fun)) ∷ of_type_if source (compared fun) ∷ []

-- the operands of an atomic operation
abbrev pub of_atomic : ℕ → AtomicFunction → ℕ → (outcome : Option ℕ) → List (Option Requirement)
of_atomic pointer fun value outcome =
    of_kind pointer kind.AtomicPointer ∷ of_type (source.AtomicScalar pointer) value
    ∷ of_combined (source.AtomicScalar pointer) fun value
    ++ of_type_if (atomic_result pointer (compared fun)) outcome ∷ []

-- the operands of an atomic operation on a component of a texel
abbrev pub of_image_atomic : ℕ → ℕ → Option ℕ → AtomicFunction → ℕ → List (Option Requirement)
of_image_atomic image coordinate array_index fun value =
    of_image image coordinate array_index (source.Component image) value
    ++ of_combined (source.Component image) fun value

-- the operands of a function of a ray query
abbrev pub of_query : RayQueryFunction → List (Option Requirement)
of_query (Initialize structure descriptor) = of_trace structure descriptor
of_query (Proceed result) = of_type (source.Scalar BOOL) result ∷ []
of_query (GenerateIntersection hit_t) = of_type (source.Scalar F32) hit_t ∷ []
of_query _ = []

-- a ray query, and the operands of a function of it
abbrev pub of_ray_query : ℕ → RayQueryFunction → List (Option Requirement)
of_ray_query query fun = of_kind query kind.RayQueryPointer ∷ of_query fun

-- the arguments of a call, of which the first has this position
abbrev pub of_arguments : ℕ → (position : ℕ) → List ℕ → List (Option Requirement)
of_arguments function position [] = []
of_arguments function position (argument ∷ rest) =
    of_type (source.Argument function position) argument ∷ of_arguments function (position + 1) rest

-- the number of arguments of a call, whether it has a result, and its arguments
abbrev pub of_call : ℕ → List ℕ → (outcome : Option ℕ) → List (Option Requirement)
of_call function arguments outcome =
    Some (requirement.ArgumentCount function (length arguments))
    ∷ Some (requirement.CallResult function (is_some outcome)) ∷ of_arguments function 0 arguments

-- What a plain statement requires, in the order of its operands.
abbrev pub required : Statement → List (Option Requirement)
required (Store pointer value) = of_kind pointer kind.Pointer ∷ of_type (source.Loaded pointer) value ∷ []
required (ImageStore image coordinate array_index value) =
    of_image image coordinate array_index (source.Texel image) value
required (Atomic pointer fun value result) = of_atomic pointer fun value result
required (ImageAtomic image coordinate array_index fun value) = of_image_atomic image coordinate array_index fun value
required (WorkGroupUniformLoad pointer result) =
    of_kind pointer kind.WorkGroupPointer ∷ of_type (source.Loaded pointer) result ∷ []
required (Call function arguments result) = of_call function arguments.items result
required (RayQuery query fun) = of_ray_query query fun
required (RayPipelineFunction (TraceRay structure descriptor payload)) =
    of_kind structure kind.AccelerationStructure ∷ of_type source.RayDescription descriptor
    ∷ of_kind payload kind.RayPayload ∷ []
required (SubgroupBallot result predicate) = of_type_if (source.Scalar BOOL) predicate ∷ []
required (SubgroupGather mode argument result) =
    of_type_if (source.Scalar U32) (gather_index mode) ∷ of_type (source.Same result) argument
    ∷ of_kind argument (kind.Components scalars.Any) ∷ []
required (SubgroupCollectiveOperation op collective_op argument result) =
    of_type (source.Same result) argument ∷ of_kind argument (collected op) ∷ []
required (CooperativeStore target at) =
    of_kind target kind.CooperativeMatrix ∷ Some (requirement.Operand at.pointer (expected.CooperativeData target))
    ∷ of_type (source.Scalar U32) at.stride ∷ []
required _ = []

-- ---- statements

-- the values of the cases of a switch
abbrev pub of_cases : ℕ → Cases → List (Option Requirement)
of_cases selector no_cases = []
of_cases selector (case value body falls_through others) = selects selector value ∷ of_cases selector others

-- the selector of a switch, and the values of its cases
abbrev pub of_switch : ℕ → Cases → List (Option Requirement)
of_switch selector cases = integer selector ∷ of_cases selector cases

-- a return has a value of the type of the function's result, or none if there is no result
abbrev pub of_jump : Jump → List (Option Requirement)
of_jump (return None) = Some requirement.NoResult ∷ []
of_jump (return (Some value)) = of_type source.FunctionResult value ∷ []
of_jump to = []

-- what a statement requires, without what the statements inside it do
abbrev pub required_by : Node → List (Option Requirement)
required_by (plain what) = required what
required_by (nested inner) = []
required_by (branch condition accept reject) = of_type (source.Scalar BOOL) condition ∷ []
required_by (switch selector cases) = of_switch selector cases
required_by (loop body continuing break_if) = of_type_if (source.Scalar BOOL) break_if ∷ []
required_by (jump to) = of_jump to

abbrev mutual
  -- the statements of a block, each before those inside it
  pub statements : Tree → List (Node × Span)
  statements empty = []
  statements (push front last span) = statements front ++ (last, span) ∷ statements_inside last

  pub statements_inside : Node → List (Node × Span)
  statements_inside (plain what) = []
  statements_inside (nested inner) = statements inner
  statements_inside (branch condition accept reject) = statements accept ++ statements reject
  statements_inside (switch selector cases) = statements_of_cases cases
  statements_inside (loop body continuing break_if) = statements body ++ statements continuing
  statements_inside (jump to) = []

  pub statements_of_cases : Cases → List (Node × Span)
  statements_of_cases no_cases = []
  statements_of_cases (case value body falls_through others) = statements body ++ statements_of_cases others

-- what a statement requires fits, whatever the statements inside it require
abbrev pub EntryFits : (fits : Option Requirement → Type 0) → Node × Span → Type 0
EntryFits fits entry = All fits (required_by entry.0)

-- a body uses each value at its type: what each of its statements requires is met
abbrev pub BodyIsTyped : Context → (known : ℕ → Option TypeResolution) → Signature → Tree → Type 0
BodyIsTyped ctx known signature body = All (EntryFits (Fits ctx known signature)) (statements body)
