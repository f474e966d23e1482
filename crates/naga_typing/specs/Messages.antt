-- The texts of requirements that are not met, and of types that are found. No text is stated of the reason why an
-- expression has no type, and of a mathematical function.
use Rattle.std.specs.Prelude.{ℕ, ◌*◌, Bool, true, false, List, ◌++◌, codes, Option, Some, None}
use Rattle.std.specs.Fmt.{◌++?◌, decimal, signed_decimal}
use Rattle.naga_flow.specs.Messages.{owner_text}
use Rattle.naga_flow.specs.Paths.{path_text}
use Rattle.naga_ir.specs.View.{tree_of}
use Rattle.naga_ir.specs.declared.module.Function as function
use Rattle.naga_kinds.specs.Scalar.{components_of}
use Rattle.naga_kinds.specs.declared.scalar.Scalar.{Scalar}
use Rattle.naga_kinds.specs.declared.scalar.ScalarKind.{ScalarKind}
use Rattle.naga_kinds.specs.declared.scalar.ScalarKind.TheVariants.{Sint, Uint, Float, AbstractInt, AbstractFloat}
use Rattle.naga_kinds.specs.declared.scalar.ScalarKind.TheVariants as scalar_kind
use Rattle.naga_kinds.specs.declared.scalar.VectorSize.{VectorSize}
use Rattle.naga_kinds.specs.declared.switch.SwitchValue.{SwitchValue}
use Rattle.naga_kinds.specs.declared.switch.SwitchValue.TheVariants.{I32, U32, Default}
use Rattle.naga_typing.specs.declared.found.FoundType.{FoundType}
use Rattle.naga_typing.specs.declared.found.Shape.{Shape}
use Rattle.naga_typing.specs.declared.found.Shape.TheVariants as shape
use Rattle.naga_typing.specs.declared.initial.Initialized.{Initialized}
use Rattle.naga_typing.specs.declared.initial.Initialized.TheVariants as initial
use Rattle.naga_typing.specs.declared.invalid_types.InvalidFunction.{InvalidFunction}
use Rattle.naga_typing.specs.declared.invalid_types.InvalidFunction.TheVariants as inside
use Rattle.naga_typing.specs.declared.invalid_types.InvalidTypes.{InvalidTypes}
use Rattle.naga_typing.specs.declared.invalid_types.InvalidTypes.TheVariants as invalid
use Rattle.naga_typing.specs.declared.invalid_types.InvalidValues.{InvalidValues}
use Rattle.naga_typing.specs.declared.invalid_types.InvalidValues.TheVariants as values
use Rattle.naga_typing.specs.declared.invalid_types.MistypedFunction.{MistypedFunction}
use Rattle.naga_typing.specs.declared.invalid_types.TypeFault.{TypeFault}
use Rattle.naga_typing.specs.declared.invalid_types.TypeFault.TheVariants as fault
use Rattle.naga_typing.specs.declared.invalid_types.Unmet.{Unmet}
use Rattle.naga_typing.specs.declared.invalid_types.ValueFault.{ValueFault}
use Rattle.naga_typing.specs.declared.invalid_types.ValueFault.TheVariants.{NoType, Operand, Initial}
use Rattle.naga_typing.specs.declared.mismatch.TypeMismatch.{TypeMismatch}
use Rattle.naga_typing.specs.declared.requirement.Expected.{Expected}
use Rattle.naga_typing.specs.declared.requirement.Expected.TheVariants as expected
use Rattle.naga_typing.specs.declared.requirement.Kind.{Kind}
use Rattle.naga_typing.specs.declared.requirement.Kind.TheVariants as kind
use Rattle.naga_typing.specs.declared.requirement.Requirement.{Requirement}
use Rattle.naga_typing.specs.declared.requirement.Requirement.TheVariants as requirement
use Rattle.naga_typing.specs.declared.requirement.Scalars.{Scalars}
use Rattle.naga_typing.specs.declared.requirement.Scalars.TheVariants as scalars
use Rattle.naga_typing.specs.declared.requirement.Source.{Source}
use Rattle.naga_typing.specs.declared.requirement.Source.TheVariants as source

-- ---- scalars

-- a scalar, by its kind and its number of bits
abbrev pub bits_text : ScalarKind → ℕ → List ℕ
bits_text Sint bits = codes "i" ++ decimal bits
bits_text Uint bits = codes "u" ++ decimal bits
bits_text Float bits = codes "f" ++ decimal bits
bits_text scalar_kind.Bool bits = codes "bool"
bits_text AbstractInt bits = codes "an abstract integer"
bits_text AbstractFloat bits = codes "an abstract float"

-- a scalar
abbrev pub scalar_text : Scalar → List ℕ
scalar_text scalar = bits_text scalar.kind (scalar.width * 8)

-- a value must be a scalar of this kind
abbrev pub required_text : ScalarKind → List ℕ → List ℕ
required_text AbstractInt name = name
required_text AbstractFloat name = name
required_text one name = codes "of the type " ++ name

-- a value must be this scalar
abbrev pub required_scalar_text : Scalar → List ℕ
required_scalar_text scalar = required_text scalar.kind (scalar_text scalar)

-- ---- requirements

-- the scalars of a kind
abbrev pub scalar_kind_text : ScalarKind → List ℕ
scalar_kind_text Sint = codes "signed integers"
scalar_kind_text Uint = codes "unsigned integers"
scalar_kind_text Float = codes "floating-point numbers"
scalar_kind_text scalar_kind.Bool = codes "booleans"
scalar_kind_text AbstractInt = codes "abstract integers"
scalar_kind_text AbstractFloat = codes "abstract floats"

-- the scalars of which a value consists
abbrev pub scalars_text : Scalars → List ℕ
scalars_text scalars.Any = codes "any kind"
scalars_text scalars.Numbers = codes "numbers"
scalars_text scalars.Signed = codes "numbers that can be negative"
scalars_text scalars.Floats = codes "floating-point numbers"
scalars_text scalars.Integers = codes "integers"
scalars_text scalars.Bits = codes "integers or booleans"
scalars_text scalars.Booleans = codes "booleans"

-- a kind of value
abbrev pub kind_text : Kind → List ℕ
kind_text kind.Pointer = codes "a pointer to data of a known size"
kind_text kind.AtomicPointer = codes "a pointer to an atomic"
kind_text kind.WorkGroupPointer = codes "a pointer into workgroup memory"
kind_text kind.StorageImage = codes "a storage image"
kind_text kind.RayQueryPointer = codes "a pointer to a ray query"
kind_text kind.AccelerationStructure = codes "an acceleration structure"
kind_text kind.RayPayload = codes "a pointer to a ray payload"
kind_text kind.CooperativeMatrix = codes "a cooperative matrix"
kind_text (kind.Single of) = codes "a scalar of " ++ scalars_text of
kind_text (kind.Components of) = codes "a scalar or a vector of " ++ scalars_text of
kind_text (kind.Entries of) = codes "a scalar, a vector or a matrix of " ++ scalars_text of
kind_text kind.SampledImage = codes "an image that can be sampled"
kind_text kind.DepthImage = codes "an image of depths"
kind_text (kind.Sampler true) = codes "a sampler that compares depths"
kind_text (kind.Sampler false) = codes "a sampler that does not compare depths"
kind_text kind.DynamicArrayPointer = codes "a pointer to an array of a dynamic size"
kind_text (kind.VectorWith count) = codes "a vector of at least " ++ (decimal count ++ codes " components")
kind_text kind.Data = codes "data of a known size"
kind_text kind.ExchangeResult = codes "a structure of a number and a boolean"
kind_text (kind.Convertible to) =
    codes "a scalar or a vector that can be converted to "
    ++ (scalar_text to ++ (codes " of " ++ (decimal to.width ++ codes " bytes")))
kind_text (kind.GatheredImage position) =
    codes "an image of whose texels component " ++ (decimal position ++ codes " can be gathered")
kind_text kind.VertexQueryPointer = codes "a pointer to a ray query that returns vertices"
kind_text kind.Summand = codes "a scalar, a vector or a matrix of numbers, or a cooperative matrix"
kind_text kind.TexelImage = codes "an image that is not a cube"
kind_text (kind.BitsOf to) = codes "a scalar or a vector whose bits are those of " ++ scalar_kind_text to

-- the type of the value of a case
abbrev pub case_text : SwitchValue → List ℕ
case_text (I32 value) = codes "an i32, like the case " ++ signed_decimal value
case_text (U32 value) = codes "a u32, like the case " ++ decimal value
case_text Default = codes "of the type of the default case"

-- the type that an operand must have
abbrev pub source_text : Source → List ℕ
source_text (source.Scalar scalar) = required_scalar_text scalar
source_text (source.Case value) = case_text value
source_text (source.Same expression) = codes "of the type of expression " ++ decimal expression
source_text (source.Loaded pointer) = codes "of the type behind expression " ++ decimal pointer
source_text (source.AtomicScalar pointer) = codes "the scalar of the atomic behind expression " ++ decimal pointer
source_text (source.ExchangeResult pointer) =
    codes "the predeclared result of an exchange of the atomic behind expression " ++ decimal pointer
source_text (source.Texel image) = codes "a texel of expression " ++ decimal image
source_text (source.Component image) = codes "a component of a texel of expression " ++ decimal image
source_text (source.Argument callee position) =
    codes "of the type of argument " ++ (decimal position ++ (codes " of function " ++ decimal callee))
source_text source.RayDescription = codes "a description of a ray"
source_text source.FunctionResult = codes "of the type of the result of the function"
source_text (source.Declared ty) = codes "of the declared type, type " ++ decimal ty
source_text (source.Entry expression) = codes "the scalar of expression " ++ decimal expression
source_text (source.Along expression scalar) =
    required_scalar_text scalar ++ (codes ", for each component of expression " ++ decimal expression)
source_text (source.Position image scalar) =
    required_scalar_text scalar ++ (codes ", for each dimension of expression " ++ decimal image)

-- what an operand must be
abbrev pub expected_text : Expected → List ℕ
expected_text (expected.Kind of) = kind_text of
expected_text (expected.«Type» from) = source_text from
expected_text expected.Integer = codes "an i32 or a u32"
expected_text (expected.Coordinate image) = codes "a coordinate of expression " ++ decimal image
expected_text (expected.CooperativeData target) = codes "a pointer to elements of expression " ++ decimal target
expected_text (expected.Either first second) = source_text first ++ (codes ", or " ++ source_text second)
expected_text (expected.SameScalar other) = codes "made of the same scalar as expression " ++ decimal other
expected_text (expected.Shift left) = codes "an unsigned integer for each component of expression " ++ decimal left
expected_text (expected.Level image) = codes "a level of expression " ++ decimal image
expected_text (expected.Component ty position) =
    codes "a value for component " ++ (decimal position ++ (codes " of type " ++ decimal ty))

-- what an image lacks, if there is an index or a level for it, or else what is missing
abbrev pub missing_text : (lacking missing : List ℕ) → Bool → ℕ → List ℕ
missing_text lacking missing true image = lacking ++ decimal image
missing_text lacking missing false image = missing ++ decimal image

-- what is wrong with the sizes of three cooperative matrices
abbrev pub product_text : (a b c : ℕ) → List ℕ
product_text a b c =
    codes "expressions " ++ (decimal a ++ (codes ", " ++ (decimal b ++ (codes " and " ++ (decimal c
    ++ codes " do not have the sizes of two factors and a summand")))))

-- what is wrong with the result of a call of a function
abbrev pub call_result_text : ℕ → Bool → List ℕ
call_result_text callee true =
    codes "function " ++ (decimal callee ++ codes " returns no value, and the call has a result")
call_result_text callee false =
    codes "function " ++ (decimal callee ++ codes " returns a value, and the call has no result")

-- a requirement that is not met
abbrev pub requirement_text : Requirement → Option (List ℕ)
requirement_text (requirement.Operand operand what) =
    Some (codes "expression " ++ (decimal operand ++ (codes " must be " ++ expected_text what)))
requirement_text (requirement.Layers image has_index) =
    Some (missing_text (codes "layers are used, and there are none in expression ")
    (codes "an index of a layer is missing for expression ") has_index image)
requirement_text (requirement.ArgumentCount callee count) =
    Some (codes "function " ++ (decimal callee ++ (codes " does not take " ++ (decimal count ++ codes " arguments"))))
requirement_text (requirement.CallResult callee has_result) = Some (call_result_text callee has_result)
requirement_text requirement.NoResult = Some (codes "a value must be returned")
requirement_text (requirement.Samples image has_index) =
    Some (missing_text (codes "samples are used, and there are none in expression ")
    (codes "the index of a sample is missing for expression ") has_index image)
requirement_text (requirement.Levels image has_level) =
    Some (missing_text (codes "levels are used, and there are none in expression ")
    (codes "a level is missing for expression ") has_level image)
requirement_text (requirement.MathArgument fun position is_given) = None
requirement_text (requirement.ComponentCount ty count) =
    Some (codes "type " ++ (decimal ty ++ (codes " does not take " ++ (decimal count ++ codes " components"))))
requirement_text (requirement.VectorEntries ty of) =
    Some (codes "the components together do not have as many scalars as type " ++ decimal ty)
requirement_text (requirement.Contents ty of) =
    Some (codes "type " ++ (decimal ty ++ (codes " must be " ++ kind_text of)))
requirement_text (requirement.Product a b c) = Some (product_text a b c)

-- ---- types that are found

-- a vector of a scalar
abbrev pub vector_text : VectorSize → Scalar → List ℕ
vector_text size scalar =
    codes "vec" ++ (decimal (components_of size) ++ (codes "<" ++ (scalar_text scalar ++ codes ">")))

-- a scalar, or a vector of this size
abbrev pub behind_text : Option VectorSize → Scalar → List ℕ
behind_text None scalar = scalar_text scalar
behind_text (Some size) scalar = vector_text size scalar

-- a type, in short
abbrev pub shape_text : Shape → List ℕ
shape_text (shape.Scalar scalar) = scalar_text scalar
shape_text (shape.Vector size scalar) = vector_text size scalar
shape_text (shape.Matrix columns rows scalar) =
    codes "mat"
    ++ (decimal (components_of columns)
    ++ (codes "x" ++ (decimal (components_of rows) ++ (codes "<" ++ (scalar_text scalar ++ codes ">")))))
shape_text (shape.CooperativeMatrix scalar) = codes "a cooperative matrix of " ++ scalar_text scalar
shape_text (shape.Atomic scalar) = codes "an atomic of " ++ scalar_text scalar
shape_text (shape.Pointer base) = codes "a pointer to type " ++ decimal base
shape_text (shape.ValuePointer size scalar) = codes "a pointer to " ++ behind_text size scalar
shape_text (shape.Array base) = codes "an array of type " ++ decimal base
shape_text shape.Struct = codes "a structure"
shape_text shape.Image = codes "an image"
shape_text (shape.Sampler true) = codes "a sampler that compares depths"
shape_text (shape.Sampler false) = codes "a sampler"
shape_text shape.AccelerationStructure = codes "an acceleration structure"
shape_text shape.RayQuery = codes "a ray query"
shape_text (shape.BindingArray base) = codes "a binding array of type " ++ decimal base

-- a type that is found
abbrev pub found_type_text : (declared : Option ℕ) → Option Shape → List ℕ
found_type_text (Some ty) (Some of) = codes "type " ++ (decimal ty ++ (codes " = " ++ shape_text of))
found_type_text (Some ty) None = codes "type " ++ (decimal ty ++ codes ", which is not declared")
found_type_text None (Some of) = shape_text of
found_type_text None None = codes "no type"

-- a type that is found
abbrev pub found_text : FoundType → List ℕ
found_text found = found_type_text found.declared found.shape

-- ---- faults

-- what is required, and the type that is found, if there is one
abbrev pub with_found : Option (List ℕ) → Option FoundType → Option (List ℕ)
with_found required None = required
with_found required (Some found) = required ++? Some (codes ", found " ++ found_text found)

-- a requirement that is not met, and the type that is found
abbrev pub unmet_text : Unmet → Option (List ℕ)
unmet_text unmet = with_found (requirement_text unmet.requirement) unmet.found

-- a statement that does not meet a requirement, with its number
abbrev pub mismatch_text : TypeMismatch → Option (List ℕ)
mismatch_text mismatch =
    Some (codes "statement ")
    ++? (Some (decimal mismatch.statement) ++? (Some (codes ": ") ++? requirement_text mismatch.requirement))

-- a statement that does not meet a requirement, with the path to it in a function
abbrev pub placed_mismatch_text : function.Function → TypeMismatch → Option (List ℕ)
placed_mismatch_text whole mismatch =
    Some (path_text (tree_of whole.body) mismatch.statement)
    ++? (Some (codes ": ") ++? requirement_text mismatch.requirement)

-- what has an initial value
abbrev pub initialized_text : Initialized → List ℕ
initialized_text (initial.Constant handle) = codes "constant " ++ decimal handle
initialized_text (initial.Override handle) = codes "override " ++ decimal handle
initialized_text (initial.GlobalVariable handle) = codes "global variable " ++ decimal handle
initialized_text (initial.LocalVariable handle) = codes "local variable " ++ decimal handle

-- an expression or an initial value at fault
abbrev pub value_fault_text : ValueFault → Option (List ℕ)
value_fault_text (NoType expression error) = None
value_fault_text (Operand expression unmet) =
    Some (codes "expression ") ++? (Some (decimal expression) ++? (Some (codes ": ") ++? unmet_text unmet))
value_fault_text (Initial declared unmet) = Some (initialized_text declared) ++? (Some (codes ": ") ++? unmet_text unmet)

-- why the check of values fails
abbrev pub invalid_values_text : InvalidValues → Option (List ℕ)
invalid_values_text values.Memory = Some (codes "out of memory")
invalid_values_text (values.Fault of) = value_fault_text of

-- a fault of the types of a function, with the number of its statement
abbrev pub type_fault_text : TypeFault → Option (List ℕ)
type_fault_text (fault.Value of) = value_fault_text of
type_fault_text (fault.Mismatch mismatch found) = with_found (mismatch_text mismatch) found

-- a fault of the types of a function, with the path to its statement
abbrev pub placed_type_fault_text : function.Function → TypeFault → Option (List ℕ)
placed_type_fault_text whole (fault.Value of) = value_fault_text of
placed_type_fault_text whole (fault.Mismatch mismatch found) = with_found (placed_mismatch_text whole mismatch) found

-- why the check of a function fails
abbrev pub invalid_function_text : InvalidFunction → Option (List ℕ)
invalid_function_text inside.Memory = Some (codes "out of memory")
invalid_function_text (inside.Fault of) = type_fault_text of

-- a function at fault
abbrev pub mistyped_function_text : MistypedFunction → Option (List ℕ)
mistyped_function_text mistyped =
    Some (owner_text mistyped.owner) ++? (Some (codes ": ") ++? type_fault_text mistyped.fault)

-- a declaration at fault
abbrev pub declaration_text : ValueFault → Option (List ℕ)
declaration_text (Initial declared unmet) = value_fault_text (Initial declared unmet)
declaration_text of = Some (codes "global ") ++? value_fault_text of

-- why the check of types fails
abbrev pub invalid_types_text : InvalidTypes → Option (List ℕ)
invalid_types_text invalid.Memory = Some (codes "out of memory")
invalid_types_text (invalid.Declaration of) = declaration_text of
invalid_types_text (invalid.Function mistyped) = mistyped_function_text mistyped
