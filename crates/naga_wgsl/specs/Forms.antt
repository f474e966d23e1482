-- The texts of expressions, by their operands, variant by variant.
use Rattle.std.specs.Prelude.{ℕ, ◌==◌, List, [], ◌∷◌, ◌++◌, Option, Some, None, Result, Ok, Err, String, codes, flat_map, if◌then◌else◌, slice_get, take, unwrap_or}
use Rattle.std.specs.Fmt.{decimal}
use Rattle.std.specs.Option.{option_to_list}
use Rattle.std.specs.declared.alloc.Global.{Global}
use Rattle.std.specs.declared.vec.Vec.{Vec}
use Rattle.naga_kinds.specs.Scalar.{components_of}
use Rattle.naga_kinds.specs.declared.operator.SwizzleComponent.{SwizzleComponent}
use Rattle.naga_kinds.specs.declared.operator.SwizzleComponent.TheVariants as component
use Rattle.naga_kinds.specs.declared.scalar.ScalarKind.{ScalarKind}
use Rattle.naga_kinds.specs.declared.scalar.VectorSize.{VectorSize}
use Rattle.naga_ir.specs.declared.expression.Expression.{Expression}
use Rattle.naga_ir.specs.declared.expression.Expression.TheVariants as expression
use Rattle.naga_wgsl.specs.declared.scope.Scope.{Scope}
use Rattle.naga_wgsl.specs.declared.scope.Shape.{Shape}
use Rattle.naga_wgsl.specs.declared.scope.Shape.TheVariants as shape
use Rattle.naga_wgsl.specs.declared.write_error.Cause.{Cause}
use Rattle.naga_wgsl.specs.declared.write_error.Cause.TheVariants as cause
use Rattle.naga_wgsl.specs.Literals.{text_of_literal}
use Rattle.naga_wgsl.specs.Operations.{access_text, between, call_text, followed, infix_text, named_call_text, prefix_text}
use Rattle.naga_wgsl.specs.Operators.{binary_operator_text, derivative_text, math_text, relational_text, unary_operator_text}
use Rattle.naga_wgsl.specs.TypeTexts.{name_at, text_at}
use Rattle.naga_wgsl.specs.Types.{matrix_text, name_or, scalar_text, size_text, vector_text}

-- ---- parts of values

-- a component of a vector
abbrev pub component_letter : SwizzleComponent → List ℕ
component_letter component.X = codes "x"
component_letter component.Y = codes "y"
component_letter component.Z = codes "z"
component_letter component.W = codes "w"

-- the components that a pattern selects, as many as the vector has
abbrev pub letters : VectorSize → (pattern : List SwizzleComponent) → List ℕ
letters size pattern = flat_map component_letter (take (components_of size) pattern)

-- a component by its index, if there is one
abbrev pub component_name : (index : ℕ) → Option (List ℕ)
component_name index =
    if index == 0 then Some (codes ".x") else
    if index == 1 then Some (codes ".y") else
    if index == 2 then Some (codes ".z") else
    if index == 3 then Some (codes ".w") else None

-- a member, if it has a name
abbrev pub member_text : Result (List ℕ) Cause → Result (List ℕ) Cause
member_text name = followed (Ok (codes ".")) name

-- an element by a constant index
abbrev pub element_text : (index : ℕ) → List ℕ
element_text index = codes "[" ++ (decimal index ++ codes "]")

-- the names of the members of the structure with this handle, or none
abbrev pub names_in : Option (Vec (String Global) Global) → List (String Global)
names_in (Some names) = names.items
names_in None = []

abbrev pub names_of : List (Vec (String Global) Global) → (handle : ℕ) → List (String Global)
names_of members handle = names_in (slice_get members handle)

-- the part with this index of a value of this shape
abbrev pub part_text : List (Vec (String Global) Global) → Shape → (index : ℕ) → Result (List ℕ) Cause
part_text members (shape.Scalar scalar) index = Err cause.Part
part_text members (shape.Vector size scalar) index = name_or cause.Part (component_name index)
part_text members (shape.Matrix columns rows scalar) index = Ok (element_text index)
part_text members shape.Atomic index = Err cause.Part
part_text members shape.Array index = Ok (element_text index)
part_text members (shape.Struct handle) index = member_text (name_at (names_of members handle) index)
part_text members shape.Other index = Err cause.Part

-- ---- conversions

-- the type to which a value of this shape is converted; without a width, its bits are kept
abbrev pub target_text : Shape → ScalarKind → (convert : Option ℕ) → Result (List ℕ) Cause
target_text (shape.Scalar scalar) kind convert = scalar_text (record { kind = kind; width = unwrap_or convert scalar.width })
target_text (shape.Vector size scalar) kind convert = vector_text size (record { kind = kind; width = unwrap_or convert scalar.width })
target_text (shape.Matrix columns rows scalar) kind (Some width) = matrix_text columns rows (record { kind = kind; width = width })
target_text (shape.Matrix columns rows scalar) kind None = Err cause.Cast
target_text shape.Atomic kind convert = Err cause.Cast
target_text shape.Array kind convert = Err cause.Cast
target_text (shape.Struct handle) kind convert = Err cause.Cast
target_text shape.Other kind convert = Err cause.Cast

-- a value that is converted to a type, or whose bits are kept
abbrev pub cast_text : (target operand : Result (List ℕ) Cause) → (convert : Option ℕ) → Result (List ℕ) Cause
cast_text (Ok target) operand (Some width) = between (target ++ codes "(") operand (codes ")")
cast_text (Ok target) operand None = between (codes "bitcast<" ++ (target ++ codes ">(")) operand (codes ")")
cast_text (Err cause) operand convert = Err cause

-- ---- places

-- the value at a place: that of an atomic is loaded by a function
abbrev pub load_text : Shape → (place : Result (List ℕ) Cause) → Result (List ℕ) Cause
load_text shape.Atomic place = between (codes "atomicLoad(&") place (codes ")")
load_text _ place = place

-- ---- expressions

module _ (scope : Scope) (known : List (Result (List ℕ) Cause)) (shape : Shape) where
  -- an expression, whose operands have these texts, and whose first operand has this shape
  abbrev pub form_text : Expression → Result (List ℕ) Cause
  form_text (expression.Literal literal) = text_of_literal literal
  form_text (expression.Constant handle) = name_at scope.constants.now handle
  form_text (expression.Override handle) = name_at scope.overrides.now handle
  form_text (expression.ZeroValue ty) = between [] (text_at scope.types.now ty) (codes "()")
  form_text (expression.Compose ty components) = named_call_text known (text_at scope.types.now ty) components.items
  form_text (expression.Access base index) = access_text (text_at known base) (text_at known index)
  form_text (expression.AccessIndex base index) = followed (text_at known base) (part_text scope.members.now shape index)
  form_text (expression.Splat size value) = call_text known (codes "vec" ++ size_text size) (value ∷ [])
  form_text (expression.Swizzle size vector pattern) = followed (text_at known vector) (Ok (codes "." ++ letters size pattern))
  form_text (expression.FunctionArgument index) = name_at scope.arguments.now index
  form_text (expression.GlobalVariable handle) = name_at scope.global_variables.now handle
  form_text (expression.LocalVariable handle) = name_at scope.local_variables.now handle
  form_text (expression.Load pointer) = load_text shape (text_at known pointer)
  form_text (expression.ImageSample image sampler gather coordinate array_index offset level depth_ref clamp_to_edge) = Err cause.ImageUse
  form_text (expression.ImageLoad image coordinate array_index sample level) = Err cause.ImageUse
  form_text (expression.ImageQuery image query) = Err cause.ImageUse
  form_text (expression.Unary op expr) = prefix_text (unary_operator_text op) (text_at known expr)
  form_text (expression.Binary op left right) = infix_text (text_at known left) (binary_operator_text op) (text_at known right)
  form_text (expression.Select condition accept reject) = call_text known (codes "select") (reject ∷ accept ∷ condition ∷ [])
  form_text (expression.Derivative axis control expr) = call_text known (derivative_text axis control) (expr ∷ [])
  form_text (expression.Relational fun argument) = named_call_text known (name_or cause.Function (relational_text fun)) (argument ∷ [])
  form_text (expression.Math fun arg arg1 arg2 arg3) =
      named_call_text known (name_or cause.Function (math_text fun)) (arg ∷ (option_to_list arg1 ++ (option_to_list arg2 ++ option_to_list arg3)))
  form_text (expression.As expr kind convert) = cast_text (target_text shape kind convert) (text_at known expr) convert
  form_text (expression.CallResult function) = Err cause.Unnamed
  form_text (expression.AtomicResult ty comparison) = Err cause.Unnamed
  form_text (expression.WorkGroupUniformLoadResult ty) = Err cause.Unnamed
  form_text (expression.ArrayLength array) = between (codes "arrayLength(&") (text_at known array) (codes ")")
  form_text (expression.RayQueryVertexPositions query committed) = Err cause.RayTracing
  form_text expression.RayQueryProceedResult = Err cause.RayTracing
  form_text (expression.RayQueryGetIntersection query committed) = Err cause.RayTracing
  form_text expression.SubgroupBallotResult = Err cause.Unnamed
  form_text (expression.SubgroupOperationResult ty) = Err cause.Unnamed
  form_text (expression.CooperativeLoad columns rows role «data») = Err cause.CooperativeMatrix
  form_text (expression.CooperativeMultiplyAdd a b c) = Err cause.CooperativeMatrix
