-- What a renamed expression or statement requires is what it required, renamed.
use Rattle.std.proofs.Common.{◌≡◌, ◌∙◌, ap, sym, refl, ℕ, ◌+◌, List, [], ◌∷◌, ◌++◌, map, Option, None, Some}
use Rattle.std.proofs.lemmas.List.{length-map, map-append, with_items_is}
use Rattle.std.proofs.lemmas.Option.{slice_get-map}
use Rattle.std.specs.Option.{option_map}
use Rattle.std.specs.Prelude.{take}
use Rattle.naga_arena.specs.declared.span.Span.{Span}
use Rattle.naga_kinds.specs.Scalar.{components_of}
use Rattle.naga_kinds.specs.declared.math.MathFunction.{MathFunction}
use Rattle.naga_kinds.specs.declared.math.MathFunction.TheVariants as fun
use Rattle.naga_kinds.specs.declared.operator.BinaryOperator.{BinaryOperator}
use Rattle.naga_kinds.specs.declared.operator.BinaryOperator.TheVariants as op
use Rattle.naga_kinds.specs.declared.operator.SwizzleComponent.{SwizzleComponent}
use Rattle.naga_kinds.specs.declared.scalar.TheConstants.Scalar.{BOOL, I32, U32}
use Rattle.naga_kinds.specs.declared.switch.SwitchValue.{SwitchValue}
use Rattle.naga_kinds.specs.declared.switch.SwitchValue.TheVariants as number
use Rattle.naga_ir.specs.Tree.{Tree, empty, push, Node, plain, nested, branch, switch, loop, jump, Jump, return, Cases, no_cases, case}
use Rattle.naga_ir.specs.declared.expression.AtomicFunction.{AtomicFunction}
use Rattle.naga_ir.specs.declared.expression.AtomicFunction.TheVariants.{Add, Subtract, Exchange}
use Rattle.naga_ir.specs.declared.expression.Expression.{Expression}
use Rattle.naga_ir.specs.declared.expression.Expression.TheVariants.{Compose, Swizzle, ImageSample, ImageLoad, ImageQuery, Binary, Math}
use Rattle.naga_ir.specs.declared.expression.GatherMode.{GatherMode}
use Rattle.naga_ir.specs.declared.expression.GatherMode.TheVariants.{Broadcast, Shuffle, ShuffleDown, ShuffleUp, ShuffleXor, QuadBroadcast}
use Rattle.naga_ir.specs.declared.expression.ImageQuery as query
use Rattle.naga_ir.specs.declared.expression.ImageQuery.TheVariants.{Size}
use Rattle.naga_ir.specs.declared.expression.SampleLevel.{SampleLevel}
use Rattle.naga_ir.specs.declared.expression.SampleLevel.TheVariants.{Exact, Bias, Gradient}
use Rattle.naga_ir.specs.declared.statement.RayPipelineFunction.TheVariants.{TraceRay}
use Rattle.naga_ir.specs.declared.statement.RayQueryFunction.{RayQueryFunction}
use Rattle.naga_ir.specs.declared.statement.RayQueryFunction.TheVariants.{Initialize, Proceed, GenerateIntersection}
use Rattle.naga_ir.specs.declared.statement.Statement.{Statement, ImageStore, Atomic, ImageAtomic, Call, RayQuery, RayPipelineFunction, SubgroupBallot, SubgroupGather}
use Rattle.naga_compact.specs.Mapping.{map_jump}
use Rattle.naga_compact.specs.Renaming.{Renaming}
use Rattle.naga_compact.specs.Renaming.Blocks.{rename_cases, rename_node, rename_tree}
use Rattle.naga_compact.specs.derived.Renaming.{rename_atomic_function, rename_expression, rename_gather_mode, rename_image_query, rename_ray_query_function, rename_sample_level, rename_statement}
use Rattle.naga_typing.specs.Composites.{first_components}
use Rattle.naga_typing.specs.Expressions as of_expressions
use Rattle.naga_typing.specs.Expressions.{float, float_position, given, has_level_if, of_components, of_compose, of_depths, of_derivative, of_expected, of_if, of_level, of_load, of_math, of_parts, of_pattern, of_place, of_sample, of_sampled, of_second, of_third, required_by_expression, second_argument, taken_right, third_argument}
use Rattle.naga_typing.specs.RenamedRequirements.{rename_expected, rename_first, rename_slot, rename_source}
use Rattle.naga_typing.specs.Statements.{atomic_result, combined, compared, gather_index, integer, integer_if, of_arguments, of_atomic, of_call, of_cases, of_combined, of_image, of_image_atomic, of_jump, of_kind, of_query, of_type, of_type_if, required, required_by, selects, statements, statements_inside, statements_of_cases}
use Rattle.naga_typing.specs.declared.requirement.Expected.{Expected}
use Rattle.naga_typing.specs.declared.requirement.Expected.TheVariants as expected
use Rattle.naga_typing.specs.declared.requirement.Kind.TheVariants as kind
use Rattle.naga_typing.specs.declared.requirement.Requirement.{Requirement}
use Rattle.naga_typing.specs.declared.requirement.Requirement.TheVariants as requirement
use Rattle.naga_typing.specs.declared.requirement.Scalars.{Scalars}
use Rattle.naga_typing.specs.declared.requirement.Scalars.TheVariants as scalars
use Rattle.naga_typing.specs.declared.requirement.Source.{Source}
use Rattle.naga_typing.specs.declared.requirement.Source.TheVariants as source
use Rattle.naga_typing.proofs.IsOfRenamedLemmas.{is_some-mapped}

module _ (r : Renaming) where
  abbrev e : ℕ → ℕ
  e = r.expressions

  abbrev e_if : Option ℕ → Option ℕ
  e_if = option_map r.expressions

  abbrev renamed : List (Option Requirement) → List (Option Requirement)
  renamed = map (rename_slot r)

  -- ---- one operand that may be absent

  integer_if-renamed : (operand : Option ℕ) → integer_if (e_if operand) ≡ rename_slot r (integer_if operand)
  integer_if-renamed None = refl
  integer_if-renamed (Some operand) = refl

  of_type_if-renamed : (from : Source) (operand : Option ℕ) → of_type_if (rename_source r from) (e_if operand) ≡ rename_slot r (of_type_if from operand)
  of_type_if-renamed from None = refl
  of_type_if-renamed from (Some operand) = refl

  of_if-renamed : (what : Expected) (operand : Option ℕ) → of_if (rename_expected r what) (e_if operand) ≡ rename_slot r (of_if what operand)
  of_if-renamed what None = refl
  of_if-renamed what (Some operand) = refl

  -- ---- composite values and swizzles

  first_components-renamed : (components : List ℕ) → first_components (map e components) ≡ rename_first r (first_components components)
  first_components-renamed components = λ i. record {
    first = slice_get-map r.expressions components 0 i;
    second = slice_get-map r.expressions components 1 i;
    third = slice_get-map r.expressions components 2 i;
    fourth = slice_get-map r.expressions components 3 i;
  }

  of_components-renamed : (ty position : ℕ) (components : List ℕ) → of_components (r.types ty) position (map e components) ≡ renamed (of_components ty position components)
  of_components-renamed ty position [] = refl
  of_components-renamed ty position (component ∷ rest) = λ i.
      of_expressions.of (expected.Component (r.types ty) position) (e component) ∷ of_components-renamed ty (position + 1) rest i

  of_parts-renamed : (ty : ℕ) (components : List ℕ) → of_parts (r.types ty) (map e components) ≡ renamed (of_parts ty components)
  of_parts-renamed ty components =
      (λ i. of_components-renamed ty 0 components i ++ Some (requirement.VectorEntries (r.types ty) (first_components-renamed components i)) ∷ [])
      ∙ sym (map-append (rename_slot r) (of_components ty 0 components) (Some (requirement.VectorEntries ty (first_components components)) ∷ []))

  of_compose-renamed : (ty : ℕ) (components : List ℕ) → of_compose (r.types ty) (map e components) ≡ renamed (of_compose ty components)
  of_compose-renamed ty components = λ i.
      Some (requirement.ComponentCount (r.types ty) (length-map components r.expressions i)) ∷ of_parts-renamed ty components i

  of_pattern-renamed : (vector : ℕ) (pattern : List SwizzleComponent) → of_pattern (e vector) pattern ≡ renamed (of_pattern vector pattern)
  of_pattern-renamed vector [] = refl
  of_pattern-renamed vector (component ∷ rest) = λ i. of_place (e vector) component ∷ of_pattern-renamed vector rest i

  -- ---- operators

  taken_right-renamed : (of : BinaryOperator) (left : ℕ) → taken_right of (e left) ≡ rename_expected r (taken_right of left)
  taken_right-renamed op.Multiply left = refl
  taken_right-renamed op.ShiftLeft left = refl
  taken_right-renamed op.ShiftRight left = refl
  taken_right-renamed of left = refl

  second_argument-renamed : (of : MathFunction) (first : ℕ) → second_argument of (e first) ≡ option_map (rename_expected r) (second_argument of first)
  second_argument-renamed fun.Ldexp first = refl
  second_argument-renamed fun.Outer first = refl
  second_argument-renamed fun.ExtractBits first = refl
  second_argument-renamed of first = refl

  third_argument-renamed : (of : MathFunction) (first : ℕ) → third_argument of (e first) ≡ rename_expected r (third_argument of first)
  third_argument-renamed fun.Refract first = refl
  third_argument-renamed fun.Mix first = refl
  third_argument-renamed fun.ExtractBits first = refl
  third_argument-renamed fun.InsertBits first = refl
  third_argument-renamed of first = refl

  of_expected-renamed : (what : Option Expected) (operand : Option ℕ) → of_expected (option_map (rename_expected r) what) (e_if operand) ≡ rename_slot r (of_expected what operand)
  of_expected-renamed None operand = refl
  of_expected-renamed (Some what) operand = of_if-renamed what operand

  of_second-renamed : (of : MathFunction) (first : ℕ) (operand : Option ℕ) → of_second of (e first) (e_if operand) ≡ rename_slot r (of_second of first operand)
  of_second-renamed of first operand =
      ap (λ (what : Option Expected). of_expected what (e_if operand)) (second_argument-renamed of first) ∙ of_expected-renamed (second_argument of first) operand

  of_third-renamed : (of : MathFunction) (first : ℕ) (operand : Option ℕ) → of_third of (e first) (e_if operand) ≡ rename_slot r (of_third of first operand)
  of_third-renamed of first operand =
      ap (λ (what : Expected). of_if what (e_if operand)) (third_argument-renamed of first) ∙ of_if-renamed (third_argument of first) operand

  given-renamed : (of : MathFunction) (position : ℕ) (operand : Option ℕ) → given of position (e_if operand) ≡ rename_slot r (given of position operand)
  given-renamed of position operand = λ i. Some (requirement.MathArgument of position (is_some-mapped r.expressions operand i))

  of_math-renamed : (of : MathFunction) (first : ℕ) (arg1 arg2 arg3 : Option ℕ) → of_math of (e first) (e_if arg1) (e_if arg2) (e_if arg3) ≡ renamed (of_math of first arg1 arg2 arg3)
  of_math-renamed of first arg1 arg2 arg3 = λ i.
      given-renamed of 1 arg1 i ∷ given-renamed of 2 arg2 i ∷ given-renamed of 3 arg3 i ∷ of_second-renamed of first arg1 i ∷ of_third-renamed of first arg2 i
      ∷ of_type_if-renamed (source.Scalar U32) arg3 i ∷ []

  -- ---- images

  of_sampled-renamed : (image : ℕ) (gather : Option SwizzleComponent) → of_sampled (e image) gather ≡ rename_slot r (of_sampled image gather)
  of_sampled-renamed image None = refl
  of_sampled-renamed image (Some component) = refl

  of_depths-renamed : (image : ℕ) (depth_ref : Option ℕ) → of_depths (e image) (e_if depth_ref) ≡ rename_slot r (of_depths image depth_ref)
  of_depths-renamed image None = refl
  of_depths-renamed image (Some reference) = refl

  of_level-renamed : (image : ℕ) (level : SampleLevel) → of_level (e image) (rename_sample_level r level) ≡ rename_slot r (of_level image level)
  of_level-renamed image (Exact level) = refl
  of_level-renamed image (Bias offset) = refl
  of_level-renamed image (Gradient x y) = refl
  of_level-renamed image level = refl

  of_derivative-renamed : (image : ℕ) (level : SampleLevel) → of_derivative (e image) (rename_sample_level r level) ≡ rename_slot r (of_derivative image level)
  of_derivative-renamed image (Exact level) = refl
  of_derivative-renamed image (Bias offset) = refl
  of_derivative-renamed image (Gradient x y) = refl
  of_derivative-renamed image level = refl

  of_sample-renamed : (image sampler : ℕ) (gather : Option SwizzleComponent) (coordinate : ℕ) (array_index offset : Option ℕ) (level : SampleLevel) (depth_ref : Option ℕ) →
      of_sample (e image) (e sampler) gather (e coordinate) (e_if array_index) (e_if offset) (rename_sample_level r level) (e_if depth_ref) ≡ renamed (of_sample image sampler gather coordinate array_index offset level depth_ref)
  of_sample-renamed image sampler gather coordinate array_index offset level depth_ref = λ i.
      of_sampled-renamed image gather i ∷ of_depths-renamed image depth_ref i ∷ of_kind (e sampler) (kind.Sampler (is_some-mapped r.expressions depth_ref i))
      ∷ Some (requirement.Operand (e coordinate) (float_position (e image))) ∷ Some (requirement.Layers (e image) (is_some-mapped r.expressions array_index i))
      ∷ integer_if-renamed array_index i ∷ of_type_if-renamed (source.Position image I32) offset i ∷ of_level-renamed image level i
      ∷ of_derivative-renamed image level i ∷ of_if-renamed float depth_ref i ∷ []

  of_load-renamed : (image coordinate : ℕ) (array_index at level : Option ℕ) → of_load (e image) (e coordinate) (e_if array_index) (e_if at) (e_if level) ≡ renamed (of_load image coordinate array_index at level)
  of_load-renamed image coordinate array_index at level = λ i.
      of_kind (e image) kind.TexelImage ∷ of_expressions.of (expected.Coordinate (e image)) (e coordinate) ∷ Some (requirement.Layers (e image) (is_some-mapped r.expressions array_index i))
      ∷ integer_if-renamed array_index i ∷ Some (requirement.Samples (e image) (is_some-mapped r.expressions at i)) ∷ integer_if-renamed at i
      ∷ Some (requirement.Levels (e image) (is_some-mapped r.expressions level i)) ∷ integer_if-renamed level i ∷ []

  has_level_if-renamed : (image : ℕ) (level : Option ℕ) → has_level_if (e image) (e_if level) ≡ rename_slot r (has_level_if image level)
  has_level_if-renamed image None = refl
  has_level_if-renamed image (Some level) = refl

  of_image_query-renamed : (image : ℕ) (asked : query.ImageQuery) → of_expressions.of_query (e image) (rename_image_query r asked) ≡ renamed (of_expressions.of_query image asked)
  of_image_query-renamed image (Size level) = λ i. has_level_if-renamed image level i ∷ integer_if-renamed level i ∷ []
  of_image_query-renamed image asked = refl

  -- ---- expressions

  pub required_by_expression-renamed : (expression : Expression) → required_by_expression (rename_expression r expression) ≡ renamed (required_by_expression expression)
  required_by_expression-renamed (Compose ty components) =
      ap (of_compose (r.types ty)) (with_items_is components (map e components.items) (length-map components.items e ∙ sym components.ok.0))
      ∙ of_compose-renamed ty components.items
  required_by_expression-renamed (Swizzle size vector pattern) = of_pattern-renamed vector (take (components_of size) pattern)
  required_by_expression-renamed (ImageSample image sampler gather coordinate array_index offset level depth_ref clamp_to_edge) =
      of_sample-renamed image sampler gather coordinate array_index offset level depth_ref
  required_by_expression-renamed (ImageLoad image coordinate array_index at level) = of_load-renamed image coordinate array_index at level
  required_by_expression-renamed (ImageQuery image asked) = of_image_query-renamed image asked
  required_by_expression-renamed (Binary of left right) = λ i.
      of_kind (e left) (of_expressions.taken_left of) ∷ of_expressions.of (taken_right-renamed of left i) (e right) ∷ []
  required_by_expression-renamed (Math of arg arg1 arg2 arg3) = of_math-renamed of arg arg1 arg2 arg3
  required_by_expression-renamed expression = refl

  -- ---- plain statements

  of_image-renamed : (image coordinate : ℕ) (array_index : Option ℕ) (from : Source) (stored : ℕ) → of_image (e image) (e coordinate) (e_if array_index) (rename_source r from) (e stored) ≡ renamed (of_image image coordinate array_index from stored)
  of_image-renamed image coordinate array_index from stored = λ i.
      of_kind (e image) kind.StorageImage ∷ of_kind (e image) kind.TexelImage ∷ Some (requirement.Operand (e coordinate) (expected.Coordinate (e image)))
      ∷ Some (requirement.Layers (e image) (is_some-mapped r.expressions array_index i)) ∷ integer_if-renamed array_index i ∷ of_type (rename_source r from) (e stored) ∷ []

  compared-renamed : (of : AtomicFunction) → compared (rename_atomic_function r of) ≡ e_if (compared of)
  compared-renamed (Exchange compare) = refl
  compared-renamed of = refl

  atomic_result-renamed : (pointer : ℕ) (compare : Option ℕ) → atomic_result (e pointer) (e_if compare) ≡ rename_source r (atomic_result pointer compare)
  atomic_result-renamed pointer None = refl
  atomic_result-renamed pointer (Some compare) = refl

  combined-renamed : (of : AtomicFunction) → combined (rename_atomic_function r of) ≡ combined of
  combined-renamed Add = refl
  combined-renamed Subtract = refl
  combined-renamed (Exchange None) = refl
  combined-renamed (Exchange (Some compare)) = refl
  combined-renamed of = refl

  of_compared-renamed : (from : Source) (of : AtomicFunction) → of_type_if (rename_source r from) (compared (rename_atomic_function r of)) ≡ rename_slot r (of_type_if from (compared of))
  of_compared-renamed from of = ap (of_type_if (rename_source r from)) (compared-renamed of) ∙ of_type_if-renamed from (compared of)

  of_combined-renamed : (from : Source) (of : AtomicFunction) (stored : ℕ) → of_combined (rename_source r from) (rename_atomic_function r of) (e stored) ≡ renamed (of_combined from of stored)
  of_combined-renamed from of stored = λ i. of_kind (e stored) (kind.Single (combined-renamed of i)) ∷ of_compared-renamed from of i ∷ []

  of_atomic-renamed : (pointer : ℕ) (of : AtomicFunction) (stored : ℕ) (outcome : Option ℕ) → of_atomic (e pointer) (rename_atomic_function r of) (e stored) (e_if outcome) ≡ renamed (of_atomic pointer of stored outcome)
  of_atomic-renamed pointer of stored outcome = λ i.
      of_kind (e pointer) kind.AtomicPointer ∷ of_type (source.AtomicScalar (e pointer)) (e stored) ∷ of_kind (e stored) (kind.Single (combined-renamed of i))
      ∷ of_compared-renamed (source.AtomicScalar pointer) of i ∷ last i ∷ []
    where
      from : atomic_result (e pointer) (compared (rename_atomic_function r of)) ≡ rename_source r (atomic_result pointer (compared of))
      from = ap (atomic_result (e pointer)) (compared-renamed of) ∙ atomic_result-renamed pointer (compared of)

      last : of_type_if (atomic_result (e pointer) (compared (rename_atomic_function r of))) (e_if outcome) ≡ rename_slot r (of_type_if (atomic_result pointer (compared of)) outcome)
      last = ap (λ (it : Source). of_type_if it (e_if outcome)) from ∙ of_type_if-renamed (atomic_result pointer (compared of)) outcome

  of_image_atomic-renamed : (image coordinate : ℕ) (array_index : Option ℕ) (of : AtomicFunction) (stored : ℕ) → of_image_atomic (e image) (e coordinate) (e_if array_index) (rename_atomic_function r of) (e stored) ≡ renamed (of_image_atomic image coordinate array_index of stored)
  of_image_atomic-renamed image coordinate array_index of stored =
      (λ i. of_image-renamed image coordinate array_index (source.Component image) stored i ++ of_combined-renamed (source.Component image) of stored i)
      ∙ sym (map-append (rename_slot r) (of_image image coordinate array_index (source.Component image) stored) (of_combined (source.Component image) of stored))

  of_query-renamed : (of : RayQueryFunction) → of_query (rename_ray_query_function r of) ≡ renamed (of_query of)
  of_query-renamed (Initialize structure descriptor) = refl
  of_query-renamed (Proceed result) = refl
  of_query-renamed (GenerateIntersection hit_t) = refl
  of_query-renamed of = refl

  of_arguments-renamed : (function position : ℕ) (arguments : List ℕ) → of_arguments (r.functions function) position (map e arguments) ≡ renamed (of_arguments function position arguments)
  of_arguments-renamed function position [] = refl
  of_arguments-renamed function position (argument ∷ rest) = λ i.
      of_type (source.Argument (r.functions function) position) (e argument) ∷ of_arguments-renamed function (position + 1) rest i

  of_call-renamed : (function : ℕ) (arguments : List ℕ) (outcome : Option ℕ) → of_call (r.functions function) (map e arguments) (e_if outcome) ≡ renamed (of_call function arguments outcome)
  of_call-renamed function arguments outcome = λ i.
      Some (requirement.ArgumentCount (r.functions function) (length-map arguments r.expressions i))
      ∷ Some (requirement.CallResult (r.functions function) (is_some-mapped r.expressions outcome i)) ∷ of_arguments-renamed function 0 arguments i

  gather_index-renamed : (mode : GatherMode) → gather_index (rename_gather_mode r mode) ≡ e_if (gather_index mode)
  gather_index-renamed (Broadcast index) = refl
  gather_index-renamed (Shuffle index) = refl
  gather_index-renamed (ShuffleDown delta) = refl
  gather_index-renamed (ShuffleUp delta) = refl
  gather_index-renamed (ShuffleXor mask) = refl
  gather_index-renamed (QuadBroadcast index) = refl
  gather_index-renamed mode = refl

  gathered-renamed : (mode : GatherMode) → of_type_if (source.Scalar U32) (gather_index (rename_gather_mode r mode)) ≡ rename_slot r (of_type_if (source.Scalar U32) (gather_index mode))
  gathered-renamed mode = ap (of_type_if (source.Scalar U32)) (gather_index-renamed mode) ∙ of_type_if-renamed (source.Scalar U32) (gather_index mode)

  required-renamed : (what : Statement) → required (rename_statement r what) ≡ renamed (required what)
  required-renamed (ImageStore image coordinate array_index stored) = of_image-renamed image coordinate array_index (source.Texel image) stored
  required-renamed (Atomic pointer of stored result) = of_atomic-renamed pointer of stored result
  required-renamed (ImageAtomic image coordinate array_index of stored) = of_image_atomic-renamed image coordinate array_index of stored
  required-renamed (Call function arguments result) =
      ap (λ (items : List ℕ). of_call (r.functions function) items (e_if result)) (with_items_is arguments (map e arguments.items) (length-map arguments.items e ∙ sym arguments.ok.0))
      ∙ of_call-renamed function arguments.items result
  required-renamed (RayQuery asked of) = λ i. of_kind (e asked) kind.RayQueryPointer ∷ of_query-renamed of i
  required-renamed (RayPipelineFunction (TraceRay structure descriptor payload)) = refl
  required-renamed (SubgroupBallot result predicate) = λ i. of_type_if-renamed (source.Scalar BOOL) predicate i ∷ []
  required-renamed (SubgroupGather mode argument result) = λ i.
      gathered-renamed mode i ∷ of_type (source.Same (e result)) (e argument) ∷ of_kind (e argument) (kind.Components scalars.Any) ∷ []
  required-renamed what = refl

  -- ---- statements

  selects-renamed : (selector : ℕ) (chosen : SwitchValue) → selects (e selector) chosen ≡ rename_slot r (selects selector chosen)
  selects-renamed selector number.Default = refl
  selects-renamed selector chosen = refl

  of_cases-renamed : (selector : ℕ) (cases : Cases) → of_cases (e selector) (rename_cases r cases) ≡ renamed (of_cases selector cases)
  of_cases-renamed selector no_cases = refl
  of_cases-renamed selector (case chosen body falls_through others) = λ i. selects-renamed selector chosen i ∷ of_cases-renamed selector others i

  of_jump-renamed : (to : Jump) → of_jump (map_jump r.expressions to) ≡ renamed (of_jump to)
  of_jump-renamed (return None) = refl
  of_jump-renamed (return (Some returned)) = refl
  of_jump-renamed to = refl

  pub required_by-renamed : (node : Node) → required_by (rename_node r node) ≡ renamed (required_by node)
  required_by-renamed (plain what) = required-renamed what
  required_by-renamed (nested inner) = refl
  required_by-renamed (branch condition accept reject) = refl
  required_by-renamed (switch selector cases) = λ i. integer (e selector) ∷ of_cases-renamed selector cases i
  required_by-renamed (loop body continuing break_if) = λ i. of_type_if-renamed (source.Scalar BOOL) break_if i ∷ []
  required_by-renamed (jump to) = of_jump-renamed to

  -- ---- the statements of a block

  -- a statement with its handles renamed, and its span
  abbrev pub rename_entry : Node × Span → Node × Span
  rename_entry entry = (rename_node r entry.0, entry.1)

  mutual
    pub statements-renamed : (tree : Tree) → statements (rename_tree r tree) ≡ map rename_entry (statements tree)
    statements-renamed empty = refl
    statements-renamed (push front last span) =
        (λ i. statements-renamed front i ++ (rename_node r last, span) ∷ inside-renamed last i)
        ∙ sym (map-append rename_entry (statements front) ((last, span) ∷ statements_inside last))

    inside-renamed : (node : Node) → statements_inside (rename_node r node) ≡ map rename_entry (statements_inside node)
    inside-renamed (plain what) = refl
    inside-renamed (nested inner) = statements-renamed inner
    inside-renamed (branch condition accept reject) =
        (λ i. statements-renamed accept i ++ statements-renamed reject i) ∙ sym (map-append rename_entry (statements accept) (statements reject))
    inside-renamed (switch selector cases) = cases-renamed cases
    inside-renamed (loop body continuing break_if) =
        (λ i. statements-renamed body i ++ statements-renamed continuing i) ∙ sym (map-append rename_entry (statements body) (statements continuing))
    inside-renamed (jump to) = refl

    cases-renamed : (cases : Cases) → statements_of_cases (rename_cases r cases) ≡ map rename_entry (statements_of_cases cases)
    cases-renamed no_cases = refl
    cases-renamed (case chosen body falls_through others) =
        (λ i. statements-renamed body i ++ cases-renamed others i) ∙ sym (map-append rename_entry (statements body) (statements_of_cases others))
