-- What an expression or a statement requires names only what the expression or the statement refers to.
use Rattle.std.proofs.Common.{ℕ, zero, suc, ◌+◌, List, [], ◌∷◌, ◌++◌, Option, None, Some}
use Rattle.std.specs.List.{AllByRecursion}
use Rattle.std.specs.Prelude.{IfSome, option_to_list, slice_get, take}
use Rattle.std.specs.Option.{option_map}
use Rattle.naga_arena.specs.declared.span.Span.{Span}
use Rattle.naga_kinds.specs.Scalar.{components_of}
use Rattle.naga_kinds.specs.declared.math.MathFunction.{MathFunction}
use Rattle.naga_kinds.specs.declared.math.MathFunction.TheVariants as fun
use Rattle.naga_kinds.specs.declared.operator.BinaryOperator.{BinaryOperator}
use Rattle.naga_kinds.specs.declared.operator.BinaryOperator.TheVariants as op
use Rattle.naga_kinds.specs.declared.operator.SwizzleComponent.{SwizzleComponent}
use Rattle.naga_kinds.specs.declared.scalar.TheConstants.Scalar.{BOOL, I32, U32}
use Rattle.naga_kinds.specs.declared.switch.SwitchValue.{SwitchValue}
use Rattle.naga_kinds.specs.declared.switch.SwitchValue.TheVariants as number
use Rattle.naga_ir.specs.Tree.{Tree, empty, push, Node, plain, nested, branch, switch, loop, jump, Jump, return, Cases, no_cases, case}
use Rattle.naga_ir.specs.declared.expression.AtomicFunction.{AtomicFunction}
use Rattle.naga_ir.specs.declared.expression.AtomicFunction.TheVariants.{Exchange}
use Rattle.naga_ir.specs.declared.expression.Expression.{Expression}
use Rattle.naga_ir.specs.declared.expression.Expression.TheVariants as expression
use Rattle.naga_ir.specs.declared.expression.GatherMode.{GatherMode}
use Rattle.naga_ir.specs.declared.expression.GatherMode.TheVariants.{Broadcast, Shuffle, ShuffleDown, ShuffleUp, ShuffleXor, QuadBroadcast}
use Rattle.naga_ir.specs.declared.expression.ImageQuery as query
use Rattle.naga_ir.specs.declared.expression.ImageQuery.TheVariants.{Size}
use Rattle.naga_ir.specs.declared.expression.SampleLevel.{SampleLevel}
use Rattle.naga_ir.specs.declared.expression.SampleLevel.TheVariants.{Exact, Bias, Gradient}
use Rattle.naga_ir.specs.declared.statement.RayPipelineFunction.TheVariants.{TraceRay}
use Rattle.naga_ir.specs.declared.statement.RayQueryFunction.{RayQueryFunction}
use Rattle.naga_ir.specs.declared.statement.RayQueryFunction.TheVariants.{Initialize, Proceed, GenerateIntersection}
use Rattle.naga_ir.specs.declared.statement.Statement.{Statement, ImageStore, Atomic, ImageAtomic, Call, RayQuery, RayPipelineFunction, SubgroupBallot, SubgroupGather}
use Rattle.naga_valid.specs.Expressions.{first_of_sample_level, operand_of_image_query, references_of_expression, second_of_sample_level}
use Rattle.naga_valid.specs.Reference.{operands, present}
use Rattle.naga_valid.specs.Statements.{operand_of_atomic_function, operand_of_gather_mode, operands_of_ray_query_function, references_of_cases, references_of_jump, references_of_node, references_of_statement, references_of_tree}
use Rattle.naga_valid.specs.declared.reference.Reference.{Reference}
use Rattle.naga_valid.specs.declared.reference.Reference.TheVariants as reference
use Rattle.naga_typing.specs.Composites.{first_components}
use Rattle.naga_typing.specs.Expressions as of_expressions
use Rattle.naga_typing.specs.Expressions.{float, has_level_if, of_components, of_compose, of_depths, of_derivative, of_expected, of_if, of_level, of_pattern, of_sampled, of_second, of_third, required_by_expression, second_argument, taken_right, third_argument}
use Rattle.naga_typing.specs.RenamedRequirements.{ExpectedNames, OperandNames, SlotNames, SourceNames}
use Rattle.naga_typing.specs.Statements.{atomic_result, compared, gather_index, integer_if, of_arguments, of_cases, of_combined, of_image, of_jump, of_query, of_type_if, required, required_by, selects, statements, statements_inside, statements_of_cases}
use Rattle.naga_typing.specs.declared.requirement.Expected.{Expected}
use Rattle.naga_typing.specs.declared.requirement.Requirement.{Requirement}
use Rattle.naga_typing.specs.declared.requirement.Requirement.TheVariants as requirement
use Rattle.naga_typing.specs.declared.requirement.Source.{Source}
use Rattle.naga_typing.specs.declared.requirement.Source.TheVariants as source

module _ {X : Type 0} (P : X → Type 0) where
  -- what holds of each element of two lists holds of each element of either
  parts : (xs ys : List X) → AllByRecursion P (xs ++ ys) → AllByRecursion P xs × AllByRecursion P ys
  parts [] ys h = (tt, h)
  parts (x ∷ xs) ys h = let rest = parts xs ys h.1 in ((h.0, rest.0), rest.1)

  -- the other way round
  joined : (xs ys : List X) → AllByRecursion P xs → AllByRecursion P ys → AllByRecursion P (xs ++ ys)
  joined [] ys before after = after
  joined (x ∷ xs) ys before after = (before.0, joined xs ys before.1 after)

module _ (P : Reference → Type 0) where
  abbrev In : ℕ → Type 0
  In operand = P (reference.Expression operand)

  abbrev InIf : Option ℕ → Type 0
  InIf operand = IfSome operand In

  abbrev Refers : List Reference → Type 0
  Refers = AllByRecursion P

  abbrev Names : List (Option Requirement) → Type 0
  Names = AllByRecursion (SlotNames P)

  -- the operands that are present
  present-in : (handles : List (Option ℕ)) → Refers (present handles) → AllByRecursion InIf handles
  present-in [] h = tt
  present-in (None ∷ handles) h = (tt, present-in handles h)
  present-in (Some handle ∷ handles) h = (h.0, present-in handles h.1)

  -- ---- one operand that may be absent

  integer_if-names : (operand : Option ℕ) → InIf operand → SlotNames P (integer_if operand)
  integer_if-names None h = tt
  integer_if-names (Some operand) h = (h, tt)

  of_type_if-names : (from : Source) → SourceNames P from → (operand : Option ℕ) → InIf operand → SlotNames P (of_type_if from operand)
  of_type_if-names from so None h = tt
  of_type_if-names from so (Some operand) h = (h, so)

  of_if-names : (what : Expected) → ExpectedNames P what → (operand : Option ℕ) → InIf operand → SlotNames P (of_if what operand)
  of_if-names what so None h = tt
  of_if-names what so (Some operand) h = (h, so)

  -- ---- composite values and swizzles

  element-names : (position : ℕ) (components : List ℕ) → Refers (operands components) → OperandNames P (slice_get components position)
  element-names zero [] h = tt
  element-names (suc position) [] h = tt
  element-names zero (component ∷ rest) h = h.0
  element-names (suc position) (component ∷ rest) h = element-names position rest h.1

  of_components-names : (ty : ℕ) → P (reference.«Type» ty) → (position : ℕ) (components : List ℕ) → Refers (operands components) → Names (of_components ty position components)
  of_components-names ty composed position [] h = tt
  of_components-names ty composed position (component ∷ rest) h = ((h.0, composed), of_components-names ty composed (position + 1) rest h.1)

  of_compose-names : (ty : ℕ) → P (reference.«Type» ty) → (components : List ℕ) → Refers (operands components) → Names (of_compose ty components)
  of_compose-names ty composed components h =
      let at = λ (position : ℕ). element-names position components h in (composed, joined (SlotNames P) (of_components ty 0 components) (Some (requirement.VectorEntries ty (first_components components)) ∷ []) (of_components-names ty composed 0 components h) ((composed, (at 0, at 1, at 2, at 3)), tt))

  of_pattern-names : (vector : ℕ) → In vector → (pattern : List SwizzleComponent) → Names (of_pattern vector pattern)
  of_pattern-names vector h [] = tt
  of_pattern-names vector h (component ∷ rest) = ((h, tt), of_pattern-names vector h rest)

  -- ---- operators

  taken_right-names : (of : BinaryOperator) (left : ℕ) → In left → ExpectedNames P (taken_right of left)
  taken_right-names op.Multiply left h = h
  taken_right-names op.ShiftLeft left h = h
  taken_right-names op.ShiftRight left h = h
  taken_right-names of left h = h

  second_argument-names : (of : MathFunction) (first : ℕ) → In first → IfSome (second_argument of first) (ExpectedNames P)
  second_argument-names fun.Ldexp first h = h
  second_argument-names fun.Outer first h = tt
  second_argument-names fun.ExtractBits first h = tt
  second_argument-names of first h = h

  third_argument-names : (of : MathFunction) (first : ℕ) → In first → ExpectedNames P (third_argument of first)
  third_argument-names fun.Refract first h = h
  third_argument-names fun.Mix first h = (h, h)
  third_argument-names fun.ExtractBits first h = tt
  third_argument-names fun.InsertBits first h = tt
  third_argument-names of first h = h

  of_expected-names : (what : Option Expected) → IfSome what (ExpectedNames P) → (operand : Option ℕ) → InIf operand → SlotNames P (of_expected what operand)
  of_expected-names None so operand h = tt
  of_expected-names (Some what) so operand h = of_if-names what so operand h

  -- ---- images

  of_sampled-names : (image : ℕ) → In image → (gather : Option SwizzleComponent) → SlotNames P (of_sampled image gather)
  of_sampled-names image h None = (h, tt)
  of_sampled-names image h (Some component) = (h, tt)

  of_depths-names : (image : ℕ) → In image → (depth_ref : Option ℕ) → SlotNames P (of_depths image depth_ref)
  of_depths-names image h None = tt
  of_depths-names image h (Some depth) = (h, tt)

  of_level-names : (image : ℕ) → In image → (level : SampleLevel) → InIf (first_of_sample_level level) → SlotNames P (of_level image level)
  of_level-names image h (Exact level) at = (at, h)
  of_level-names image h (Bias offset) at = (at, (tt, tt))
  of_level-names image h (Gradient x y) at = (at, (h, h))
  of_level-names image h level at = tt

  of_derivative-names : (image : ℕ) → In image → (level : SampleLevel) → InIf (second_of_sample_level level) → SlotNames P (of_derivative image level)
  of_derivative-names image h (Gradient x y) at = (at, (h, h))
  of_derivative-names image h level at = tt

  has_level_if-names : (image : ℕ) → In image → (level : Option ℕ) → SlotNames P (has_level_if image level)
  has_level_if-names image h None = tt
  has_level_if-names image h (Some level) = h

  of_image_query-names : (image : ℕ) → In image → (asked : query.ImageQuery) → InIf (operand_of_image_query asked) → Names (of_expressions.of_query image asked)
  of_image_query-names image h (Size level) at = (has_level_if-names image h level, (integer_if-names level at, tt))
  of_image_query-names image h asked at = (h, tt)

  -- ---- expressions

  pub required_by_expression-names : (e : Expression) → Refers (references_of_expression e) → Names (required_by_expression e)
  required_by_expression-names (expression.Compose ty components) h = of_compose-names ty h.0 components.items h.1
  required_by_expression-names (expression.Swizzle size vector pattern) h = of_pattern-names vector h.0 (take (components_of size) pattern)
  required_by_expression-names (expression.ImageSample image sampler gather coordinate array_index offset level depth_ref clamp_to_edge) h =
      let of = present-in (Some image ∷ Some sampler ∷ Some coordinate ∷ array_index ∷ offset ∷ first_of_sample_level level ∷ second_of_sample_level level ∷ depth_ref ∷ []) h in (of_sampled-names image of.0 gather, (of_depths-names image of.0 depth_ref, ((of.1.0, tt), ((of.1.1.0, (of.0, of.0)), (of.0, (integer_if-names array_index of.1.1.1.0, (of_type_if-names (source.Position image I32) of.0 offset of.1.1.1.1.0, (of_level-names image of.0 level of.1.1.1.1.1.0, (of_derivative-names image of.0 level of.1.1.1.1.1.1.0, (of_if-names float (tt, tt) depth_ref of.1.1.1.1.1.1.1.0, tt))))))))))
  required_by_expression-names (expression.ImageLoad image coordinate array_index at level) h =
      let of = present-in (Some image ∷ Some coordinate ∷ array_index ∷ at ∷ level ∷ []) h in
      ((of.0, tt), ((of.1.0, of.0), (of.0, (integer_if-names array_index of.1.1.0, (of.0, (integer_if-names at of.1.1.1.0, (of.0, (integer_if-names level of.1.1.1.1.0, tt))))))))
  required_by_expression-names (expression.ImageQuery image asked) h =
      let of = present-in (Some image ∷ operand_of_image_query asked ∷ []) h in of_image_query-names image of.0 asked of.1.0
  required_by_expression-names (expression.Binary of left right) h = ((h.0, tt), ((h.1.0, taken_right-names of left h.0), tt))
  required_by_expression-names (expression.Math of arg arg1 arg2 arg3) h =
      let at = present-in (Some arg ∷ arg1 ∷ arg2 ∷ arg3 ∷ []) h in (tt, (tt, (tt, (of_expected-names (second_argument of arg) (second_argument-names of arg at.0) arg1 at.1.0, (of_if-names (third_argument of arg) (third_argument-names of arg at.0) arg2 at.1.1.0, (of_type_if-names (source.Scalar U32) tt arg3 at.1.1.1.0, tt))))))
  required_by_expression-names e h = assumption

  -- ---- plain statements

  of_image-names : (image coordinate : ℕ) (array_index : Option ℕ) (from : Source) (stored : ℕ) → In image → In coordinate → InIf array_index → SourceNames P from → In stored → Names (of_image image coordinate array_index from stored)
  of_image-names image coordinate array_index from stored h at layer so in_stored = ((h, tt), ((h, tt), ((at, h), (h, (integer_if-names array_index layer, ((in_stored, so), tt))))))

  compared-in : (of : AtomicFunction) → InIf (operand_of_atomic_function of) → InIf (compared of)
  compared-in (Exchange compare) h = h
  compared-in of h = tt

  atomic_result-names : (pointer : ℕ) → In pointer → (compare : Option ℕ) → SourceNames P (atomic_result pointer compare)
  atomic_result-names pointer h None = h
  atomic_result-names pointer h (Some compare) = h

  of_combined-names : (from : Source) → SourceNames P from → (of : AtomicFunction) → InIf (operand_of_atomic_function of) → (stored : ℕ) → In stored → Names (of_combined from of stored)
  of_combined-names from so of h stored in_stored = ((in_stored, tt), (of_type_if-names from so (compared of) (compared-in of h), tt))

  of_query-names : (of : RayQueryFunction) → Refers (operands (operands_of_ray_query_function of)) → Names (of_query of)
  of_query-names (Initialize structure descriptor) h = ((h.0, tt), ((h.1.0, tt), tt))
  of_query-names (Proceed result) h = ((h.0, tt), tt)
  of_query-names (GenerateIntersection hit_t) h = ((h.0, tt), tt)
  of_query-names of h = tt

  of_arguments-names : (function : ℕ) → P (reference.Function function) → (position : ℕ) (arguments : List ℕ) → Refers (operands arguments) → Names (of_arguments function position arguments)
  of_arguments-names function called position [] h = tt
  of_arguments-names function called position (argument ∷ rest) h = ((h.0, called), of_arguments-names function called (position + 1) rest h.1)

  gather_index-in : (mode : GatherMode) → InIf (operand_of_gather_mode mode) → InIf (gather_index mode)
  gather_index-in (Broadcast index) h = h
  gather_index-in (Shuffle index) h = h
  gather_index-in (ShuffleDown delta) h = h
  gather_index-in (ShuffleUp delta) h = h
  gather_index-in (ShuffleXor mask) h = h
  gather_index-in (QuadBroadcast index) h = h
  gather_index-in mode h = tt

  required-names : (what : Statement) → Refers (references_of_statement what) → Names (required what)
  required-names (ImageStore image coordinate array_index stored) h =
      let of = present-in (Some image ∷ Some coordinate ∷ array_index ∷ Some stored ∷ []) h in
      of_image-names image coordinate array_index (source.Texel image) stored of.0 of.1.0 of.1.1.0 of.0 of.1.1.1.0
  required-names (Atomic pointer of stored result) h =
      let at = present-in (Some pointer ∷ operand_of_atomic_function of ∷ Some stored ∷ result ∷ []) h in
      let combines = of_combined-names (source.AtomicScalar pointer) at.0 of at.1.0 stored at.1.1.0 in
      ((at.0, tt), ((at.1.1.0, at.0), (combines.0, (combines.1.0, (of_type_if-names (atomic_result pointer (compared of)) (atomic_result-names pointer at.0 (compared of)) result at.1.1.1.0, tt)))))
  required-names (ImageAtomic image coordinate array_index of stored) h =
      let at = present-in (Some image ∷ Some coordinate ∷ array_index ∷ operand_of_atomic_function of ∷ Some stored ∷ []) h in
      joined (SlotNames P) (of_image image coordinate array_index (source.Component image) stored) (of_combined (source.Component image) of stored)
      (of_image-names image coordinate array_index (source.Component image) stored at.0 at.1.0 at.1.1.0 at.0 at.1.1.1.1.0)
      (of_combined-names (source.Component image) at.0 of at.1.1.1.0 stored at.1.1.1.1.0)
  required-names (Call function arguments result) h = (h.0, (h.0, of_arguments-names function h.0 0 arguments.items (parts P (operands arguments.items) (option_to_list (option_map reference.Expression result)) h.1).0))
  required-names (RayQuery asked of) h = ((h.0, tt), of_query-names of h.1)
  required-names (SubgroupBallot result predicate) h =
      let of = present-in (Some result ∷ predicate ∷ []) h in (of_type_if-names (source.Scalar BOOL) tt predicate of.1.0, tt)
  required-names (SubgroupGather mode argument result) h =
      let of = present-in (operand_of_gather_mode mode ∷ Some argument ∷ Some result ∷ []) h in
      (of_type_if-names (source.Scalar U32) tt (gather_index mode) (gather_index-in mode of.0), ((of.1.0, of.1.1.0), ((of.1.0, tt), tt)))
  required-names (RayPipelineFunction (TraceRay structure descriptor payload)) h = assumption
  required-names what h = assumption

  -- ---- statements

  selects-names : (selector : ℕ) → In selector → (chosen : SwitchValue) → SlotNames P (selects selector chosen)
  selects-names selector h number.Default = tt
  selects-names selector h chosen = (h, tt)

  of_cases-names : (selector : ℕ) → In selector → (cases : Cases) → Names (of_cases selector cases)
  of_cases-names selector h no_cases = tt
  of_cases-names selector h (case chosen body falls_through others) = (selects-names selector h chosen, of_cases-names selector h others)

  of_jump-names : (to : Jump) → Refers (references_of_jump to) → Names (of_jump to)
  of_jump-names (return None) h = (tt, tt)
  of_jump-names (return (Some returned)) h = ((h.0, tt), tt)
  of_jump-names to h = tt

  required_by-names : (node : Node) → Refers (references_of_node node) → Names (required_by node)
  required_by-names (plain what) h = required-names what h
  required_by-names (nested inner) h = tt
  required_by-names (branch condition accept reject) h = ((h.0, tt), tt)
  required_by-names (switch selector cases) h = ((h.0, tt), of_cases-names selector h.0 cases)
  required_by-names (loop body continuing break_if) h =
      let of = parts P (present (break_if ∷ [])) (references_of_tree body ++ references_of_tree continuing) h in
      (of_type_if-names (source.Scalar BOOL) tt break_if (present-in (break_if ∷ []) of.0).0, tt)
  required_by-names (jump to) h = of_jump-names to h

  -- ---- the statements of a block

  -- what a statement requires names only what is in `P`
  abbrev pub EntryNames : Node × Span → Type 0
  EntryNames entry = Names (required_by entry.0)

  abbrev AllNames : List (Node × Span) → Type 0
  AllNames = AllByRecursion EntryNames

  mutual
    pub statements-names : (tree : Tree) → Refers (references_of_tree tree) → AllNames (statements tree)
    statements-names empty h = tt
    statements-names (push front last span) h =
        let of = parts P (references_of_tree front) (references_of_node last) h in
        joined EntryNames (statements front) ((last, span) ∷ statements_inside last) (statements-names front of.0) (required_by-names last of.1, inside-names last of.1)

    inside-names : (node : Node) → Refers (references_of_node node) → AllNames (statements_inside node)
    inside-names (plain what) h = tt
    inside-names (nested inner) h = statements-names inner h
    inside-names (branch condition accept reject) h =
        let of = parts P (references_of_tree accept) (references_of_tree reject) h.1 in
        joined EntryNames (statements accept) (statements reject) (statements-names accept of.0) (statements-names reject of.1)
    inside-names (switch selector cases) h = cases-names cases h.1
    inside-names (loop body continuing break_if) h =
        let both = (parts P (present (break_if ∷ [])) (references_of_tree body ++ references_of_tree continuing) h).1 in
        let of = parts P (references_of_tree body) (references_of_tree continuing) both in
        joined EntryNames (statements body) (statements continuing) (statements-names body of.0) (statements-names continuing of.1)
    inside-names (jump to) h = tt

    cases-names : (cases : Cases) → Refers (references_of_cases cases) → AllNames (statements_of_cases cases)
    cases-names no_cases h = tt
    cases-names (case chosen body falls_through others) h =
        let of = parts P (references_of_tree body) (references_of_cases others) h in
        joined EntryNames (statements body) (statements_of_cases others) (statements-names body of.0) (cases-names others of.1)
