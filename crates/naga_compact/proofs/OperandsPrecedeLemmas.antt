-- The operands of an expression are before it in each function of a valid module.
use Rattle.std.proofs.Common.{◌≡◌, ◌∙◌, ap, refl, ℕ, ◌<◌, List, [], ◌∷◌, length, get_or, Some}
use Rattle.std.proofs.lemmas.List.Elements.{All-head, All-tail}
use Rattle.std.proofs.lemmas.Option.{slice_get-get_or, slice_get-map}
use Rattle.std.specs.List.{All}
use Rattle.std.specs.Option.{option_map}
use Rattle.std.specs.Prelude.{IfSome}
use Rattle.naga_arena.specs.Arena.{value_at, values}
use Rattle.naga_arena.specs.declared.span.Span.{Span}
use Rattle.naga_ir.specs.declared.module.EntryPoint.{EntryPoint}
use Rattle.naga_ir.specs.declared.module.Function.{Function}
use Rattle.naga_ir.specs.declared.module.Module.{Module}
use Rattle.naga_valid.specs.Expressions.{references_of_expression}
use Rattle.naga_valid.specs.Functions.{FunctionIsWithin}
use Rattle.naga_valid.specs.Operands.{expression_of}
use Rattle.naga_valid.specs.Places.{lengths}
use Rattle.naga_valid.specs.Valid.{HandlesAreValid}
use Rattle.naga_valid.specs.declared.reference.Reference.{Reference}
use Rattle.naga_valid.specs.declared.reference.Reference.TheVariants as reference
use Rattle.naga_valid.specs.declared.place.Part.TheVariants as part
use Rattle.naga_valid.proofs.EachIsWithinLemmas.{EachIsWithin-enumerate_from}
use Rattle.naga_valid.proofs.HandlesAreValidLemmas.{HandlesAreValid-entry_point, HandlesAreValid-function}
use Rattle.naga_compact.specs.Operands.{FollowsItsOperands, OperandsPrecede}
use Rattle.naga_compact.proofs.AreBelowLemmas.{AreBelow, AreBelow-nil, AreBelow-rest}
use Rattle.naga_compact.proofs.FunctionIsWithinLemmas.{IsInside}

-- ---- a function

module _ (whole : Module) (functions variables limit : ℕ) where
  is_below : (name : Reference) → IsInside whole functions variables limit name → IfSome (expression_of name) (λ operand. operand < limit)
  is_below (reference.Expression handle) within = within
  is_below _ within = tt

  AreBelow-inside : (references : List Reference) → All (IsInside whole functions variables limit) references → AreBelow limit references
  AreBelow-inside [] within = AreBelow-nil limit
  AreBelow-inside (first ∷ rest) within =
      (AreBelow-rest limit (first ∷ rest) rest first refl (is_below first (All-head (IsInside whole functions variables limit) first rest within))).0
      (AreBelow-inside rest (All-tail (IsInside whole functions variables limit) first rest within))

OperandsPrecede-within : (whole : Module) (functions : ℕ) (declared : Function) → FunctionIsWithin (record (lengths whole) { functions = functions }) declared → OperandsPrecede declared.expressions
OperandsPrecede-within whole functions declared within =
    EachIsWithin-enumerate_from references_of_expression
    (λ index. record (lengths whole) { functions = functions; local_variables = length declared.local_variables; expressions = index })
    (values declared.expressions) (λ index. within (part.Expression index)) FollowsItsOperands
    (λ index expression inside. AreBelow-inside whole functions (length declared.local_variables) index (references_of_expression expression) inside)

-- ---- the functions of a valid module

module _ (whole : Module) (valid : HandlesAreValid whole) where
  pub OperandsPrecede-functions : All (λ (entry : Function × Span). OperandsPrecede entry.0.expressions) whole.functions
  OperandsPrecede-functions = λ handle d inside.
      let declared : Function = (get_or whole.functions handle d).0 in
      let found : value_at whole.functions handle ≡ Some declared =
      slice_get-map (λ (p : Function × Span). p.0) whole.functions handle
      ∙ ap (option_map (λ (p : Function × Span). p.0)) (slice_get-get_or whole.functions handle d inside)
      in
      OperandsPrecede-within whole handle declared (HandlesAreValid-function whole valid handle declared found)

  pub OperandsPrecede-entry_points : All (λ (entry : EntryPoint). OperandsPrecede entry.function.expressions) whole.entry_points.items
  OperandsPrecede-entry_points = λ position d inside.
      let entry : EntryPoint = get_or whole.entry_points.items position d in
      OperandsPrecede-within whole (length whole.functions) entry.function
      (HandlesAreValid-entry_point whole valid position entry (slice_get-get_or whole.entry_points.items position d inside))
