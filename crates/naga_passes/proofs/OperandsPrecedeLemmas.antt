-- In a function whose handles are within limits, each expression refers only to earlier ones.
use Rattle.std.proofs.Common.{refl, List, [], ◌∷◌, ℕ, ◌<◌, length}
use Rattle.std.proofs.lemmas.List.Elements.{All-head, All-tail}
use Rattle.std.specs.Prelude.{All, IfSome}
use Rattle.naga_arena.specs.Arena.{values}
use Rattle.naga_ir.specs.declared.module.Function.{Function}
use Rattle.naga_ir.specs.declared.module.Module.{Module}
use Rattle.naga_valid.specs.Expressions.{references_of_expression}
use Rattle.naga_valid.specs.Functions.{FunctionIsWithin}
use Rattle.naga_valid.specs.Operands.{expression_of}
use Rattle.naga_valid.specs.Places.{lengths}
use Rattle.naga_valid.specs.declared.place.Part.TheVariants as part
use Rattle.naga_valid.specs.declared.reference.Reference.{Reference}
use Rattle.naga_valid.specs.declared.reference.Reference.TheVariants as reference
use Rattle.naga_valid.proofs.EachIsWithinLemmas.{EachIsWithin-enumerate_from}
use Rattle.naga_compact.specs.Operands.{FollowsItsOperands, OperandsPrecede}
use Rattle.naga_compact.proofs.AreBelowLemmas.{AreBelow, AreBelow-nil, AreBelow-rest}
use Rattle.naga_compact.proofs.FunctionIsWithinLemmas.{IsInside}

module _ (whole : Module) (functions variables limit : ℕ) where
  is_below : (name : Reference) → IsInside whole functions variables limit name → IfSome (expression_of name) (λ operand. operand < limit)
  is_below (reference.Expression handle) within = within
  is_below _ within = tt

  are_below : (references : List Reference) → All (IsInside whole functions variables limit) references → AreBelow limit references
  are_below [] within = AreBelow-nil limit
  are_below (first ∷ rest) within =
      (AreBelow-rest limit (first ∷ rest) rest first refl (is_below first (All-head (IsInside whole functions variables limit) first rest within))).0
      (are_below rest (All-tail (IsInside whole functions variables limit) first rest within))

pub OperandsPrecede-within : (whole : Module) (functions : ℕ) (declared : Function) → FunctionIsWithin (record (lengths whole) { functions = functions }) declared → OperandsPrecede declared.expressions
OperandsPrecede-within whole functions declared within =
    EachIsWithin-enumerate_from references_of_expression
    (λ index. record (lengths whole) { functions = functions; local_variables = length declared.local_variables; expressions = index })
    (values declared.expressions) (λ index. within (part.Expression index)) FollowsItsOperands
    (λ index expression inside. are_below whole functions (length declared.local_variables) index (references_of_expression expression) inside)
