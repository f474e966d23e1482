-- A function that is compacted is typed if it was.
use Rattle.std.proofs.Common.{◌≡◌, ◌∙◌, ◌⊎◌, sym, ap, subst, refl, inl, inr, ℕ, suc, ◌≤◌, List, [], ◌∷◌, length, true, None, Some, arith}
use Rattle.std.proofs.lemmas.Bool.{cases_lt}
use Rattle.std.proofs.lemmas.List.{length-map}
use Rattle.std.proofs.lemmas.List.Elements.{All-cons, All-contains, All-contains_itself, All-nil, All-weaker}
use Rattle.std.proofs.lemmas.Option.{get_or_from_slice_get, slice_get_past, slice_get_within}
use Rattle.std.specs.FinSet.{contains}
use Rattle.std.specs.List.{Contains}
use Rattle.std.specs.Option.{option_map}
use Rattle.std.specs.Prelude.{All, slice_get}
use Rattle.naga_arena.specs.Arena.{values}
use Rattle.naga_arena.specs.declared.span.Span.{Span}
use Rattle.naga_ir.specs.View.{tree_of}
use Rattle.naga_ir.specs.declared.expression.Expression.{Expression}
use Rattle.naga_ir.specs.declared.module.Function.{Function}
use Rattle.naga_ir.specs.declared.module.FunctionResult as outcome
use Rattle.naga_ir.specs.declared.module.Module.{Module}
use Rattle.naga_sets.specs.HandleSet.{BoundedSet}
use Rattle.naga_valid.specs.Operands.{operands_of}
use Rattle.naga_valid.specs.declared.reference.Reference.TheVariants as reference
use Rattle.naga_compact.specs.Functions.{CompactsFunction, initial_values}
use Rattle.naga_compact.specs.Kept.{kept_elements, new_index}
use Rattle.naga_compact.specs.Operands.{OperandsPrecede, used_by}
use Rattle.naga_compact.specs.Reachability.{from_root}
use Rattle.naga_compact.specs.Renaming.{Renaming, of_expressions, rename_range}
use Rattle.naga_compact.specs.Renaming.Functions.{map_value}
use Rattle.naga_compact.specs.derived.Renaming.{rename_expression}
use Rattle.naga_compact.proofs.KeptElementsLemmas.{length-kept_elements}
use Rattle.naga_compact.proofs.RankLemmas.{rank-grows}
use Rattle.naga_meaning.proofs.Uses.CompactedUsesLemmas.{operands-kept}
use Rattle.naga_typifier.specs.Context.{Context, context_in}
use Rattle.naga_typifier.specs.Typing.{typing}
use Rattle.naga_typifier.specs.declared.resolution.TypeResolution.{TypeResolution}
use Rattle.naga_typing.specs.Expressions.{ExpressionFits}
use Rattle.naga_typing.specs.Faults.{FitsBy}
use Rattle.naga_typing.specs.Requirements.{Signature}
use Rattle.naga_typing.specs.TypedFunctions.{signature_in}
use Rattle.naga_typing.specs.TypedModules.{FunctionIsTyped, typing_in}
use Rattle.naga_typing.proofs.AreTypesLemmas.{Precede-of}
use Rattle.naga_typing.proofs.CompactsFunctionLemmas.{Precede-compacted, context_in-inside, origin, typing-compacted}
use Rattle.naga_typing.proofs.FunctionIsTypedRenamedLemmas.{ExpressionFits-same, FunctionIsTyped-renamed}
use Rattle.naga_typing.proofs.TypingLemmas.{typing-length}

-- ---- lists

-- what holds of the element at each position holds of all elements
pub All-from_positions : {X : Type 0} (P : X → Type 0) (xs : List X) → ((position : ℕ) (x : X) → slice_get xs position ≡ Some x → P x) → All P xs
All-from_positions P [] holds = All-nil P
All-from_positions P (x ∷ xs) holds = All-cons P x xs (holds 0 x refl) (All-from_positions P xs (λ position y found. holds (suc position) y found))

-- the other way round
pub All-at : {X : Type 0} (P : X → Type 0) (xs : List X) (position : ℕ) (x : X) → All P xs → slice_get xs position ≡ Some x → P x
All-at P xs position x all found = All-contains P xs x all (position, slice_get_within xs position x found, get_or_from_slice_get xs position x x found)

-- what holds of each element of a list
pub All-each : {X : Type 0} (P : X → Type 0) (xs : List X) → ((x : X) → Contains xs x → P x) → All P xs
All-each P xs holds = All-weaker (Contains xs) P holds xs (All-contains_itself xs)

module _ (old new : Function) (kept : BoundedSet) (compacts : CompactsFunction old kept new) (precede : OperandsPrecede old.expressions)
    (whole whole' : Module) (contexts : context_in whole' new ≡ context_in whole old) (signatures : signature_in whole' new ≡ signature_in whole old)
    (typed : FunctionIsTyped whole old) where
  abbrev f : ℕ → ℕ
  f = new_index kept

  abbrev r : Renaming
  r = of_expressions f

  abbrev IsKept : ℕ → Type 0
  IsKept handle = contains kept.members handle ≡ true

  abbrev ctx : Context
  ctx = context_in whole old

  abbrev sig : Signature
  sig = signature_in whole old

  -- ---- the types

  abbrev found : List TypeResolution
  found = (typing_in whole old).0

  is : typing ctx [] (values old.expressions) ≡ (found, None)
  is = λ i. (found, typed.typed.0 i)

  left : (left : List TypeResolution) × (typing (context_in whole new) [] (values new.expressions) ≡ (left, None)) × ((handle : ℕ) → IsKept handle → slice_get left (f handle) ≡ slice_get found handle)
  left = typing-compacted old new kept compacts precede whole found is

  long : length new.expressions ≡ f (length old.expressions)
  long =
      ap (λ (arena : List (Expression × Span)). length arena) compacts.expressions
      ∙ length-map (kept_elements kept old.expressions) (map_value (rename_expression r)) ∙ length-kept_elements kept old.expressions

  -- an expression that is not in the arena has no type, neither before nor after
  past-same : (handle : ℕ) → length old.expressions ≤ handle → slice_get left.0 (f handle) ≡ slice_get found handle
  past-same handle past =
      slice_get_past left.0 (f handle)
      (omega (arith, typing-length (context_in whole new) new.expressions (Precede-compacted old new kept compacts precede) left.0 left.1, long, rank-grows (contains kept.members) (length old.expressions) handle past))
      ∙ sym (slice_get_past found handle (omega (arith, typing-length ctx old.expressions (Precede-of old.expressions precede) found is, past)))

  -- the expression has the same type at its new handle
  abbrev Same : ℕ → Type 0
  Same handle = slice_get left.0 (f handle) ≡ slice_get found handle

  -- what the function needs has its type at its new handle
  needed-same : (handle : ℕ) → (Contains (initial_values old.local_variables) handle ⊎ Contains (used_by (tree_of old.body)) handle) → Same handle
  needed-same handle needed = elim (cases_lt handle (length old.expressions)) [
    | inl before ↦ left.2 handle ((compacts.reached handle).1 (from_root (before, inr needed)))
    | inr past ↦ past-same handle past
  ]

  operands : All (ExpressionFits (FitsBy ctx sig left.0)) (values new.expressions)
  operands = All-from_positions (ExpressionFits (FitsBy ctx sig left.0)) (values new.expressions) (λ handle expression at.
      let from = origin old new kept compacts handle expression at in
      subst (ExpressionFits (FitsBy ctx sig left.0)) from.5
      (ExpressionFits-same whole old new f (rename_range f) typed left.0 from.1
      (λ operand inside. left.2 operand
      (All-contains IsKept (operands_of from.1) operand (operands-kept old new kept compacts from.0 from.1 from.3 from.2) inside))
      (All-at (ExpressionFits (FitsBy ctx sig found)) (values old.expressions) from.0 from.1 typed.operands from.2)))

  pub FunctionIsTyped-compacted : FunctionIsTyped whole' new
  FunctionIsTyped-compacted =
      FunctionIsTyped-renamed whole old new f (rename_range f) typed left.0 whole' contexts signatures
      (ap (λ (by : Context). typing by [] (values new.expressions)) (sym (context_in-inside old new kept compacts whole)) ∙ left.1)
      compacts.body compacts.local_variables needed-same operands

-- in the same module
pub FunctionIsTyped-inside : (old new : Function) (kept : BoundedSet) → CompactsFunction old kept new → OperandsPrecede old.expressions → (whole : Module) → FunctionIsTyped whole old → FunctionIsTyped whole new
FunctionIsTyped-inside old new kept compacts precede whole typed =
    FunctionIsTyped-compacted old new kept compacts precede whole whole (context_in-inside old new kept compacts whole)
    (λ i. record {
      parameters = (signature_in whole old).parameters;
      result = option_map (λ (result : outcome.FunctionResult). result.ty) (compacts.result i);
      ray_desc = whole.special_types.ray_desc;
    })
    typed
