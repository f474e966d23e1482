-- Functions whose handles are within limits, after an edit.
use Rattle.std.proofs.Common.{◌≡◌, sym, subst, ℕ, ◌≤◌, List, [], ◌∷◌, ◌++◌, length, length-append, arith}
use Rattle.std.proofs.lemmas.List.Elements.{All-weaker}
use Rattle.naga_arena.specs.declared.span.Span.{Span}
use Rattle.naga_ir.specs.View.{tree_of}
use Rattle.naga_ir.specs.declared.block.Block.{Block}
use Rattle.naga_ir.specs.declared.expression.Expression.{Expression}
use Rattle.naga_ir.specs.declared.module.Function as function
use Rattle.naga_valid.specs.Expressions.{references_of_expression}
use Rattle.naga_valid.specs.Functions.{FunctionIsWithin}
use Rattle.naga_valid.specs.Limits.{AreWithin, IsWithin}
use Rattle.naga_valid.specs.Places.{limits_inside, references_found, references_in_part}
use Rattle.naga_valid.specs.Statements.{references_of_tree}
use Rattle.naga_valid.specs.declared.limits.Limits.{Limits}
use Rattle.naga_valid.specs.declared.reference.Reference.{Reference}
use Rattle.naga_valid.specs.declared.reference.Reference.TheVariants as reference
use Rattle.naga_valid.specs.declared.place.Part.TheVariants.{Arguments, Result, LocalVariable, Expression as OneExpression, NamedExpressions, Body, DiagnosticFilterLeaf}
use Rattle.naga_valid.proofs.SliceGetLemmas.{slice_get-each_map_push}

-- ---- another body

module _ (limits : Limits) (declared : function.Function) (body : Block) (within : FunctionIsWithin limits declared) where
  pub FunctionIsWithin-body : AreWithin (limits_inside limits declared) (references_of_tree (tree_of body)) → FunctionIsWithin limits (record declared { body = body })
  FunctionIsWithin-body inside Arguments = within Arguments
  FunctionIsWithin-body inside Result = within Result
  FunctionIsWithin-body inside (LocalVariable handle) = within (LocalVariable handle)
  FunctionIsWithin-body inside (OneExpression handle) = within (OneExpression handle)
  FunctionIsWithin-body inside NamedExpressions = within NamedExpressions
  FunctionIsWithin-body inside Body = inside
  FunctionIsWithin-body inside DiagnosticFilterLeaf = within DiagnosticFilterLeaf

  pub FunctionIsWithin-same_names : references_of_tree (tree_of body) ≡ references_of_tree (tree_of declared.body) → FunctionIsWithin limits (record declared { body = body })
  FunctionIsWithin-same_names same =
      FunctionIsWithin-body (subst (AreWithin (limits_inside limits declared)) (sym same) (within Body))

-- ---- one more expression

-- the limits with this limit of expressions
abbrev up_to : Limits → ℕ → Limits
up_to limits count = record limits { expressions = count }

IsWithin-wider : (limits : Limits) (few many : ℕ) → few ≤ many → (handle : Reference) → IsWithin (up_to limits few) handle → IsWithin (up_to limits many) handle
IsWithin-wider limits few many fewer (reference.Expression handle) within = omega (arith, fewer, within)
IsWithin-wider limits few many fewer (reference.Expressions first past) within = (within.0, omega (arith, fewer, within.1))
IsWithin-wider limits few many fewer _ within = within

AreWithin-wider : (limits : Limits) (few many : ℕ) → few ≤ many → (references : List Reference) → AreWithin (up_to limits few) references → AreWithin (up_to limits many) references
AreWithin-wider limits few many fewer references within =
    All-weaker (IsWithin (up_to limits few)) (IsWithin (up_to limits many)) (IsWithin-wider limits few many fewer) references within

module _ (limits : Limits) (declared : function.Function) (expression : Expression) (span : Span) (within : FunctionIsWithin limits declared) where
  longer : List (Expression × Span)
  longer = declared.expressions ++ (expression, span) ∷ []

  is_longer : length declared.expressions ≤ length longer
  unfolding longer
  is_longer = omega (arith, length-append declared.expressions ((expression, span) ∷ []))

  wider : (references : List Reference) → AreWithin (limits_inside limits declared) references → AreWithin (record (limits_inside limits declared) { expressions = length longer }) references
  wider references inside = AreWithin-wider (limits_inside limits declared) (length declared.expressions) (length longer) is_longer references inside

  pub FunctionIsWithin-push : AreWithin (record (limits_inside limits declared) { expressions = length declared.expressions }) (references_of_expression expression) → FunctionIsWithin limits (record declared { expressions = declared.expressions ++ (expression, span) ∷ [] })
  unfolding longer
  FunctionIsWithin-push inside Arguments = wider (references_in_part declared Arguments) (within Arguments)
  FunctionIsWithin-push inside Result = wider (references_in_part declared Result) (within Result)
  FunctionIsWithin-push inside (LocalVariable handle) = wider (references_in_part declared (LocalVariable handle)) (within (LocalVariable handle))
  FunctionIsWithin-push inside (OneExpression handle) =
      slice_get-each_map_push (λ pair. pair.0) declared.expressions (expression, span)
      (λ index found. AreWithin (record (limits_inside limits declared) { expressions = index }) (references_found references_of_expression found))
      (λ index. within (OneExpression index)) inside handle
  FunctionIsWithin-push inside NamedExpressions = wider (references_in_part declared NamedExpressions) (within NamedExpressions)
  FunctionIsWithin-push inside Body = wider (references_in_part declared Body) (within Body)
  FunctionIsWithin-push inside DiagnosticFilterLeaf = wider (references_in_part declared DiagnosticFilterLeaf) (within DiagnosticFilterLeaf)
