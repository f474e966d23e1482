-- Handles of a module that are within limits, renamed.
use Rattle.std.proofs.Common.{◌≡◌, ◌≤◌, List, map, length, true, arith}
use Rattle.std.proofs.lemmas.List.Elements.{All-contains_itself, All-map}
use Rattle.std.specs.FinSet.{contains}
use Rattle.std.specs.List.{Contains}
use Rattle.naga_ir.specs.declared.module.Module as the_module
use Rattle.naga_valid.specs.Limits.{AreWithin, IsWithin}
use Rattle.naga_valid.specs.Places.{lengths}
use Rattle.naga_valid.specs.Valid.{IsConstant}
use Rattle.naga_valid.specs.declared.reference.Reference.{Reference}
use Rattle.naga_valid.specs.declared.reference.Reference.TheVariants.{«Type», Constant, Override, GlobalVariable, GlobalExpression, Expression, Expressions, LocalVariable, Function, DiagnosticFilter}
use Rattle.naga_compact.specs.Module.Compaction.{kept_handles}
use Rattle.naga_compact.specs.Module.References.{IsElement, as_global}
use Rattle.naga_compact.specs.Module.Used.{is_member}
use Rattle.naga_compact.specs.Renaming.{Renaming, in_global, rename_reference}
use Rattle.naga_compact.specs.Renaming.Renumbering.{renaming_of}
use Rattle.naga_compact.specs.declared.module.renumbering.ModuleRenumbering.{ModuleRenumbering}
use Rattle.naga_compact.proofs.RankLemmas.{rank-increases}

abbrev ResultOf : {A B : Type 0} → (A → B) → Type 0
ResultOf {A} {B} f = B

-- the type of limits, which naga_valid does not export
abbrev pub Limits : Type 0
Limits = ResultOf lengths

-- the limits of the arenas of the module, renamed
abbrev pub rename_limits : Renaming → Limits → Limits
rename_limits r limits = record limits {
  types = r.types limits.types;
  constants = r.constants limits.constants;
  overrides = r.overrides limits.overrides;
  global_variables = r.global_variables limits.global_variables;
  global_expressions = r.global_expressions limits.global_expressions;
  functions = r.functions limits.functions;
}

-- no limit is past the end of its arena
abbrev pub AreUpTo : the_module.Module → Limits → Type 0
AreUpTo whole limits =
    (limits.types ≤ length whole.types)
    × (limits.constants ≤ length whole.constants)
    × (limits.overrides ≤ length whole.overrides)
    × (limits.global_variables ≤ length whole.global_variables)
    × (limits.global_expressions ≤ length whole.global_expressions)
    × (limits.functions ≤ length whole.functions)

module _ (whole : the_module.Module) (kept : ModuleRenumbering) where
  -- if the handle is one of an element of the module, then the element is kept
  abbrev pub IsKeptElement : Reference → Type 0
  IsKeptElement n = IsElement whole n → is_member (kept_handles kept) n ≡ true

  pub IsWithin-renamed : (limits : Limits) → AreUpTo whole limits → (n : Reference) → IsKeptElement n → IsWithin limits n → IsWithin (rename_limits (renaming_of kept) limits) (rename_reference (renaming_of kept) n)
  IsWithin-renamed limits up_to («Type» h) so within =
      rank-increases (contains kept.types.members) h limits.types (so (omega (arith, up_to.0, within))) within
  IsWithin-renamed limits up_to (Constant h) so within =
      rank-increases (contains kept.constants.members) h limits.constants (so (omega (arith, up_to.1, within))) within
  IsWithin-renamed limits up_to (Override h) so within =
      rank-increases (contains kept.overrides.members) h limits.overrides (so (omega (arith, up_to.2, within))) within
  IsWithin-renamed limits up_to (GlobalVariable h) so within =
      rank-increases (contains kept.global_variables.members) h limits.global_variables (so (omega (arith, up_to.3, within))) within
  IsWithin-renamed limits up_to (GlobalExpression h) so within =
      rank-increases (contains kept.global_expressions.members) h limits.global_expressions (so (omega (arith, up_to.4, within))) within
  IsWithin-renamed limits up_to (Expression h) so within = within
  IsWithin-renamed limits up_to (Expressions start end') so within = within
  IsWithin-renamed limits up_to (LocalVariable h) so within = within
  IsWithin-renamed limits up_to (Function h) so within =
      rank-increases (contains kept.functions.members) h limits.functions (so (omega (arith, up_to.5, within))) within
  IsWithin-renamed limits up_to (DiagnosticFilter h) so within = within

  pub AreWithin-renamed : (limits : Limits) → AreUpTo whole limits → (references : List Reference) → ((n : Reference) → Contains references n → IsKeptElement n) → AreWithin limits references → AreWithin (rename_limits (renaming_of kept) limits) (map (rename_reference (renaming_of kept)) references)
  AreWithin-renamed limits up_to references so within =
      All-map (IsWithin (rename_limits (renaming_of kept) limits)) (rename_reference (renaming_of kept)) references
      (λ k d inside. IsWithin-renamed limits up_to _ (so _ (All-contains_itself references k d inside)) (within k d inside))

  -- the limits of a global expression, whose operands are global expressions
  abbrev pub rename_global_limits : Limits → Limits
  rename_global_limits limits =
      record (rename_limits (renaming_of kept) limits) { expressions = (renaming_of kept).global_expressions limits.expressions }

  abbrev pub rename_operand : Reference → Reference
  rename_operand = rename_reference (in_global (renaming_of kept))

  IsWithin-renamed_operand : (limits : Limits) → AreUpTo whole limits → limits.expressions ≤ length whole.global_expressions → (n : Reference) → IsKeptElement (as_global n) → IsConstant n → IsWithin limits n → IsWithin (rename_global_limits limits) (rename_operand n)
  IsWithin-renamed_operand limits up_to few («Type» h) so constant within = IsWithin-renamed limits up_to («Type» h) so within
  IsWithin-renamed_operand limits up_to few (Constant h) so constant within = IsWithin-renamed limits up_to (Constant h) so within
  IsWithin-renamed_operand limits up_to few (Override h) so constant within = IsWithin-renamed limits up_to (Override h) so within
  IsWithin-renamed_operand limits up_to few (Expression h) so constant within =
      rank-increases (contains kept.global_expressions.members) h limits.expressions (so (omega (arith, few, within))) within
  IsWithin-renamed_operand limits up_to few _ so constant within = absurd constant

  pub AreWithin-renamed_operands : (limits : Limits) → AreUpTo whole limits → limits.expressions ≤ length whole.global_expressions → (references : List Reference) → ((n : Reference) → Contains references n → IsKeptElement (as_global n)) → ((n : Reference) → Contains references n → IsConstant n) → AreWithin limits references → AreWithin (rename_global_limits limits) (map rename_operand references)
  AreWithin-renamed_operands limits up_to few references so constant within =
      All-map (IsWithin (rename_global_limits limits)) rename_operand references
      (λ k d inside. IsWithin-renamed_operand limits up_to few _ (so _ (All-contains_itself references k d inside)) (constant _ (All-contains_itself references k d inside)) (within k d inside))
