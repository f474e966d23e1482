-- Compacting a valid module keeps that the bodies of its functions pass both checks.
use Rattle.std.proofs.Common.{◌≡◌, ◌∙◌, sym, ap, subst, refl, ℕ, zero, suc, ◌<◌, true, List, [], ◌∷◌, map, length, get_or}
use Rattle.std.proofs.lemmas.List.Elements.{All-head, All-map, All-tail}
use Rattle.std.proofs.lemmas.Option.{slice_get-get_or}
use Rattle.std.specs.List.{All, filter}
use Rattle.std.specs.Option.{option_map}
use Rattle.std.specs.Prelude.{IfSome}
use Rattle.naga_arena.specs.Arena.{value_at, values}
use Rattle.naga_arena.specs.Range.{handles_of}
use Rattle.naga_arena.specs.declared.span.Span.{Span}
use Rattle.naga_ir.specs.View.{tree_of}
use Rattle.naga_ir.specs.declared.expression.Expression.{Expression}
use Rattle.naga_ir.specs.declared.module.EntryPoint.{EntryPoint}
use Rattle.naga_ir.specs.declared.module.Function.{Function}
use Rattle.naga_ir.specs.declared.module.Module.{Module}
use Rattle.naga_valid.specs.Operands.{expression_of}
use Rattle.naga_valid.specs.Statements.{references_of_tree}
use Rattle.naga_valid.specs.Valid.{HandlesAreValid}
use Rattle.naga_valid.specs.declared.place.Part.TheVariants as part
use Rattle.naga_valid.specs.declared.reference.Reference.{Reference}
use Rattle.naga_valid.specs.declared.reference.Reference.TheVariants as reference
use Rattle.naga_valid.proofs.HandlesAreValidLemmas.{HandlesAreValid-entry_point, HandlesAreValid-function}
use Rattle.naga_flow.specs.Bodies.{BodiesPass, BodyPasses}
use Rattle.naga_flow.specs.Scopes.{EvaluatedOnce}
use Rattle.naga_flow.specs.Structured.{jumps_are_structured, of_function}
use Rattle.naga_flow.specs.Uses.{UsesKnown, expressions_in}
use Rattle.naga_compact.specs.Kept.{kept_elements, new_index}
use Rattle.naga_compact.specs.Module.Compaction.{CompactsFunctions, HasCompactedFunction, IsCompactedFunction, RemovesElements}
use Rattle.naga_compact.specs.Operands.{used_by}
use Rattle.naga_compact.specs.Renaming.{Renaming, of_expressions}
use Rattle.naga_compact.specs.derived.Renaming.{rename_expression, rename_statement}
use Rattle.naga_compact.specs.Renaming.Functions.{IsRenamedEntryPoint, IsRenamedFunction, map_values}
use Rattle.naga_compact.specs.Renaming.Renumbering.{renaming_of}
use Rattle.naga_compact.specs.Renaming.Blocks.{rename_tree}
use Rattle.naga_compact.specs.declared.module.renumbering.ModuleRenumbering.{ModuleRenumbering}
use Rattle.naga_compact.proofs.AreBelowLemmas.{AreBelow, AreBelow-nil, AreBelow-rest}
use Rattle.naga_compact.proofs.CompactsFunctionsLemmas.{IsCompactedEntry}
use Rattle.naga_compact.proofs.FunctionIsWithinLemmas.{IsInside}
use Rattle.naga_meaning.specs.Renames.{Renames}
use Rattle.naga_proc.proofs.AllLemmas.{All-kept_elements, All-mapped, All-zipped}
use Rattle.naga_meaning.proofs.Uses.StructuredLemmas.{map_tree-is_structured}
use Rattle.naga_meaning.proofs.Uses.CompactedUsesLemmas.{CompactsFunction-once, CompactsFunction-uses}
use Rattle.naga_meaning.proofs.Uses.ReadsLemmas.{Renames-of}
use Rattle.naga_meaning.proofs.Uses.RenamesLemmas.{rename_tree-once, rename_tree-uses}

-- ---- the expressions that a body uses

-- the expressions that the body uses are in the function's arena
abbrev UsesAreInside : Function → Type 0
UsesAreInside whole = All (λ handle. handle < length whole.expressions) (used_by (tree_of whole.body))

module _ (whole : Module) (functions variables limit : ℕ) where
  expression-inside : (to : Reference) → IsInside whole functions variables limit to → IfSome (expression_of to) (λ handle. handle < limit)
  expression-inside (reference.Expression handle) inside = inside
  expression-inside _ inside = tt

  expressions-inside : (references : List Reference) → All (IsInside whole functions variables limit) references → AreBelow limit references
  expressions-inside [] inside = AreBelow-nil limit
  expressions-inside (first ∷ rest) inside =
      (AreBelow-rest limit (first ∷ rest) rest first refl (expression-inside first (All-head (IsInside whole functions variables limit) first rest inside))).0
      (expressions-inside rest (All-tail (IsInside whole functions variables limit) first rest inside))

module _ (whole : Module) (valid : HandlesAreValid whole) where
  functions-inside : All (λ (entry : Function × Span). UsesAreInside entry.0) whole.functions
  functions-inside = All-mapped (λ (entry : Function × Span). entry.0) UsesAreInside whole.functions (λ handle d inside.
      let declared = get_or (values whole.functions) handle d in
      expressions-inside whole handle (length declared.local_variables) (length declared.expressions) (references_of_tree (tree_of declared.body))
      (HandlesAreValid-function whole valid handle declared (slice_get-get_or (values whole.functions) handle d inside) part.Body))

  entry_points-inside : All (λ (entry : EntryPoint). UsesAreInside entry.function) whole.entry_points.items
  entry_points-inside = λ position d inside.
      let entry = get_or whole.entry_points.items position d in
      expressions-inside whole (length whole.functions) (length entry.function.local_variables) (length entry.function.expressions) (references_of_tree (tree_of entry.function.body))
      (HandlesAreValid-entry_point whole valid position entry (slice_get-get_or whole.entry_points.items position d inside) part.Body)

-- ---- a function

abbrev PassesInside : Function → Type 0
PassesInside whole = UsesAreInside whole × BodyPasses whole

-- the jumps of a body with renamed handles are those of the body
jumps-renamed : (r : Renaming) (old new : Function) → tree_of new.body ≡ rename_tree r (tree_of old.body) → jumps_are_structured (tree_of old.body) ≡ true → jumps_are_structured (tree_of new.body) ≡ true
jumps-renamed r old new is jumps =
    ap jumps_are_structured is ∙ (map_tree-is_structured (rename_statement r) r.expressions of_function (tree_of old.body) ∙ jumps)

compacted-passes : (old new : Function) → IsCompactedFunction old new → PassesInside old → BodyPasses new
compacted-passes old new (kept, compacts) (inside, (jumps, (uses, once))) =
    (jumps-renamed (of_expressions (new_index kept)) old new compacts.body jumps, (CompactsFunction-uses old new kept compacts inside uses, CompactsFunction-once old new kept compacts inside once))

module _ (kept : ModuleRenumbering) where
  abbrev r : Renaming
  r = renaming_of kept

  renamed-found : (arena : List (Expression × Span)) (handle : ℕ) → value_at (map_values (rename_expression r) arena) handle ≡ option_map (rename_expression r) (value_at arena handle)
  renamed-found [] handle = refl
  renamed-found (entry ∷ arena) zero = refl
  renamed-found (entry ∷ arena) (suc handle) = renamed-found arena handle

  filter-all : (handles : List ℕ) → handles ≡ map (λ handle. handle) (filter (λ _. true) handles)
  filter-all [] = refl
  filter-all (handle ∷ handles) = ap (λ rest. handle ∷ rest) (filter-all handles)

  -- no expression of a function is removed
  renamed-renames : (old : List (Expression × Span)) → Renames (λ _. true) r (expressions_in old) (expressions_in (map_values (rename_expression r) old))
  renamed-renames old =
      Renames-of (λ _. true) r old (map_values (rename_expression r) old) (λ handle member. renamed-found old handle)
      (λ handle expression member found. λ k d inside. refl) (λ x y member before. before) (λ x y after. after)
      (λ x y member member' same. same) (λ range. filter-all (handles_of range))

  renamed-passes : (old new : Function) → IsRenamedFunction r old new → BodyPasses old → BodyPasses new
  renamed-passes old new is (jumps, (uses, once)) = (
    jumps-renamed r old new is.body jumps,
    (
      subst (λ arena. UsesKnown (expressions_in arena) [] (tree_of new.body)) (sym (ap (λ (whole : Function). whole.expressions) is.outside))
          (subst (UsesKnown (expressions_in (map_values (rename_expression r) old.expressions)) []) (sym is.body)
          (rename_tree-uses (λ _. true) r (expressions_in old.expressions) (expressions_in (map_values (rename_expression r) old.expressions)) (renamed-renames old.expressions) [] (tree_of old.body) (λ k d inside. refl) uses)),
      subst (EvaluatedOnce []) (sym is.body)
          (rename_tree-once (λ _. true) r (expressions_in old.expressions) (expressions_in (map_values (rename_expression r) old.expressions)) (renamed-renames old.expressions) [] (tree_of old.body) (λ k d inside. refl) once),
    ),
  )

-- ---- a module

abbrev EntryPasses : Function × Span → Type 0
EntryPasses entry = BodyPasses entry.0

abbrev EntryPointPasses : EntryPoint → Type 0
EntryPointPasses entry = BodyPasses entry.function

module _ (old middle new : Module) (kept : ModuleRenumbering) (valid : HandlesAreValid old) (compacts : CompactsFunctions old middle) (removed : RemovesElements kept middle new) (pass : BodiesPass old) where
  functions-pass : All EntryPasses new.functions
  functions-pass =
      All-zipped (λ before after. IsRenamedFunction (renaming_of kept) before.0 after.0 × (after.1 ≡ before.1)) EntryPasses EntryPasses
      (λ before after is. renamed-passes kept before.0 after.0 is.0) (kept_elements kept.functions middle.functions) new.functions removed.functions
      (All-kept_elements EntryPasses kept.functions middle.functions
      (All-zipped IsCompactedEntry (λ entry. PassesInside entry.0) EntryPasses
      (λ before after is. compacted-passes before.0 after.0 is.0) old.functions middle.functions compacts.functions
      (λ handle d inside. (functions-inside old valid handle d inside, All-mapped (λ (entry : Function × Span). entry.0) BodyPasses old.functions pass.0 handle d inside))))

  entry_points-pass : All EntryPointPasses new.entry_points.items
  entry_points-pass =
      All-zipped (IsRenamedEntryPoint (renaming_of kept)) EntryPointPasses EntryPointPasses
      (λ before after is. renamed-passes kept before.function after.function is.inside) middle.entry_points.items new.entry_points.items removed.entry_points
      (All-zipped HasCompactedFunction (λ entry. PassesInside entry.function) EntryPointPasses
      (λ before after is. compacted-passes before.function after.function is.1) old.entry_points.items middle.entry_points.items compacts.entry_points
      (λ position d inside. (entry_points-inside old valid position d inside, All-mapped (λ (entry : EntryPoint). entry.function) BodyPasses old.entry_points.items pass.1 position d inside)))

  pub BodiesPass-compacted : BodiesPass new
  BodiesPass-compacted = (
    All-map BodyPasses (λ (entry : Function × Span). entry.0) new.functions functions-pass,
    All-map BodyPasses (λ (entry : EntryPoint). entry.function) new.entry_points.items entry_points-pass,
  )
