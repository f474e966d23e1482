-- Each expression that a function keeps when it is compacted has its type.
use Rattle.std.proofs.Common.{◌≡◌, ◌∙◌, sym, ap, subst, refl, inl, inr, ℕ, zero, suc, ◌<◌, List, [], map, length, true, Option, None, Some, arith}
use Rattle.std.proofs.lemmas.List.{length-map}
use Rattle.std.proofs.lemmas.List.Elements.{All-contains, All-contains_itself, All-map, All-same, All-weaker}
use Rattle.std.proofs.lemmas.Option.{none-some, same_Some, slice_get_cases, slice_get_within}
use Rattle.std.specs.FinSet.{contains}
use Rattle.std.specs.List.{Contains}
use Rattle.std.specs.Prelude.{option_and_then, option_map, slice_get}
use Rattle.naga_arena.specs.Arena.{value_at, values}
use Rattle.naga_arena.specs.declared.span.Span.{Span}
use Rattle.naga_ir.specs.declared.expression.Expression.{Expression}
use Rattle.naga_ir.specs.declared.module.Function.{Function}
use Rattle.naga_ir.specs.declared.module.LocalVariable.{LocalVariable}
use Rattle.naga_ir.specs.declared.module.Module.{Module}
use Rattle.naga_sets.specs.HandleSet.{BoundedSet}
use Rattle.naga_valid.specs.Expressions.{references_of_expression}
use Rattle.naga_valid.specs.Operands.{operands_of}
use Rattle.naga_compact.specs.Functions.{CompactsFunction}
use Rattle.naga_compact.specs.Kept.{kept_elements, new_index}
use Rattle.naga_compact.specs.Operands.{OperandsPrecede}
use Rattle.naga_compact.specs.Renaming.{of_expressions, rename_reference}
use Rattle.naga_compact.specs.Renaming.Declarations.{rename_local_variable}
use Rattle.naga_compact.specs.derived.Renaming.{rename_expression}
use Rattle.naga_compact.proofs.IsReachedLemmas.{operand_precedes}
use Rattle.naga_compact.proofs.KeptElementsLemmas.{IsOrigin, IsOrigin-of, value_at-found}
use Rattle.naga_compact.proofs.RankLemmas.{rank-increases}
use Rattle.naga_compact.proofs.RemovesElementsLemmas.{value_at-left}
use Rattle.naga_compact.proofs.RenamedOperandsLemmas.{operands_of-renamed}
use Rattle.naga_compact.proofs.derived_lemmas.RenamedVariantsLemmas.{references_of_expression-renamed}
use Rattle.naga_meaning.proofs.Uses.CompactedUsesLemmas.{expression-found, operands-kept}
use Rattle.naga_typifier.specs.Context.{Context, context_in}
use Rattle.naga_typifier.specs.Table.{type_of}
use Rattle.naga_typifier.specs.Typing.{typing}
use Rattle.naga_typifier.specs.declared.resolution.TypeResolution.{TypeResolution}
use Rattle.naga_typing.specs.Arenas.{AreTypes}
use Rattle.naga_typing.specs.Functions.{HasTypes}
use Rattle.naga_typing.specs.Operands.{Depends}
use Rattle.naga_typing.proofs.AreTypesLemmas.{AreTypes-exist, Depends-found, Precede, Precede-of, types_of}
use Rattle.naga_typing.proofs.ContextLemmas.{context_in-same, read-kept, result_of, type_of_local, value_at-mapped}
use Rattle.naga_typing.proofs.DependsLemmas.{Depends-operands, type_of-moved}
use Rattle.naga_typing.proofs.TypingLemmas.{typing-all, typing-some, typing-types}

module _ (old new : Function) (kept : BoundedSet) (compacts : CompactsFunction old kept new) where
  abbrev IsKept : ℕ → Type 0
  IsKept handle = contains kept.members handle ≡ true

  abbrev f : ℕ → ℕ
  f = new_index kept

  -- ---- the context

  locals-same : (handle : ℕ) → type_of_local (value_at new.local_variables handle) ≡ type_of_local (value_at old.local_variables handle)
  locals-same handle =
      ap (λ arena. type_of_local (value_at arena handle)) compacts.local_variables
      ∙ ap type_of_local (value_at-mapped (rename_local_variable (of_expressions f)) old.local_variables handle)
      ∙ read-kept (rename_local_variable (of_expressions f)) (λ (variable : LocalVariable). variable.ty) (λ variable. refl) (value_at old.local_variables handle)

  -- in a module that differs only in its functions, which return the same
  pub context_in-compacted : (whole whole' : Module) → whole' ≡ record whole { functions = whole'.functions; entry_points = whole'.entry_points }
      → ((handle : ℕ) → result_of (value_at whole'.functions handle) ≡ result_of (value_at whole.functions handle))
      → context_in whole' new ≡ context_in whole old
  context_in-compacted whole whole' outside results = context_in-same whole whole' old new outside results locals-same compacts.arguments

  pub context_in-inside : (whole : Module) → context_in whole new ≡ context_in whole old
  context_in-inside whole = context_in-compacted whole whole refl (λ handle. refl)

  -- ---- the expressions

  module _ (precede : OperandsPrecede old.expressions) (ctx : Context) (types after : ℕ → Option TypeResolution)
      (of_old : AreTypes ctx (value_at old.expressions) types) (of_new : AreTypes ctx (value_at new.expressions) after) where
    at-found : (handle : ℕ) → IsKept handle → ((operand : ℕ) → operand < handle → IsKept operand → after (f operand) ≡ types operand) → (found : Option Expression) → value_at old.expressions handle ≡ found →
        option_and_then (type_of ctx after) (option_map (rename_expression (of_expressions f)) found) ≡ option_and_then (type_of ctx types) found
    at-found handle member before None is = refl
    at-found handle member before (Some expression) is =
        type_of-moved f ctx types after expression
        (Depends-found (λ operand. after (f operand) ≡ types operand) old.expressions precede handle expression is
        (λ operand inside earlier. before operand earlier (All-contains IsKept (operands_of expression) operand (operands-kept old new kept compacts handle expression member is) inside)))

    below : (limit handle : ℕ) → handle < limit → IsKept handle → after (f handle) ≡ types handle
    below zero handle less member = absurd (omega (arith, less))
    below (suc limit) handle less member =
        of_new (f handle)
        ∙ ap (option_and_then (type_of ctx after)) (expression-found old new kept compacts handle member)
        ∙ at-found handle member (λ operand before member'. below limit operand (omega (arith, less, before)) member') (value_at old.expressions handle) refl
        ∙ sym (of_old handle)

    pub CompactsFunction-types : (handle : ℕ) → IsKept handle → after (f handle) ≡ types handle
    CompactsFunction-types handle member = below (suc handle) handle (omega arith) member

  -- ---- the new arena

  -- each expression of the new arena was kept
  pub origin : (handle : ℕ) (expression : Expression) → value_at new.expressions handle ≡ Some expression →
      (at : ℕ) × (before : Expression) × (value_at old.expressions at ≡ Some before) × IsKept at × (handle ≡ f at) × (rename_expression (of_expressions f) before ≡ expression)
  origin handle expression found = go (slice_get (kept_elements kept old.expressions) handle) refl
    where
      now : (entry : Option (Expression × Span)) → slice_get (kept_elements kept old.expressions) handle ≡ entry → option_map (λ (e : Expression × Span). rename_expression (of_expressions f) e.0) entry ≡ Some expression
      now entry is =
          sym (value_at-left references_of_expression (rename_expression (of_expressions f)) (rename_reference (of_expressions f)) (references_of_expression-renamed (of_expressions f)) kept old.expressions new.expressions compacts.expressions handle entry is) ∙ found

      go : (entry : Option (Expression × Span)) → slice_get (kept_elements kept old.expressions) handle ≡ entry →
          (at : ℕ) × (before : Expression) × (value_at old.expressions at ≡ Some before) × IsKept at × (handle ≡ f at) × (rename_expression (of_expressions f) before ≡ expression)
      go None is = absurd (none-some expression (now None is))
      go (Some entry) is =
          let from : IsOrigin kept old.expressions handle entry = IsOrigin-of kept old.expressions handle entry is in
          (from.at, entry.0, value_at-found old.expressions from.at (Some entry) from.found, from.so, from.renamed, same_Some (rename_expression (of_expressions f) entry.0) expression (now (Some entry) is))

  module _ (precede : OperandsPrecede old.expressions) where
    pub Precede-compacted : Precede (value_at new.expressions)
    Precede-compacted handle expression found =
        let from = origin handle expression found in
        let before : Expression = from.1 in
        subst (Depends (λ operand. operand < handle)) from.5
        (Depends-operands (λ operand. operand < handle) (rename_expression (of_expressions f) before)
        (All-same (λ operand. operand < handle) (operands_of (rename_expression (of_expressions f) before)) (map f (operands_of before)) (operands_of-renamed (of_expressions f) before)
        (All-map (λ operand. operand < handle) f (operands_of before)
        (All-weaker (Contains (operands_of before)) (λ operand. f operand < handle)
        (λ operand inside.
        let earlier : operand < from.0 = operand_precedes old.expressions from.0 operand precede (record { expression = before; found = from.2; contained = inside }) in
        let member : IsKept operand = All-contains IsKept (operands_of before) operand (operands-kept old new kept compacts from.0 before from.3 from.2) inside in
        subst (λ h. f operand < h) (sym from.4) (rank-increases (contains kept.members) operand from.0 member earlier))
        (operands_of before) (All-contains_itself (operands_of before))))))

    module _ (whole : Module) where
      pub HasTypes-compacted : (types after : ℕ → Option TypeResolution) → HasTypes whole old types → HasTypes whole new after → (handle : ℕ) → IsKept handle → after (f handle) ≡ types handle
      HasTypes-compacted types after of_old of_new =
          CompactsFunction-types precede (context_in whole old) types after of_old
          (subst (λ ctx. AreTypes ctx (value_at new.expressions) after) (context_in-inside whole) of_new)

      pub typing-compacted : (found : List TypeResolution) → typing (context_in whole old) [] (values old.expressions) ≡ (found, None) →
          (left : List TypeResolution) × (typing (context_in whole new) [] (values new.expressions) ≡ (left, None)) × ((handle : ℕ) → IsKept handle → slice_get left (f handle) ≡ slice_get found handle)
      typing-compacted found is =
          let of_old : HasTypes whole old (slice_get found) = typing-types (context_in whole old) old.expressions (Precede-of old.expressions precede) found is in
          let types : ℕ → Option TypeResolution = types_of (context_in whole new) (value_at new.expressions) Precede-compacted in
          let are : HasTypes whole new types = AreTypes-exist (context_in whole new) (value_at new.expressions) Precede-compacted in
          let left = typing-all (context_in whole new) new.expressions Precede-compacted types are (λ handle less none. elim (slice_get_cases (values new.expressions) handle).1 [
            | inl present ↦
                let from = origin handle present.0 present.2 in
                let within : from.0 < length (values old.expressions) = slice_get_within (values old.expressions) from.0 from.1 from.2 in
                typing-some (context_in whole old) old.expressions (Precede-of old.expressions precede) found is from.0
                (omega (arith, within, length-map old.expressions (λ (p : Expression × Span). p.0)))
                (sym (HasTypes-compacted (slice_get found) types of_old are from.0 from.3) ∙ ap types (sym from.4) ∙ none)
            | inr past ↦ absurd (omega (arith, less, past.0, length-map new.expressions (λ (p : Expression × Span). p.0)))
          ])
          in (
            left.0,
            left.1,
            HasTypes-compacted (slice_get found) (slice_get left.0) of_old (typing-types (context_in whole new) new.expressions Precede-compacted left.0 left.1),
          )
