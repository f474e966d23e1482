-- The types of the expressions of the functions of a module that is compacted.
use Rattle.std.proofs.Common.{◌≡◌, ◌∙◌, ap, sym, subst, refl, ℕ, ◌<◌, List, [], length, Option, None, Some, arith}
use Rattle.std.proofs.lemmas.List.Elements.{All-contains, Contains-append_left, Contains-append_right}
use Rattle.std.proofs.lemmas.List.{length-map}
use Rattle.std.proofs.lemmas.Option.{get_or_from_slice_get, none-some, slice_get_within}
use Rattle.std.specs.List.{All, Contains, flat_map}
use Rattle.std.specs.Prelude.{option_map, slice_get}
use Rattle.naga_arena.specs.Arena.{value_at, values}
use Rattle.naga_arena.specs.declared.span.Span.{Span}
use Rattle.naga_ir.specs.declared.module.EntryPoint as entry_point
use Rattle.naga_ir.specs.declared.module.Function as function
use Rattle.naga_ir.specs.declared.module.Module as the_module
use Rattle.naga_valid.specs.Limits.{AreWithin}
use Rattle.naga_valid.specs.Places.{lengths, limits_in_part, limits_inside, references_found, references_in_part, references_of_entry_point, references_of_special_types}
use Rattle.naga_valid.specs.Valid.{HandlesAreValid}
use Rattle.naga_valid.specs.declared.place.Part.{Part}
use Rattle.naga_valid.specs.declared.reference.Reference.{Reference}
use Rattle.naga_valid.specs.declared.reference.Reference.TheVariants as reference
use Rattle.naga_valid.proofs.HandlesAreValidLemmas.{HandlesAreValid-entry_point, HandlesAreValid-function}
use Rattle.naga_compact.specs.Compaction.{IsMember}
use Rattle.naga_compact.specs.Kept.{kept_elements, new_index}
use Rattle.naga_compact.specs.Module.Compaction.{CompactsModule, HasCompactedFunction, IsCompactedFunction}
use Rattle.naga_compact.specs.Module.References.{references_of_function, references_of_whole_entry_point}
use Rattle.naga_compact.specs.Module.Used.{elements_where, is_named_concrete}
use Rattle.naga_compact.specs.Operands.{OperandsPrecede}
use Rattle.naga_compact.specs.Renaming.Functions.{IsRenamedEntryPoint, IsRenamedFunction, map_value}
use Rattle.naga_compact.specs.Renaming.Renumbering.{renaming_of}
use Rattle.naga_compact.specs.derived.Renaming.{rename_expression}
use Rattle.naga_compact.specs.declared.module.renumbering.ModuleRenumbering.{ModuleRenumbering}
use Rattle.naga_compact.specs.declared.module.roots.KeepUnused.{KeepUnused}
use Rattle.naga_compact.proofs.CompactsFunctionsLemmas.{HandlesAreValid-compacted_functions, IsCompactedEntry}
use Rattle.naga_compact.proofs.IsWithinRenamedLemmas.{AreUpTo, IsKeptElement, Limits}
use Rattle.naga_compact.proofs.KeptElementsLemmas.{kept_elements-found, value_at-found}
use Rattle.naga_compact.proofs.OperandsPrecedeLemmas.{OperandsPrecede-entry_points, OperandsPrecede-functions}
use Rattle.naga_compact.proofs.SizePrecedesLemmas.{HandlesAreValid-removed}
use Rattle.naga_typifier.specs.Typing.{typing}
use Rattle.naga_typifier.specs.declared.resolution.TypeResolution.{TypeResolution}
use Rattle.naga_typing.specs.Arenas.{AreTypes}
use Rattle.naga_typing.specs.Functions.{HasTypes}
use Rattle.naga_typifier.specs.Context.{context_in}
use Rattle.naga_typing.specs.Modules.{KeepsAllTypes, KeepsTypes}
use Rattle.naga_typing.specs.Renamed.{rename_resolution}
use Rattle.naga_typing.proofs.AreTypesLemmas.{AreTypes-exist, Precede, Precede-of, types_of}
use Rattle.naga_typing.proofs.CompactsFunctionLemmas.{CompactsFunction-types, context_in-compacted, context_in-inside, typing-compacted}
use Rattle.naga_typing.proofs.ContextLemmas.{results-related}
use Rattle.naga_typing.proofs.RemovesElementsLemmas.{AllZip-found, Contains-found, RemovesElements-types, refers, root}
use Rattle.naga_typing.proofs.TypingLemmas.{typing-all, typing-some, typing-types}

pub none-mapped : {A B : Type 0} (f : A → B) (found : Option A) → option_map f found ≡ None → found ≡ None
none-mapped f None is = refl
none-mapped f (Some x) is = absurd (none-some (f x) (sym is))

element-at : {X : Type 0} (P : X → Type 0) (xs : List X) (k : ℕ) (x : X) → All P xs → slice_get xs k ≡ Some x → P x
element-at P xs k x h found = All-contains P xs x h (k, slice_get_within xs k x found, get_or_from_slice_get xs k x x found)

module _ (old : the_module.Module) (keep_unused : KeepUnused) (kept : ModuleRenumbering) (new : the_module.Module) (valid : HandlesAreValid old) (compacts : CompactsModule old keep_unused kept new) where
  abbrev middle : the_module.Module
  middle = compacts.middle

  valid_between : HandlesAreValid middle
  valid_between = HandlesAreValid-compacted_functions old middle compacts.functions valid

  valid_after : HandlesAreValid new
  valid_after = HandlesAreValid-removed middle new keep_unused kept compacts.used compacts.removed valid_between

  -- a function is compacted first, and then renamed
  module _ (before between after : function.Function) (precede : OperandsPrecede before.expressions) (precede_between : OperandsPrecede between.expressions) (precede_after : OperandsPrecede after.expressions)
      (compacted : IsCompactedFunction before between) (renamed : IsRenamedFunction (renaming_of kept) between after)
      (closed : (name : Reference) → Contains (references_of_function between) name → IsKeptElement middle kept name)
      (limits : Limits) (up_to : AreUpTo middle limits) (within : (inner : Part) → AreWithin (limits_in_part (limits_inside limits between) inner) (references_in_part between inner)) where
    same_context : context_in middle between ≡ context_in old before
    same_context =
        context_in-compacted before between compacted.0 compacted.1 old middle compacts.functions.outside
        (results-related IsCompactedEntry (λ x y is. is.0.1.result) old.functions middle.functions compacts.functions.functions)

    renamed-types : (types types' : ℕ → Option TypeResolution) → HasTypes middle between types → HasTypes new after types' → (handle : ℕ) → types' handle ≡ option_map (rename_resolution (renaming_of kept)) (types handle)
    renamed-types =
        RemovesElements-types middle new keep_unused kept compacts.used compacts.removed valid_between between after renamed closed limits up_to within precede_between

    same-types : (types types' : ℕ → Option TypeResolution) → HasTypes old before types → HasTypes new after types' → (handle : ℕ) → IsMember compacted.0 handle →
        types' (new_index compacted.0 handle) ≡ option_map (rename_resolution (renaming_of kept)) (types handle)
    same-types types types' of_old of_new handle member =
        let precede' : Precede (value_at between.expressions) = Precede-of between.expressions precede_between in
        let found : ℕ → Option TypeResolution = types_of (context_in middle between) (value_at between.expressions) precede' in
        let are : HasTypes middle between found = AreTypes-exist (context_in middle between) (value_at between.expressions) precede' in
        renamed-types found types' are of_new (new_index compacted.0 handle)
        ∙ ap (option_map (rename_resolution (renaming_of kept)))
        (CompactsFunction-types before between compacted.0 compacted.1 precede (context_in old before) types found of_old
        (subst (λ ctx. AreTypes ctx (value_at between.expressions) found) same_context are) handle member)

    same-typing : (found : List TypeResolution) → typing (context_in old before) [] (values before.expressions) ≡ (found, None) →
        (left : List TypeResolution) × (typing (context_in new after) [] (values after.expressions) ≡ (left, None))
        × ((handle : ℕ) → IsMember compacted.0 handle → slice_get left (new_index compacted.0 handle) ≡ option_map (rename_resolution (renaming_of kept)) (slice_get found handle))
    same-typing found is =
        let first = typing-compacted before between compacted.0 compacted.1 precede old found is in
        let is_between : typing (context_in middle between) [] (values between.expressions) ≡ (first.0, None) =
        ap (λ ctx. typing ctx [] (values between.expressions)) (same_context ∙ sym (context_in-inside before between compacted.0 compacted.1 old)) ∙ first.1
        in
        let precede' : Precede (value_at between.expressions) = Precede-of between.expressions precede_between in
        let precede'' : Precede (value_at after.expressions) = Precede-of after.expressions precede_after in
        let of_between : HasTypes middle between (slice_get first.0) = typing-types (context_in middle between) between.expressions precede' first.0 is_between in
        let types : ℕ → Option TypeResolution = types_of (context_in new after) (value_at after.expressions) precede'' in
        let are : HasTypes new after types = AreTypes-exist (context_in new after) (value_at after.expressions) precede'' in
        let long : length after.expressions ≡ length between.expressions =
        ap (λ (f : function.Function). length f.expressions) renamed.outside ∙ length-map between.expressions (map_value (rename_expression (renaming_of kept)))
        in
        let left = typing-all (context_in new after) after.expressions precede'' types are (λ handle less none.
        typing-some (context_in middle between) between.expressions precede' first.0 is_between handle (omega (arith, long, less))
        (none-mapped (rename_resolution (renaming_of kept)) (slice_get first.0 handle) (sym (renamed-types (slice_get first.0) types of_between are handle) ∙ none)))
        in (
          left.0,
          left.1,
          λ handle member.
              renamed-types (slice_get first.0) (slice_get left.0) of_between (typing-types (context_in new after) after.expressions precede'' left.0 left.1) (new_index compacted.0 handle)
              ∙ ap (option_map (rename_resolution (renaming_of kept))) (first.2 handle member),
        )

    abbrev KeepsTypes-of : KeepsTypes kept old before new after
    KeepsTypes-of = record {
      expressions = compacted.0;
      reached = compacted.1.reached;
      same = same-types;
      typing = same-typing;
    }

  -- what an entry point refers to is kept
  pub entry_point-kept : (position : ℕ) (entry : entry_point.EntryPoint) → slice_get middle.entry_points.items position ≡ Some entry → (name : Reference) → Contains (references_of_function entry.function) name → IsKeptElement middle kept name
  entry_point-kept position entry found name inside =
      root middle new keep_unused kept compacts.used compacts.removed valid_between name
      (Contains-append_right (references_of_special_types middle.special_types) _ name
      (Contains-append_left (flat_map references_of_whole_entry_point middle.entry_points.items) (elements_where reference.Constant (is_named_concrete middle.types) middle.constants) name
      (Contains-found references_of_whole_entry_point middle.entry_points.items position name
      (subst (λ v. Contains (references_found references_of_whole_entry_point v) name) (sym found) (Contains-append_right (references_of_entry_point entry) (references_of_function entry.function) name inside)))))

  pub KeepsAllTypes-of : KeepsAllTypes old kept new
  KeepsAllTypes-of = record {
    functions = λ handle before found so.
        let between = AllZip-found IsCompactedEntry old.functions middle.functions compacts.functions.functions handle before found in
        let there = kept_elements-found kept.functions middle.functions handle between.0 between.1 so in
        let after = AllZip-found _ (kept_elements kept.functions middle.functions) new.functions compacts.removed.functions (new_index kept.functions handle) between.0 there in
        let was : value_at middle.functions handle ≡ Some between.0.0 = value_at-found middle.functions handle (Some between.0) between.1 in
        let present : handle < length middle.functions = slice_get_within middle.functions handle between.0 between.1 in (
          after.0,
          after.1,
          KeepsTypes-of before.0 between.0.0 after.0.0
              (element-at (λ (entry : function.Function × Span). OperandsPrecede entry.0.expressions) old.functions handle before (OperandsPrecede-functions old valid) found)
              (element-at (λ (entry : function.Function × Span). OperandsPrecede entry.0.expressions) middle.functions handle between.0 (OperandsPrecede-functions middle valid_between) between.1)
              (element-at (λ (entry : function.Function × Span). OperandsPrecede entry.0.expressions) new.functions (new_index kept.functions handle) after.0 (OperandsPrecede-functions new valid_after) after.1)
              between.2.0 after.2.0
              (λ name inside. refers middle new keep_unused kept compacts.used compacts.removed valid_between (reference.Function handle) so name (subst (λ v. Contains (references_found references_of_function v) name) (sym was) inside))
              (record (lengths middle) { functions = handle }) (omega arith, omega arith, omega arith, omega arith, omega arith, omega (arith, present))
              (HandlesAreValid-function middle valid_between handle between.0.0 was),
        );
    entry_points = λ position before found.
        let between = AllZip-found HasCompactedFunction old.entry_points.items middle.entry_points.items compacts.functions.entry_points position before found in
        let after = AllZip-found (IsRenamedEntryPoint (renaming_of kept)) middle.entry_points.items new.entry_points.items compacts.removed.entry_points position between.0 between.1 in (
          after.0,
          after.1,
          KeepsTypes-of before.function between.0.function after.0.function
              (element-at (λ (entry : entry_point.EntryPoint). OperandsPrecede entry.function.expressions) old.entry_points.items position before (OperandsPrecede-entry_points old valid) found)
              (element-at (λ (entry : entry_point.EntryPoint). OperandsPrecede entry.function.expressions) middle.entry_points.items position between.0 (OperandsPrecede-entry_points middle valid_between) between.1)
              (element-at (λ (entry : entry_point.EntryPoint). OperandsPrecede entry.function.expressions) new.entry_points.items position after.0 (OperandsPrecede-entry_points new valid_after) after.1)
              between.2.1 after.2.inside
              (entry_point-kept position between.0 between.1)
              (lengths middle) (omega arith, omega arith, omega arith, omega arith, omega arith, omega arith)
              (HandlesAreValid-entry_point middle valid_between position between.0 between.1),
        );
  }
