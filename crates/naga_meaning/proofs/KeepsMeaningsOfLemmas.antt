-- Compacting a module keeps the meanings of its functions, where handles represent what is declared.
use Rattle.std.proofs.Common.{◌≡◌, ◌∙◌, sym, ap, subst, refl, ℕ, zero, suc, ◌<◌, List, [], ◌∷◌, ◌++◌, length, true, Some, arith}
use Rattle.std.proofs.lemmas.List.Elements.{Contains-append_left, Contains-append_right}
use Rattle.std.proofs.lemmas.Option.{slice_get-map}
use Rattle.std.specs.FinSet.{contains}
use Rattle.std.specs.List.{Contains, flat_map}
use Rattle.std.specs.Prelude.{All, option_map, slice_get}
use Rattle.naga_arena.specs.Arena.{value_at, values}
use Rattle.naga_arena.specs.declared.span.Span.{Span}
use Rattle.naga_ir.specs.declared.module.EntryPoint.{EntryPoint}
use Rattle.naga_ir.specs.declared.module.Function.{Function}
use Rattle.naga_ir.specs.declared.module.Module.{Module}
use Rattle.naga_valid.specs.Declarations.{references_of_local_variable}
use Rattle.naga_valid.specs.Expressions.{references_of_expression}
use Rattle.naga_valid.specs.Functions.{FunctionIsWithin}
use Rattle.naga_valid.specs.Places.{lengths, limits_in_part, limits_inside, references_found, references_in_part, references_of_entry_point, references_of_special_types}
use Rattle.naga_valid.specs.Valid.{HandlesAreValid}
use Rattle.naga_valid.specs.declared.place.Part.TheVariants as part
use Rattle.naga_valid.specs.declared.reference.Reference.{Reference}
use Rattle.naga_valid.specs.declared.reference.Reference.TheVariants as reference
use Rattle.naga_valid.proofs.HandlesAreValidLemmas.{HandlesAreValid-entry_point, HandlesAreValid-function}
use Rattle.naga_compact.specs.Kept.{kept_elements, new_index}
use Rattle.naga_compact.specs.Module.Compaction.{CompactsModule, HasCompactedFunction, IsCompactedFunction, RemovesElements, kept_handles}
use Rattle.naga_compact.specs.Module.References.{references_of_function, references_of_whole_entry_point}
use Rattle.naga_compact.specs.Module.Used.{AreUsed, elements_where, is_named_concrete, required, roots}
use Rattle.naga_compact.specs.Operands.{OperandsPrecede}
use Rattle.naga_compact.specs.Renaming.Functions.{IsRenamedEntryPoint, IsRenamedFunction}
use Rattle.naga_compact.specs.Renaming.Renumbering.{renaming_of}
use Rattle.naga_compact.specs.declared.module.renumbering.ModuleRenumbering.{ModuleRenumbering}
use Rattle.naga_compact.specs.declared.module.roots.KeepUnused.{KeepUnused}
use Rattle.naga_compact.specs.declared.module.roots.KeepUnused.TheVariants.{No, Yes}
use Rattle.naga_compact.proofs.CompactsFunctionsLemmas.{HandlesAreValid-compacted_functions}
use Rattle.naga_compact.proofs.IsUsedLemmas.{AreUsed-refers, AreUsed-root}
use Rattle.naga_compact.proofs.IsWithinRenamedLemmas.{AreUpTo, IsKeptElement, Limits}
use Rattle.naga_compact.proofs.KeptElementsLemmas.{kept_elements-found}
use Rattle.naga_meaning.specs.Functions.{HandlesAreInside, HasNames, LooksAlike}
use Rattle.naga_meaning.specs.KeptThings.{KeepsMeaningOf, KeepsMeaningsOf, KeepsThings, Remains}
use Rattle.naga_meaning.proofs.KeepsMeaningsLemmas.{KeepsMeaning-of, entry-inside, function-inside, related_to}
use Rattle.naga_meaning.proofs.KeepsThingsLemmas.{remain-within, up_to_all}
use Rattle.naga_meaning.proofs.MeaningLemmas.{meaning-compacted, meaning-renamed}

-- ---- what handles represent

module _ {Thing : Type 0} (kept : ModuleRenumbering) (look look' : Reference → Thing) (keeps : KeepsThings kept look look') where
  looks-alike : LooksAlike (Remains kept) (renaming_of kept) look look'
  looks-alike (reference.Expression handle) so = refl
  looks-alike (reference.Expressions start end') so = refl
  looks-alike name so = ap Some (keeps name so)

-- ---- the handles in a function

-- what an element contains is among what all elements contain
Contains-flat_map : {X : Type 0} (references : X → List Reference) (xs : List X) (k : ℕ) (name : Reference) → Contains (references_found references (slice_get xs k)) name → Contains (flat_map references xs) name
Contains-flat_map references [] zero name inside = inside
Contains-flat_map references [] (suc k) name inside = inside
Contains-flat_map references (x ∷ xs) zero name inside = Contains-append_left (references x) (flat_map references xs) name inside
Contains-flat_map references (x ∷ xs) (suc k) name inside =
    Contains-append_right (references x) (flat_map references xs) name (Contains-flat_map references xs k name inside)

module _ (whole new : Module) (keep_unused : KeepUnused) (kept : ModuleRenumbering) (used : AreUsed whole keep_unused (kept_handles kept)) (removed : RemovesElements kept whole new) (valid : HandlesAreValid whole) where
  names-within : (limits : Limits) → AreUpTo whole limits → (declared : Function) → FunctionIsWithin limits declared →
      ((name : Reference) → Contains (references_of_function declared) name → IsKeptElement whole kept name) → HasNames (Remains kept) declared
  names-within limits up_to declared within closed =
      let arguments : List Reference = references_in_part declared part.Arguments in
      let outcome : List Reference = references_in_part declared part.Result in
      let variables : List Reference = flat_map references_of_local_variable (values declared.local_variables) in
      let expressions : List Reference = flat_map references_of_expression (values declared.expressions) in
      let body : List Reference = references_in_part declared part.Body in
      let behind : (name : Reference) → Contains (expressions ++ body) name → IsKeptElement whole kept name =
      λ name inside.
      closed name (Contains-append_right arguments (outcome ++ (variables ++ (expressions ++ body))) name
      (Contains-append_right outcome (variables ++ (expressions ++ body)) name
      (Contains-append_right variables (expressions ++ body) name inside)))
      in
      record {
        expressions = λ handle expression found.
            subst (λ found. All (Remains kept) (references_found references_of_expression found)) found
            (remain-within whole new keep_unused kept used removed valid (limits_in_part (limits_inside limits declared) (part.Expression handle)) up_to
            (references_in_part declared (part.Expression handle))
            (λ name inside. behind name (Contains-append_left expressions body name (Contains-flat_map references_of_expression (values declared.expressions) handle name inside)))
            (within (part.Expression handle)));
        body =
            remain-within whole new keep_unused kept used removed valid (limits_in_part (limits_inside limits declared) part.Body) up_to body
            (λ name inside. behind name (Contains-append_right expressions body name inside)) (within part.Body);
      }

  function-names : (handle : ℕ) (declared : Function) → value_at whole.functions handle ≡ Some declared → contains kept.functions.members handle ≡ true → HasNames (Remains kept) declared
  function-names handle declared found so =
      let present : handle < length whole.functions = ((used.members (reference.Function handle)).0 so).0 in
      names-within (record (lengths whole) { functions = handle }) (omega arith, omega arith, omega arith, omega arith, omega arith, omega (arith, present)) declared
      (HandlesAreValid-function whole valid handle declared found)
      (λ name inside there.
      AreUsed-refers whole keep_unused (kept_handles kept) (reference.Function handle) name used so
      (subst (λ found. Contains (references_found references_of_function found) name) (sym found) inside) there)

  root : (name : Reference) → Contains (required whole) name → IsKeptElement whole kept name
  root name inside there = AreUsed-root whole keep_unused (kept_handles kept) name used (is_root keep_unused) there
    where
      is_root : (keep : KeepUnused) → Contains (roots whole keep) name
      is_root No = inside
      is_root Yes = Contains-append_left (required whole) _ name inside

  entry-names : (position : ℕ) (entry : EntryPoint) → slice_get whole.entry_points.items position ≡ Some entry → HasNames (Remains kept) entry.function
  entry-names position entry found =
      names-within (lengths whole) (up_to_all whole new keep_unused kept used removed valid) entry.function
      (HandlesAreValid-entry_point whole valid position entry found)
      (λ name inside.
      root name (Contains-append_right (references_of_special_types whole.special_types) _ name
      (Contains-append_left (flat_map references_of_whole_entry_point whole.entry_points.items) (elements_where reference.Constant (is_named_concrete whole.types) whole.constants) name
      (Contains-flat_map references_of_whole_entry_point whole.entry_points.items position name
      (subst (λ found. Contains (references_found references_of_whole_entry_point found) name) (sym found)
      (Contains-append_right (references_of_entry_point entry) (references_of_function entry.function) name inside))))))

-- ---- meanings

module _ {Thing Value State : Type 0} (kept : ModuleRenumbering) (look look' : Reference → Thing) (keeps : KeepsThings kept look look') where
  KeepsMeaningOf-of : (old middle new : Function) → HandlesAreInside old → OperandsPrecede middle.expressions → IsCompactedFunction old middle → IsRenamedFunction (renaming_of kept) middle new → HasNames (Remains kept) middle →
      KeepsMeaningOf Value State look look' kept old new
  KeepsMeaningOf-of old middle new inside precede compacted renamed names = record {
    keeps = KeepsMeaning-of kept old middle new inside precede compacted renamed;
    same = λ at_use at_use' alike by turns a b same.
        meaning-renamed kept middle new renamed precede (Remains kept) names look look' (looks-alike kept look look' keeps) at_use' by turns b
        ∙ meaning-compacted old middle compacted.0 compacted.1 inside at_use at_use' alike look by turns a b same;
  }

  pub KeepsMeaningsOf-of : (old : Module) (keep_unused : KeepUnused) (new : Module) → HandlesAreValid old → CompactsModule old keep_unused kept new → KeepsMeaningsOf Value State look look' old kept new
  KeepsMeaningsOf-of old keep_unused new valid compacts =
      let between : Module = compacts.middle in
      let valid_between : HandlesAreValid between = HandlesAreValid-compacted_functions old between compacts.functions valid in
      record {
        functions = λ handle before found so.
            let middle = related_to _ old.functions between.functions compacts.functions.functions handle before found in
            let there = kept_elements-found kept.functions between.functions handle middle.0 middle.1 so in
            let after = related_to _ (kept_elements kept.functions between.functions) new.functions compacts.removed.functions (new_index kept.functions handle) middle.0 there in
            let value : value_at between.functions handle ≡ Some middle.0.0 =
            slice_get-map (λ (p : Function × Span). p.0) between.functions handle ∙ ap (option_map (λ (p : Function × Span). p.0)) middle.1
            in (
              after.0,
              after.1,
              KeepsMeaningOf-of before.0 middle.0.0 after.0.0 (function-inside old valid handle before found)
                  (function-inside between valid_between handle middle.0 middle.1).precede middle.2.0 after.2.0
                  (function-names between new keep_unused kept compacts.used compacts.removed valid_between handle middle.0.0 value so),
            );
        entry_points = λ position before found.
            let middle = related_to HasCompactedFunction old.entry_points.items between.entry_points.items compacts.functions.entry_points position before found in
            let after = related_to (IsRenamedEntryPoint (renaming_of kept)) between.entry_points.items new.entry_points.items compacts.removed.entry_points position middle.0 middle.1 in (
              after.0,
              after.1,
              KeepsMeaningOf-of before.function middle.0.function after.0.function (entry-inside old valid position before found)
                  (entry-inside between valid_between position middle.0 middle.1).precede middle.2.1 after.2.inside
                  (entry-names between new keep_unused kept compacts.used compacts.removed valid_between position middle.0 middle.1),
            );
      }
