-- Compacting a module keeps the meanings of its functions.
use Rattle.std.proofs.Common.{◌≡◌, ◌∙◌, ap, subst, refl, ℕ, zero, suc, ◌<◌, List, [], ◌∷◌, length, Option, None, Some}
use Rattle.std.proofs.lemmas.List.Elements.{All-contains, All-cons, All-head, All-nil, All-tail}
use Rattle.std.proofs.lemmas.Option.{get_or_from_slice_get, none-some, same_Some, slice_get-map, slice_get_within}
use Rattle.std.specs.List.{AllZip, cons_option}
use Rattle.std.specs.Prelude.{All, option_map, option_to_list, slice_get}
use Rattle.naga_arena.specs.declared.span.Span.{Span}
use Rattle.naga_ir.specs.View.{tree_of}
use Rattle.naga_ir.specs.declared.module.EntryPoint.{EntryPoint}
use Rattle.naga_ir.specs.declared.module.Function.{Function}
use Rattle.naga_ir.specs.declared.module.LocalVariable.{LocalVariable}
use Rattle.naga_ir.specs.declared.module.Module.{Module}
use Rattle.naga_valid.specs.Declarations.{references_of_local_variable}
use Rattle.naga_valid.specs.Functions.{FunctionIsWithin}
use Rattle.naga_valid.specs.Limits.{IsWithin}
use Rattle.naga_valid.specs.Operands.{expression_of, expressions_of}
use Rattle.naga_valid.specs.Places.{lengths, limits_inside, references_found}
use Rattle.naga_valid.specs.Statements.{references_of_tree}
use Rattle.naga_valid.specs.Expressions.{references_of_expression}
use Rattle.naga_valid.specs.Valid.{HandlesAreValid}
use Rattle.naga_valid.specs.declared.place.Part.TheVariants as part
use Rattle.naga_valid.specs.declared.reference.Reference.{Reference}
use Rattle.naga_valid.specs.declared.reference.Reference.TheVariants as reference
use Rattle.naga_valid.proofs.HandlesAreValidLemmas.{HandlesAreValid-entry_point, HandlesAreValid-function}
use Rattle.naga_compact.specs.Functions.{initial_values}
use Rattle.naga_compact.specs.Kept.{kept_elements, new_index}
use Rattle.naga_compact.specs.Module.Compaction.{CompactsModule, HasCompactedFunction, IsCompactedFunction}
use Rattle.naga_compact.specs.Operands.{OperandsPrecede}
use Rattle.naga_compact.specs.Renaming.{Renaming, rename_reference}
use Rattle.naga_compact.specs.Renaming.Functions.{IsRenamedEntryPoint, IsRenamedFunction}
use Rattle.naga_compact.specs.Renaming.Renumbering.{renaming_of}
use Rattle.naga_compact.specs.declared.module.renumbering.ModuleRenumbering.{ModuleRenumbering}
use Rattle.naga_compact.specs.declared.module.roots.KeepUnused.{KeepUnused}
use Rattle.naga_compact.proofs.CompactsFunctionsLemmas.{HandlesAreValid-compacted_functions}
use Rattle.naga_compact.proofs.KeptElementsLemmas.{kept_elements-found}
use Rattle.naga_compact.proofs.OperandsPrecedeLemmas.{OperandsPrecede-entry_points, OperandsPrecede-functions}
use Rattle.naga_meaning.specs.Functions.{HandlesAreInside, looked_up}
use Rattle.naga_meaning.specs.Modules.{KeepsMeaning, KeepsMeanings}
use Rattle.naga_meaning.proofs.ReadsAlikeLemmas.{chains_in-compacted, chains_in-renamed, constant_chains_in-compacted, constant_chains_in-renamed}
use Rattle.naga_meaning.proofs.MeaningLemmas.{Anything, all-anything, meaning-compacted, meaning-renamed}

-- ---- handles of expressions

element-at : {X : Type 0} (P : X → Type 0) (xs : List X) (k : ℕ) (x : X) → All P xs → slice_get xs k ≡ Some x → P x
element-at P xs k x h found = All-contains P xs x h (k, slice_get_within xs k x found, get_or_from_slice_get xs k x x found)

module _ (whole : Module) (functions : ℕ) (declared : Function) where
  abbrev Inside : ℕ → Type 0
  Inside handle = handle < length declared.expressions

  abbrev Within : Reference → Type 0
  Within = IsWithin (limits_inside (record (lengths whole) { functions = functions }) declared)

  one-inside : (x : Reference) (rest : List ℕ) → Within x → All Inside rest → All Inside (cons_option (expression_of x) rest)
  one-inside (reference.Expression handle) rest w h = All-cons Inside handle rest w h
  one-inside _ rest w h = h

  each-inside : (xs : List Reference) → All Within xs → All Inside (expressions_of xs)
  each-inside [] h = All-nil Inside
  each-inside (x ∷ xs) h = one-inside x (expressions_of xs) (All-head Within x xs h) (each-inside xs (All-tail Within x xs h))

  variables-inside : (variables : List (LocalVariable × Span)) → ((k : ℕ) (variable : LocalVariable × Span) → slice_get variables k ≡ Some variable → All Within (references_of_local_variable variable.0)) →
      All Inside (initial_values variables)
  variables-inside [] h = All-nil Inside
  variables-inside (variable ∷ rest) h =
      go variable.0.init (All-tail Within (reference.«Type» variable.0.ty) (option_to_list (option_map reference.Expression variable.0.init)) (h 0 variable refl)) (variables-inside rest (λ k. h (suc k)))
    where
      go : (init : Option ℕ) → All Within (option_to_list (option_map reference.Expression init)) → All Inside (initial_values rest) → All Inside (cons_option init (initial_values rest))
      go None w others = others
      go (Some handle) w others = All-cons Inside handle (initial_values rest) (All-head Within (reference.Expression handle) [] w) others

  inside-within : OperandsPrecede declared.expressions → FunctionIsWithin (record (lengths whole) { functions = functions }) declared → HandlesAreInside declared
  inside-within precede within = record {
    precede = precede;
    body = each-inside (references_of_tree (tree_of declared.body)) (within part.Body);
    variables = variables-inside declared.local_variables (λ k variable found.
        subst (λ o. All Within (references_found references_of_local_variable o))
        (slice_get-map (λ (p : LocalVariable × Span). p.0) declared.local_variables k ∙ ap (option_map (λ (p : LocalVariable × Span). p.0)) found)
        (within (part.LocalVariable k)));
  }

pub function-inside : (whole : Module) → HandlesAreValid whole → (handle : ℕ) (entry : Function × Span) → slice_get whole.functions handle ≡ Some entry → HandlesAreInside entry.0
function-inside whole valid handle entry found =
    inside-within whole handle entry.0
    (element-at (λ (entry : Function × Span). OperandsPrecede entry.0.expressions) whole.functions handle entry (OperandsPrecede-functions whole valid) found)
    (HandlesAreValid-function whole valid handle entry.0 (slice_get-map (λ (p : Function × Span). p.0) whole.functions handle ∙ ap (option_map (λ (p : Function × Span). p.0)) found))

pub entry-inside : (whole : Module) → HandlesAreValid whole → (position : ℕ) (entry : EntryPoint) → slice_get whole.entry_points.items position ≡ Some entry → HandlesAreInside entry.function
entry-inside whole valid position entry found =
    inside-within whole (length whole.functions) entry.function
    (element-at (λ (entry : EntryPoint). OperandsPrecede entry.function.expressions) whole.entry_points.items position entry (OperandsPrecede-entry_points whole valid) found)
    (HandlesAreValid-entry_point whole valid position entry found)

-- ---- functions

-- an element of the first list is related to the one of the second list at the same position
pub related_to : {A B : Type 0} (R : A → B → Type 0) (xs : List A) (ys : List B) → AllZip R xs ys → (k : ℕ) (x : A) → slice_get xs k ≡ Some x → (y : B) × (slice_get ys k ≡ Some y) × R x y
related_to R [] ys all zero x found = absurd (none-some x found)
related_to R [] ys all (suc k) x found = absurd (none-some x found)
related_to R (z ∷ xs) [] all k x found = absurd all
related_to R (z ∷ xs) (y ∷ ys) all zero x found = (y, refl, subst (λ w. R w y) (same_Some z x found) all.0)
related_to R (z ∷ xs) (y ∷ ys) all (suc k) x found = related_to R xs ys all.1 k x found

pub names-alike : {Thing : Type 0} (r : Renaming) (look : Reference → Thing) (name : Reference) → looked_up look (rename_reference r name) ≡ looked_up (λ name. look (rename_reference r name)) name
names-alike r look (reference.Expression handle) = refl
names-alike r look _ = refl

module _ {Thing Value State : Type 0} where
  abbrev pub KeepsMeaning-of : (kept : ModuleRenumbering) (old middle new : Function) → HandlesAreInside old → OperandsPrecede middle.expressions → IsCompactedFunction old middle → IsRenamedFunction (renaming_of kept) middle new →
      KeepsMeaning Thing Value State kept old new
  KeepsMeaning-of kept old middle new inside precede compacted renamed = record {
    expressions = compacted.0;
    reached = compacted.1.reached;
    same = λ at_use at_use' alike look by turns a b same.
        meaning-renamed kept middle new renamed precede Anything
        (record { expressions = λ handle e found. all-anything (references_of_expression e); body = all-anything (references_of_tree (tree_of middle.body)) })
        (λ name. look (rename_reference (renaming_of kept) name)) look (λ name h. names-alike (renaming_of kept) look name) at_use' by turns b
        ∙ meaning-compacted old middle compacted.0 compacted.1 inside at_use at_use' alike (λ name. look (rename_reference (renaming_of kept) name)) by turns a b same;
    chains = λ x so. chains_in-renamed kept middle new renamed (new_index compacted.0 x) ∙ chains_in-compacted old middle compacted.0 compacted.1 x so;
    constant_chains = λ chosen chosen' alike x so.
        constant_chains_in-renamed kept middle new renamed precede chosen' (new_index compacted.0 x)
        ∙ constant_chains_in-compacted old middle compacted.0 compacted.1 inside.precede chosen chosen' alike x so;
  }

  pub KeepsMeanings-of : (old : Module) (keep_unused : KeepUnused) (kept : ModuleRenumbering) (new : Module) → HandlesAreValid old → CompactsModule old keep_unused kept new → KeepsMeanings Thing Value State old kept new
  KeepsMeanings-of old keep_unused kept new valid compacts =
      let between : Module = compacts.middle in
      let valid_between : HandlesAreValid between = HandlesAreValid-compacted_functions old between compacts.functions valid in
      record {
        functions = λ handle before found so.
            let middle = related_to _ old.functions between.functions compacts.functions.functions handle before found in
            let there = kept_elements-found kept.functions between.functions handle middle.0 middle.1 so in
            let after = related_to _ (kept_elements kept.functions between.functions) new.functions compacts.removed.functions (new_index kept.functions handle) middle.0 there in (
              after.0,
              after.1,
              KeepsMeaning-of kept before.0 middle.0.0 after.0.0 (function-inside old valid handle before found)
                  (function-inside between valid_between handle middle.0 middle.1).precede middle.2.0 after.2.0,
            );
        entry_points = λ position before found.
            let middle = related_to HasCompactedFunction old.entry_points.items between.entry_points.items compacts.functions.entry_points position before found in
            let after = related_to (IsRenamedEntryPoint (renaming_of kept)) between.entry_points.items new.entry_points.items compacts.removed.entry_points position middle.0 middle.1 in (
              after.0,
              after.1,
              KeepsMeaning-of kept before.function middle.0.function after.0.function (entry-inside old valid position before found)
                  (entry-inside between valid_between position middle.0 middle.1).precede middle.2.1 after.2.inside,
            );
      }
