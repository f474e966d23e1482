-- What it means to compact a module.
--
-- First each function is compacted by itself, so that only what its body needs is a reference. Then exactly the
-- elements that are used are kept, and what is left is renamed. A comment stays, with its new key, if its key is the
-- handle of a kept element; diagnostic filters are unchanged. Two types that differ stay different, since everything to
-- which a kept type refers is kept.
use Rattle.std.specs.Prelude.{◌≡◌, ⊤, ◌<◌, ℕ, true, List, option_to_list}
use Rattle.std.specs.FinSet.{contains}
use Rattle.std.specs.List.{AllZip, Contains}
use Rattle.naga_arena.specs.Arena.{value_at}
use Rattle.naga_arena.specs.declared.span.Span.{Span}
use Rattle.naga_ir.specs.declared.module.DocComments.{DocComments}
use Rattle.naga_ir.specs.declared.module.EntryPoint as entry_point
use Rattle.naga_ir.specs.declared.module.Function as function
use Rattle.naga_ir.specs.declared.module.Module as the_module
use Rattle.naga_ir.specs.declared.types.«Type».{«Type» as NamedType}
use Rattle.naga_sets.specs.HandleSet.{BoundedSet}
use Rattle.naga_valid.specs.Declarations.{references_of_type}
use Rattle.naga_valid.specs.Places.{references_found}
use Rattle.naga_valid.specs.declared.reference.Reference.{Reference}
use Rattle.naga_valid.specs.declared.reference.Reference.TheVariants as reference
use Rattle.naga_compact.specs.Functions.{CompactsFunction, rename_keys}
use Rattle.naga_compact.specs.Kept.{kept_elements, new_index}
use Rattle.naga_compact.specs.Module.Used.{AreUsed}
use Rattle.naga_compact.specs.Renaming.Declarations.{rename_constant, rename_global_variable, rename_override}
use Rattle.naga_compact.specs.Renaming.{in_global}
use Rattle.naga_compact.specs.derived.Renaming.{rename_expression, rename_type}
use Rattle.naga_compact.specs.Renaming.Functions.{IsRenamedEntryPoint, IsRenamedFunction, map_values}
use Rattle.naga_compact.specs.Renaming.Renumbering.{renaming_of}
use Rattle.naga_compact.specs.Renaming.Types.{rename_special_types}
use Rattle.naga_compact.specs.declared.module.renumbering.ModuleRenumbering.{ModuleRenumbering}
use Rattle.naga_compact.specs.declared.module.roots.KeepUnused.{KeepUnused}
use Rattle.naga_compact.specs.declared.module.used.UsedHandles.{UsedHandles}

-- ---- functions

-- the function is compacted by itself, for some set of kept expressions
abbrev pub IsCompactedFunction : (old new : function.Function) → Type 0
IsCompactedFunction old new = (kept : BoundedSet) × CompactsFunction old kept new

-- the function of the entry point is compacted by itself, and nothing else of the entry point changes
abbrev pub HasCompactedFunction : (old new : entry_point.EntryPoint) → Type 0
HasCompactedFunction old new = (new ≡ record old { function = new.function }) × IsCompactedFunction old.function new.function

-- each function is compacted by itself, also those of the entry points, and nothing else of the module changes
pub record CompactsFunctions (old new : the_module.Module) : Type 0 where
  pub outside : new ≡ record old { functions = new.functions; entry_points = new.entry_points }
  pub functions : AllZip (λ before after. IsCompactedFunction before.0 after.0 × (after.1 ≡ before.1)) old.functions new.functions
  pub entry_points : AllZip HasCompactedFunction old.entry_points.items new.entry_points.items

-- ---- elements

-- the comments on elements that are kept, in order, with the new handles; those on entry points and on the module are
-- unchanged
pub record RenamesComments (kept : ModuleRenumbering) (old new : DocComments) : Type 0 where
  pub types : new.types.entries ≡ rename_keys (contains kept.types.members) (new_index kept.types) old.types.entries
  pub struct_members : new.struct_members.entries
      ≡ rename_keys (λ key. contains kept.types.members key.0) (λ key. (new_index kept.types key.0, key.1)) old.struct_members.entries
  pub functions : new.functions.entries ≡ rename_keys (contains kept.functions.members) (new_index kept.functions) old.functions.entries
  pub constants : new.constants.entries ≡ rename_keys (contains kept.constants.members) (new_index kept.constants) old.constants.entries
  pub global_variables : new.global_variables.entries
      ≡ rename_keys (contains kept.global_variables.members) (new_index kept.global_variables) old.global_variables.entries
  pub entry_points : new.entry_points ≡ old.entry_points
  pub module_comments : new.«module» ≡ old.«module»

-- The elements that are not kept are removed. The others are in order, with their spans. They, and everything else that
-- contains handles, have the new handles in place of the old ones, and nothing else of the module changes.
pub record RemovesElements (kept : ModuleRenumbering) (old new : the_module.Module) : Type 0 where
  pub types : new.types ≡ map_values (rename_type (renaming_of kept)) (kept_elements kept.types old.types)
  pub constants : new.constants ≡ map_values (rename_constant (renaming_of kept)) (kept_elements kept.constants old.constants)
  pub overrides : new.overrides ≡ map_values (rename_override (renaming_of kept)) (kept_elements kept.overrides old.overrides)
  pub global_variables : new.global_variables
      ≡ map_values (rename_global_variable (renaming_of kept)) (kept_elements kept.global_variables old.global_variables)
  pub global_expressions : new.global_expressions
      ≡ map_values (rename_expression (in_global (renaming_of kept))) (kept_elements kept.global_expressions old.global_expressions)
  pub functions : AllZip (λ before after. IsRenamedFunction (renaming_of kept) before.0 after.0 × (after.1 ≡ before.1))
      (kept_elements kept.functions old.functions) new.functions
  pub entry_points : AllZip (IsRenamedEntryPoint (renaming_of kept)) old.entry_points.items new.entry_points.items
  pub special_types : new.special_types ≡ rename_special_types (renaming_of kept) old.special_types
  pub diagnostic_filters : new.diagnostic_filters ≡ old.diagnostic_filters
  pub diagnostic_filter_leaf : new.diagnostic_filter_leaf ≡ old.diagnostic_filter_leaf
  pub doc_comments : AllZip (λ before after. RenamesComments kept before.value after.value)
      (option_to_list old.doc_comments) (option_to_list new.doc_comments)

-- ---- types

-- a type or an override is kept, and its handle is below the bound of its set
abbrev pub IsKeptBelow : ModuleRenumbering → Reference → Type 0
IsKeptBelow kept (reference.«Type» handle) = (contains kept.types.members handle ≡ true) × (handle < kept.types.bound)
IsKeptBelow kept (reference.Override handle) = (contains kept.overrides.members handle ≡ true) × (handle < kept.overrides.bound)
IsKeptBelow kept _ = ⊤

-- the types and overrides to which kept types refer are kept
abbrev pub TypesAreClosed : ModuleRenumbering → List (NamedType × Span) → Type 0
TypesAreClosed kept types =
    (handle : ℕ) (n : Reference) → contains kept.types.members handle ≡ true → Contains (references_found references_of_type (value_at types handle)) n → IsKeptBelow kept n

-- ---- modules

-- the sets of the kept elements
abbrev pub kept_handles : ModuleRenumbering → UsedHandles
kept_handles kept = record {
  types_used = kept.types;
  constants_used = kept.constants;
  overrides_used = kept.overrides;
  global_variables_used = kept.global_variables;
  global_expressions_used = kept.global_expressions;
  functions_used = kept.functions;
}

-- Each function is compacted by itself. Then exactly those elements are kept that are used.
pub record CompactsModule (old : the_module.Module) (keep_unused : KeepUnused) (kept : ModuleRenumbering) (new : the_module.Module) : Type 0 where
  pub middle : the_module.Module
  pub functions : CompactsFunctions old middle
  pub used : AreUsed middle keep_unused (kept_handles kept)
  pub removed : RemovesElements kept middle new
