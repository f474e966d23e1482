-- The elements of a module that are used.
--
-- An element is used if it is a root, or if a used one contains its handle. The roots are what the entry points
-- contain, the special types, and the constants that have a name and whose type is not abstract; with `KeepUnused::Yes`
-- also all functions and global variables, and the types and overrides that have a name. So an expression, a type, an
-- override or a constant without a name, and a constant of an abstract type, is used only if another element refers to
-- it.
--
-- A type is abstract if it is a scalar, a vector or a matrix of the kind `AbstractInt` or `AbstractFloat`, or an array
-- whose base is abstract.
use Rattle.std.specs.Prelude.{◌≡◌, ◌↔◌, ℕ, List, ◌++◌, length, Bool, true, false, not, ◌&&◌, if◌then◌else◌, Option, Some, None, is_some}
use Rattle.std.specs.FinSet.{contains}
use Rattle.std.specs.List.{Contains, enumerate_from, filter_map, flat_map}
use Rattle.naga_arena.specs.Arena.{values}
use Rattle.naga_arena.specs.declared.span.Span.{Span}
use Rattle.naga_sets.specs.HandleSet.{none_below}
use Rattle.naga_ir.specs.declared.module.Constant as constant
use Rattle.naga_ir.specs.declared.module.Module as the_module
use Rattle.naga_ir.specs.declared.types.«Type».{«Type» as NamedType}
use Rattle.naga_valid.specs.Places.{references_of_special_types}
use Rattle.naga_valid.specs.declared.reference.Reference.{Reference}
use Rattle.naga_valid.specs.declared.reference.Reference.TheVariants.{«Type», Constant, Override, GlobalVariable, GlobalExpression, Function}
use Rattle.naga_compact.specs.Module.AbstractTypes.{is_abstract}
use Rattle.naga_compact.specs.Module.References.{IsElement, references_of_element, references_of_whole_entry_point}
use Rattle.naga_compact.specs.Reachability.{IsReachable}
use Rattle.naga_compact.specs.declared.module.roots.KeepUnused.{KeepUnused}
use Rattle.naga_compact.specs.declared.module.roots.KeepUnused.TheVariants.{No, Yes}
use Rattle.naga_compact.specs.declared.module.used.UsedHandles.{UsedHandles}

-- the first element contains the handle of the second
abbrev pub RefersTo : the_module.Module → (element other : Reference) → Type 0
RefersTo whole element other = Contains (references_of_element whole element) other

-- an element is used if it is a root, or if an element that is used contains its handle
abbrev pub IsUsed : the_module.Module → (roots : List Reference) → Reference → Type 0
IsUsed whole roots = IsReachable (RefersTo whole) (Contains roots)

-- the element with the handle of an entry, if the value of the entry passes the test
abbrev pub element_if : {X : Type 0} → (ℕ → Reference) → (X → Bool) → ℕ × X → Option Reference
element_if element test entry = if test entry.1 then Some (element entry.0) else None

-- the elements of an arena whose values pass the test
abbrev pub elements_where : {X : Type 0} → (ℕ → Reference) → (X → Bool) → List (X × Span) → List Reference
elements_where element test arena = filter_map (element_if element test) (enumerate_from 0 (values arena))

-- the constant has a name, and its type is not abstract
abbrev pub is_named_concrete : List (NamedType × Span) → constant.Constant → Bool
is_named_concrete types declared = is_some declared.name && not (is_abstract types declared.ty)

-- what is never removed: the special types, what the entry points contain, and the named constants of a concrete type
abbrev pub required : the_module.Module → List Reference
required whole =
    references_of_special_types whole.special_types
    ++ (flat_map references_of_whole_entry_point whole.entry_points.items
    ++ elements_where Constant (is_named_concrete whole.types) whole.constants)

-- what is not removed if unused elements are kept: the types and the overrides that have a name, all global variables,
-- and all functions
abbrev pub kept_if_unused : the_module.Module → List Reference
kept_if_unused whole =
    elements_where «Type» (λ type. is_some type.name) whole.types
    ++ (elements_where Override (λ override. is_some override.name) whole.overrides
    ++ (elements_where GlobalVariable (λ variable. true) whole.global_variables
    ++ elements_where Function (λ function. true) whole.functions))

-- what is used by definition
abbrev pub roots : the_module.Module → KeepUnused → List Reference
roots whole No = required whole
roots whole Yes = required whole ++ kept_if_unused whole

-- the empty sets for the arenas of the module
abbrev pub nothing_used : the_module.Module → UsedHandles
nothing_used whole = record {
  types_used = none_below (length whole.types);
  constants_used = none_below (length whole.constants);
  overrides_used = none_below (length whole.overrides);
  global_variables_used = none_below (length whole.global_variables);
  global_expressions_used = none_below (length whole.global_expressions);
  functions_used = none_below (length whole.functions);
}

-- the element is a member of the set of its arena
abbrev pub is_member : UsedHandles → Reference → Bool
is_member used («Type» handle) = contains used.types_used.members handle
is_member used (Constant handle) = contains used.constants_used.members handle
is_member used (Override handle) = contains used.overrides_used.members handle
is_member used (GlobalVariable handle) = contains used.global_variables_used.members handle
is_member used (GlobalExpression handle) = contains used.global_expressions_used.members handle
is_member used (Function handle) = contains used.functions_used.members handle
is_member used _ = false

-- the bound of each set is the length of its arena
pub record AreBoundsOf (whole : the_module.Module) (used : UsedHandles) : Type 0 where
  pub types : used.types_used.bound ≡ length whole.types
  pub constants : used.constants_used.bound ≡ length whole.constants
  pub overrides : used.overrides_used.bound ≡ length whole.overrides
  pub global_variables : used.global_variables_used.bound ≡ length whole.global_variables
  pub global_expressions : used.global_expressions_used.bound ≡ length whole.global_expressions
  pub functions : used.functions_used.bound ≡ length whole.functions

-- the sets have exactly the elements of the module that are used
pub record AreUsed (whole : the_module.Module) (keep_unused : KeepUnused) (used : UsedHandles) : Type 0 where
  pub bounds : AreBoundsOf whole used
  pub members : (element : Reference) → (is_member used element ≡ true) ↔ (IsElement whole element × IsUsed whole (roots whole keep_unused) element)
