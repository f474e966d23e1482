-- The modules in which all handles are valid.
--
-- What each place contains is within the limits for that place: types, expressions, functions and filters refer only to
-- earlier ones. A global expression refers only to types, constants, overrides and global expressions, and to a
-- constant or an override only after its init. A type whose size is an override comes after the type of the override
-- and, if the override has an init, after all types on which the global expressions up to that init depend. So no type,
-- constant, override or global expression depends on itself.
use Rattle.std.specs.Prelude.{◌≡◌, ◌<◌, ◌≤◌, ⊤, ℕ, All, Option, Some, None, option_and_then}
use Rattle.std.specs.Option.{ForSome, option_map}
use Rattle.naga_arena.specs.Arena.{value_at}
use Rattle.naga_ir.specs.declared.module.Module as the_module
use Rattle.naga_ir.specs.declared.types.TypeInner.{TypeInner}
use Rattle.naga_ir.specs.declared.types.TypeInner.TheVariants.{Array, BindingArray}
use Rattle.naga_valid.specs.Declarations.{pending_of}
use Rattle.naga_valid.specs.Limits.{AreWithin}
use Rattle.naga_valid.specs.Places.{limits_at, references_in}
use Rattle.naga_valid.specs.declared.reference.Reference.{Reference}
use Rattle.naga_valid.specs.declared.reference.Reference.TheVariants as reference
use Rattle.naga_valid.specs.declared.place.Place.{Place}
use Rattle.naga_valid.specs.declared.place.Place.TheVariants.{GlobalExpression}

-- the references of each part are to elements of their arenas, and to earlier ones where the part is an element of the
-- same arena
abbrev pub ReferencesAreWithin : the_module.Module → Type 0
ReferencesAreWithin whole = (place : Place) → AreWithin (limits_at whole place) (references_in whole place)

-- ---- what a reference leads to

-- the type that is referred to, or the type of the constant or override that is
abbrev pub type_of_reference : the_module.Module → Reference → Option ℕ
type_of_reference whole (reference.«Type» handle) = Some handle
type_of_reference whole (reference.Constant handle) = option_map (λ declared. declared.ty) (value_at whole.constants handle)
type_of_reference whole (reference.Override handle) = option_map (λ declared. declared.ty) (value_at whole.overrides handle)
type_of_reference whole _ = None

-- the init of the constant or override that is referred to
abbrev pub init_of_reference : the_module.Module → Reference → Option ℕ
init_of_reference whole (reference.Constant handle) = option_map (λ declared. declared.init) (value_at whole.constants handle)
init_of_reference whole (reference.Override handle) = option_and_then (λ declared. declared.init) (value_at whole.overrides handle)
init_of_reference whole _ = None

-- ---- global expressions

-- a global expression may refer to types, constants, overrides and global expressions, and to nothing else
abbrev pub IsConstant : Reference → Type 0
IsConstant (reference.«Type» handle) = ⊤
IsConstant (reference.Constant handle) = ⊤
IsConstant (reference.Override handle) = ⊤
IsConstant (reference.Expression handle) = ⊤
IsConstant _ = ⊥

-- the init of the constant or override that is referred to, if there is one, is before the global expression
abbrev pub IsAfterInit : the_module.Module → (expression : ℕ) → Reference → Type 0
IsAfterInit whole expression to = ForSome (init_of_reference whole to) (λ init. init < expression)

abbrev pub IsConstantExpression : the_module.Module → (expression : ℕ) → Type 0
IsConstantExpression whole expression = All (λ to. IsConstant to × IsAfterInit whole expression to) (references_in whole (GlobalExpression expression))

-- ---- sizes of types

-- the override of the size of a type
abbrev pub override_of_size : TypeInner → Option ℕ
override_of_size (Array base size stride) = pending_of size
override_of_size (BindingArray base size) = pending_of size
override_of_size _ = None

-- the override of the size of the type with this handle, as a reference
abbrev pub size_of_type : the_module.Module → ℕ → Option ℕ
size_of_type whole ty = option_and_then (λ type. override_of_size type.inner) (value_at whole.types ty)

-- the init of the override of the size of the type with this handle
abbrev pub init_of_size : the_module.Module → ℕ → Option ℕ
init_of_size whole ty = option_and_then (λ handle. init_of_reference whole (reference.Override handle)) (size_of_type whole ty)

-- the type of the override of the size of the type with this handle
abbrev pub type_of_size : the_module.Module → ℕ → Option ℕ
type_of_size whole ty = option_and_then (λ handle. type_of_reference whole (reference.Override handle)) (size_of_type whole ty)

-- the type that the reference leads to, if it leads to one, is before `ty`
abbrev pub IsBeforeType : the_module.Module → (ty : ℕ) → Reference → Type 0
IsBeforeType whole ty to = ForSome (type_of_reference whole to) (λ other. other < ty)

-- the global expression refers only to types before `ty`, and to constants and overrides of such types
abbrev pub RefersBefore : the_module.Module → (ty expression : ℕ) → Type 0
RefersBefore whole ty expression = All (IsBeforeType whole ty) (references_in whole (GlobalExpression expression))

-- if the size of the type is an override, the type comes after the type of the override, and all global expressions up
-- to the init of the override refer only to earlier types
pub record SizePrecedes (whole : the_module.Module) (ty : ℕ) : Type 0 where
  pub type : ForSome (type_of_size whole ty) (λ other. other < ty)
  pub init : (init expression : ℕ) → init_of_size whole ty ≡ Some init → expression ≤ init → RefersBefore whole ty expression

-- each handle and range is in its arena, no element of an arena refers to itself or a later one, and types, constants,
-- overrides and global expressions are in an order in which nothing depends on itself
pub record HandlesAreValid (whole : the_module.Module) : Type 0 where
  pub references : ReferencesAreWithin whole
  pub expressions : (expression : ℕ) → IsConstantExpression whole expression
  pub sizes : (ty : ℕ) → SizePrecedes whole ty
