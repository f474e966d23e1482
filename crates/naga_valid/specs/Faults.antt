-- The faults that the checks of handles find.
use Rattle.std.specs.Prelude.{◌≡◌, ◌<◌, ◌≤◌, ⊤, ℕ, All, List, MatchOption, [], map, length, slice_get, Option, Some, None, Result, MatchResult}
use Rattle.std.specs.List.{Contains}
use Rattle.std.specs.Option.{option_map}
use Rattle.indexmap.specs.IndexMap.{keys}
use Rattle.naga_arena.specs.Arena.{value_at}
use Rattle.naga_ir.specs.declared.module.DocComments as comments
use Rattle.naga_ir.specs.declared.module.Function as function
use Rattle.naga_ir.specs.declared.module.Module as the_module
use Rattle.naga_valid.specs.Limits.{AreWithin, IsWithin}
use Rattle.naga_valid.specs.Places.{lengths, limits_at, limits_in_part, limits_inside, references_in, references_in_part}
use Rattle.naga_valid.specs.Valid.{IsConstant, init_of_reference, init_of_size, size_of_type, type_of_reference}
use Rattle.naga_valid.specs.declared.handles.fault.Fault.{Fault}
use Rattle.naga_valid.specs.declared.handles.fault.Owner as owner
use Rattle.naga_valid.specs.declared.handles.fault.Owner.TheVariants as owned
use Rattle.naga_valid.specs.declared.invalid_handle.InvalidHandle.{InvalidHandle}
use Rattle.naga_valid.specs.declared.invalid_handle.InvalidHandle.TheVariants.{BadHandle, BadRange, ForwardDependency, NotConstant, InitDependency, SizeDependency, OverrideDependency}
use Rattle.naga_valid.specs.declared.limits.Limits.{Limits}
use Rattle.naga_valid.specs.declared.reference.Reference.{Reference}
use Rattle.naga_valid.specs.declared.reference.Reference.TheVariants as reference
use Rattle.naga_valid.specs.declared.place.Part.{Part}
use Rattle.naga_valid.specs.declared.place.Place.{Place}
use Rattle.naga_valid.specs.declared.place.Place.TheVariants as place

-- ---- lists of handles

-- the fault is a handle of the list that is not within the limits, at this place
abbrev pub IsFaultOf : Limits → List Reference → Place → Fault → Type 0
IsFaultOf limits references at fault = (fault.place ≡ at) × Contains references fault.reference × ¬ IsWithin limits fault.reference

-- the handles of the list are within the limits, or the error is one that is not
abbrev pub ChecksList : {Done : Type 0} → Limits → List Reference → Place → Result Done Fault → Type 0
ChecksList limits references at result = MatchResult result (λ _. AreWithin limits references) (IsFaultOf limits references at)

-- ---- functions

-- the place of a part of the function that belongs to `owner`
abbrev pub place_of : owner.Owner → Part → Place
place_of (owned.Function handle) = place.Function handle
place_of (owned.EntryPoint position) = place.EntryPointFunction position

-- the handles of the part are within its limits
abbrev pub IsPartWithin : Limits → function.Function → Part → Type 0
IsPartWithin limits whole inner = AreWithin (limits_in_part limits inner) (references_in_part whole inner)

-- the fault is one of a part of the function
abbrev pub IsPartFault : Limits → function.Function → owner.Owner → Fault → Type 0
IsPartFault limits whole owner fault =
    (inner : Part) × IsFaultOf (limits_in_part limits inner) (references_in_part whole inner) (place_of owner inner) fault

-- the claim holds, or the error is a fault of the function
abbrev pub ChecksFunction : {Done : Type 0} → Limits → function.Function → owner.Owner → Type 0 → Result Done Fault → Type 0
ChecksFunction limits whole owner claim result = MatchResult result (λ _. claim) (IsPartFault limits whole owner)

-- ---- modules

-- the handles of the place are within its limits
abbrev pub IsPlaceWithin : the_module.Module → Place → Type 0
IsPlaceWithin whole at = AreWithin (limits_at whole at) (references_in whole at)

-- the handles of these places are within their limits
abbrev pub ArePlacesWithin : {Index : Type 0} → the_module.Module → (Index → Place) → Type 0
ArePlacesWithin {Index} whole places = (index : Index) → IsPlaceWithin whole (places index)

-- the fault is a handle of its place that is not within the limits of the place
abbrev pub IsOutside : the_module.Module → Fault → Type 0
IsOutside whole fault = Contains (references_in whole fault.place) fault.reference × ¬ IsWithin (limits_at whole fault.place) fault.reference

-- the claim holds, or the error is a fault of the module
abbrev pub Checks : {Done : Type 0} → the_module.Module → Type 0 → Result Done Fault → Type 0
Checks whole claim result = MatchResult result (λ _. claim) (IsOutside whole)

-- the handles in the keys of doc comments, at their places
abbrev pub references_of_comments : comments.DocComments → Place → List Reference
references_of_comments of place.TypeComments = map reference.«Type» (keys of.types)
references_of_comments of place.MemberComments = map (λ key. reference.«Type» key.0) (keys of.struct_members)
references_of_comments of place.FunctionComments = map reference.Function (keys of.functions)
references_of_comments of place.ConstantComments = map reference.Constant (keys of.constants)
references_of_comments of place.GlobalVariableComments = map reference.GlobalVariable (keys of.global_variables)
references_of_comments of _ = []

-- all these handles are within the limits, or the error is one that is not
abbrev pub ChecksComments : {Done : Type 0} → Limits → comments.DocComments → Result Done Fault → Type 0
ChecksComments limits of result =
    MatchResult result (λ _. (at : Place) → AreWithin limits (references_of_comments of at)) (λ fault. IsFaultOf limits (references_of_comments of fault.place) fault.place fault)

-- the handles in the keys of the doc comments are within their limits
abbrev pub CommentsAreWithin : the_module.Module → Type 0
CommentsAreWithin whole =
    IsPlaceWithin whole place.TypeComments × IsPlaceWithin whole place.MemberComments
    × IsPlaceWithin whole place.FunctionComments × IsPlaceWithin whole place.ConstantComments
    × IsPlaceWithin whole place.GlobalVariableComments

-- all handles of the function and of its entry point are within their limits
abbrev pub IsEntryPointWithin : the_module.Module → ℕ → Type 0
IsEntryPointWithin whole position = IsPlaceWithin whole (place.EntryPoint position) × ArePlacesWithin whole (place.EntryPointFunction position)

-- ---- global expressions

-- the answer is a global expression of the range with a reference that is not permitted, and that reference, or `None`
-- if there is no such expression
abbrev pub FindsReference : (Permits : ℕ → Reference → Type 0) → the_module.Module → (start past : ℕ) → Option (ℕ × Reference) → Type 0
FindsReference Permits whole start past answer =
    MatchOption answer
    ((expression : ℕ) → start ≤ expression → expression < past → All (Permits expression) (references_in whole (place.GlobalExpression expression)))
    (λ found. (found.0 < past) × Contains (references_in whole (place.GlobalExpression found.0)) found.1 × ¬ Permits found.0 found.1)

-- the place is an element of `global_expressions`
abbrev pub IsGlobalExpression : Place → Type 0
IsGlobalExpression (place.GlobalExpression handle) = ⊤
IsGlobalExpression _ = ⊥

-- ---- the errors of a module

-- the arenas of a function that is there
abbrev pub arenas_found : Limits → Option function.Function → Limits
arenas_found limits (Some declared) = limits_inside limits declared
arenas_found limits None = limits

-- the lengths of the arenas of the handles at a place
abbrev pub arenas_at : the_module.Module → Place → Limits
arenas_at whole (place.GlobalExpression handle) = record (lengths whole) { expressions = length whole.global_expressions }
arenas_at whole (place.Function handle inner) = arenas_found (lengths whole) (value_at whole.functions handle)
arenas_at whole (place.EntryPointFunction position inner) = arenas_found (lengths whole) (option_map (λ entry. entry.function) (slice_get whole.entry_points.items position))
arenas_at whole _ = lengths whole

-- The error names a handle or range of the module that is not valid: one that is not in its arena, one that is in its
-- arena but not before the part that contains it, one of a global expression that is not constant, a constant or an
-- override to which a global expression refers before its init, a type to which a global expression refers too early,
-- or an override that is a size before its type.
abbrev pub IsAtFault : the_module.Module → InvalidHandle → Type 0
IsAtFault whole (BadHandle handle at) = Contains (references_in whole at) handle × ¬ IsWithin (arenas_at whole at) handle
IsAtFault whole (BadRange first past at) =
    Contains (references_in whole at) (reference.Expressions first past) × ¬ IsWithin (arenas_at whole at) (reference.Expressions first past)
IsAtFault whole (ForwardDependency handle at) =
    Contains (references_in whole at) handle × IsWithin (arenas_at whole at) handle × ¬ IsWithin (limits_at whole at) handle
IsAtFault whole (NotConstant handle at) = IsGlobalExpression at × Contains (references_in whole at) handle × ¬ IsConstant handle
IsAtFault whole (InitDependency expression handle init) =
    Contains (references_in whole (place.GlobalExpression expression)) handle × (init_of_reference whole handle ≡ Some init) × (expression ≤ init)
IsAtFault whole (SizeDependency ty expression depends_on) =
    (init : ℕ) × (handle : Reference) × (init_of_size whole ty ≡ Some init) × (expression ≤ init)
    × Contains (references_in whole (place.GlobalExpression expression)) handle × (type_of_reference whole handle ≡ Some depends_on)
    × (ty ≤ depends_on)
IsAtFault whole (OverrideDependency ty size depends_on) =
    (size_of_type whole ty ≡ Some size) × (type_of_reference whole (reference.Override size) ≡ Some depends_on) × (ty ≤ depends_on)

-- the place of an error: for an init, the global expression; for a size, the type that has it
abbrev pub place_of_fault : InvalidHandle → Place
place_of_fault (BadHandle handle at) = at
place_of_fault (BadRange first past at) = at
place_of_fault (ForwardDependency handle at) = at
place_of_fault (NotConstant handle at) = at
place_of_fault (InitDependency expression handle init) = place.GlobalExpression expression
place_of_fault (SizeDependency ty expression depends_on) = place.«Type» ty
place_of_fault (OverrideDependency ty size depends_on) = place.«Type» ty
