-- The item of a part of a module that contains the handle or range at fault.
use Rattle.std.specs.Prelude.{◌≡◌, ℕ, nat_eq, Option, Some, None, option_map, position, slice_get, MatchOption}
use Rattle.naga_arena.specs.Arena.{value_at}
use Rattle.naga_ir.specs.View.{tree_of}
use Rattle.naga_ir.specs.declared.module.Function as function
use Rattle.naga_ir.specs.declared.module.Module as the_module
use Rattle.naga_valid.specs.Faults.{place_of_fault}
use Rattle.naga_valid.specs.declared.invalid_handle.InvalidHandle.{InvalidHandle}
use Rattle.naga_valid.specs.declared.invalid_handle.InvalidHandle.TheVariants as invalid
use Rattle.naga_valid.specs.declared.place.Part.{Part}
use Rattle.naga_valid.specs.declared.place.Part.TheVariants as part
use Rattle.naga_valid.specs.declared.place.Place.{Place}
use Rattle.naga_valid.specs.declared.place.Place.TheVariants as place
use Rattle.naga_valid.specs.declared.reference.Reference.{Reference}
use Rattle.naga_valid.specs.declared.reference.Reference.TheVariants as reference
use Rattle.naga_explain.specs.Statements.{IsStatementTo}
use Rattle.naga_explain.specs.declared.item.Item.{Item}
use Rattle.naga_explain.specs.declared.item.Item.TheVariants.{Statement, Argument, NamedExpression, Comment}

-- the handle or range at fault that is in the place of the error itself
abbrev pub reference_at_fault : InvalidHandle → Option Reference
reference_at_fault (invalid.BadHandle handle at) = Some handle
reference_at_fault (invalid.BadRange start past at) = Some (reference.Expressions start past)
reference_at_fault (invalid.ForwardDependency handle at) = Some handle
reference_at_fault _ = None

-- the argument, if there is one, whose type is this one, and which is the first such
abbrev pub argument_of_type : function.Function → ℕ → Option ℕ
argument_of_type whole ty = position (λ argument. nat_eq argument.ty ty) whole.arguments.items

-- the item of a part of a function that contains this, or none if the part is one item itself
abbrev pub IsItemInPart : function.Function → Part → Reference → Option Item → Type 0
IsItemInPart whole part.Body to found =
    (number : Option ℕ) × (found ≡ option_map Statement number) × IsStatementTo to (tree_of whole.body) number
IsItemInPart whole part.Arguments (reference.«Type» ty) found = found ≡ option_map Argument (argument_of_type whole ty)
IsItemInPart whole part.NamedExpressions (reference.Expression handle) found = found ≡ Some (NamedExpression handle)
IsItemInPart whole inner to found = found ≡ None

-- the same for a function that may not be there
abbrev pub IsItemInFunction : Part → Reference → Option Item → Option function.Function → Type 0
IsItemInFunction inner to found (Some whole) = IsItemInPart whole inner to found
IsItemInFunction inner to found None = found ≡ None

-- the item of a part of a module that contains this, or none if the part is one item itself
abbrev pub IsItemInPlace : the_module.Module → Place → Reference → Option Item → Type 0
IsItemInPlace whole (place.Function handle inner) to found = IsItemInFunction inner to found (value_at whole.functions handle)
IsItemInPlace whole (place.EntryPointFunction index inner) to found =
    IsItemInFunction inner to found (option_map (λ entry. entry.function) (slice_get whole.entry_points.items index))
IsItemInPlace whole place.TypeComments to found = found ≡ Some (Comment to)
IsItemInPlace whole place.FunctionComments to found = found ≡ Some (Comment to)
IsItemInPlace whole place.ConstantComments to found = found ≡ Some (Comment to)
IsItemInPlace whole place.GlobalVariableComments to found = found ≡ Some (Comment to)
IsItemInPlace whole at to found = found ≡ None

-- the item of the place of an error that contains what is at fault
abbrev pub IsItemAtFault : the_module.Module → InvalidHandle → Option Item → Type 0
IsItemAtFault whole error found =
    MatchOption (reference_at_fault error) (found ≡ None) (λ to. IsItemInPlace whole (place_of_fault error) to found)
