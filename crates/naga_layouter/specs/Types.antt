-- Types looked up by their handles, and types whose values have no fixed size.
use Rattle.std.specs.Prelude.{ℕ, ◌-◌, List, Option, Some, Bool, true, false, option_and_then, length, slice_get}
use Rattle.std.specs.Option.{option_map}
use Rattle.naga_arena.specs.Arena.{value_at}
use Rattle.naga_arena.specs.declared.span.Span.{Span}
use Rattle.naga_ir.specs.declared.types.ArraySize.{ArraySize}
use Rattle.naga_ir.specs.declared.types.ArraySize.TheVariants as array_size
use Rattle.naga_ir.specs.declared.types.StructMember.{StructMember}
use Rattle.naga_ir.specs.declared.types.«Type».{«Type» as NamedType}
use Rattle.naga_ir.specs.declared.types.TypeInner.{TypeInner}
use Rattle.naga_ir.specs.declared.types.TypeInner.TheVariants.{Array, Struct}

-- the contents of the type with this handle, or `None` if there is no such type
abbrev pub inner_at : List (NamedType × Span) → ℕ → Option TypeInner
inner_at types handle = option_map (λ type. type.inner) (value_at types handle)

-- the last of the members
abbrev pub last_of : List StructMember → Option StructMember
last_of members = slice_get members (length members - 1)

-- the type of a member that was looked up
abbrev pub inner_of_member : List (NamedType × Span) → Option StructMember → Option TypeInner
inner_of_member types found = option_and_then (λ member. inner_at types member.ty) found

-- the number of elements of an array is not written in the shader: it is known once the pipeline is created, or the shader
-- runs
abbrev pub is_open_size : ArraySize → Bool
is_open_size (array_size.Constant number) = false
is_open_size _ = true

-- the type is an array with such a number of elements
abbrev pub is_open_array : Option TypeInner → Bool
is_open_array (Some (Array base size stride)) = is_open_size size
is_open_array _ = false

-- the type is such an array, or a structure whose last member is one
abbrev pub is_open : List (NamedType × Span) → Option TypeInner → Bool
is_open types (Some (Struct members span)) = is_open_array (inner_of_member types (last_of members.items))
is_open types found = is_open_array found
