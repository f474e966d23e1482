-- The parts of values, and the scalars in them.
use Rattle.std.specs.Prelude.{◌≡◌, ◌≢◌, ℕ, ◌+◌, ◌*◌, ◌^◌, ◌≤◌, List, Option, Some, None, Bool, true, false, nat_lt, slice_get}
use Rattle.std.specs.Int.NonZero.{non_zero_u32_get}
use Rattle.naga_arena.specs.declared.span.Span.{Span}
use Rattle.naga_kinds.specs.Scalar.{components_of}
use Rattle.naga_ir.specs.declared.module.Module as the_module
use Rattle.naga_ir.specs.declared.types.ArraySize.{ArraySize}
use Rattle.naga_ir.specs.declared.types.ArraySize.TheVariants as array_size
use Rattle.naga_ir.specs.declared.types.StructMember.{StructMember}
use Rattle.naga_ir.specs.declared.types.«Type».{«Type» as NamedType}
use Rattle.naga_ir.specs.declared.types.TypeInner.{TypeInner}
use Rattle.naga_ir.specs.declared.types.TypeInner.TheVariants.{Scalar, Vector, Matrix, CooperativeMatrix, Atomic, Pointer, ValuePointer, Array, Struct}
use Rattle.naga_layouter.specs.Alignment.{alignment_of_size}
use Rattle.naga_layouter.specs.Check.{FirstFaultIs}
use Rattle.naga_layouter.specs.Layout.{side_of}
use Rattle.naga_layouter.specs.Paths.{Reaches, IsLeaf, AreDisjoint}
use Rattle.naga_layouter.specs.Types.{inner_at, last_of}

-- ---- parts

-- a part that was looked up, at this offset
abbrev pub placed : ℕ → Option TypeInner → Option (ℕ × TypeInner)
placed offset None = None
placed offset (Some inner) = Some (offset, inner)

-- the part, if the test holds
abbrev pub when : Bool → Option (ℕ × TypeInner) → Option (ℕ × TypeInner)
when true found = found
when false found = None

-- a member that was looked up
abbrev pub member_placed : List (NamedType × Span) → Option StructMember → Option (ℕ × TypeInner)
member_placed types None = None
member_placed types (Some member) = placed member.offset (inner_at types member.ty)

-- the number of elements of an array: n, if it is not written in the shader
abbrev pub count_with : (n : ℕ) → ArraySize → ℕ
count_with n (array_size.Constant number) = non_zero_u32_get number
count_with n _ = n

-- the part with this index of a value of a type, its offset and its type: a component, a column, an element or a member
abbrev pub part_with : List (NamedType × Span) → (n : ℕ) → TypeInner → ℕ → Option (ℕ × TypeInner)
part_with types n (Vector size scalar) i = when (nat_lt i (components_of size)) (Some (i * scalar.width, Scalar scalar))
part_with types n (Matrix columns rows scalar) i =
    when (nat_lt i (components_of columns)) (Some (i * (2 ^ alignment_of_size rows * scalar.width), Vector rows scalar))
part_with types n (Array base size stride) i = when (nat_lt i (count_with n size)) (placed (i * stride) (inner_at types base))
part_with types n (Struct members span) i = member_placed types (slice_get members.items i)
part_with types n _ i = None

-- ---- bytes

-- the bytes of a structure with this last member: its size, or up to the end of an array with n elements in the last place
abbrev pub bytes_to_end : (n span : ℕ) → (last : Option (ℕ × TypeInner)) → ℕ
bytes_to_end n span (Some (offset, Array base (array_size.Constant number) stride)) = span
bytes_to_end n span (Some (offset, Array base size stride)) = offset + n * stride
bytes_to_end n span _ = span

-- the bytes of a value of a type, in which an array whose number of elements is not written in the shader has n of them
abbrev pub bytes_with : List (NamedType × Span) → (n : ℕ) → TypeInner → ℕ
bytes_with types n (Scalar scalar) = scalar.width
bytes_with types n (Atomic scalar) = scalar.width
bytes_with types n (Vector size scalar) = components_of size * scalar.width
bytes_with types n (Matrix columns rows scalar) = components_of columns * (2 ^ alignment_of_size rows * scalar.width)
bytes_with types n (CooperativeMatrix columns rows scalar role) = side_of columns * (side_of rows * scalar.width)
bytes_with types n (Pointer base space) = 4
bytes_with types n (ValuePointer size scalar space) = 4
bytes_with types n (Array base size stride) = count_with n size * stride
bytes_with types n (Struct members span) = bytes_to_end n span (member_placed types (last_of members.items))
bytes_with types n _ = 0

-- ---- leaves

-- a path of indices leads from a value of a type to a leaf, a value without parts, of this type and at this offset
pub record LeadsTo (types : List (NamedType × Span)) (n : ℕ) (inner : TypeInner) (path : List ℕ) (offset : ℕ) (leaf : TypeInner) : Type 0 where
  pub reached : Reaches (bytes_with types n) (part_with types n) inner path offset leaf
  pub indivisible : IsLeaf (bytes_with types n) (part_with types n) leaf

-- If the check finds no fault in a module, then different paths in a value of a type lead to leaves that share no byte, and
-- that end at or before the end of the value. An array whose number of elements is not written in the shader may have any
-- number of them.
abbrev pub LeavesDoNotMeet : Type 0
LeavesDoNotMeet = (whole : the_module.Module) → FirstFaultIs whole None → (n handle : ℕ) (inner : TypeInner)
    → inner_at whole.types handle ≡ Some inner → (path way : List ℕ) (offset other : ℕ) (leaf second : TypeInner)
    → LeadsTo whole.types n inner path offset leaf → LeadsTo whole.types n inner way other second → path ≢ way
    → AreDisjoint (bytes_with whole.types n) (part_with whole.types n) offset other leaf second

-- the same of one leaf: it ends at or before the end of the value
abbrev pub LeavesLieInside : Type 0
LeavesLieInside = (whole : the_module.Module) → FirstFaultIs whole None → (n handle : ℕ) (inner : TypeInner)
    → inner_at whole.types handle ≡ Some inner → (path : List ℕ) (offset : ℕ) (leaf : TypeInner)
    → LeadsTo whole.types n inner path offset leaf
    → offset + bytes_with whole.types n leaf ≤ bytes_with whole.types n inner
