-- Why the layout of a type does not fit those of its parts.
--
-- An array fits if its elements have a fixed size, and its stride is a multiple of their alignment and not less than their
-- size. A structure fits if its members are at multiples of their alignments, each begins at or after the end of the one
-- before, the last ends at or before the end of the structure, and the size of the structure is a multiple of its
-- alignment. Only the last member may have no fixed size, and only as an array.
use Rattle.std.specs.Prelude.{ℕ, ◌+◌, ◌%◌, ◌^◌, ◌==◌, ◌&&◌, List, [], ◌∷◌, Option, Some, None, Bool, not, if◌then◌else◌, nat_lt, slice_get, unwrap_or, length}
use Rattle.std.specs.Option.{option_or}
use Rattle.naga_arena.specs.declared.span.Span.{Span}
use Rattle.naga_ir.specs.declared.types.StructMember.{StructMember}
use Rattle.naga_ir.specs.declared.types.«Type».{«Type» as NamedType}
use Rattle.naga_ir.specs.declared.types.TypeInner.{TypeInner}
use Rattle.naga_ir.specs.declared.types.TypeInner.TheVariants.{Array, Struct}
use Rattle.naga_layouter.specs.Types.{inner_at, is_open, is_open_array}
use Rattle.naga_layouter.specs.declared.layouter.TypeLayout.{TypeLayout}
use Rattle.naga_layouter.specs.declared.layout_fault.LayoutCause.{LayoutCause}
use Rattle.naga_layouter.specs.declared.layout_fault.LayoutCause.TheVariants.{InvalidArrayBaseType, ArrayStride, InvalidArrayStride, UnsizedMember, MemberOffset, MemberOverlap, MemberOutOfBounds, StructSpan}
use Rattle.naga_layouter.specs.declared.layout_fault.LayoutFault.{LayoutFault}

-- ---- faults

-- a fault of a type or of its member, if there is this cause
abbrev pub fault_by : (ty : ℕ) → (member : Option ℕ) → Option LayoutCause → Option LayoutFault
fault_by ty member (Some cause) = Some (record { ty = ty; member = member; cause = cause })
fault_by ty member None = None

-- ---- layouts

-- the layout of a type, if it is known, and else that of nothing
abbrev pub layout_at : List TypeLayout → ℕ → TypeLayout
layout_at known handle = unwrap_or (slice_get known handle) (record { size = 0; alignment = 0 })

-- the number is a multiple of the alignment
abbrev pub is_multiple : (number alignment : ℕ) → Bool
is_multiple number alignment = number % 2 ^ alignment == 0

-- ---- arrays

-- what is wrong with an array whose elements have this layout, if anything
abbrev pub stride_cause : TypeLayout → (stride : ℕ) → Option LayoutCause
stride_cause layout stride =
    if not (is_multiple stride layout.alignment) then Some (ArrayStride stride layout.alignment) else
    if nat_lt stride layout.size then Some (InvalidArrayStride stride layout.size) else None

abbrev pub array_cause : List (NamedType × Span) → List TypeLayout → (base stride : ℕ) → Option LayoutCause
array_cause types known base stride =
    if is_open types (inner_at types base) then Some InvalidArrayBaseType else stride_cause (layout_at known base) stride

-- ---- structures

-- the member has no fixed size, and is not an array in the last place
abbrev pub is_misplaced : List (NamedType × Span) → (is_last : Bool) → StructMember → Bool
is_misplaced types is_last member =
    let found = inner_at types member.ty in is_open types found && not (is_last && is_open_array found)

-- what is wrong with the place of a member with this layout, if anything, where the members before end at `start`
abbrev pub place_cause : TypeLayout → (start span offset : ℕ) → Option LayoutCause
place_cause layout start span offset =
    if not (is_multiple offset layout.alignment) then Some (MemberOffset offset layout.alignment) else
    if nat_lt offset start then Some (MemberOverlap offset start) else
    if nat_lt span (offset + layout.size) then Some (MemberOutOfBounds offset layout.size span) else None

abbrev pub member_cause : List (NamedType × Span) → List TypeLayout → (start span : ℕ) → (is_last : Bool) → StructMember → Option LayoutCause
member_cause types known start span is_last member =
    if is_misplaced types is_last member then Some UnsizedMember
    else place_cause (layout_at known member.ty) start span member.offset

-- the first fault of the members from this index on, of a structure with so many members, where the members before end at
-- `start`
abbrev pub members_fault : List (NamedType × Span) → List TypeLayout → (ty span count index start : ℕ) → List StructMember → Option LayoutFault
members_fault types known ty span count index start [] = None
members_fault types known ty span count index start (member ∷ rest) =
    option_or (fault_by ty (Some index) (member_cause types known start span (index + 1 == count) member))
    (members_fault types known ty span count (index + 1) (member.offset + (layout_at known member.ty).size) rest)

-- what is wrong with the size of a structure, if anything
abbrev pub span_cause : (alignment span : ℕ) → Option LayoutCause
span_cause alignment span = if is_multiple span alignment then None else Some (StructSpan span alignment)

-- ---- types

-- the first fault of a type, if it has one
abbrev pub type_fault : List (NamedType × Span) → List TypeLayout → (ty : ℕ) → TypeInner → Option LayoutFault
type_fault types known ty (Array base size stride) = fault_by ty None (array_cause types known base stride)
type_fault types known ty (Struct members span) =
    option_or (members_fault types known ty span (length members.items) 0 0 members.items)
    (fault_by ty None (span_cause (layout_at known ty).alignment span))
type_fault types known ty _ = None

-- the first fault of these types, the first of which has the handle `ty`
abbrev pub types_fault : List (NamedType × Span) → List TypeLayout → (ty : ℕ) → List NamedType → Option LayoutFault
types_fault types known ty [] = None
types_fault types known ty (type ∷ rest) = option_or (type_fault types known ty type.inner) (types_fault types known (ty + 1) rest)
