-- Why values of a type cannot be in a space that the host shares, or in a uniform buffer.
--
-- The host has values of integers and of floats, and of what consists of them. In a uniform buffer, strides are multiples of
-- 16, members that are arrays or structures are at multiples of 16, and the member after a structure begins at or after the
-- next multiple of 16 behind it.
use Rattle.std.specs.Prelude.{ℕ, ◌+◌, ◌&&◌, List, [], ◌∷◌, ◌++◌, Option, Some, None, Bool, true, false, not, if◌then◌else◌, nat_lt, slice_get, unwrap_or, length}
use Rattle.std.specs.Option.{option_or}
use Rattle.naga_arena.specs.declared.span.Span.{Span}
use Rattle.naga_kinds.specs.declared.address_space.AddressSpace.{AddressSpace}
use Rattle.naga_kinds.specs.declared.address_space.AddressSpace.TheVariants.{Uniform, Storage, Immediate}
use Rattle.naga_kinds.specs.declared.scalar.Scalar as scalar
use Rattle.naga_kinds.specs.declared.scalar.ScalarKind.{ScalarKind}
use Rattle.naga_kinds.specs.declared.scalar.ScalarKind.TheVariants.{Sint, Uint, Float}
use Rattle.naga_ir.specs.declared.module.GlobalVariable.{GlobalVariable}
use Rattle.naga_ir.specs.declared.types.StructMember.{StructMember}
use Rattle.naga_ir.specs.declared.types.«Type».{«Type» as NamedType}
use Rattle.naga_ir.specs.declared.types.TypeInner.{TypeInner}
use Rattle.naga_ir.specs.declared.types.TypeInner.TheVariants.{Scalar, Vector, Matrix, CooperativeMatrix, Atomic, Array, Struct, BindingArray}
use Rattle.naga_layouter.specs.Alignment.{rounded_up}
use Rattle.naga_layouter.specs.Faults.{fault_by, is_multiple}
use Rattle.naga_layouter.specs.Types.{inner_at}
use Rattle.naga_layouter.specs.declared.layout_fault.LayoutCause.{LayoutCause}
use Rattle.naga_layouter.specs.declared.layout_fault.LayoutCause.TheVariants.{NonHostShareable, UniformStride, UniformOffset, MemberOffsetAfterStruct}
use Rattle.naga_layouter.specs.declared.layout_fault.LayoutFault.{LayoutFault}
use Rattle.naga_layouter.specs.declared.spaces.SpaceFaults.{SpaceFaults}

-- the faults of a type of which they are known, and else none
abbrev pub faults_at : List SpaceFaults → ℕ → SpaceFaults
faults_at known handle = unwrap_or (slice_get known handle) (record { shared = None; uniform = None })

-- the exponent of the least alignment in a uniform buffer of arrays and structures, 16
abbrev pub min_uniform : ℕ
min_uniform = 4

-- ---- spaces that the host shares

-- the host has values of this kind
abbrev pub is_shareable : ScalarKind → Bool
is_shareable Sint = true
is_shareable Uint = true
is_shareable Float = true
is_shareable _ = false

-- the host has no values of the type
abbrev pub unshareable : (ty : ℕ) → Option LayoutFault
unshareable ty = fault_by ty None (Some NonHostShareable)

abbrev pub scalar_fault : (ty : ℕ) → scalar.Scalar → Option LayoutFault
scalar_fault ty number = if is_shareable number.kind then None else unshareable ty

-- the first fault of the types of members
abbrev pub shared_members_fault : List SpaceFaults → List StructMember → Option LayoutFault
shared_members_fault known [] = None
shared_members_fault known (member ∷ rest) = option_or (faults_at known member.ty).shared (shared_members_fault known rest)

-- why the host has no values of a type, from the faults of the types before it
abbrev pub shared_fault : List SpaceFaults → (ty : ℕ) → TypeInner → Option LayoutFault
shared_fault known ty (Scalar number) = scalar_fault ty number
shared_fault known ty (Atomic number) = scalar_fault ty number
shared_fault known ty (Vector size number) = scalar_fault ty number
shared_fault known ty (Matrix columns rows number) = scalar_fault ty number
shared_fault known ty (CooperativeMatrix columns rows number role) = scalar_fault ty number
shared_fault known ty (Array base size stride) = (faults_at known base).shared
shared_fault known ty (BindingArray base size) = (faults_at known base).shared
shared_fault known ty (Struct members span) = shared_members_fault known members.items
shared_fault known ty _ = unshareable ty

-- ---- uniform buffers

-- the type is an array or a structure
abbrev pub is_block : Option TypeInner → Bool
is_block (Some (Array base size stride)) = true
is_block (Some (Struct members span)) = true
is_block _ = false

-- the least offset of the member after one with this type and offset, in a uniform buffer
abbrev pub least_after : Option TypeInner → (offset : ℕ) → ℕ
least_after (Some (Struct members span)) offset = offset + rounded_up min_uniform span
least_after _ offset = 0

-- what is wrong with the stride of an array in a uniform buffer, if anything
abbrev pub uniform_stride_cause : (stride : ℕ) → Option LayoutCause
uniform_stride_cause stride = if is_multiple stride min_uniform then None else Some (UniformStride stride)

-- what is wrong with the offset of a member with this type in a uniform buffer, if anything
abbrev pub uniform_offset_cause : Option TypeInner → (least offset : ℕ) → Option LayoutCause
uniform_offset_cause found least offset =
    if is_block found && not (is_multiple offset min_uniform) then Some (UniformOffset offset) else
    if nat_lt offset least then Some (MemberOffsetAfterStruct offset least) else None

-- the first fault of the members from this index on, of which the first has at least the offset `least`
abbrev pub uniform_members_fault : List (NamedType × Span) → List SpaceFaults → (ty index least : ℕ) → List StructMember → Option LayoutFault
uniform_members_fault types known ty index least [] = None
uniform_members_fault types known ty index least (member ∷ rest) =
    let found = inner_at types member.ty in
    option_or (option_or (faults_at known member.ty).uniform (fault_by ty (Some index) (uniform_offset_cause found least member.offset)))
    (uniform_members_fault types known ty (index + 1) (least_after found member.offset) rest)

-- why values of a type cannot be in a uniform buffer, from the faults of the types before it
abbrev pub uniform_fault : List (NamedType × Span) → List SpaceFaults → (ty : ℕ) → TypeInner → Option LayoutFault
uniform_fault types known ty (Array base size stride) =
    option_or (faults_at known base).uniform (fault_by ty None (uniform_stride_cause stride))
uniform_fault types known ty (BindingArray base size) = (faults_at known base).uniform
uniform_fault types known ty (Struct members span) = uniform_members_fault types known ty 0 0 members.items
uniform_fault types known ty _ = None

-- ---- all types

-- both, of the type after those of which they are known
abbrev pub space_faults : List (NamedType × Span) → List SpaceFaults → TypeInner → SpaceFaults
space_faults types known inner = record {
  shared = shared_fault known (length known) inner;
  uniform = uniform_fault types known (length known) inner;
}

-- the known faults, and then those of these types
abbrev pub all_space_faults : List (NamedType × Span) → List SpaceFaults → List NamedType → List SpaceFaults
all_space_faults types known [] = known
all_space_faults types known (type ∷ rest) = all_space_faults types (known ++ space_faults types known type.inner ∷ []) rest

-- ---- variables

-- why the type of a variable does not fit its space
abbrev pub fault_in : AddressSpace → SpaceFaults → Option LayoutFault
fault_in (Storage access) faults = faults.shared
fault_in Immediate faults = faults.shared
fault_in Uniform faults = option_or faults.shared faults.uniform
fault_in _ faults = None

-- the first fault of the types of these variables
abbrev pub variables_fault : List SpaceFaults → List GlobalVariable → Option LayoutFault
variables_fault known [] = None
variables_fault known (variable ∷ rest) = option_or (fault_in variable.space (faults_at known variable.ty)) (variables_fault known rest)
