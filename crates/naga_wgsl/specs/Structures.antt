-- The declarations of structures.
use Rattle.std.specs.Prelude.{ℕ, ◌+◌, ◌-◌, ◌%◌, ◌^◌, ◌==◌, ◌&&◌, nat_le, nat_lt, List, [], ◌∷◌, ◌++◌, Bool, true, false, Option, Some, None, Result, Ok, Err, String, codes, if◌then◌else◌, slice_get}
use Rattle.std.specs.Fmt.{decimal}
use Rattle.std.specs.Option.{option_map}
use Rattle.std.specs.declared.alloc.Global.{Global}
use Rattle.naga_arena.specs.Arena.{value_at}
use Rattle.naga_arena.specs.declared.span.Span.{Span}
use Rattle.naga_ir.specs.declared.types.ArraySize.TheVariants as array_size
use Rattle.naga_ir.specs.declared.types.StructMember.{StructMember}
use Rattle.naga_ir.specs.declared.types.«Type».{«Type» as NamedType}
use Rattle.naga_ir.specs.declared.types.TypeInner.{TypeInner}
use Rattle.naga_ir.specs.declared.types.TypeInner.TheVariants as type
use Rattle.naga_layouter.specs.declared.layouter.TypeLayout.{TypeLayout}
use Rattle.naga_wgsl.specs.Bindings.{binding_text}
use Rattle.naga_wgsl.specs.Operations.{between, followed, items_text}
use Rattle.naga_wgsl.specs.TypeTexts.{name_at, text_at}
use Rattle.naga_wgsl.specs.declared.write_error.Cause.{Cause}
use Rattle.naga_wgsl.specs.declared.write_error.Cause.TheVariants as cause

-- ---- offsets

-- Up to what comes next there are `room` bytes, for a member of this size. Its size is written if what comes next would else
-- begin earlier, at the least multiple of the alignment. The size of an array of as many elements as fit cannot be written.
abbrev pub size_attribute : (is_dynamic : Bool) → (room size alignment : ℕ) → Result (List ℕ) Cause
size_attribute is_dynamic room size alignment =
    if nat_lt (room - size) (2 ^ alignment) then Ok [] else
    if is_dynamic then Err cause.Offset else Ok (codes "@size(" ++ (decimal room ++ codes ") "))

-- the size that a member at an offset needs, if any, where what comes next begins at the offset `next` and has this alignment;
-- it cannot begin inside the member, or elsewhere than at a multiple of its alignment
abbrev pub gap_text : (is_dynamic : Bool) → (size offset alignment next : ℕ) → Result (List ℕ) Cause
gap_text is_dynamic size offset alignment next =
    if (next % 2 ^ alignment == 0) && (nat_le offset next && nat_le size (next - offset))
    then size_attribute is_dynamic (next - offset) size alignment
    else Err cause.Offset

-- the same, if the layouts of the member and of what comes next are known
abbrev pub laid_gap_text : (is_dynamic : Bool) → (own after : Option TypeLayout) → (offset next : ℕ) → Result (List ℕ) Cause
laid_gap_text is_dynamic None after offset next = Err cause.Layout
laid_gap_text is_dynamic (Some own) None offset next = Err cause.Layout
laid_gap_text is_dynamic (Some own) (Some after) offset next = gap_text is_dynamic own.size offset after.alignment next

-- the type is an array of as many elements as fit
abbrev pub is_dynamic : Option TypeInner → Bool
is_dynamic (Some (type.Array base array_size.Dynamic stride)) = true
is_dynamic _ = false

-- ---- structures

-- the layout of what comes behind a member, and its offset: the next member, or else what follows the structure
abbrev pub after_of : List TypeLayout → (handle : ℕ) → (next : Option StructMember) → Option TypeLayout
after_of layouts handle (Some next) = slice_get layouts next.ty
after_of layouts handle None = slice_get layouts handle

abbrev pub next_of : (span : ℕ) → (next : Option StructMember) → ℕ
next_of span (Some next) = next.offset
next_of span None = span

-- the size of a member, if it has to be written
abbrev pub member_gap_text : List (NamedType × Span) → List TypeLayout → (handle span : ℕ) → StructMember → (next : Option StructMember) → Result (List ℕ) Cause
member_gap_text types layouts handle span member next =
    laid_gap_text (is_dynamic (option_map (λ type. type.inner) (value_at types member.ty)))
    (slice_get layouts member.ty) (after_of layouts handle next) member.offset (next_of span next)

-- a declared name and its type
abbrev pub typed_text : (name type : Result (List ℕ) Cause) → Result (List ℕ) Cause
typed_text name type = followed name (followed (Ok (codes ": ")) type)

module _ (types : List (NamedType × Span)) (layouts : List TypeLayout) (texts : List (Result (List ℕ) Cause)) where
  -- a member: its attributes, its name and its type
  abbrev pub member_text : (names : List (String Global)) (handle span index : ℕ) → StructMember → (next : Option StructMember) → Result (List ℕ) Cause
  member_text names handle span index member next =
      followed (followed (binding_text member.binding) (member_gap_text types layouts handle span member next))
      (typed_text (name_at names index) (text_at texts member.ty))

  -- the line of a member
  abbrev pub member_line : (names : List (String Global)) (handle span : ℕ) (members : List StructMember) (index : ℕ) → StructMember → Result (List ℕ) Cause
  member_line names handle span members index member =
      between (codes "    ") (member_text names handle span index member (slice_get members (index + 1))) (codes ",\n")

  -- the lines of members, of which there is at least one, and the first is at the beginning
  abbrev pub members_text : (names : List (String Global)) (handle span : ℕ) (members : List StructMember) → Result (List ℕ) Cause
  members_text names handle span [] = Err cause.Empty
  members_text names handle span (first ∷ rest) =
      if first.offset == 0 then items_text (member_line names handle span (first ∷ rest)) 0 (first ∷ rest) else Err cause.Offset

  -- the declaration of a structure with a name, whose members have these names
  abbrev pub struct_text : (name : List ℕ) (names : List (String Global)) (handle span : ℕ) (members : List StructMember) → Result (List ℕ) Cause
  struct_text name names handle span members =
      between (codes "struct " ++ (name ++ codes " {\n")) (members_text names handle span members) (codes "}\n")
