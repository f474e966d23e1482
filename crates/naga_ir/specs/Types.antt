-- Types as plain values, without the spare capacity of their names and members.
use Rattle.std.specs.Prelude.{ℕ, List, map, Option, string_bytes}
use Rattle.std.specs.Option.{option_map}
use Rattle.naga_kinds.specs.declared.binding.Binding.{Binding}
use Rattle.naga_ir.specs.declared.types.StructMember.{StructMember}
use Rattle.naga_ir.specs.declared.types.«Type».{«Type» as NamedType}
use Rattle.naga_ir.specs.declared.types.TypeInner.{TypeInner}
use Rattle.naga_ir.specs.declared.types.TypeInner.TheVariants.{Struct}

-- a member of a structure
pub record Member : Type 0 where
  pub name : Option (List ℕ)
  pub ty : ℕ
  pub binding : Option Binding
  pub offset : ℕ

-- a member without the spare capacity of its name
abbrev pub member_of : StructMember → Member
member_of member = record {
  name = option_map string_bytes member.name;
  ty = member.ty;
  binding = member.binding;
  offset = member.offset;
}

-- the contents of a type; a type that is not a structure contains no list and represents itself
pub data Inner : Type 0 where
  structure : (members : List Member) (span : ℕ) → Inner
  plain : (what : TypeInner) → Inner

-- the contents of a type without spare capacity
abbrev pub inner_of : TypeInner → Inner
inner_of (Struct members span) = structure (map member_of members.items) span
inner_of what = plain what

-- the name of a type, if it has one, and its contents
abbrev pub type_of : NamedType → Option (List ℕ) × Inner
type_of named = (option_map string_bytes named.name, inner_of named.inner)
