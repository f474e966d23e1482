-- One form for each type.
--
-- A pointer to a declared scalar or vector is a pointer to a value, and a declared structure is known by its handle
-- alone. Any other type is known by its contents, whether it is declared or not.
use Rattle.std.specs.Prelude.{ℕ, Bool, true, false, Option, Some, None, if◌then◌else◌, option_and_then, unwrap_or}
use Rattle.naga_kinds.specs.declared.address_space.AddressSpace.{AddressSpace}
use Rattle.naga_ir.specs.Types.{Inner, inner_of}
use Rattle.naga_ir.specs.declared.types.TypeInner.{TypeInner}
use Rattle.naga_ir.specs.declared.types.TypeInner.TheVariants as inner
use Rattle.naga_typifier.specs.declared.resolution.TypeResolution.{TypeResolution}
use Rattle.naga_typifier.specs.declared.resolution.TypeResolution.TheVariants as resolution

-- a type: a declared one, or contents without the spare capacity of their lists
pub data Form : Type 0 where
  declared : (ty : ℕ) → Form
  contents : (what : Inner) → Form

-- this is a structure
abbrev pub is_structure : TypeInner → Bool
is_structure (inner.Struct members span) = true
is_structure _ = false

-- a pointer to a value with these contents, or `None` unless they are a scalar or a vector
abbrev pub value_pointer : AddressSpace → TypeInner → Option TypeInner
value_pointer space (inner.Scalar scalar) = Some (inner.ValuePointer None scalar space)
value_pointer space (inner.Vector size scalar) = Some (inner.ValuePointer (Some size) scalar space)
value_pointer space _ = None

module _ (types : ℕ → Option TypeInner) where
  -- a pointer to a declared scalar or vector, as a pointer to a value
  abbrev pub as_value_pointer : TypeInner → Option TypeInner
  as_value_pointer (inner.Pointer base space) = option_and_then (value_pointer space) (types base)
  as_value_pointer _ = None

  -- the contents of a type, with one form for each type of pointer
  abbrev pub contents_form : TypeInner → TypeInner
  contents_form what = unwrap_or (as_value_pointer what) what

  -- a declared structure, by its handle alone, or another declared type, by its contents
  abbrev pub declared_form : ℕ → Option TypeInner → Form
  declared_form ty None = declared ty
  declared_form ty (Some what) = if is_structure what then declared ty else contents (inner_of (contents_form what))

  -- a type in one form: two resolutions with the same form are the same type
  abbrev pub form : TypeResolution → Form
  form (resolution.Handle ty) = declared_form ty (types ty)
  form (resolution.Value what) = contents (inner_of (contents_form what))
