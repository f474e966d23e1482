-- Values with components, and which of them have which types.
--
-- A value is a number of a scalar type, a composite value, or a pointer to a variable or to a part of one. A composite
-- value has a number of parts, and those of a vector are its scalars. As in WGSL, a value may also be indeterminate: it is
-- any value of its type. So are images, samplers and all else that has neither numbers nor parts.
use Rattle.std.specs.Prelude.{◌≡◌, ⊤, ◌<◌, ℕ, zero, suc, Bool, true, false, List, [], ◌∷◌, Option, Some, None, if◌then◌else◌, nat_eq, nat_lt}
use Rattle.std.specs.Int.NonZero.{non_zero_u32_get}
use Rattle.std.specs.Option.{option_map}
use Rattle.naga_kinds.specs.declared.scalar.Scalar.{Scalar}
use Rattle.naga_kinds.specs.declared.scalar.ScalarKind.{ScalarKind}
use Rattle.naga_kinds.specs.declared.scalar.ScalarKind.TheVariants as kind
use Rattle.naga_ir.specs.Types.{plain, structure}
use Rattle.naga_ir.specs.declared.types.ArraySize.{ArraySize}
use Rattle.naga_ir.specs.declared.types.ArraySize.TheVariants as size
use Rattle.naga_ir.specs.declared.types.TypeInner.{TypeInner}
use Rattle.naga_ir.specs.declared.types.TypeInner.TheVariants as inner
use Rattle.naga_typifier.specs.Inner.{parts_of}
use Rattle.naga_typifier.specs.Rows.{◌>>=◌, handle, part_of, sized}
use Rattle.naga_typing.specs.Forms.{Form, contents, declared, form}

-- ---- values

-- A variable: its type, the depth of the call to which it belongs, which is 0 for a global variable, and its number there.
pub record Variable : Type 0 where
  pub ty : ℕ
  pub depth : ℕ
  pub number : ℕ

-- A value. The path of a pointer has the positions of the part to which it points, the last one first.
pub data Value : Type 0 where
  indeterminate : Value
  numeric : (scalar : Scalar) (number : ℕ) → Value
  composite : (count : ℕ) (parts : ℕ → Value) → Value
  pointing : (variable : Variable) (path : List ℕ) → Value

-- the part of a value at a position, which is indeterminate if there is none
abbrev pub part_at : Value → (position : ℕ) → Value
part_at (composite count parts) position = if nat_lt position count then parts position else indeterminate
part_at value position = indeterminate

-- the part of a value at the end of a path
abbrev pub part_behind : Value → (path : List ℕ) → Value
part_behind value [] = value
part_behind value (position ∷ before) = part_at (part_behind value before) position

-- the same value with another part at this position
abbrev pub with_part : (position : ℕ) → (new : Value) → Value → Value
with_part position new (composite count parts) =
    composite count (λ other. if nat_eq other position then new else parts other)
with_part position new value = value

-- the same value with another part at the end of a path
abbrev pub with_part_behind : (path : List ℕ) → (new : Value) → Value → Value
with_part_behind [] new value = new
with_part_behind (position ∷ before) new value =
    with_part_behind before (with_part position new (part_behind value before)) value

-- ---- types

-- the kind of scalar is that of booleans
abbrev pub is_truth : ScalarKind → Bool
is_truth kind.Bool = true
is_truth _ = false

-- the scalar of a number of this type, which may be atomic, or `None` for any other type
abbrev pub number_type : Form → Option Scalar
number_type (contents (plain (inner.Scalar scalar))) = Some scalar
number_type (contents (plain (inner.Atomic scalar))) = Some scalar
number_type _ = None

-- The number of elements of an array. An array of a dynamic size has two, and one whose size is an override has one, which
-- is what each override is.
abbrev pub elements_in : ArraySize → ℕ
elements_in (size.Constant count) = non_zero_u32_get count
elements_in (size.Pending override) = 1
elements_in size.Dynamic = 2

-- the number of parts of a value with these contents, or `None` if it has none
abbrev pub count_in : TypeInner → Option ℕ
count_in (inner.Array base size stride) = Some (elements_in size)
count_in (inner.BindingArray base size) = Some (elements_in size)
count_in what = parts_of what

-- `types` has the contents of declared types.
module _ (types : ℕ → Option TypeInner) where
  -- the contents of a type, or `None` for a structure that is not declared
  abbrev pub contents_in : Form → Option TypeInner
  contents_in (declared ty) = types ty
  contents_in (contents (plain what)) = Some what
  contents_in (contents (structure members span)) = None

  -- the type of the part at a position
  abbrev pub part_type : (position : ℕ) → Form → Option Form
  part_type position ty = option_map (form types) (contents_in ty >>= part_of (Some position))

  -- the type of the part at the end of a path
  abbrev pub type_behind : Form → (path : List ℕ) → Option Form
  type_behind ty [] = Some ty
  type_behind ty (position ∷ before) = type_behind ty before >>= part_type position

  -- the type to which a pointer points, or `None` for any other type
  abbrev pub pointed_type : Form → Option Form
  pointed_type (contents (plain (inner.Pointer base space))) = Some (form types (handle base))
  pointed_type (contents (plain (inner.ValuePointer size scalar space))) = Some (contents (plain (sized size scalar)))
  pointed_type _ = None

  -- the type of a variable
  abbrev pub variable_type : Variable → Form
  variable_type variable = form types (handle variable.ty)

  -- The value has this type: a number has the scalar, and is below 2 if that is a boolean. A composite value has as many
  -- parts as the type, each of the type of the part there. A pointer points to a part of the type behind it.
  abbrev pub has_type : Value → Form → Type 0
  has_type indeterminate ty = ⊤
  has_type (numeric scalar number) ty = (number_type ty ≡ Some scalar) × (is_truth scalar.kind ≡ true → number < 2)
  has_type (composite count parts) ty =
      ((contents_in ty >>= count_in) ≡ Some count)
      × ((position : ℕ) → position < count →
      (part : Form) × (part_type position ty ≡ Some part) × has_type (parts position) part)
  has_type (pointing variable path) ty =
      (behind : Form) × (type_behind (variable_type variable) path ≡ Some behind) × (pointed_type ty ≡ Some behind)

  -- ---- zero values

  -- the value of a type that has these parts: a number is 0
  abbrev pub zero_with : (parts : ℕ → Value) → Option ℕ → (number : Option Scalar) → Value
  zero_with parts count (Some scalar) = numeric scalar 0
  zero_with parts (Some count) None = composite count parts
  zero_with parts None None = indeterminate

  -- the zero value of a type that may be absent, down to a depth of parts inside one another
  abbrev pub zero_within : (depth : ℕ) → Option Form → Value
  zero_within zero ty = indeterminate
  zero_within (suc depth) None = indeterminate
  zero_within (suc depth) (Some ty) =
      zero_with (λ position. zero_within depth (part_type position ty)) (contents_in ty >>= count_in) (number_type ty)
