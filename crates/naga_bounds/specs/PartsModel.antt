-- The interpretation by values with components of naga_typing: which numbers its values are as indices, and which parts
-- they have.
use Rattle.std.specs.Prelude.{⊤, ◌<◌, ℕ, ◌&&◌, Option, Some, None, if◌then◌else◌, nat_eq}
use Rattle.naga_typifier.specs.Math.{is_uint}
use Rattle.naga_typing.specs.ModelValues.{Value, composite, indeterminate, numeric, part_behind, pointing}
use Rattle.naga_typing.specs.TypedModel.{State}

-- the number of a value as an index, which is 1 if the value is indeterminate
abbrev pub index_of : Value → Option ℕ
index_of (numeric scalar number) = Some number
index_of indeterminate = Some 1
index_of value = None

-- the number of a value of type `u32`
abbrev pub unsigned_index_of : Value → Option ℕ
unsigned_index_of (numeric scalar number) = if is_uint scalar.kind && nat_eq scalar.width 4 then Some number else None
unsigned_index_of value = None

-- the value has this part, or it is indeterminate
abbrev pub HasItself : Value → (part : ℕ) → Type 0
HasItself (composite count parts) part = part < count
HasItself indeterminate part = ⊤
HasItself value part = ⊥

-- the value, or what it points to in this state, has this part
abbrev pub HasPart : Value → (part : ℕ) → State → Type 0
HasPart (pointing variable path) part state = HasItself (part_behind (state.memory variable) path) part
HasPart value part state = HasItself value part
