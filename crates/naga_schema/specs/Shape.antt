-- What the JSON of a type consists of.
use Rattle.std.specs.Prelude.{ℕ, List, ◌++◌, map}
use Rattle.std.specs.Borrow.{Bor}
use Rattle.naga_schema.specs.declared.leaf.Leaf.{Leaf}
use Rattle.naga_schema.specs.declared.schema.Length.{Length}
use Rattle.naga_schema.specs.declared.schema.Presence.{Presence}
use Rattle.naga_schema.specs.declared.schema.Schema.{Schema}
use Rattle.naga_schema.specs.declared.schema.Schema.TheVariants as schema
use Rattle.naga_schema.specs.declared.derived.type_name.TypeName.{TypeName}

-- a field of a struct: its name, whether it must be there, and the type of its value
abbrev pub Field : Type 0
Field = List ℕ × Presence × TypeName

-- a variant that holds a value: its name, and the type of the value
abbrev pub Variant : Type 0
Variant = List ℕ × TypeName

-- the names of these fields
abbrev pub field_names : List Field → List (List ℕ)
field_names fields = map (λ field. field.0) fields

-- the names of the variants of an enum: of those that hold no value, and of those that hold one
abbrev pub variant_names : List (List ℕ) → List Variant → List (List ℕ)
variant_names names variants = names ++ map (λ variant. variant.0) variants

-- what the JSON of a type consists of
pub data Shape : Type 0 where
  leaf : Leaf → Shape
  list : Length → TypeName → Shape
  block : TypeName → Shape
  keyed : ℕ → TypeName → Shape
  struct : List Field → Shape
  range : List Field → Shape
  enum : List (List ℕ) → List Variant → Shape

-- a field of a table
abbrev pub field_view : Bor (List ℕ) × Presence × TypeName → Field
field_view row = (row.0.now, row.1, row.2)

-- a variant of a table
abbrev pub variant_view : Bor (List ℕ) × TypeName → Variant
variant_view row = (row.0.now, row.1)

-- what a schema says
abbrev pub shape_view : Schema → Shape
shape_view (schema.Leaf one) = leaf one
shape_view (schema.List length of) = list length of
shape_view (schema.Block of) = block of
shape_view (schema.Map greatest of) = keyed greatest of
shape_view (schema.Struct fields) = struct (map field_view fields.now)
shape_view (schema.Range fields) = range (map field_view fields.now)
shape_view (schema.Enum names variants) = enum (map (λ name. name.now) names.now) (map variant_view variants.now)
