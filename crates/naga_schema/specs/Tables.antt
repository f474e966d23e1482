-- The rows of tables, as shapes have them.
use Rattle.std.specs.Prelude.{ℕ, List}
use Rattle.naga_schema.specs.declared.schema.Presence.{Presence}
use Rattle.naga_schema.specs.declared.derived.type_name.TypeName.{TypeName}
use Rattle.naga_schema.specs.Shape.{Field, Variant}

-- a field of a table
abbrev pub field_of : record { now : List ℕ } × Presence × TypeName → Field
field_of row = (row.0.now, row.1, row.2)

-- a variant of a table
abbrev pub variant_of : record { now : List ℕ } × TypeName → Variant
variant_of row = (row.0.now, row.1)

-- a name of a table
abbrev pub name_of : record { now : List ℕ } → List ℕ
name_of name = name.now
