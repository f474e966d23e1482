-- The first fault of a JSON, in the order of its text. A field that is missing comes after all that is there.
use Rattle.std.specs.Prelude.{ℕ, zero, suc, ◌+◌, ◌==◌, ◌^◌, nat_eq, nat_le, List, [], ◌∷◌, ◌++◌, Bool, true, false, cond, ◌||◌, ◌&&◌, codes, map, take, Option, Some, None, is_some}
use Rattle.std.specs.List.{list_any}
use Rattle.std.specs.Borrow.{Bor}
use Rattle.std.specs.Str.{bytes_eq}
use Rattle.json.specs.Json.{Json, null, boolean, number, string, array, object, Items, no_items, item, Members, no_members, member}
use Rattle.json.specs.Find.{as_array, as_object, as_str, get, is_null}
use Rattle.naga_json.specs.Lists.{item_count}
use Rattle.naga_json.specs.Maps.{key_in}
use Rattle.naga_json.specs.Numbers.{◌>>=◌, natural_in}
use Rattle.naga_json.specs.Objects.{find_row, variant_in}
use Rattle.naga_schema.specs.declared.leaf.Leaf.{Leaf}
use Rattle.naga_schema.specs.declared.leaf.Leaf.TheVariants as leaves
use Rattle.naga_schema.specs.declared.schema.Length.{Length}
use Rattle.naga_schema.specs.declared.schema.Length.TheVariants as lengths
use Rattle.naga_schema.specs.declared.schema.Presence.{Presence}
use Rattle.naga_schema.specs.declared.schema.Presence.TheVariants as presence
use Rattle.naga_schema.specs.declared.derived.type_name.TypeName.{TypeName}
use Rattle.naga_schema.specs.Leaf.{accepts_leaf}
use Rattle.naga_schema.specs.Path.{Into, Blame, Found, here, within, or_later}
use Rattle.naga_schema.specs.Path as path
use Rattle.naga_schema.specs.Shape.{Field, Variant, Shape, field_names, variant_names}
use Rattle.naga_schema.specs.Shape as shape
use Rattle.naga_schema.specs.derived.Kinds.{kind_names}
use Rattle.naga_schema.specs.derived.Types.{shape_of}

-- one of the names is this one
abbrev pub has_name : List (List ℕ) → List ℕ → Bool
has_name names name = list_any (λ other. bytes_eq other name) names

-- one of the keys is this one
abbrev pub has_key : List ℕ → ℕ → Bool
has_key keys key = list_any (λ other. nat_eq key other) keys

-- both numbers are there, and the first is at most the second
abbrev pub both_le : Option ℕ → Option ℕ → Bool
both_le None b = false
both_le (Some a) None = false
both_le (Some a) (Some b) = nat_le a b

-- ---- leaves

-- a text that is no name of a variant is told by itself
abbrev pub leaf_blame : Leaf → Option (List ℕ) → Blame
leaf_blame (leaves.Kind kind) (Some name) = path.unknown_variant name (kind_names kind)
leaf_blame leaf text = path.no_leaf leaf

-- the fault of a value that contains no other value
abbrev pub leaf_fault : Leaf → Json → Option Found
leaf_fault leaf j = cond (accepts_leaf leaf j) None (here (leaf_blame leaf (as_str j)))

-- ---- lists

-- a list may have this number of items
abbrev pub fits_length : Length → ℕ → Bool
fits_length lengths.Any count = true
fits_length (lengths.AtMost greatest) count = nat_le count greatest
fits_length (lengths.Exactly exact) count = count == exact

-- what is said of the length of a list that is expected where there is none: not its greatest length
abbrev pub without_bound : Length → Length
without_bound lengths.Any = lengths.Any
without_bound (lengths.AtMost greatest) = lengths.Any
without_bound (lengths.Exactly exact) = lengths.Exactly exact

-- the fault of a list, for the fault of its items
abbrev pub list_fault : Length → Option Found → Option Items → Option Found
list_fault length inside None = here (path.no_list (without_bound length))
list_fault length inside (Some js) = cond (fits_length length (item_count js)) inside (here (path.no_list length))

-- the fault of a list that is one level deeper than the list in which it is, for the fault of its items
abbrev pub block_fault : (ℕ → Option Found) → ℕ → Option Items → Option Found
block_fault inside zero items = here path.too_deep
block_fault inside (suc depth) items = list_fault lengths.Any (inside depth) items

-- ---- objects

-- the fault of an object, for the fault of its members
abbrev pub object_fault : Option Found → Option Members → Option Found
object_fault inside None = here path.no_object
object_fault inside (Some ms) = inside

-- whether a field may be missing or null
abbrev pub is_optional : Presence → Bool
is_optional presence.Required = false
is_optional presence.Optional = true

-- the name of the first field that must be there and is missing
abbrev pub missing_field : List Field → List (List ℕ) → Option (List ℕ)
missing_field [] seen = None
missing_field (field ∷ fields) seen =
    cond (is_optional field.1 || has_name seen field.0) (missing_field fields seen) (Some field.0)

-- the fault of an object in which this field is missing
abbrev pub missing_fault : Option (List ℕ) → Option Found
missing_fault None = None
missing_fault (Some name) = here (path.missing_field name)

-- the type of the field with this name, and whether it may be missing or null
abbrev pub find_field : List Field → List ℕ → Option (Presence × TypeName)
find_field [] name = None
find_field (field ∷ fields) name = cond (bytes_eq field.0 name) (Some (field.1, field.2)) (find_field fields name)

-- the fault of the value of a field, for its fault as a value of the field's type
abbrev pub field_fault : Presence → Json → Option Found → Option Found
field_fault presence j inside = cond (is_optional presence && is_null j) None inside

-- the fault of a member of a struct with these fields, for the names of the members before it, or else that of the members after it
abbrev pub member_fault : List Field → List ℕ → Json → List (List ℕ) → (TypeName → Option Found) → Option Found → Option (Presence × TypeName) → Option Found
member_fault fields name j seen inside after None = here (path.unknown_field name (field_names fields))
member_fault fields name j seen inside after (Some field) =
    cond (has_name seen name) (here (path.repeated_field name)) (or_later (within (path.field name) (field_fault field.0 j (inside field.1))) after)

-- the fault of an entry of a map, for the keys of the entries before it, or else that of the entries after it
abbrev pub entry_fault : List ℕ → List ℕ → Option Found → (ℕ → Option Found) → Option ℕ → Option Found
entry_fault name keys inside after None = here (path.no_key name)
entry_fault name keys inside after (Some key) =
    cond (has_key keys key) (here (path.repeated_key name)) (or_later (within (path.entry name) inside) (after key))

-- the number of 64 bits in a field
abbrev pub number_at : List ℕ → Json → Option ℕ
number_at name j = get name j >>= natural_in (2 ^ 64)

-- whether the start of a range is at most its end
abbrev pub in_order : Json → Bool
in_order j = both_le (number_at (codes "start") j) (number_at (codes "end") j)

-- the fault of a range whose fields have none
abbrev pub range_fault : Json → Option Found
range_fault j = cond (in_order j) None (here path.inverted)

-- ---- enums

-- the fault of a text as the name of a variant
abbrev pub name_fault : List (List ℕ) → List Variant → List ℕ → Option Found
name_fault names variants name =
    cond (has_name names name) None (cond (is_some (find_row variants name)) (here (path.without_value name)) (here (path.unknown_variant name (variant_names names variants))))

-- the fault of a variant that holds a value, for the fault of this value
abbrev pub holder_fault : List (List ℕ) → List Variant → List ℕ → (TypeName → Option Found) → Option TypeName → Option Found
holder_fault names variants name inside (Some of) = within (path.variant name) (inside of)
holder_fault names variants name inside None =
    cond (has_name names name) (here (path.with_value name)) (here (path.unknown_variant name (variant_names names variants)))

-- the fault of a value of an enum, for the fault of what it holds
abbrev pub enum_fault : List (List ℕ) → List Variant → (TypeName → Option Found) → Option (List ℕ × Option Json) → Option Found
enum_fault names variants inside None = here path.no_variant
enum_fault names variants inside (Some (name, None)) = name_fault names variants name
enum_fault names variants inside (Some (name, Some held)) = holder_fault names variants name inside (find_row variants name)

-- ---- all types

-- The first fault in what a JSON contains: in the items of a list from a position on, in the members of a struct and in
-- the entries of a map after others, and in the value of an only member. A number is the greatest depth of blocks.
pub record Inside : Type 0 where
  pub items : ℕ → ℕ → TypeName → Option Found
  pub members : List Field → List (List ℕ) → ℕ → Option Found
  pub entries : ℕ → List ℕ → ℕ → TypeName → Option Found
  pub held : ℕ → TypeName → Option Found

-- a JSON that contains no other one
abbrev pub nothing : Inside
nothing = record {
  items = λ position depth of. None;
  members = λ fields seen depth. None;
  entries = λ greatest keys depth of. None;
  held = λ depth of. None;
}

-- the first fault of a JSON, for the faults in what it contains
abbrev pub shape_fault : Json → Inside → ℕ → Shape → Option Found
shape_fault j inside depth (shape.leaf leaf) = leaf_fault leaf j
shape_fault j inside depth (shape.list length of) = list_fault length (inside.items 0 depth of) (as_array j)
shape_fault j inside depth (shape.block of) = block_fault (λ inner. inside.items 0 inner of) depth (as_array j)
shape_fault j inside depth (shape.keyed greatest of) = object_fault (inside.entries greatest [] depth of) (as_object j)
shape_fault j inside depth (shape.struct fields) = object_fault (inside.members fields [] depth) (as_object j)
shape_fault j inside depth (shape.range fields) =
    or_later (object_fault (inside.members fields [] depth) (as_object j)) (range_fault j)
shape_fault j inside depth (shape.enum names variants) =
    enum_fault names variants (λ of. inside.held depth of) (variant_in j)

unfoldable mutual
  -- the first faults in what a JSON contains
  pub inside : Json → Inside
  inside null = nothing
  inside (boolean b) = nothing
  inside (number s) = nothing
  inside (string s) = nothing
  inside (array js) = record {
    items = items_fault js;
    members = λ fields seen depth. None;
    entries = λ greatest keys depth of. None;
    held = λ depth of. None;
  }
  inside (object ms) = record {
    items = λ position depth of. None;
    members = members_fault ms;
    entries = entries_fault ms;
    held = held_fault ms;
  }

  pub items_fault : Items → ℕ → ℕ → TypeName → Option Found
  items_fault no_items position depth of = None
  items_fault (item j js) position depth of =
      or_later (within (path.item position) (shape_fault j (inside j) depth (shape_of of))) (items_fault js (position + 1) depth of)

  pub members_fault : Members → List Field → List (List ℕ) → ℕ → Option Found
  members_fault no_members fields seen depth = missing_fault (missing_field fields seen)
  members_fault (member name j ms) fields seen depth =
      member_fault fields name j seen (λ of. shape_fault j (inside j) depth (shape_of of)) (members_fault ms fields (seen ++ name ∷ []) depth) (find_field fields name)

  pub entries_fault : Members → ℕ → List ℕ → ℕ → TypeName → Option Found
  entries_fault no_members greatest keys depth of = None
  entries_fault (member name j ms) greatest keys depth of =
      entry_fault name keys (shape_fault j (inside j) depth (shape_of of)) (λ key. entries_fault ms greatest (keys ++ key ∷ []) depth of) (key_in (greatest + 1) name)

  pub held_fault : Members → ℕ → TypeName → Option Found
  held_fault no_members depth of = None
  held_fault (member name j ms) depth of = shape_fault j (inside j) depth (shape_of of)

-- the first fault of a JSON as a value of a type, with blocks nested no deeper than the number
abbrev pub fault : Json → ℕ → TypeName → Option Found
fault j depth of = shape_fault j (inside j) depth (shape_of of)

-- there is no fault
abbrev pub is_accepted : Option Found → Bool
is_accepted None = true
is_accepted (Some first) = false

-- the JSON is one of a value of the type, with blocks nested no deeper than the number
abbrev pub accepts : Json → ℕ → TypeName → Bool
accepts j depth of = is_accepted (fault j depth of)
