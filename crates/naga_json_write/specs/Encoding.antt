-- How the values of a type are written.
use Rattle.std.specs.Borrow.{Bor}
use Rattle.std.specs.Prelude.{List, Option, map, option_map, ℕ}
use Rattle.std.specs.declared.alloc.Global.{Global}
use Rattle.std.specs.declared.vec.Vec.{Vec}
use Rattle.indexmap.specs.IndexMap.{IndexMap}
use Rattle.json.specs.Json.{Json}
use Rattle.naga_arena.specs.declared.span.Span.{Span}
use Rattle.naga_json.specs.Arenas.{arena_value}
use Rattle.naga_json.specs.Lists.{list_json}
use Rattle.naga_json.specs.Maps.{map_value}
use Rattle.naga_json.specs.Objects.{optional_json}
use Rattle.naga_json_write.specs.Lists.{arena_json}
use Rattle.naga_json_write.specs.Objects.{map_json}

-- How the values of a type are written if each has one JSON: directly, or by way of what a value is seen as, such as a
-- list without its spare capacity.
pub data Encoding (A : Type 0) : Type 1 where
  -- as the JSON that the function gives
  direct : (A → Json) → Encoding A
  -- as the JSON of what a value is seen as
  by_view : {B : Type 0} → (A → B) → (B → Json) → Encoding A

-- the JSON of a value
abbrev pub json_of : {A : Type 0} → Encoding A → A → Json
json_of (direct json) value = json value
json_of (by_view view json) value = json (view value)

-- a field: its name, and the JSON of its value
abbrev pub field_of : {A : Type 0} → Encoding A → Bor (List ℕ) × Bor A → List ℕ × Json
field_of encoding field = (field.0.now, json_of encoding field.1.now)

-- an optional value, which is null if there is none
abbrev pub option_encoding : {A : Type 0} → Encoding A → Encoding (Option A)
option_encoding (direct json) = direct (optional_json json)
option_encoding (by_view view json) = by_view (option_map view) (optional_json json)

-- a list, without its spare capacity
abbrev pub list_encoding : {A : Type 0} → Encoding A → Encoding (Vec A Global)
list_encoding (direct json) = by_view (λ list. list.items) (list_json json)
list_encoding (by_view view json) = by_view (λ list. map view list.items) (list_json json)

-- an arena, without its spans
abbrev pub arena_encoding : {A : Type 0} → Encoding A → Encoding (List (A × Span))
arena_encoding (direct json) = direct (arena_json json)
arena_encoding (by_view view json) = by_view (arena_value view) (arena_json json)

-- a map, whose keys are numbers in decimal
abbrev pub map_encoding : {A S : Type 0} → Encoding A → Encoding (IndexMap ℕ A S)
map_encoding (direct json) = by_view (λ elements. elements.entries) (map_json json)
map_encoding (by_view view json) = by_view (map_value view) (map_json json)

-- How the values of a type are written if some have several JSONs, or none: what a value is seen as, and which JSONs may
-- be written for that.
pub record Writing (A : Type 0) : Type 1 where
  pub Meaning : Type 0
  pub value_of : A → Meaning
  pub Writes : Meaning → Json → Type 0

-- what a value is seen as, and the JSONs that may be written for that
abbrev pub by_form : {A B : Type 0} → (A → B) → (B → Json → Type 0) → Writing A
by_form {B = B} view Writes = record { Meaning = B; value_of = view; Writes = Writes }
