-- The JSON of what holds other values, by how these are written.
use Rattle.std.proofs.Common.{◌≡◌, ◌∙◌, refl, ap, ℕ, List, [], ◌∷◌, map, Some, None}
use Rattle.std.specs.declared.alloc.Global.{Global}
use Rattle.std.specs.declared.vec.Vec.{Vec}
use Rattle.std.proofs.lemmas.Simd.{map-map}
use Rattle.json.specs.Json.{Json, null, object}
use Rattle.indexmap.specs.IndexMap.{IndexMap}
use Rattle.naga_arena.specs.Arena.{values}
use Rattle.naga_arena.specs.declared.span.Span.{Span}
use Rattle.naga_json.specs.Lists.{list_json}
use Rattle.naga_json.specs.Maps.{entry_fields}
use Rattle.naga_json.specs.Objects.{members_of}
use Rattle.naga_json_write.specs.Encoding.{Encoding, direct, by_view, json_of, option_encoding, list_encoding, arena_encoding, map_encoding}
use Rattle.naga_json_write.specs.Lists.{arena_json}
use Rattle.naga_json_write.proofs.ListsLemmas.{array_json}
use Rattle.naga_json_write.specs.Objects.{map_json}
use Rattle.naga_json_write.proofs.ArenasLemmas.{values-arena_value}

-- an optional value that is there
pub option_some : {A : Type 0} (encoding : Encoding A) (value : A) → json_of (option_encoding encoding) (Some value) ≡ json_of encoding value
option_some (direct json) value = refl
option_some (by_view view json) value = refl

-- an optional value that is not there
pub option_none : {A : Type 0} (encoding : Encoding A) → json_of (option_encoding encoding) None ≡ null
option_none (direct json) = refl
option_none (by_view view json) = refl

list_json-map : {A B : Type 0} (json : B → Json) (view : A → B) (values : List A) → list_json json (map view values) ≡ list_json (λ value. json (view value)) values
list_json-map json view values = ap array_json (simp map-map)

-- the items of a list
pub list_items : {A : Type 0} (encoding : Encoding A) (list : Vec A Global) → json_of (list_encoding encoding) list ≡ list_json (json_of encoding) list.items
list_items (direct json) list = refl
list_items (by_view view json) list = list_json-map json view list.items

-- the values of an arena
pub arena_values : {A : Type 0} (encoding : Encoding A) (arena : List (A × Span)) → json_of (arena_encoding encoding) arena ≡ arena_json (json_of encoding) arena
arena_values (direct json) arena = refl
arena_values (by_view view json) arena = ap (list_json json) (values-arena_value view arena) ∙ list_json-map json view (values arena)

entry_fields-view : {A B : Type 0} (json : B → Json) (view : A → B) (entries : List (ℕ × A)) → entry_fields json (map (λ entry. (entry.0, view entry.1)) entries) ≡ entry_fields (λ value. json (view value)) entries
entry_fields-view json view [] = refl
entry_fields-view json view (entry ∷ entries) = rw (entry_fields-view json view entries) refl

-- the entries of a map
pub map_entries : {A S : Type 0} (encoding : Encoding A) (elements : IndexMap ℕ A S) → json_of (map_encoding encoding) elements ≡ map_json (json_of encoding) elements.entries
map_entries (direct json) elements = refl
map_entries (by_view view json) elements = ap (λ fields. object (members_of fields)) (entry_fields-view json view elements.entries)
