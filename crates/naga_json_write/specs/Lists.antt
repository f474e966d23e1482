-- Lists and arenas.
use Rattle.std.specs.Prelude.{◌≡◌, List}
use Rattle.std.specs.List.{AllZip}
use Rattle.json.specs.Json.{Json, array}
use Rattle.json.specs.Token.{Token}
use Rattle.naga_arena.specs.Arena.{values}
use Rattle.naga_arena.specs.declared.span.Span.{Span}
use Rattle.naga_json_write.specs.Appends.{append_items}
use Rattle.naga_json.specs.Form.{IsList}
use Rattle.naga_json.specs.Lists.{items_of, list_json}

-- an arena, which is written as the list of its values, without spans
abbrev pub arena_json : {A : Type 0} → (A → Json) → List (A × Span) → Json
arena_json json arena = list_json json (values arena)

-- an array of JSONs that are written for the values of an arena
abbrev pub IsArenaJson : {A : Type 0} → (A → Json → Type 0) → List (A × Span) → Json → Type 0
IsArenaJson Writes arena j = IsList Writes (values arena) j

-- the tokens `new` are `old`, and after them JSONs of these values and the end of an array
abbrev pub AppendsItems : {A : Type 0} → (A → Json → Type 0) → List A → List Token → List Token → Type 0
AppendsItems IsJson values old new = (js : List Json) × AllZip IsJson values js × (new ≡ append_items old (items_of js))

-- some value has no JSON
abbrev pub HasNoItems : {A : Type 0} → (A → Json → Type 0) → List A → Type 0
HasNoItems IsJson values = (js : List Json) → ¬ AllZip IsJson values js
