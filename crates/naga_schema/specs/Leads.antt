-- Where the path of a fault leads.
use Rattle.std.specs.Prelude.{◌≡◌, ℕ, List, [], ◌∷◌, cond, Option, Some, None}
use Rattle.std.specs.Str.{bytes_eq}
use Rattle.json.specs.Json.{Json, Members, no_members, member}
use Rattle.json.specs.Find.{as_object, at}
use Rattle.naga_json.specs.Numbers.{◌>>=◌}
use Rattle.naga_json.specs.Objects.{holder_in}
use Rattle.naga_schema.specs.declared.derived.type_name.TypeName.{TypeName}
use Rattle.naga_schema.specs.Fault.{fault}
use Rattle.naga_schema.specs.Path.{Found, Into, here}
use Rattle.naga_schema.specs.Path as path

-- the value of the first member with this name
abbrev pub first_member : List ℕ → Members → Option Json
first_member name no_members = None
first_member name (member other j ms) = cond (bytes_eq other name) (Some j) (first_member name ms)

-- the part of a JSON to which a step leads
abbrev pub part_at : Into → Json → Option Json
part_at (path.field name) j = as_object j >>= first_member name
part_at (path.variant name) j = holder_in j >>= λ held. cond (bytes_eq held.0 name) (Some held.1) None
part_at (path.item position) j = at position j
part_at (path.entry key) j = as_object j >>= first_member key

-- the JSON to which a path leads
abbrev pub end_of : List Into → Json → Option Json
end_of [] j = Some j
end_of (into ∷ rest) j = part_at into j >>= end_of rest

-- the path leads to a JSON that has this fault by itself, as one of some type
abbrev pub LeadsToFault : Json → Found → Type 0
LeadsToFault j found =
    (last : Json) × (depth : ℕ) × (of : TypeName) × (end_of found.0 j ≡ Some last) × (fault last depth of ≡ here found.1)
