-- Objects: structs with named fields, and variants that hold a value.
use Rattle.std.specs.Prelude.{ℕ, ◌+◌, ◌==◌, List, [], ◌∷◌, cond, Option, Some, None, option_map, is_some, count_by}
use Rattle.std.specs.Str.{bytes_eq}
use Rattle.json.specs.Json.{Json, null, Members, member, no_members}
use Rattle.json.specs.Find.{get, as_str, as_object, is_null}
use Rattle.naga_json.specs.Numbers.{◌>>=◌}

-- the number of members of an object
abbrev pub member_count : Members → ℕ
member_count no_members = 0
member_count (member name j ms) = member_count ms + 1

-- the number of names of which the JSON has a member
abbrev pub count_fields : List (List ℕ) → Json → ℕ
count_fields names j = count_by (λ name. is_some (get name j)) names

-- the JSON itself, if it is an object without other fields than these, and has none of them twice
abbrev pub fields_in : List (List ℕ) → Json → Option Json
fields_in names j = as_object j >>= λ members. cond (count_fields names j == member_count members) (Some j) None

-- the members of an object with these fields
abbrev pub members_of : List (List ℕ × Json) → Members
members_of [] = no_members
members_of (field ∷ fields) = member field.0 field.1 (members_of fields)

-- the name and the value of the only member
abbrev pub only_member : Members → Option (List ℕ × Json)
only_member no_members = None
only_member (member name held no_members) = Some (name, held)
only_member (member name held (member other value more)) = None

-- the name of a variant that holds a value, and this value
abbrev pub holder_in : Json → Option (List ℕ × Json)
holder_in j = as_object j >>= only_member

-- a variant that is a name alone, or else one that holds a value
abbrev pub name_or : Option (List ℕ) → Option (List ℕ × Json) → Option (List ℕ × Option Json)
name_or (Some name) holder = Some (name, None)
name_or None holder = holder >>= λ found. Some (found.0, Some found.1)

-- the name of a variant, and the value that it holds, if it holds one
abbrev pub variant_in : Json → Option (List ℕ × Option Json)
variant_in j = name_or (as_str j) (holder_in j)

-- the value of the first row with this name
abbrev pub find_row : {A : Type 0} → List (List ℕ × A) → List ℕ → Option A
find_row [] name = None
find_row (row ∷ rows) name = cond (bytes_eq row.0 name) (Some row.1) (find_row rows name)

-- the meaning in the first row with this name
abbrev pub choose : {A : Type 0} → List (List ℕ × Option A) → List ℕ → Option A
choose [] name = None
choose (row ∷ rows) name = cond (bytes_eq row.0 name) row.1 (choose rows name)

-- the meaning of a variant, which is a name without a value or a holder of one
abbrev pub name_or_holder : {A : Type 0} → List (List ℕ × A) → (Json → List (List ℕ × Option A)) → List ℕ × Option Json → Option A
name_or_holder names holders (name, None) = find_row names name
name_or_holder names holders (name, Some held) = choose (holders held) name

-- the meaning of a field that must be there
abbrev pub required_at : {A : Type 0} → (Json → Option A) → List ℕ → Json → Option A
required_at meaning name j = get name j >>= meaning

-- the value of a field that is neither missing nor null
abbrev pub present_at : List ℕ → Json → Option Json
present_at name j = get name j >>= λ found. cond (is_null found) None (Some found)

-- the meaning of a value, if there is a value
abbrev pub optional_in : {A : Type 0} → (Json → Option A) → Option Json → Option (Option A)
optional_in meaning None = Some None
optional_in meaning (Some j) = option_map Some (meaning j)

-- the meaning of a field that may be missing or null
abbrev pub optional_at : {A : Type 0} → (Json → Option A) → List ℕ → Json → Option (Option A)
optional_at meaning name j = optional_in meaning (present_at name j)

-- the meaning of a JSON that may be null
abbrev pub nullable_in : {A : Type 0} → (Json → Option A) → Json → Option (Option A)
nullable_in meaning j = optional_in meaning (cond (is_null j) None (Some j))

-- an optional value, which is null if there is none
abbrev pub optional_json : {A : Type 0} → (A → Json) → Option A → Json
optional_json json None = null
optional_json json (Some value) = json value
