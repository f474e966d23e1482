-- Lists of values of one type.
use Rattle.std.specs.Prelude.{◌≡◌, ◌==◌, ℕ, ◌+◌, All, map, length, cond, List, [], ◌∷◌, Option, Some, None}
use Rattle.json.specs.Json.{Json, array, Items, item, no_items}
use Rattle.json.specs.Find.{as_array}
use Rattle.naga_json.specs.Numbers.{◌>>=◌}
use Rattle.naga_json.specs.Codec.{Codec}

-- the items of an array
abbrev pub items_of : List Json → Items
items_of [] = no_items
items_of (value ∷ values) = item value (items_of values)

-- the number of items of an array
abbrev pub item_count : Items → ℕ
item_count no_items = 0
item_count (item j js) = item_count js + 1

-- an array of the JSON of each value
abbrev pub list_json : {A : Type 0} → (A → Json) → List A → Json
list_json json values = array (items_of (map json values))

-- the meanings of the items, if each item has a meaning
abbrev pub each_of : {A : Type 0} → (Json → Option A) → Items → Option (List A)
each_of meaning no_items = Some []
each_of meaning (item j js) = meaning j >>= λ first. each_of meaning js >>= λ rest. Some (first ∷ rest)

-- the meanings of the items of a list
abbrev pub each_in : {A : Type 0} → (Json → Option A) → Json → Option (List A)
each_in meaning j = as_array j >>= each_of meaning

-- a list
abbrev pub list_codec : {A : Type 0} → Codec A → Codec (List A)
list_codec codec = record { encode = list_json codec.encode; decode = each_in codec.decode; Fits = All codec.Fits }

-- the list itself, if it has this length
abbrev pub of_length : {A : Type 0} → ℕ → List A → Option (List A)
of_length len values = cond (length values == len) (Some values) None

-- a list of this length
abbrev pub array_codec : {A : Type 0} → ℕ → Codec A → Codec (List A)
array_codec len codec = record {
  encode = list_json codec.encode;
  decode = λ j. each_in codec.decode j >>= of_length len;
  Fits = λ values. All codec.Fits values × (length values ≡ len);
}

-- the two values of a list of two
abbrev pub pair_of : {A : Type 0} → List A → Option (A × A)
pair_of [] = None
pair_of (first ∷ []) = None
pair_of (first ∷ second ∷ []) = Some (first, second)
pair_of (first ∷ second ∷ third ∷ rest) = None

-- a pair, as a list of two
abbrev pub pair_codec : {A : Type 0} → Codec A → Codec (A × A)
pair_codec codec = record {
  encode = λ pair. list_json codec.encode (pair.0 ∷ pair.1 ∷ []);
  decode = λ j. each_in codec.decode j >>= pair_of;
  Fits = λ pair. codec.Fits pair.0 × codec.Fits pair.1;
}
