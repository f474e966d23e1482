-- Maps, which are written as objects whose keys are numbers in decimal.
use Rattle.std.specs.Prelude.{◌≡◌, ℕ, ◌<◌, All, List, [], ◌∷◌, ◌++◌, Bool, true, false, cond, map, decimal, nat_eq, Option, Some, None}
use Rattle.std.specs.List.{IsDistinct, list_any}
use Rattle.std.specs.Map.{keys_of, values_of}
use Rattle.json.specs.Json.{Json, Members, member, no_members, number, object}
use Rattle.json.specs.Find.{as_object}
use Rattle.json.specs.Word.{after_number}
use Rattle.indexmap.specs.IndexMap.{IndexMap}
use Rattle.naga_json.specs.Numbers.{◌>>=◌, natural_in}
use Rattle.naga_json.specs.Objects.{fields_in, members_of}
use Rattle.naga_json.specs.Codec.{Codec}

-- the entries of a map, in order, with the value of each element
abbrev pub map_value : {K V A S : Type 0} → (V → A) → IndexMap K V S → List (K × A)
map_value value_of elements = map (λ entry. (entry.0, value_of entry.1)) elements.entries

-- nothing follows
abbrev pub is_all : Option (List ℕ) → Bool
is_all None = false
is_all (Some []) = true
is_all (Some (c ∷ cs)) = false

-- the number below the bound that a key represents as a JSON number
unfoldable pub key_in : ℕ → List ℕ → Option ℕ
key_in bound text = cond (is_all (after_number text)) (natural_in bound (number text)) None

-- one of the entries has the key
abbrev pub has_key : {K A : Type 0} → (K → K → Bool) → List (K × A) → K → Bool
has_key eq entries key = list_any (λ entry. eq key entry.0) entries

-- the entries with one more at their end, if none of them has its key
abbrev pub with_entry : {K A : Type 0} → (K → K → Bool) → List (K × A) → K → A → Option (List (K × A))
with_entry eq entries key value = cond (has_key eq entries key) None (Some (entries ++ (key, value) ∷ []))

-- `front` with the entries in the members of an object after it
abbrev pub entries_after : {K A : Type 0} → (K → K → Bool) → (List ℕ → Option K) → (Json → Option A) → Members → List (K × A) → Option (List (K × A))
entries_after eq key_of meaning no_members front = Some front
entries_after eq key_of meaning (member name j rest) front = do
  key ← key_of name
  value ← meaning j
  entries ← with_entry eq front key value
  entries_after eq key_of meaning rest entries

-- the entries of a map, in order, no two of them with the same key
abbrev pub entries_in : {K A : Type 0} → (K → K → Bool) → (List ℕ → Option K) → (Json → Option A) → Json → Option (List (K × A))
entries_in eq key_of meaning j = as_object j >>= λ members. entries_after eq key_of meaning members []

-- the fields of entries, whose keys are numbers in decimal
abbrev pub entry_fields : {A : Type 0} → (A → Json) → List (ℕ × A) → List (List ℕ × Json)
entry_fields json entries = map (λ entry. (decimal entry.0, json entry.1)) entries

-- the keys of the entries are below the bound, and no two of them are the same
abbrev pub AreKeys : {A : Type 0} → ℕ → List (ℕ × A) → Type 0
AreKeys bound entries = All (λ key. key < bound) (keys_of entries) × IsDistinct nat_eq (keys_of entries)

-- a map whose keys are numbers below the bound, as its entries in order
abbrev pub map_codec : {A : Type 0} → ℕ → Codec A → Codec (List (ℕ × A))
map_codec bound codec = record {
  encode = λ entries. object (members_of (entry_fields codec.encode entries));
  decode = entries_in nat_eq (key_in bound) codec.decode;
  Fits = λ entries. AreKeys bound entries × All codec.Fits (values_of entries);
}

-- a map of which there is only the empty one in JSON
abbrev pub empty_map_codec : {A : Type 0} → Codec (List A)
empty_map_codec = record {
  encode = λ entries. object no_members;
  decode = λ j. fields_in [] j >>= λ found. Some [];
  Fits = λ entries. entries ≡ [];
}
