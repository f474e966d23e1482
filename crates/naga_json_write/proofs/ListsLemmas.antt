-- Lists of values that may have no JSON.
use Rattle.std.proofs.Common.{◌≡◌, ◌∙◌, List, [], ◌∷◌, ◌++◌, refl, ap}
use Rattle.std.specs.List.{AllZip}
use Rattle.std.specs.Prelude.{◌≢◌, Result, Ok, Err, OnOk, IfErr}
use Rattle.json.specs.Json.{Json, array}
use Rattle.json.specs.Token.{Token, begin_array}
use Rattle.naga_json_write.specs.Appends.{append_json, append_items}
use Rattle.naga_json_write.specs.Writes.{Refuses}
use Rattle.naga_json_write.specs.declared.write_error.TryWriteError.{TryWriteError}
use Rattle.naga_json_write.specs.declared.write_error.TryWriteError.TheVariants.{Memory}
use Rattle.naga_json_write.specs.Lists.{AppendsItems, HasNoItems}
use Rattle.naga_json.specs.Form.{IsList}
use Rattle.naga_json.specs.Lists.{items_of}

-- an array of these values
abbrev pub array_json : List Json → Json
array_json values = array (items_of values)

module _ {A : Type 0} (IsJson : A → Json → Type 0) where
  -- one more value is appended in front of those that are left
  pub appends_more : (value : A) (rest values : List A) (j : Json) (old middle end : List Token) → values ≡ value ∷ rest → IsJson value j → middle ≡ append_json old j → AppendsItems IsJson rest middle end → AppendsItems IsJson values old end
  appends_more value rest values j old middle end first holds appended later =
      rw first (j ∷ later.0, (holds, later.1), later.2 ∙ ap (λ tokens. append_items tokens (items_of later.0)) appended)

  no_later : (value : A) (rest : List A) → HasNoItems IsJson rest → (js : List Json) → AllZip IsJson (value ∷ rest) js → ⊥
  no_later value rest none [] all = absurd all
  no_later value rest none (j ∷ js) all = none js all.1

  -- where the values that are left have no JSONs, neither have they with one more value
  pub none_later : (value : A) (rest values : List A) → values ≡ value ∷ rest → HasNoItems IsJson rest → HasNoItems IsJson values
  none_later value rest values first none = rw first (no_later value rest none)

  -- after the beginning of an array, the JSONs of values and the end of an array are the JSON of an array
  pub array_written : (values : List A) {E : Type 0} (result : Result (Unit {0}) E) (old begun new : List Token) → begun ≡ old ++ begin_array ∷ [] → OnOk result (AppendsItems IsJson values begun new) → OnOk result ((j : Json) × IsList IsJson values j × (new ≡ append_json old j))
  array_written values (Ok done) old begun new is items =
      (array_json items.0, (items.0, items.1, refl), items.2 ∙ ap (λ tokens. append_items tokens (items_of items.0)) is)
  array_written values (Err error) old begun new is items = tt

  -- where the values have no JSONs, they have no array
  pub array_refused : (values : List A) (result : Result (Unit {0}) TryWriteError) → IfErr result (λ error. error ≢ Memory → HasNoItems IsJson values) → Refuses (IsList IsJson values) result
  array_refused values (Ok done) refused = tt
  array_refused values (Err error) refused = λ other j array. refused other array.0 array.1
