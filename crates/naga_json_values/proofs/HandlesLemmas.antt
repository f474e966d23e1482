-- A list with a given number of items.
use Rattle.std.proofs.Common.{◌≡◌, ◌≢◌, ℕ, suc, List, [], ◌∷◌, length, map, Some, None, refl, ap, add-one, ◌∙◌, sym}
use Rattle.json.specs.Json.{Json, Items}
use Rattle.json.specs.Find.{as_array}
use Rattle.json.specs.Value.{items_of}
use Rattle.naga_json_values.specs.Items.{items_in}
use Rattle.naga_json.specs.Lists.{item_count}
use Rattle.naga_json.proofs.BindLemmas.{at_some}
use Rattle.naga_json_values.proofs.ObjectsLemmas.{chosen, refused}

pub item_count-length : {A : Type 0} (view : A → Json) (js : List A) → item_count (items_of (map view js)) ≡ length js
item_count-length view [] = refl
item_count-length view (j ∷ js) = add-one (item_count (items_of (map view js))) ∙ ap suc (item_count-length view js)

pub items_in-list : (j : Json) (js : Items) (count : ℕ) → Some js ≡ as_array j → item_count js ≡ count → Some j ≡ items_in count j
items_in-list j js count found same = sym (at_some _ js _ (sym found) ∙ chosen _ _ j same)

pub items_in-others : (j : Json) (js : Items) (count : ℕ) → Some js ≡ as_array j → item_count js ≢ count → None ≡ items_in count j
items_in-others j js count found other = sym (at_some _ js _ (sym found) ∙ refused _ _ j other)
