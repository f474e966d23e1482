-- A map has a key exactly if its entries have it, and a new entry comes last.
use Rattle.std.proofs.Common.{◌≡◌, ◌∙◌, ap, refl, Bool, true, false, cond, ◌||◌, List, [], ◌∷◌, ◌++◌, map, Option, Some, None, is_some}
use Rattle.std.proofs.lemmas.List.{map-append}
use Rattle.std.specs.Map.{lookup}
use Rattle.indexmap.specs.IndexMap.{IndexMap, get, insert_entry}
use Rattle.indexmap.proofs.CallerLemmas.{insert_entry-new}
use Rattle.naga_json.specs.Maps.{has_key, map_value, with_entry}

if_found : {X : Type 0} (b : Bool) (o : Option X) (test : Bool) (x : X) → b ≡ is_some o → (test || b) ≡ is_some (cond test (Some x) o)
if_found b o true x e = refl
if_found b o false x e = e

none_from : {X : Type 0} (o : Option X) → is_some o ≡ false → o ≡ None
none_from None h = refl
none_from (Some x) h = absurd (cc)

module _ {K V A : Type 0} (eq : K → K → Bool) (value_of : V → A) where
  has_key-lookup : (key : K) (entries : List (K × V)) → has_key eq (map (λ entry. (entry.0, value_of entry.1)) entries) key ≡ is_some (lookup (eq key) entries)
  has_key-lookup key [] = refl
  has_key-lookup key (entry ∷ entries) = if_found _ _ (eq key entry.0) entry.1 (has_key-lookup key entries)

  -- one of the entries has the key
  pub with_entry-repeated : {S : Type 0} (elements : IndexMap K V S) (key : K) (value : A) → is_some (get eq elements key) ≡ true → with_entry eq (map_value value_of elements) key value ≡ None
  with_entry-repeated elements key value found = rw (has_key-lookup key elements.entries ∙ found) refl

  -- no entry has the key, and an entry with it is inserted into the map
  pub with_entry-new : {S : Type 0} (elements next : IndexMap K V S) (key : K) (value : V) → is_some (get eq elements key) ≡ false → next.entries ≡ insert_entry eq elements.entries key value → Some (map_value value_of next) ≡ with_entry eq (map_value value_of elements) key (value_of value)
  with_entry-new elements next key value absent inserted =
      let pair : K × V → K × A = λ entry. (entry.0, value_of entry.1) in
      let last : map_value value_of next ≡ map_value value_of elements ++ (key, value_of value) ∷ [] =
      ap (map pair) (inserted ∙ insert_entry-new eq elements key value (none_from (get eq elements key) absent)) ∙ map-append pair elements.entries ((key, value) ∷ [])
      in
      rw (has_key-lookup key elements.entries ∙ absent) (ap Some last)
