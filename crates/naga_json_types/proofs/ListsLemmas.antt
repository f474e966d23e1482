-- One more item of a list.
use Rattle.std.proofs.Common.{◌≡◌, ◌∙◌, sym, ap, refl, ℕ, suc, ◌+◌, ◌<◌, List, [], ◌∷◌, ◌++◌, length, get_or, drop, map, Option, Some, None, add-one, append_assoc, drop-cons}
use Rattle.json.specs.Json.{Json}
use Rattle.json.specs.Value.{items_of}
use Rattle.naga_json.specs.Numbers.{◌>>=◌}
use Rattle.naga_json.specs.Lists.{each_of}

-- a list of which the first item has a meaning
joined : {A : Type 0} (first : Option A) (value : A) (rest : Option (List A)) (seen : List A) → Some value ≡ first → ((first >>= λ x. rest >>= λ r. Some (x ∷ r)) >>= λ r. Some (seen ++ r)) ≡ (rest >>= λ r. Some (seen ++ value ∷ r))
joined first value None seen e = rw (sym e) refl
joined first value (Some r) seen e = rw (sym e) refl

-- a list of which the first item has no meaning
cut : {A : Type 0} (first : Option A) (rest : Option (List A)) (seen : List A) → None ≡ first → None ≡ ((first >>= λ x. rest >>= λ r. Some (x ∷ r)) >>= λ r. Some (seen ++ r))
cut first rest seen e = rw (sym e) refl

regrouped : {A : Type 0} (seen : List A) (value : A) (rest : Option (List A)) → (rest >>= λ r. Some (seen ++ value ∷ r)) ≡ (rest >>= λ r. Some ((seen ++ value ∷ []) ++ r))
regrouped seen value None = refl
regrouped seen value (Some r) = ap Some (sym (append_assoc seen (value ∷ []) r))

module _ {A X : Type 0} (meaning : Json → Option A) (view : X → Json) (xs : List X) (i : ℕ) (x : X) (within : i < length xs) (is : x ≡ get_or xs i x) where
  each_of-drop : each_of meaning (items_of (map view (drop i xs))) ≡ (meaning (view x) >>= λ first. each_of meaning (items_of (map view (drop (i + 1) xs))) >>= λ rest. Some (first ∷ rest))
  each_of-drop =
      ap (λ l. each_of meaning (items_of (map view l))) (drop-cons xs i x within ∙ ap (λ y. y ∷ drop (suc i) xs) (sym is) ∙ ap (λ k. x ∷ drop k xs) (sym (add-one i)))

  module _ (whole : Option (List A)) (seen : List A) (read : whole ≡ (each_of meaning (items_of (map view (drop i xs))) >>= λ rest. Some (seen ++ rest))) where
    -- the whole list, if the item has a meaning
    pub each_of-split : (value : A) → Some value ≡ meaning (view x) → whole ≡ (each_of meaning (items_of (map view (drop (i + 1) xs))) >>= λ rest. Some (seen ++ value ∷ rest))
    each_of-split value e = read ∙ ap (λ o. o >>= λ rest. Some (seen ++ rest)) each_of-drop ∙ joined (meaning (view x)) value (each_of meaning (items_of (map view (drop (i + 1) xs)))) seen e

    pub each_of-turn : (value : A) → Some value ≡ meaning (view x) → whole ≡ (each_of meaning (items_of (map view (drop (i + 1) xs))) >>= λ rest. Some ((seen ++ value ∷ []) ++ rest))
    each_of-turn value e = each_of-split value e ∙ regrouped seen value (each_of meaning (items_of (map view (drop (i + 1) xs))))

    -- there is no whole list, if the item has no meaning
    pub each_of-cut : None ≡ meaning (view x) → None ≡ whole
    each_of-cut e = cut (meaning (view x)) (each_of meaning (items_of (map view (drop (i + 1) xs)))) seen e ∙ sym (read ∙ ap (λ o. o >>= λ rest. Some (seen ++ rest)) each_of-drop)
