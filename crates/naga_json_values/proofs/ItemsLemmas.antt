-- A list of a given length, read item by item.
use Rattle.std.proofs.Common.{◌≡◌, ◌≢◌, ◌∙◌, sym, ℕ, ◌==◌, List, [], ◌∷◌, length, Option, Some, None, Result, Ok, Err, cond, refl, arith}
use Rattle.std.proofs.lemmas.Bool.Decides.{nat_tests}
use Rattle.json.specs.Json.{Json, Items, null, boolean, number, string, array, object, item, no_items}
use Rattle.naga_json.specs.Lawful.{Gives}
use Rattle.naga_json.specs.Lists.{each_in, each_of, item_count, of_length, pair_of}
use Rattle.naga_json.specs.Numbers.{◌>>=◌}
use Rattle.naga_json.proofs.GivesLemmas.{then, then_any}
use Rattle.naga_json_values.specs.Items.{items_in, item_at}
use Rattle.naga_json_values.specs.Reads.{Reads}
use Rattle.naga_json_values.specs.declared.cause.Cause.{Cause}

-- a value is taken only if two numbers are the same
unequal : {B : Type 0} (count size : ℕ) (value : B) → count ≢ size → cond (count == size) (Some value) None ≡ None
unequal count size value other = grind (arith, nat_tests)

module _ {A : Type 0} (meaning : Json → Option A) where
  -- the items have as many meanings as there are items
  counted : (js : Items) → Gives (λ values. length values ≡ item_count js) (each_of meaning js)
  counted no_items = record { holds = refl }
  counted (item j js) =
      then_any _ (meaning j) _ λ first.
      then (λ values. length values ≡ item_count js) _ (each_of meaning js) _ (counted js) λ rest same.
      record { holds = omega (arith, same) }

  sized : (o : Option (List A)) (count n : ℕ) → Gives (λ values. length values ≡ count) o → count ≢ n → (o >>= of_length n) ≡ None
  sized None count n given other = refl
  sized (Some list) count n given other = unequal (length list) n list (λ same. other (sym given.holds ∙ same))

  -- a list of another length has no meaning
  other_length : (n : ℕ) (js : Items) (f : Json → Option (List A)) → item_count js ≢ n → (items_in n (array js) >>= f) ≡ (each_of meaning js >>= of_length n)
  other_length n js f other = rw (unequal (item_count js) n (array js) other, sized (each_of meaning js) (item_count js) n (counted js) other) refl

-- the meanings of three items, or of four, one after another
in_three : {A : Type 0} (a b c : Option A) → (a >>= λ x. b >>= λ y. c >>= λ z. Some (x ∷ y ∷ z ∷ [])) ≡ ((a >>= λ x. (b >>= λ y. (c >>= λ z. Some (z ∷ [])) >>= λ r. Some (y ∷ r)) >>= λ r. Some (x ∷ r)) >>= of_length 3)
in_three None b c = refl
in_three (Some x) None c = refl
in_three (Some x) (Some y) None = refl
in_three (Some x) (Some y) (Some z) = refl

in_four : {A : Type 0} (a b c d : Option A) → (a >>= λ x. b >>= λ y. c >>= λ z. d >>= λ w. Some (x ∷ y ∷ z ∷ w ∷ [])) ≡ ((a >>= λ x. (b >>= λ y. (c >>= λ z. (d >>= λ w. Some (w ∷ [])) >>= λ r. Some (z ∷ r)) >>= λ r. Some (y ∷ r)) >>= λ r. Some (x ∷ r)) >>= of_length 4)
in_four None b c d = refl
in_four (Some x) None c d = refl
in_four (Some x) (Some y) None d = refl
in_four (Some x) (Some y) (Some z) None = refl
in_four (Some x) (Some y) (Some z) (Some w) = refl

in_pair : {A : Type 0} (a b : Option A) → (a >>= λ x. b >>= λ y. Some (x, y)) ≡ ((a >>= λ x. (b >>= λ y. Some (y ∷ [])) >>= λ r. Some (x ∷ r)) >>= pair_of)
in_pair None b = refl
in_pair (Some x) None = refl
in_pair (Some x) (Some y) = refl

no_pair : {A : Type 0} (a b c : Option A) (rest : Option (List A)) → ((a >>= λ x. (b >>= λ y. (c >>= λ z. rest >>= λ r. Some (z ∷ r)) >>= λ r. Some (y ∷ r)) >>= λ r. Some (x ∷ r)) >>= pair_of) ≡ None
no_pair None b c rest = refl
no_pair (Some x) None c rest = refl
no_pair (Some x) (Some y) None rest = refl
no_pair (Some x) (Some y) (Some z) None = refl
no_pair (Some x) (Some y) (Some z) (Some r) = refl

no_single : {A : Type 0} (a : Option A) → ((a >>= λ x. Some (x ∷ [])) >>= pair_of) ≡ None
no_single None = refl
no_single (Some x) = refl

module _ {A : Type 0} (meaning : Json → Option A) where
  abbrev three_of : Json → Option (List A)
  three_of items = item_at meaning 0 items >>= λ a. item_at meaning 1 items >>= λ b. item_at meaning 2 items >>= λ c. Some (a ∷ b ∷ c ∷ [])

  abbrev four_of : Json → Option (List A)
  four_of items = item_at meaning 0 items >>= λ a. item_at meaning 1 items >>= λ b. item_at meaning 2 items >>= λ c. item_at meaning 3 items >>= λ d. Some (a ∷ b ∷ c ∷ d ∷ [])

  abbrev two_of : Json → Option (A × A)
  two_of items = item_at meaning 0 items >>= λ a. item_at meaning 1 items >>= λ b. Some (a, b)

  three : (js : Items) → (items_in 3 (array js) >>= three_of) ≡ (each_of meaning js >>= of_length 3)
  three (item a (item b (item c no_items))) = in_three (meaning a) (meaning b) (meaning c)
  three no_items = other_length meaning 3 no_items three_of (omega arith)
  three (item a no_items) = other_length meaning 3 (item a no_items) three_of (omega arith)
  three (item a (item b no_items)) = other_length meaning 3 (item a (item b no_items)) three_of (omega arith)
  three (item a (item b (item c (item d rest)))) = other_length meaning 3 (item a (item b (item c (item d rest)))) three_of (omega arith)

  three_items : (j : Json) → (items_in 3 j >>= three_of) ≡ (each_in meaning j >>= of_length 3)
  three_items (array js) = three js
  three_items null = refl
  three_items (boolean b) = refl
  three_items (number text) = refl
  three_items (string text) = refl
  three_items (object ms) = refl

  -- what is read of three items is what is read of a list of three
  pub three_items_read : (j : Json) (r : Option (List A)) → r ≡ (items_in 3 j >>= three_of) → r ≡ (each_in meaning j >>= of_length 3)
  three_items_read j r is = is ∙ three_items j

  four : (js : Items) → (items_in 4 (array js) >>= four_of) ≡ (each_of meaning js >>= of_length 4)
  four (item a (item b (item c (item d no_items)))) = in_four (meaning a) (meaning b) (meaning c) (meaning d)
  four no_items = other_length meaning 4 no_items four_of (omega arith)
  four (item a no_items) = other_length meaning 4 (item a no_items) four_of (omega arith)
  four (item a (item b no_items)) = other_length meaning 4 (item a (item b no_items)) four_of (omega arith)
  four (item a (item b (item c no_items))) = other_length meaning 4 (item a (item b (item c no_items))) four_of (omega arith)
  four (item a (item b (item c (item d (item e rest))))) = other_length meaning 4 (item a (item b (item c (item d (item e rest))))) four_of (omega arith)

  four_items : (j : Json) → (items_in 4 j >>= four_of) ≡ (each_in meaning j >>= of_length 4)
  four_items (array js) = four js
  four_items null = refl
  four_items (boolean b) = refl
  four_items (number text) = refl
  four_items (string text) = refl
  four_items (object ms) = refl

  -- the same of four
  pub four_items_read : (j : Json) (r : Option (List A)) → r ≡ (items_in 4 j >>= four_of) → r ≡ (each_in meaning j >>= of_length 4)
  four_items_read j r is = is ∙ four_items j

  pair : (js : Items) → (items_in 2 (array js) >>= two_of) ≡ (each_of meaning js >>= pair_of)
  pair (item a (item b no_items)) = in_pair (meaning a) (meaning b)
  pair no_items = refl
  pair (item a no_items) = sym (no_single (meaning a))
  pair (item a (item b (item c rest))) =
      rw (unequal (item_count (item a (item b (item c rest)))) 2 (array (item a (item b (item c rest)))) (omega arith))
      (sym (no_pair (meaning a) (meaning b) (meaning c) (each_of meaning rest)))

  pair_of_items : (j : Json) → (items_in 2 j >>= two_of) ≡ (each_in meaning j >>= pair_of)
  pair_of_items (array js) = pair js
  pair_of_items null = refl
  pair_of_items (boolean b) = refl
  pair_of_items (number text) = refl
  pair_of_items (string text) = refl
  pair_of_items (object ms) = refl

  -- the same of two, which are read with memory
  pub pair_of_items_read : {X : Type 0} (view : X → A × A) (j : Json) (r : Result X Cause) → Reads view r (items_in 2 j >>= two_of) → Reads view r (each_in meaning j >>= pair_of)
  pair_of_items_read view j (Ok value) is = is ∙ pair_of_items j
  pair_of_items_read view j (Err cause) is = λ other. is other ∙ pair_of_items j
