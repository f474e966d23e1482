-- The laws of lists.
use Rattle.std.proofs.Common.{Option, ◌≡◌, ◌==◌, ℕ, List, [], ◌∷◌, map, length, Bool, true, false, cond, Some, None, IfSome, All, refl, arith}
use Rattle.std.proofs.lemmas.Bool.Decides.{nat_tests}
use Rattle.std.proofs.lemmas.List.Elements.{All-cons, All-head, All-tail}
use Rattle.json.specs.Json.{Json, Items, item, no_items}
use Rattle.json.specs.Find.{as_array, is_null}
use Rattle.json.specs.Tree.{HasNumbers, ItemsHaveNumbers}
use Rattle.naga_json.specs.Codec.{Codec, option_codec}
use Rattle.naga_json.specs.Lawful.{Gives, Lawful}
use Rattle.naga_json.specs.Lists.{each_of, each_in, items_of, list_codec, array_codec, of_length, pair_codec, pair_of}
use Rattle.naga_json.proofs.FieldsLemmas.{nullable_in-optional_json, HasNumbers-optional_json, gives-optional_in}
use Rattle.naga_json.proofs.GivesLemmas.{then, then_any}

-- The law of a codec whose JSON may be null: each value that fits is read as it was written, and each value that is read
-- fits.
pub record LawfulItem {A : Type 0} (codec : Codec A) : Type 0 where
  pub reads : (value : A) → codec.Fits value → codec.decode (codec.encode value) ≡ Some value
  pub numbers : (value : A) → codec.Fits value → HasNumbers (codec.encode value)
  pub gives : (j : Json) → Gives codec.Fits (codec.decode j)

pub item-lawful : {A : Type 0} (codec : Codec A) → Lawful codec → LawfulItem codec
item-lawful codec law = record { reads = λ value fits. (law.reads value fits).reads; numbers = λ value fits. (law.reads value fits).numbers; gives = law.gives }

pub item-option : {A : Type 0} (codec : Codec A) → Lawful codec → LawfulItem (option_codec codec)
item-option codec law = record {
  reads = nullable_in-optional_json codec law;
  numbers = HasNumbers-optional_json codec law;
  gives = λ j. gives-optional_in codec law (cond (is_null j) None (Some j));
}

module _ {A : Type 0} (P : A → Type 0) (meaning : Json → Option A) (one : (j : Json) → Gives P (meaning j)) where
  gives-each_of : (js : Items) → Gives (All P) (each_of meaning js)
  gives-each_of no_items = record { holds = λ k d within. absurd (omega arith) }
  gives-each_of (item j js) =
      then P _ (meaning j) _ (one j) λ first fits.
      then (All P) _ (each_of meaning js) _ (gives-each_of js) λ rest fit.
      record { holds = All-cons P first rest fits fit }

  pub gives-each_in : (j : Json) → Gives (All P) (each_in meaning j)
  gives-each_in j = then_any (All P) (as_array j) (each_of meaning) gives-each_of

module _ {A : Type 0} (codec : Codec A) (law : LawfulItem codec) where
  each_of-items_of : (list : List A) → All codec.Fits list → each_of codec.decode (items_of (map codec.encode list)) ≡ Some list
  each_of-items_of [] fit = refl
  each_of-items_of (a ∷ list) fit = rw (law.reads a (All-head codec.Fits a list fit), each_of-items_of list (All-tail codec.Fits a list fit)) refl

  ItemsHaveNumbers-items_of : (list : List A) → All codec.Fits list → ItemsHaveNumbers (items_of (map codec.encode list))
  ItemsHaveNumbers-items_of [] fit = tt
  ItemsHaveNumbers-items_of (a ∷ list) fit = (law.numbers a (All-head codec.Fits a list fit), ItemsHaveNumbers-items_of list (All-tail codec.Fits a list fit))

  lawful-list_of : Lawful (list_codec codec)
  lawful-list_of = record {
    reads = λ list fit. record { reads = each_of-items_of list fit; numbers = ItemsHaveNumbers-items_of list fit; present = refl };
    gives = gives-each_in codec.Fits codec.decode law.gives;
  }

  of_length-same : (len : ℕ) (list : List A) → length list ≡ len → of_length len list ≡ Some list
  of_length-same len list is = grind (arith, nat_tests)

  gives-of_length : (len : ℕ) (list : List A) → All codec.Fits list → Gives (λ list. All codec.Fits list × (length list ≡ len)) (of_length len list)
  gives-of_length len list fit = record { holds = at (length list == len) refl }
    where
      at : (b : Bool) → (length list == len) ≡ b → IfSome (cond b (Some list) None) (λ list. All codec.Fits list × (length list ≡ len))
      at true is = (fit, grind (arith, nat_tests))
      at false is = tt

  lawful-array_of : (len : ℕ) → Lawful (array_codec len codec)
  lawful-array_of len = record {
    reads = λ list fit. record { reads = rw (each_of-items_of list fit.0) (of_length-same len list fit.1); numbers = ItemsHaveNumbers-items_of list fit.0; present = refl };
    gives = λ j. then (All codec.Fits) (λ list. All codec.Fits list × (length list ≡ len)) (each_in codec.decode j) (of_length len) (gives-each_in codec.Fits codec.decode law.gives j) (gives-of_length len);
  }

  gives-pair_of : (list : List A) → All codec.Fits list → Gives (λ pair. codec.Fits pair.0 × codec.Fits pair.1) (pair_of list)
  gives-pair_of [] fit = record { holds = tt }
  gives-pair_of (first ∷ []) fit = record { holds = tt }
  gives-pair_of (first ∷ second ∷ []) fit = record { holds = (All-head codec.Fits first (second ∷ []) fit, All-head codec.Fits second [] (All-tail codec.Fits first (second ∷ []) fit)) }
  gives-pair_of (first ∷ second ∷ third ∷ rest) fit = record { holds = tt }

  lawful-pair_of : Lawful (pair_codec codec)
  lawful-pair_of = record {
    reads = λ pair fits. record { reads = rw (law.reads pair.0 fits.0, law.reads pair.1 fits.1) refl; numbers = (law.numbers pair.0 fits.0, (law.numbers pair.1 fits.1, tt)); present = refl };
    gives = λ j. then (All codec.Fits) _ (each_in codec.decode j) pair_of (gives-each_in codec.Fits codec.decode law.gives j) gives-pair_of;
  }

pub lawful-pair : {A : Type 0} (codec : Codec A) → Lawful codec → Lawful (pair_codec codec)
lawful-pair codec law = lawful-pair_of codec (item-lawful codec law)

pub lawful-list : {A : Type 0} (codec : Codec A) → Lawful codec → Lawful (list_codec codec)
lawful-list codec law = lawful-list_of codec (item-lawful codec law)

pub lawful-array : {A : Type 0} (len : ℕ) (codec : Codec A) → Lawful codec → Lawful (array_codec len codec)
lawful-array len codec law = lawful-array_of codec (item-lawful codec law) len

pub lawful-array_of_options : {A : Type 0} (len : ℕ) (codec : Codec A) → Lawful codec → Lawful (array_codec len (option_codec codec))
lawful-array_of_options len codec law = lawful-array_of (option_codec codec) (item-option codec law) len
