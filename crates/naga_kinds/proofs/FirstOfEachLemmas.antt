-- The first pair of each key. Appending a pair changes nothing if its key is present, and otherwise puts it last.
use Rattle.std.proofs.Common.{◌≡◌, Bool, true, false, cond, not, ◌||◌, List, [], ◌∷◌, ◌++◌, Some, None, is_some, filter, refl, sym, ap, ◌∙◌}
use Rattle.std.specs.Cmp.{IsEquivalence}
use Rattle.std.specs.List.{AllByRecursion, IsDistinct, list_any}
use Rattle.std.specs.Map.{keys_of, lookup}
use Rattle.std.proofs.lemmas.List.{append-nil}
use Rattle.std.proofs.lemmas.List.Elements.{filter-append}
use Rattle.std.proofs.lemmas.Map.Made.{IsDistinct-keys_filter, is_some-lookup}
use Rattle.naga_kinds.specs.FilterMap.{first_of_each}

module _ {K X : Type 0} {same : K → K → Bool} (laws : IsEquivalence same) where
  abbrev has_key : K → List (K × X) → Bool
  has_key key pairs = list_any (same key) (keys_of pairs)

  -- `true` for the pairs of other keys, which are kept
  abbrev is_other : K → K × X → Bool
  is_other key later = not (same key later.0)

  -- ---- appending a pair

  after : (first pair : K × X) (pairs : List (K × X)) (is_first known : Bool) → same pair.0 first.0 ≡ is_first → first ∷ filter (is_other first.0) (cond known pairs (pairs ++ pair ∷ [])) ≡ cond (is_first || known) (first ∷ filter (is_other first.0) pairs) (first ∷ filter (is_other first.0) pairs ++ pair ∷ [])
  after first pair pairs true true is = refl
  after first pair pairs false true is = refl
  after first pair pairs true false is =
      let left : List (K × X) = filter (is_other first.0) pairs in
      ap (λ xs. first ∷ xs) (filter-append (is_other first.0) pairs (pair ∷ []) ∙ ap (λ b. left ++ cond (not b) (pair ∷ []) []) (laws.symm first.0 pair.0 ∙ is) ∙ append-nil left)
  after first pair pairs false false is =
      let left : List (K × X) = filter (is_other first.0) pairs in
      ap (λ xs. first ∷ xs) (filter-append (is_other first.0) pairs (pair ∷ []) ∙ ap (λ b. left ++ cond (not b) (pair ∷ []) []) (laws.symm first.0 pair.0 ∙ is))

  first_of_each-append : (pairs : List (K × X)) (pair : K × X) → first_of_each same (pairs ++ pair ∷ []) ≡ cond (has_key pair.0 pairs) (first_of_each same pairs) (first_of_each same pairs ++ pair ∷ [])
  first_of_each-append [] pair = refl
  first_of_each-append (first ∷ pairs) pair =
      ap (λ xs. first ∷ filter (is_other first.0) xs) (first_of_each-append pairs pair)
      ∙ after first pair (first_of_each same pairs) (same pair.0 first.0) (has_key pair.0 pairs) refl

  -- ---- a list of pairs with distinct keys consists of the first pairs of all its keys

  all_other : (key : K) (pairs : List (K × X)) → AllByRecursion (λ later. same key later ≡ false) (keys_of pairs) → filter (is_other key) pairs ≡ pairs
  all_other key [] differ = refl
  all_other key (pair ∷ pairs) differ =
      ap (λ b. cond (not b) (pair ∷ filter (is_other key) pairs) (filter (is_other key) pairs)) differ.0 ∙ ap (λ xs. pair ∷ xs) (all_other key pairs differ.1)

  first_of_distinct : (pairs : List (K × X)) → IsDistinct same (keys_of pairs) → first_of_each same pairs ≡ pairs
  unfolding IsDistinct
  first_of_distinct [] distinct = refl
  first_of_distinct (pair ∷ pairs) distinct =
      ap (λ xs. pair ∷ filter (is_other pair.0) xs) (first_of_distinct pairs distinct.1) ∙ ap (λ xs. pair ∷ xs) (all_other pair.0 pairs distinct.0)

  others_differ : (key : K) (pairs : List (K × X)) → AllByRecursion (λ later. same key later ≡ false) (keys_of (filter (is_other key) pairs))
  others_differ key [] = tt
  others_differ key (pair ∷ pairs) = by (same key pair.0) refl (others_differ key pairs)
    where
      by : (b : Bool) → same key pair.0 ≡ b → AllByRecursion (λ later. same key later ≡ false) (keys_of (filter (is_other key) pairs)) → AllByRecursion (λ later. same key later ≡ false) (keys_of (filter (is_other key) (pair ∷ pairs)))
      by true e rest = rw e rest
      by false e rest = rw e (e, rest)

  IsDistinct-first_of_each : (pairs : List (K × X)) → IsDistinct same (keys_of (first_of_each same pairs))
  unfolding IsDistinct
  IsDistinct-first_of_each [] = tt
  IsDistinct-first_of_each (pair ∷ pairs) =
      (others_differ pair.0 (first_of_each same pairs), IsDistinct-keys_filter same (is_other pair.0) (first_of_each same pairs) (IsDistinct-first_of_each pairs))

  -- ---- each key is among the keys of the first pairs

  among_others : (key other : K) → same key other ≡ false → (pairs : List (K × X)) → has_key key (filter (is_other other) pairs) ≡ has_key key pairs
  among_others key other differ [] = refl
  among_others key other differ (pair ∷ pairs) = by (same other pair.0) refl (among_others key other differ pairs)
    where
      by : (b : Bool) → same other pair.0 ≡ b → has_key key (filter (is_other other) pairs) ≡ has_key key pairs → has_key key (filter (is_other other) (pair ∷ pairs)) ≡ has_key key (pair ∷ pairs)
      by false e rest = rw e (ap (λ b. same key pair.0 || b) rest)
      by true e rest =
          let gone : same key pair.0 ≡ false = laws.symm key pair.0 ∙ sym (laws.congr other pair.0 key e) ∙ laws.symm other key ∙ differ in
          rw e (rest ∙ sym (ap (λ b. b || has_key key pairs) gone))

  has_key-first_of_each : (key : K) (pairs : List (K × X)) → has_key key (first_of_each same pairs) ≡ has_key key pairs
  has_key-first_of_each key [] = refl
  has_key-first_of_each key (pair ∷ pairs) = by (same key pair.0) refl (has_key-first_of_each key pairs)
    where
      by : (b : Bool) → same key pair.0 ≡ b → has_key key (first_of_each same pairs) ≡ has_key key pairs → has_key key (first_of_each same (pair ∷ pairs)) ≡ has_key key (pair ∷ pairs)
      by true e rest = rw e refl
      by false e rest = rw e (among_others key pair.0 e (first_of_each same pairs) ∙ rest)

  -- ---- appending a pair to the first pairs

  pub first_of_each-first_of_each : (pairs : List (K × X)) (pair : K × X) → first_of_each same (first_of_each same pairs ++ pair ∷ []) ≡ first_of_each same (pairs ++ pair ∷ [])
  first_of_each-first_of_each pairs pair =
      let first = first_of_each same pairs in
      let again = first_of_distinct first (IsDistinct-first_of_each pairs) in
      first_of_each-append first pair
      ∙ ap (λ xs. cond (has_key pair.0 first) xs (xs ++ pair ∷ [])) again
      ∙ ap (λ b. cond b first (first ++ pair ∷ [])) (has_key-first_of_each pair.0 pairs)
      ∙ sym (first_of_each-append pairs pair)

  module _ (pairs : List (K × X)) (distinct : IsDistinct same (keys_of pairs)) (key : K) (said : X) where
    appended : first_of_each same (pairs ++ (key, said) ∷ []) ≡ cond (is_some (lookup (same key) pairs)) pairs (pairs ++ (key, said) ∷ [])
    appended =
        first_of_each-append pairs (key, said)
        ∙ ap (λ xs. cond (has_key key pairs) xs (xs ++ (key, said) ∷ [])) (first_of_distinct pairs distinct)
        ∙ ap (λ b. cond b pairs (pairs ++ (key, said) ∷ [])) (sym (is_some-lookup (same key) pairs))

    -- a pair with a new key is last
    pub first_of_each-new : lookup (same key) pairs ≡ None → first_of_each same (pairs ++ (key, said) ∷ []) ≡ pairs ++ (key, said) ∷ []
    first_of_each-new none = appended ∙ ap (λ o. cond (is_some o) pairs (pairs ++ (key, said) ∷ [])) none

    -- a pair with a key that is present is omitted
    pub first_of_each-known : (first : X) → lookup (same key) pairs ≡ Some first → first_of_each same (pairs ++ (key, said) ∷ []) ≡ pairs
    first_of_each-known first known = appended ∙ ap (λ o. cond (is_some o) pairs (pairs ++ (key, said) ∷ [])) known
