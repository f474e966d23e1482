-- Names that are allowed: lemmas on specs/Messages.antt.
use Rattle.std.proofs.Common.{◌≡◌, ◌∙◌, sym, ap, refl, ℕ, zero, suc, ◌+◌, ◌-◌, ◌<◌, ◌≤◌, nat_le, List, [], ◌∷◌, ◌++◌, length, map, drop, Option, Some, None, option_map, is_some, codes, true, false, cond, arith}
use Rattle.std.proofs.lemmas.Bool.{le-leb}
use Rattle.std.proofs.lemmas.List.{length-map}
use Rattle.std.proofs.lemmas.Option.{slice_get-map}
use Rattle.std.specs.List.{slice_get}
use Rattle.naga_schema.specs.Messages.{allowed_text, choice_text, more_text}

-- ---- the element at a position

module _ {X : Type 0} where
  -- of two lists, in the first
  slice_get-front : (xs ys : List X) (i : ℕ) → i < length xs → slice_get (xs ++ ys) i ≡ slice_get xs i
  slice_get-front [] ys i before = absurd (omega arith)
  slice_get-front (x ∷ xs) ys zero before = refl
  slice_get-front (x ∷ xs) ys (suc i) before = slice_get-front xs ys i (omega arith)

  -- in the second
  slice_get-back : (xs ys : List X) (i : ℕ) → length xs ≤ i → slice_get (xs ++ ys) i ≡ slice_get ys (i - length xs)
  slice_get-back [] ys i past = ap (slice_get ys) (omega arith)
  slice_get-back (x ∷ xs) ys zero past = absurd (omega arith)
  slice_get-back (x ∷ xs) ys (suc i) past = slice_get-back xs ys i (omega arith) ∙ ap (slice_get ys) (omega arith)

  -- no list has an element there
  past-end : (xs : List X) (i : ℕ) → slice_get xs i ≡ None → length xs ≤ i
  past-end [] i none = omega arith
  past-end (x ∷ xs) zero none = absurd (cc)
  past-end (x ∷ xs) (suc i) none = let past = past-end xs i none in omega (arith, past)

  -- ---- what is left of a list

  drop-none : (xs : List X) (i : ℕ) → slice_get xs i ≡ None → drop i xs ≡ []
  drop-none [] zero none = refl
  drop-none [] (suc i) none = refl
  drop-none (x ∷ xs) zero none = absurd (cc)
  drop-none (x ∷ xs) (suc i) none = drop-none xs i none

  drop-some : (xs : List X) (i : ℕ) (x : X) → slice_get xs i ≡ Some x → drop i xs ≡ x ∷ drop (suc i) xs
  drop-some [] i x some = absurd (cc)
  drop-some (y ∷ xs) zero x some = ap (λ z. z ∷ xs) (some-is y x some)
    where
      some-is : (a b : X) → Some a ≡ Some b → a ≡ b
      some-is a b e = cc
  drop-some (y ∷ xs) (suc i) x some = drop-some xs i x some

-- ---- the names of variants and fields

module _ {A B : Type 0} (f : A → List ℕ) (g : B → List ℕ) (xs : List A) (ys : List B) (i : ℕ) where
  pub mapped-front : i < length xs → slice_get (map f xs) i ≡ slice_get (map f xs ++ map g ys) i
  mapped-front before = sym (slice_get-front (map f xs) (map g ys) i (let same = length-map xs f in omega (arith, same, before)))

  pub mapped-back : length xs ≤ i → slice_get (map g ys) (i - length xs) ≡ slice_get (map f xs ++ map g ys) i
  mapped-back past =
      let same = length-map xs f in
      ap (λ n. slice_get (map g ys) (i - n)) (sym same) ∙ sym (slice_get-back (map f xs) (map g ys) i (omega (arith, same, past)))

pub ruleset mapped = (slice_get-map)

-- an element of a list that is mapped twice
pub mapped-twice : {A B C : Type 0} (f : B → C) (g : A → B) (xs : List A) (i : ℕ) → option_map (λ x. f (g x)) (slice_get xs i) ≡ slice_get (map f (map g xs)) i
mapped-twice f g [] i = refl
mapped-twice f g (x ∷ xs) zero = refl
mapped-twice f g (x ∷ xs) (suc i) = mapped-twice f g xs i

-- ---- the names that are shown

-- no element is there
pub none-at : {A B : Type 0} (f : A → B) (o : Option A) (found : Option B) → option_map f o ≡ found → is_some o ≡ false → found ≡ None
none-at f None found same none = sym same
none-at f (Some x) found same none = absurd (cc)

-- one is there
pub some-at : {A B : Type 0} (f : A → B) (o : Option A) (found : Option B) → option_map f o ≡ found → is_some o ≡ true → is_some found ≡ true
some-at f None found same some = absurd (cc)
some-at f (Some x) found same some = rw (sym same) refl

module _ (names : List (List ℕ)) where
  -- this is the first of at most 8
  pub allowed-few : (first : List ℕ) → slice_get names 8 ≡ None → slice_get names 0 ≡ Some first → codes ", expected " ++ first ++ more_text (drop 1 names) ≡ allowed_text names
  allowed-few first few some =
      sym (ap (λ b. cond b (choice_text names) []) (le-leb (length names) 8 (past-end names 8 few)) ∙ ap choice_text (drop-some names 0 first some))

  -- no name is left
  pub more-none : (i : ℕ) → slice_get names i ≡ None → more_text (drop i names) ≡ []
  more-none i none = ap more_text (drop-none names i none)

  -- one is left
  last-left : (i : ℕ) (last : List ℕ) → slice_get names i ≡ Some last → slice_get names (suc i) ≡ None → codes " or " ++ last ≡ more_text (drop i names)
  last-left i last some none = sym (ap more_text (drop-some names i last some ∙ ap (λ xs. last ∷ xs) (drop-none names (suc i) none)))

  pub more-last : (i : ℕ) (last : List ℕ) → slice_get names i ≡ Some last → slice_get names (i + 1) ≡ None → codes " or " ++ last ≡ more_text (drop i names)
  more-last i last some none =
      let next : i + 1 ≡ suc i = omega arith in
      last-left i last some (sym (ap (slice_get names) next) ∙ none)

  -- several are left
  next-left : (i : ℕ) (name : List ℕ) (next : Option (List ℕ)) → slice_get names i ≡ Some name → slice_get names (suc i) ≡ next → is_some next ≡ true
      → codes ", " ++ name ++ more_text (drop (suc i) names) ≡ more_text (drop i names)
  next-left i name None some later there = absurd (cc)
  next-left i name (Some next) some later there =
      let rest = drop-some names (suc i) next later in
      ap (λ xs. codes ", " ++ name ++ more_text xs) rest ∙ sym (ap more_text (drop-some names i name some ∙ ap (λ xs. name ∷ xs) rest))

  pub more-next : (i : ℕ) (name : List ℕ) → slice_get names i ≡ Some name → is_some (slice_get names (i + 1)) ≡ true
      → codes ", " ++ name ++ more_text (drop (i + 1) names) ≡ more_text (drop i names)
  more-next i name some there =
      let next : i + 1 ≡ suc i = omega arith in
      ap (λ n. codes ", " ++ name ++ more_text (drop n names)) next
      ∙ next-left i name (slice_get names (i + 1)) some (sym (ap (slice_get names) next)) there
