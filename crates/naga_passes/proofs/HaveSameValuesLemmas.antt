-- Arenas of the same values, which differ only in spans and in spare capacity.
use Rattle.std.proofs.Common.{◌≡◌, ap, refl, ℕ, zero, suc, List, [], ◌∷◌, Option, Some, map}
use Rattle.std.specs.List.{AllZip}
use Rattle.naga_arena.specs.Arena.{value_at}
use Rattle.naga_arena.specs.Span.{undefined}
use Rattle.naga_arena.specs.declared.span.Span.{Span}
use Rattle.naga_json.specs.Arenas.{arena_value, unspanned}

module _ {X A : Type 0} (of : X → A) (changed : A → A) where
  -- each element of the second list has the changed value of the one of the first list
  pub AllZip-values : (xs ys : List X) → map of ys ≡ map changed (map of xs) → AllZip (λ x y. of y ≡ changed (of x)) xs ys
  AllZip-values [] [] same = tt
  AllZip-values [] (y ∷ ys) same = absurd cc
  AllZip-values (x ∷ xs) [] same = absurd cc
  AllZip-values (x ∷ xs) (y ∷ ys) same =
      let first : of y ≡ changed (of x) = cc in
      let rest : map of ys ≡ map changed (map of xs) = cc in
      (first, AllZip-values xs ys rest)

module _ {X A : Type 0} (of : X → A) where
  -- the values of the second arena are those of the first
  abbrev pub HaveSameValues : (xs ys : List (X × Span)) → Type 0
  HaveSameValues = AllZip (λ x y. of y.0 ≡ of x.0)

  pub HaveSameValues-unspanned : (xs ys : List (X × Span)) → arena_value of ys ≡ unspanned (arena_value of xs) → HaveSameValues xs ys
  HaveSameValues-unspanned [] [] same = tt
  HaveSameValues-unspanned [] (y ∷ ys) same = absurd cc
  HaveSameValues-unspanned (x ∷ xs) [] same = absurd cc
  HaveSameValues-unspanned (x ∷ xs) (y ∷ ys) same =
      let first : ◌≡◌ {A = A × Span} (of y.0, y.1) (of x.0, undefined) = cc in
      let rest : arena_value of ys ≡ unspanned (arena_value of xs) = cc in
      (ap (λ (p : A × Span). p.0) first, HaveSameValues-unspanned xs ys rest)

  -- what is found at a handle is the same, as far as it depends only on the value
  pub found-value : {A : Type 0} (g : Option X → A) → ((x y : X) → of y ≡ of x → g (Some y) ≡ g (Some x)) → (xs ys : List (X × Span)) → HaveSameValues xs ys →
      (k : ℕ) → g (value_at ys k) ≡ g (value_at xs k)
  found-value g follows [] [] same zero = refl
  found-value g follows [] [] same (suc k) = refl
  found-value g follows [] (y ∷ ys) same k = absurd same
  found-value g follows (x ∷ xs) [] same k = absurd same
  found-value g follows (x ∷ xs) (y ∷ ys) same zero = follows x.0 y.0 same.0
  found-value g follows (x ∷ xs) (y ∷ ys) same (suc k) = found-value g follows xs ys same.1 k

  pub map-same : {B : Type 0} (read : X → B) → ((x y : X) → of y ≡ of x → read y ≡ read x) → (xs ys : List (X × Span)) → HaveSameValues xs ys →
      map (λ entry. read entry.0) ys ≡ map (λ entry. read entry.0) xs
  map-same read follows [] [] same = refl
  map-same read follows [] (y ∷ ys) same = absurd same
  map-same read follows (x ∷ xs) [] same = absurd same
  map-same read follows (x ∷ xs) (y ∷ ys) same = λ i. follows x.0 y.0 same.0 i ∷ map-same read follows xs ys same.1 i
