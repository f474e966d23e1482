-- Facts that hold for all elements of a list.
use Rattle.std.proofs.Common.{subst, List, ◌++◌, [], ◌∷◌, map, get_or}
use Rattle.std.proofs.lemmas.List.Elements.{All-cons, All-contains, All-contains_itself, All-head, All-nil, All-tail, All-weaker}
use Rattle.std.proofs.lemmas.Option.{get_or_from_slice_get, slice_get-get_or, slice_get_within}
use Rattle.std.specs.List.{All, AllZip, Contains}
use Rattle.naga_arena.specs.declared.span.Span.{Span}
use Rattle.naga_sets.specs.HandleSet.{BoundedSet}
use Rattle.naga_compact.specs.Kept.{kept_elements}
use Rattle.naga_compact.proofs.KeptElementsLemmas.{IsOrigin-of}

module _ {X : Type 0} (P : X → Type 0) where
  -- of each of two lists
  pub All-parts : (xs ys : List X) → All P (xs ++ ys) → All P xs × All P ys
  All-parts [] ys all = (All-nil P, all)
  All-parts (x ∷ xs) ys all =
      let rest : All P xs × All P ys = All-parts xs ys (All-tail P x (xs ++ ys) all) in
      (All-cons P x xs (All-head P x (xs ++ ys) all) rest.0, rest.1)

  -- of a list that contains no other elements
  pub All-part : (xs ys : List X) → ((x : X) → Contains ys x → Contains xs x) → All P xs → All P ys
  All-part xs ys fewer all =
      All-weaker (Contains ys) P (λ x inside. All-contains P xs x all (fewer x inside)) ys (All-contains_itself ys)

module _ {A B : Type 0} (R : A → B → Type 0) where
  -- what follows for each second element from what holds for the first
  pub All-zipped : (P : A → Type 0) (Q : B → Type 0) → ((x : A) (y : B) → R x y → P x → Q y) → (xs : List A) (ys : List B) → AllZip R xs ys → All P xs → All Q ys
  All-zipped P Q follows [] [] zip all = All-nil Q
  All-zipped P Q follows [] (y ∷ ys) zip all = absurd zip
  All-zipped P Q follows (x ∷ xs) [] zip all = absurd zip
  All-zipped P Q follows (x ∷ xs) (y ∷ ys) zip all =
      All-cons Q y ys (follows x y zip.0 (All-head P x xs all)) (All-zipped P Q follows xs ys zip.1 (All-tail P x xs all))

module _ {X Y : Type 0} (f : X → Y) (P : Y → Type 0) where
  -- of the elements of which what is read from them has the property
  pub All-mapped : (xs : List X) → All P (map f xs) → All (λ x. P (f x)) xs
  All-mapped [] all = All-nil (λ x. P (f x))
  All-mapped (x ∷ xs) all =
      All-cons (λ x. P (f x)) x xs (All-head P (f x) (map f xs) all) (All-mapped xs (All-tail P (f x) (map f xs) all))

-- of the elements of an arena that are kept
pub All-kept_elements : {X : Type 0} (P : X × Span → Type 0) (kept : BoundedSet) (arena : List (X × Span)) → All P arena → All P (kept_elements kept arena)
All-kept_elements P kept arena all = λ k d inside.
    let entry = get_or (kept_elements kept arena) k d in
    let origin = IsOrigin-of kept arena k entry (slice_get-get_or (kept_elements kept arena) k d inside) in
    subst P (get_or_from_slice_get arena origin.at entry entry origin.found) (all origin.at entry (slice_get_within arena origin.at entry origin.found))
