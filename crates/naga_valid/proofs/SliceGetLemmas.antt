-- What holds of each position of a list after an element is replaced or appended.
use Rattle.std.proofs.Common.{sym, subst, ℕ, zero, suc, List, [], ◌∷◌, ◌++◌, length, map, Option, Some}
use Rattle.std.specs.Prelude.{slice_get, slice_set}
use Rattle.std.proofs.lemmas.List.{map-set}

pub slice_get-each_set : {X : Type 0} (xs : List X) (i : ℕ) (x : X) (P : ℕ → Option X → Type 0) → ((j : ℕ) → P j (slice_get xs j)) → P i (Some x) → (j : ℕ) → P j (slice_get (slice_set xs i x) j)
slice_get-each_set [] i x P each here j = each j
slice_get-each_set (y ∷ ys) zero x P each here zero = here
slice_get-each_set (y ∷ ys) zero x P each here (suc j) = each (suc j)
slice_get-each_set (y ∷ ys) (suc i) x P each here zero = each zero
slice_get-each_set (y ∷ ys) (suc i) x P each here (suc j) =
    slice_get-each_set ys i x (λ n. P (suc n)) (λ n. each (suc n)) here j

-- the same where the elements are read from longer ones
pub slice_get-each_map_set : {X Y : Type 0} (f : X → Y) (xs : List X) (i : ℕ) (x : X) (P : ℕ → Option Y → Type 0) → ((j : ℕ) → P j (slice_get (map f xs) j)) → P i (Some (f x)) → (j : ℕ) → P j (slice_get (map f (slice_set xs i x)) j)
slice_get-each_map_set f xs i x P each here j =
    subst (λ ys. P j (slice_get ys j)) (sym (map-set f xs i x)) (slice_get-each_set (map f xs) i (f x) P each here j)

pub slice_get-each_map_push : {X Y : Type 0} (f : X → Y) (xs : List X) (x : X) (P : ℕ → Option Y → Type 0) → ((j : ℕ) → P j (slice_get (map f xs) j)) → P (length xs) (Some (f x)) → (j : ℕ) → P j (slice_get (map f (xs ++ x ∷ [])) j)
slice_get-each_map_push f [] x P each here zero = here
slice_get-each_map_push f [] x P each here (suc j) = each (suc j)
slice_get-each_map_push f (y ∷ ys) x P each here zero = each zero
slice_get-each_map_push f (y ∷ ys) x P each here (suc j) =
    slice_get-each_map_push f ys x (λ n. P (suc n)) (λ n. each (suc n)) here j
