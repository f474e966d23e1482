-- Reading a value or a span by its handle.
use Rattle.std.proofs.Common.{◌≡◌, ℕ, zero, suc, ◌<◌, List, [], ◌∷◌, ◌++◌, length, get_or, map, Some, refl, arith}
use Rattle.std.proofs.lemmas.Option.{slice_get_read}
use Rattle.std.specs.List.{slice_get}

-- reading an old element after an append returns the same as before
pub slice_get-map-push : {X Y : Type 0} (f : X → Y) (xs : List X) (x : X) (i : ℕ) → i < length xs → slice_get (map f (xs ++ x ∷ [])) i ≡ slice_get (map f xs) i
slice_get-map-push f [] x i within = absurd (omega arith)
slice_get-map-push f (y ∷ ys) x zero within = refl
slice_get-map-push f (y ∷ ys) x (suc i) within = slice_get-map-push f ys x i (omega arith)

pub slice_get-here : {T : Type 0} → (xs : List T) (i : ℕ) (x : T) → i < length xs → x ≡ get_or xs i x → slice_get xs i ≡ Some x
slice_get-here xs i x = slice_get_read xs (length xs) i x refl
