-- What holds of each element of two lists, one after the other.
use Rattle.std.proofs.Common.{List, [], ◌∷◌, ◌++◌}
use Rattle.std.proofs.lemmas.List.Elements.{All-cons, All-head, All-nil, All-tail}
use Rattle.std.specs.List.{All}

module _ {X : Type 0} (P : X → Type 0) where
  -- it holds of each element of either
  pub All-both : (xs ys : List X) → All P (xs ++ ys) → All P xs × All P ys
  All-both [] ys h = (All-nil P, h)
  All-both (x ∷ xs) ys h =
      let rest = All-both xs ys (All-tail P x (xs ++ ys) h) in (All-cons P x xs (All-head P x (xs ++ ys) h) rest.0, rest.1)
