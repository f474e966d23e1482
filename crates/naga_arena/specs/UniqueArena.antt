-- A unique arena is an arena of which no two values are equal.
use Rattle.std.specs.Prelude.{◌≡◌, List, [], ◌∷◌, ◌++◌, Bool, if◌then◌else◌, fold}
use Rattle.std.specs.List.{AllZip, IsDistinct, list_any, zip}
use Rattle.naga_arena.specs.Arena.{values, spans}
pub use Rattle.naga_arena.specs.Arena.{handle_of}
use Rattle.naga_arena.specs.declared.span.Span.{Span}

module _ {T : Type 0} (eq : T → T → Bool) where
  -- no value is equal to a later one
  abbrev pub HasDistinctValues : List (T × Span) → Type 0
  HasDistinctValues arena = IsDistinct eq (values arena)

  -- the arena with this pair appended, unless the arena has an equal value
  abbrev pub with_pair : List (T × Span) → T × Span → List (T × Span)
  with_pair arena pair = if list_any (eq pair.0) (values arena) then arena else arena ++ pair ∷ []

  -- the pairs whose value is not equal to an earlier one, in order
  abbrev pub without_repeats : List (T × Span) → List (T × Span)
  without_repeats pairs = fold with_pair [] pairs

  -- `copy` has a clone of each value of `arena`, in order, with the same span, except clones that are equal to an
  -- earlier one
  abbrev pub IsUniqueCloneOf : (T → T → Type 0) → List (T × Span) → List (T × Span) → Type 0
  IsUniqueCloneOf clones_to arena copy =
      (clones : List T) × AllZip clones_to (values arena) clones × (copy ≡ without_repeats (zip clones (spans arena)))
