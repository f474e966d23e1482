-- The new indices of handles, by a set of kept handles, and what is left of an arena.
use Rattle.std.specs.Prelude.{◌≡◌, ℕ, zero, suc, ◌+◌, ◌<◌, ◌≤◌, List, filter, length, map, slice_index, Bool, true, if◌then◌else◌}
use Rattle.std.specs.FinSet.{contains}
use Rattle.std.specs.List.{enumerate_from}
use Rattle.naga_arena.specs.declared.span.Span.{Span}
use Rattle.naga_sets.specs.HandleSet.{BoundedSet}

-- the number of kept numbers below this one
unfoldable pub rank : (ℕ → Bool) → ℕ → ℕ
rank kept zero = 0
rank kept (suc n) = rank kept n + (if kept n then 1 else 0)

-- the new index of a handle, by the set of kept handles: the number of kept handles before it
abbrev pub new_index : BoundedSet → ℕ → ℕ
new_index kept = rank (contains kept.members)

-- the elements of an arena that are kept, in order and with their spans
abbrev pub kept_elements : {X : Type 0} → BoundedSet → List (X × Span) → List (X × Span)
kept_elements kept arena = map (λ entry. entry.1) (filter (λ entry. contains kept.members entry.0) (enumerate_from 0 arena))

-- the ranks of all handles below the bound, and of the bound itself, which is above all members
abbrev pub AreRanks : BoundedSet → List ℕ → Type 0
AreRanks kept ranks =
    (length ranks ≡ kept.bound + 1)
    × ((n : ℕ) → n ≤ kept.bound → slice_index ranks n ≡ rank (contains kept.members) n)
    × ((n : ℕ) → contains kept.members n ≡ true → n < kept.bound)
