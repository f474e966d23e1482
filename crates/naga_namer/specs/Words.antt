-- Words, to which references lead.
use Rattle.std.specs.Prelude.{ℕ, List, map}
use Rattle.std.specs.Borrow.{Bor}
use Rattle.std.specs.Cmp.Lexicographic.{slice_cmp}
use Rattle.std.specs.List.Sorted.{IsSortedByKey}
use Rattle.std.specs.Ordering.{nat_cmp}

-- the texts that references lead to
abbrev pub texts : List (Bor (List ℕ)) → List (List ℕ)
texts = map (λ text. text.now)

-- The words are in ascending order, by their bytes.
abbrev pub Ascend : List (Bor (List ℕ)) → Type 0
Ascend = IsSortedByKey (λ word. word.now) (slice_cmp nat_cmp)
