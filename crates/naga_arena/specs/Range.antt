-- Ranges of handles. A range is the pair of its bounds.
use Rattle.std.specs.Prelude.{◌≡◌, ℕ, ◌+◌, ◌-◌, List, [], ◌∷◌, ◌++◌, Option, MatchOption}
use Rattle.std.specs.List.{range_with_len}

-- the handles from the first bound up to, but not including, the second, in ascending order
abbrev pub handles_of : ℕ × ℕ → List ℕ
handles_of range = range_with_len range.0 (range.1 - range.0)

-- the first handle is taken, and the first bound increases by 1; a range that contains no handles is unchanged
abbrev pub TakesFirst : ℕ × ℕ → Option ℕ → ℕ × ℕ → Type 0
TakesFirst range taken rest =
    MatchOption taken ((handles_of range ≡ []) × (rest ≡ range))
    (λ handle. (handles_of range ≡ handle ∷ handles_of rest) × (rest ≡ (range.0 + 1, range.1)))

-- the last handle is taken, and the second bound decreases by 1; a range that contains no handles is unchanged
abbrev pub TakesLast : ℕ × ℕ → Option ℕ → ℕ × ℕ → Type 0
TakesLast range taken rest =
    MatchOption taken ((handles_of range ≡ []) × (rest ≡ range))
    (λ handle. (handles_of range ≡ handles_of rest ++ handle ∷ []) × (rest ≡ (range.0, range.1 - 1)))
