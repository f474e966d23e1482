-- Ranges in ascending order.
use Rattle.std.proofs.Common.{◌≡◌, ℕ, ◌<◌, ◌≤◌, true, List, [], ◌∷◌, ◌++◌, get_or, arith}
use Rattle.std.proofs.lemmas.List.Elements.{All-nil, All-cons, All-filter, All-weaker, filter_passes}
use Rattle.std.proofs.lemmas.List.Kept.{AllPairs-cons}
use Rattle.std.specs.Prelude.{All, AllPairs, filter}
use Rattle.naga_proc.specs.Building.Emission.{is_filled}

-- the ranges are in ascending order, from the first number up to the second
abbrev pub IsAscending : ℕ → List (ℕ × ℕ) → ℕ → Type 0
IsAscending low [] high = low ≤ high
IsAscending low (range ∷ ranges) high = (low ≤ range.0) × (range.0 ≤ range.1) × IsAscending range.1 ranges high

pub IsAscending-ends : (low : ℕ) (ranges : List (ℕ × ℕ)) (high : ℕ) → IsAscending low ranges high → low ≤ high
IsAscending-ends low [] high h = h
IsAscending-ends low (range ∷ ranges) high h = omega (arith, IsAscending-ends range.1 ranges high h.2, h.0, h.1)

-- one more range at the end, which may be empty, keeps the ranges in order
pub IsAscending-push : (low : ℕ) (ranges : List (ℕ × ℕ)) (start end' : ℕ) → IsAscending low ranges start → start ≤ end' → IsAscending low (ranges ++ (start, end') ∷ []) end'
IsAscending-push low [] start end' h ordered = (h, ordered, omega arith)
IsAscending-push low (range ∷ ranges) start end' h ordered =
    (h.0, h.1, IsAscending-push range.1 ranges start end' h.2 ordered)

pub IsAscending-higher : (low : ℕ) (ranges : List (ℕ × ℕ)) (high higher : ℕ) → IsAscending low ranges high → high ≤ higher → IsAscending low ranges higher
IsAscending-higher low [] high higher h more = omega arith
IsAscending-higher low (range ∷ ranges) high higher h more =
    (h.0, h.1, IsAscending-higher range.1 ranges high higher h.2 more)

pub All-from_ascending : (low : ℕ) (ranges : List (ℕ × ℕ)) (high : ℕ) → IsAscending low ranges high → All (λ range. low ≤ range.0) ranges
All-from_ascending low [] high h = All-nil _
All-from_ascending low (range ∷ ranges) high h =
    let later = All-from_ascending range.1 ranges high h.2 in
    let ordered : low ≤ range.1 = omega (arith, h.0, h.1) in
    All-cons (λ r. low ≤ r.0) range ranges h.0 (All-weaker (λ r. range.1 ≤ r.0) (λ r. low ≤ r.0) (λ r k. omega arith) ranges later)

pub All-ordered : (low : ℕ) (ranges : List (ℕ × ℕ)) (high : ℕ) → IsAscending low ranges high → All (λ range. range.0 ≤ range.1) ranges
All-ordered low [] high h = All-nil _
All-ordered low (range ∷ ranges) high h =
    All-cons (λ r. r.0 ≤ r.1) range ranges h.1 (All-ordered range.1 ranges high h.2)

pub All-within : (low : ℕ) (ranges : List (ℕ × ℕ)) (high : ℕ) → IsAscending low ranges high → All (λ range. range.1 ≤ high) ranges
All-within low [] high h = All-nil _
All-within low (range ∷ ranges) high h =
    All-cons (λ r. r.1 ≤ high) range ranges (IsAscending-ends range.1 ranges high h.2) (All-within range.1 ranges high h.2)

pub AllPairs-ascending : (low : ℕ) (ranges : List (ℕ × ℕ)) (high : ℕ) → IsAscending low ranges high → AllPairs (λ earlier later. earlier.1 ≤ later.0) ranges
AllPairs-ascending low [] high h = λ i j d before inside. absurd (omega arith)
AllPairs-ascending low (range ∷ ranges) high h =
    AllPairs-cons (λ earlier later. earlier.1 ≤ later.0) range ranges (All-from_ascending range.1 ranges high h.2) (AllPairs-ascending range.1 ranges high h.2)

-- if the bounds of a range are in order and differ, the first is below the second
filled-lt : (range : ℕ × ℕ) → range.0 ≤ range.1 → is_filled range ≡ true → range.0 < range.1
filled-lt range ordered filled = grind arith

pub All-filled : (low : ℕ) (ranges : List (ℕ × ℕ)) (high : ℕ) → IsAscending low ranges high → All (λ range. range.0 < range.1) (filter is_filled ranges)
All-filled low ranges high h =
    let ordered = All-filter is_filled (λ r. r.0 ≤ r.1) ranges (All-ordered low ranges high h) in
    let filled = filter_passes is_filled ranges in
    λ k d inside. filled-lt (get_or (filter is_filled ranges) k d) (ordered k d inside) (filled k d inside)
